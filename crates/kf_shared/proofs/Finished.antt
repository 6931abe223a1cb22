-- All turns of a removal that has to wait, one after the other.
use Rattle.std.proofs.Common.{◌≡◌, zero, suc, List, [], ◌∷◌, ◌++◌, length, refl, sym, ap, ◌∙◌, subst, arith}
use Rattle.std.specs.Prelude.{All, Option, ⊤}
use Rattle.std.specs.Option.{option_to_list}
use Rattle.std.proofs.lemmas.List.{append-nil, append_assoc}
use mathlib.Core.List.{IsPrefix}
use Rattle.kf_words.specs.declared.note.Note.{Note}
use Rattle.kf_words.specs.declared.note.Note.TheVariants.{LockReleased}
use Rattle.kf_words.specs.Callers.{Handle, IsSameSeat, TableId, seat_view}
use Rattle.kf_words.specs.Notes.{history_of}
use Rattle.kf_shared.specs.Receipts.{AreOf, owner, owners_of}
use Rattle.kf_shared.specs.Removal.{keys_of}
use Rattle.kf_shared.specs.Sections.{AllCame, AllEnded, AllFinished, AreFinished, AreTurns, Each, FirstDrained, FirstSaw, FirstWaited, IsTaken, IsTurn, Last, OnlyLooked, SawMore, Stays, Turn, WaitedAfter, WasTurn, turn_end, unlinked}
use Rattle.kf_shared.proofs.Each.{each_as, each_both, each_self, each_split, each_then}
use Rattle.kf_shared.proofs.Finishing.{seat_on}
use Rattle.kf_shared.proofs.Hearing.{more_told, prefix_self, prefix_trans}
use Rattle.kf_shared.proofs.NextTurns.{of_back, of_front, stays_owners}
use Rattle.kf_shared.proofs.Receipts.{owners_more, same_owner, same_owner_keys}
use Rattle.kf_shared.proofs.Stepped.{only_more, only_waited, stays_more, stays_on, stays_self, waited_on, waited_saw, waited_self}
use Rattle.kf_shared.proofs.Turns.{same_owner_tables}

-- if what each hold has seen by now came before the unlink of its node, so did what it had seen earlier
came_before : (notes : List Note) (holds now : List Handle) → Each Stays holds now → AllCame notes now → AllCame notes holds
came_before notes [] [] e c = tt
came_before notes [] (y ∷ ys) e c = absurd e
came_before notes (x ∷ xs) [] e c = absurd e
came_before notes (x ∷ xs) (y ∷ ys) e c = (
  prefix_trans (history_of x.seen) (history_of y.seen) notes (more_told x.seen y.seen (stays_more x y e.0)) c.0,
  came_before (unlinked notes x.key) xs ys e.1 (subst (λ k. AllCame (unlinked notes k) ys) e.0.0.key c.1),
)

-- the history at the end of these turns
abbrev pub past_of : List Note → List Turn → List Note
past_of past [] = past
past_of past (turn ∷ turns) = past_of (turn_end turn) turns

past_more : (past : List Note) (turns : List Turn) (turn : Turn) → past_of past (turns ++ turn ∷ []) ≡ turn_end turn
past_more past [] turn = refl
past_more past (t ∷ turns) turn = past_more (turn_end t) turns turn

-- one more turn is added to these turns
turns_more : (past : List Note) (holds left receipts : List Handle) (turns : List Turn) (turn : Turn) (rest : List Handle) → AreTurns past holds left receipts turns → left ≡ turn.holds ++ rest → IsTurn (past_of past turns) (keys_of left) turn
    → AreTurns past holds rest (receipts ++ turn.receipts) (turns ++ turn ∷ [])
turns_more past holds left receipts [] turn rest are split is = (
  rest,
  [],
  are.0 ∙ split,
  ap (λ l. l ++ turn.receipts) are.1 ∙ sym (append-nil turn.receipts),
  subst (λ l. IsTurn past (keys_of l) turn) (sym are.0) is,
  (refl, refl),
)
turns_more past holds left receipts (t ∷ turns) turn rest are split is = (
  are.0,
  are.1 ++ turn.receipts,
  are.2,
  ap (λ l. l ++ turn.receipts) are.3 ∙ append_assoc t.receipts are.1 turn.receipts,
  are.4,
  turns_more (turn_end t) are.0 left are.1 turns turn rest are.5 split is,
)

-- the first of these may have waited since the turn before, and the others only looked
abbrev pub HaveWaited : List Note → List Handle → List Handle → Type 0
HaveWaited past [] [] = ⊤
HaveWaited past [] (y ∷ ys) = ⊥
HaveWaited past (x ∷ xs) [] = ⊥
HaveWaited past (x ∷ xs) (y ∷ ys) = (IsSameSeat x y × WaitedAfter past (seat_view x) (seat_view y)) × Each Stays xs ys

waited_owners : (past : List Note) (xs ys : List Handle) → HaveWaited past xs ys → owners_of ys ≡ owners_of xs
waited_owners past [] [] w = refl
waited_owners past [] (y ∷ ys) w = absurd w
waited_owners past (x ∷ xs) [] w = absurd w
waited_owners past (x ∷ xs) (y ∷ ys) w = ap (λ o. o ∷ owners_of ys) (same_owner x y w.0.0) ∙ ap (λ os. owner x ∷ os) (stays_owners xs ys w.1)

-- none has waited yet
none_waited : (past : List Note) (xs ys : List Handle) → Each Stays xs ys → FirstSaw past ys → HaveWaited past xs ys
none_waited past [] [] e saw = tt
none_waited past [] (y ∷ ys) e saw = absurd e
none_waited past (x ∷ xs) [] e saw = absurd e
none_waited past (x ∷ xs) (y ∷ ys) e saw = ((e.0.0, (seat_view y, e.0.1, saw, waited_self (seat_view y))), e.1)

-- if the first has waited now, still only the first may have waited
first_waited : (past : List Note) (xs ys zs : List Handle) → HaveWaited past xs ys → FirstDrained ys zs → HaveWaited past xs zs
first_waited past [] [] zs w d = subst (HaveWaited past []) (sym d) tt
first_waited past [] (y ∷ ys) zs w d = absurd w
first_waited past (x ∷ xs) [] zs w d = absurd w
first_waited past (x ∷ xs) (y ∷ ys) zs w d = subst (HaveWaited past (x ∷ xs)) (sym d.3) (
  (seat_on x y d.0 w.0.0 d.1, (w.0.1.0, w.0.1.1, w.0.1.2, waited_on w.0.1.0 (seat_view y) (seat_view d.0) w.0.1.3 d.2)),
  w.1,
)

-- the holds looked once more, so still only the first may have waited
looked_still : (past : List Note) (xs ys zs : List Handle) → HaveWaited past xs ys → Each Stays ys zs → HaveWaited past xs zs
looked_still past [] [] [] w e = tt
looked_still past [] [] (z ∷ zs) w e = absurd e
looked_still past [] (y ∷ ys) zs w e = absurd w
looked_still past (x ∷ xs) [] zs w e = absurd w
looked_still past (x ∷ xs) (y ∷ ys) [] w e = absurd e
looked_still past (x ∷ xs) (y ∷ ys) (z ∷ zs) w e = (
  (seat_on x y z w.0.0 e.0.0, (w.0.1.0, w.0.1.1, w.0.1.2, waited_on w.0.1.0 (seat_view y) (seat_view z) w.0.1.3 (only_waited (seat_view y) (seat_view z) e.0.1))),
  each_then Stays Stays Stays stays_on xs ys zs w.1 e.1,
)

-- turns have made receipts for the first of these holds, and the others are left as they are now
pub record IsFinishing (all before receipts left : List Handle) : Type 0 where
  pub turns : List Turn
  pub rest : List Handle
  pub made : List Handle
  pub added : receipts ≡ before ++ made
  pub done : AreTurns [] all rest made turns
  pub owners : owners_of receipts ++ owners_of left ≡ owners_of before ++ owners_of all
  pub waits : HaveWaited (past_of [] turns) rest left

pub none_finished : (all before : List Handle) → IsFinishing all before before all
none_finished all before = record {
  turns = [];
  rest = all;
  made = [];
  added = sym (append-nil before);
  done = (refl, refl);
  owners = refl;
  waits = none_waited [] all all (each_self Stays stays_self all) (saw_nothing all);
}
  where
    saw_nothing : (holds : List Handle) → FirstSaw [] holds
    saw_nothing [] = tt
    saw_nothing (h ∷ holds) = (history_of h.seen, refl)

-- if no hold is left, all are finished
pub all_finished : (all before receipts left after : List Handle) → IsFinishing all before receipts left → FirstDrained left after → after ≡ [] → AreFinished before all receipts × (owners_of receipts ≡ owners_of before ++ owners_of all)
all_finished all before receipts [] after f d none = (
  (f.made, f.added, (f.turns, subst (λ l. AreTurns [] all l f.made f.turns) (nothing (past_of [] f.turns) f.rest f.waits) f.done)),
  sym (append-nil (owners_of receipts)) ∙ f.owners,
)
  where
    nothing : (past : List Note) (rest : List Handle) → HaveWaited past rest [] → rest ≡ []
    nothing past [] w = refl
    nothing past (x ∷ rest) w = absurd w
all_finished all before receipts (h ∷ left) after f d none = absurd (let n = ap length (sym d.3 ∙ none) in omega (arith, n))

first_owners : (xs ys : List Handle) → FirstDrained xs ys → owners_of ys ≡ owners_of xs
first_owners [] ys d = ap owners_of d
first_owners (x ∷ xs) ys d = ap owners_of d.3 ∙ ap (λ o. o ∷ owners_of xs) (same_owner x d.0 d.1)

-- the first waited until its node was drained
pub finishing_waited : (all before receipts left after : List Handle) → IsFinishing all before receipts left → FirstDrained left after → IsFinishing all before receipts after
finishing_waited all before receipts left after f d = record {
  turns = f.turns;
  rest = f.rest;
  made = f.made;
  added = f.added;
  done = f.done;
  owners = ap (λ os. owners_of receipts ++ os) (first_owners left after d) ∙ f.owners;
  waits = first_waited (past_of [] f.turns) f.rest left after f.waits d;
}

keys_alike : (xs ys : List Handle) → Each Stays xs ys → keys_of ys ≡ keys_of xs
keys_alike xs ys e = same_owner_keys ys xs (stays_owners xs ys e)

none_made : (made : List Handle) → Each Stays [] made → made ≡ []
none_made [] e = refl
none_made (m ∷ made) e = absurd e

module _ (all before receipts left receipts' left' : List Handle) (found : List Note) (f : IsFinishing all before receipts left) (taken : IsTaken found) (w : WasTurn found left receipts receipts' left') where
  abbrev so_far : List Note
  so_far = past_of [] f.turns

  abbrev turn_of : List Handle → Turn
  turn_of holds = record { found = found; gone = w.turn.gone; holds = holds; receipts = w.turn.made }

  turn_owners : owners_of receipts' ++ owners_of left' ≡ owners_of before ++ owners_of all
  turn_owners =
      ap (λ l. owners_of l ++ owners_of left') w.turn.added ∙ ap (λ l. l ++ owners_of left') (owners_more receipts w.turn.made) ∙ append_assoc (owners_of receipts) (owners_of w.turn.made) (owners_of left')
      ∙ ap (λ l. owners_of receipts ++ l)
      (ap (λ l. l ++ owners_of left') (stays_owners w.turn.done w.turn.made w.turn.receipts_are) ∙ ap (λ l. owners_of w.turn.done ++ l) (stays_owners w.turn.rest left' w.turn.left_are)
      ∙ sym (owners_more w.turn.done w.turn.rest) ∙ sym (ap owners_of w.turn.split))
      ∙ f.owners

  ended : (holds : List Handle) → turn_end (turn_of holds) ≡ w.after ++ LockReleased ∷ []
  ended holds = ap (λ n. n ++ LockReleased ∷ []) (sym w.turn.unlinks)

  -- the turn made no receipt
  refused : left ≡ w.turn.rest → w.turn.made ≡ [] → IsFinishing all before receipts' left'
  refused same none = record {
    turns = f.turns;
    rest = f.rest;
    made = f.made;
    added = w.turn.added ∙ ap (λ l. receipts ++ l) none ∙ append-nil receipts ∙ f.added;
    done = f.done;
    owners = turn_owners;
    waits = looked_still so_far f.rest left left' f.waits (subst (λ l. Each Stays l left') (sym same) w.turn.left_are);
  }

  -- the turn made a receipt for the first hold, and maybe for more of them
  module _ (d : Handle) (ds : List Handle) (split : left ≡ (d ∷ ds) ++ w.turn.rest) (first : IsPrefix (keys_of (d ∷ ds)) w.turn.gone) (came : AllCame found (d ∷ ds)) (h : Handle) (hs : List Handle) (is : f.rest ≡ h ∷ hs)
      (seat : IsSameSeat h d) (waited : WaitedAfter so_far (seat_view h) (seat_view d)) (a b : List Handle) (parts : hs ≡ a ++ b) (front : Each Stays a ds) (back : Each Stays b w.turn.rest) where
    more : SawMore h.seen d.seen
    more = prefix_trans h.seen.steps waited.0.seen.steps d.seen.steps (only_more (seat_view h) waited.0 waited.1) (waited_saw waited.0 (seat_view d) waited.3)

    same_keys : keys_of (d ∷ ds) ≡ keys_of (h ∷ a)
    same_keys = ap (λ k. k ∷ keys_of ds) seat.key ∙ ap (λ ks. h.key ∷ ks) (keys_alike a ds front)

    steps : (made : List Handle) → Each Stays (d ∷ ds) made → FirstWaited so_far (h ∷ a) made
    steps [] e = absurd e
    steps (m ∷ ms) e = (
      (waited.0, waited.1, waited.2, waited_on waited.0 (seat_view d) (seat_view m) waited.3 (only_waited (seat_view d) (seat_view m) e.0.1)),
      each_as Stays (λ x y. OnlyLooked (seat_view x) (seat_view y)) (λ x y s. s.1) a ms (each_then Stays Stays Stays stays_on a ds ms front e.1),
    )

    is_turn : Each Stays (d ∷ ds) w.turn.made → IsTurn so_far (keys_of f.rest) (turn_of (h ∷ a))
    is_turn made = record {
      after = prefix_trans so_far (history_of waited.0.seen) found waited.2
          (prefix_trans (history_of waited.0.seen) (history_of d.seen) found (more_told waited.0.seen d.seen (waited_saw waited.0 (seat_view d) waited.3)) came.0);
      taken = taken;
      first = subst (λ ks. IsPrefix ks w.turn.gone) same_keys first;
      among = subst (IsPrefix w.turn.gone) (same_owner_keys left f.rest (waited_owners so_far f.rest left f.waits)) w.turn.among;
      most = w.turn.most;
      came = (
        prefix_trans (history_of h.seen) (history_of d.seen) found (more_told h.seen d.seen more) came.0,
        came_before (unlinked found h.key) a ds front (subst (λ k. AllCame (unlinked found k) ds) seat.key came.1),
      );
      seen = subst (λ n. All (λ r. IsPrefix n (history_of r.seen)) w.turn.made) (sym (ended (h ∷ a))) w.seen;
      waited = steps w.turn.made made;
    }

    finished_more : Each Stays (d ∷ ds) w.turn.made → IsFinishing all before receipts' left'
    finished_more made = record {
      turns = f.turns ++ turn_of (h ∷ a) ∷ [];
      rest = b;
      made = f.made ++ w.turn.made;
      added = w.turn.added ∙ ap (λ l. l ++ w.turn.made) f.added ∙ append_assoc before f.made w.turn.made;
      done = turns_more [] all f.rest f.made f.turns (turn_of (h ∷ a)) b f.done (is ∙ ap (λ l. h ∷ l) parts) (is_turn made);
      owners = turn_owners;
      waits = subst (λ n. HaveWaited n b left') (sym (past_more [] f.turns (turn_of (h ∷ a))))
          (none_waited (turn_end (turn_of (h ∷ a))) b left' (each_then Stays Stays Stays stays_on b w.turn.rest left' back w.turn.left_are)
          (subst (λ n. FirstSaw n left') (sym (ended (h ∷ a))) w.next));
    }

  any_done : (done : List Handle) → left ≡ done ++ w.turn.rest → Each Stays done w.turn.made → IsPrefix (keys_of done) w.turn.gone → AllCame found done → IsFinishing all before receipts' left'
  any_done [] split made first came = refused split (none_made w.turn.made made)
  any_done (d ∷ ds) split made first came = go f.rest refl (subst (HaveWaited so_far f.rest) split f.waits)
    where
      go : (rest : List Handle) → f.rest ≡ rest → HaveWaited so_far rest ((d ∷ ds) ++ w.turn.rest) → IsFinishing all before receipts' left'
      go [] is waits = absurd waits
      go (h ∷ hs) is waits =
          (let s = each_split Stays hs ds w.turn.rest waits.1 in finished_more d ds split first came h hs is waits.0.0 waits.0.1 s.0 s.1 s.2 s.3 s.4 made)

  -- the removal after one more turn
  pub one_turn : IsFinishing all before receipts' left'
  one_turn = any_done w.turn.done w.turn.split w.turn.receipts_are w.turn.first w.turn.came

-- each receipt has seen what its hold had seen
abbrev Saw : Handle → Handle → Type 0
Saw x y = SawMore x.seen y.seen

turn_saw : (past : List Note) (holds receipts : List Handle) → FirstWaited past holds receipts → Each Saw holds receipts
turn_saw past [] receipts w = absurd w
turn_saw past (h ∷ holds) [] w = absurd w
turn_saw past (h ∷ holds) (r ∷ receipts) w = (
  prefix_trans h.seen.steps w.0.0.seen.steps r.seen.steps (only_more (seat_view h) w.0.0 w.0.1) (waited_saw w.0.0 (seat_view r) w.0.3),
  each_as (λ x y. OnlyLooked (seat_view x) (seat_view y)) Saw (λ x y o. only_more (seat_view x) (seat_view y) o) holds receipts w.1,
)

turns_saw : (past : List Note) (holds left receipts : List Handle) (turns : List Turn) → left ≡ [] → AreTurns past holds left receipts turns → Each Saw holds receipts
turns_saw past holds left receipts [] none are = subst (λ l. Each Saw l receipts) (sym (are.0 ∙ none)) (subst (Each Saw []) (sym are.1) tt)
turns_saw past holds left receipts (t ∷ turns) none are =
    subst (λ l. Each Saw l receipts) (sym are.2)
    (subst (Each Saw (t.holds ++ are.0)) (sym are.3) (each_both Saw t.holds t.receipts are.0 are.1 (turn_saw past t.holds t.receipts are.4.waited) (turns_saw (turn_end t) are.0 left are.1 turns none are.5)))

pub ended_saw : (holds receipts : List Handle) → AllEnded holds receipts → Each Saw holds receipts
ended_saw holds receipts e =
    subst (λ l. Each Saw l receipts) (sym e.3)
    (subst (Each Saw (e.0 ++ e.1)) (sym e.4) (each_both Saw e.0 e.0 e.1 e.2 (each_self Saw (λ x. prefix_self x.seen.steps) e.0) (turns_saw [] e.1 [] e.2 e.5.0 refl e.5.1)))

last_each : (front receipts : List Handle) (hold : Handle) → Each Saw (front ++ hold ∷ []) receipts → Last (λ receipt. SawMore hold.seen receipt.seen) receipts
last_each [] [] hold e = absurd e
last_each [] (r ∷ []) hold e = ([], r, refl, e.0)
last_each [] (r ∷ s ∷ receipts) hold e = absurd e.1
last_each (h ∷ front) [] hold e = absurd e
last_each (h ∷ front) (r ∷ receipts) hold e = (let rest = last_each front receipts hold e.1 in (r ∷ rest.0, rest.1, ap (λ l. r ∷ l) rest.2, rest.3))

-- the last receipt is that of the last hold, and has seen what this hold had seen
pub last_ended : (front receipts : List Handle) (hold : Handle) → AllEnded (front ++ hold ∷ []) receipts → Last (λ receipt. SawMore hold.seen receipt.seen) receipts
last_ended front receipts hold e = last_each front receipts hold (ended_saw (front ++ hold ∷ []) receipts e)

-- the receipts of a removal are those that were there before, and those that the turns made
pub ended_rest : (before holds receipts : List Handle) → AreFinished before holds receipts → AllEnded (before ++ holds) receipts
ended_rest before holds receipts f = (before, holds, f.0, refl, f.1, f.2)

-- if there was no receipt before, all receipts were made by turns
pub all_made : (before holds receipts : List Handle) → before ≡ [] → AreFinished before holds receipts → AllFinished holds receipts
all_made before holds receipts none f = subst (AllFinished holds) (sym (f.1 ∙ ap (λ l. l ++ f.0) none ∙ (let r : [] ++ f.0 ≡ f.0 = refl in r))) f.2

-- if two lists of handles are of the table, so are both lists together
both_tables : (table : TableId) (xs ys : List Handle) → AreOf table xs → AreOf table ys → AreOf table (xs ++ ys)
both_tables table [] ys a b i d l = b i d l
both_tables table (x ∷ xs) ys a b zero d l = a 0 d (omega arith)
both_tables table (x ∷ xs) ys a b (suc i) d l = both_tables table xs ys (λ j f m. a (suc j) f (omega (arith, m))) b i d (omega (arith, l))

pub finishing_tables : (table : TableId) (all before receipts left : List Handle) → AreOf table before → AreOf table all → IsFinishing all before receipts left → AreOf table receipts × AreOf table left
finishing_tables table all before receipts left a b f =
    let both = same_owner_tables table (before ++ all) (receipts ++ left) (owners_more receipts left ∙ f.owners ∙ sym (owners_more before all)) (both_tables table before all a b) in
    (of_front table receipts left both, of_back table receipts left both)

pub of_rest_option : (table : TableId) (o : Option Handle) (holds : List Handle) → AreOf table (option_to_list o) → AreOf table holds → AreOf table (option_to_list o ++ holds)
of_rest_option table o holds a b = both_tables table (option_to_list o) holds a b

pub is_empty : (holds : List Handle) → length holds ≡ 0 → holds ≡ []
is_empty [] e = refl
is_empty (h ∷ holds) e = absurd (omega (arith, e))
