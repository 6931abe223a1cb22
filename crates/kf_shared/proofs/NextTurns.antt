-- The turns under the lock that a removal takes once it has to wait.
use Rattle.std.proofs.Common.{◌≡◌, ℕ, zero, suc, ◌+◌, ◌≤◌, inl, inr, List, [], ◌∷◌, ◌++◌, ◌<◌, length, get_or, set, take, drop, refl, sym, ap, ◌∙◌, subst, arith}
use Rattle.std.specs.Prelude.{◌⊎◌, All, Option}
use Rattle.std.specs.Option.{option_to_list}
use Rattle.std.proofs.lemmas.List.{append-nil, append_assoc, drop_at, get_or_at, length-append, set_at, take_at}
use mathlib.Core.List.{IsPrefix}
use Rattle.kf_core.specs.declared.key.Key.{Key}
use Rattle.kf_words.specs.declared.note.Note.{Note}
use Rattle.kf_words.specs.Callers.{Handle, TableId}
use Rattle.kf_words.specs.Nodes.{MasterState, KeepsNodes}
use Rattle.kf_words.specs.Notes.{history_of}
use Rattle.kf_words.specs.declared.note.Note.TheVariants.{LockReleased}
use Rattle.kf_shared.specs.Receipts.{AreOf, owners_of}
use Rattle.kf_shared.specs.Removal.{keys_of}
use Rattle.kf_shared.specs.Sections.{AllCame, Each, FirstLearned, FirstSaw, Learned, Stays, WasTurn, WereUnlinked, unlinked, unlinked_each}
use Rattle.kf_shared.proofs.Each.{each_as, each_more, each_owners, each_self, each_then}
use Rattle.kf_shared.proofs.Receipts.{keys_more}
use Rattle.kf_shared.proofs.Hearing.{more_told, prefix_self, prefix_trans}
use Rattle.kf_shared.proofs.Turns.{same_owner_tables}
use Rattle.kf_shared.proofs.Stepped.{stays_heard, stays_more, stays_on, stays_self}

-- one more unlink came
unlinked_more : (notes : List Note) (keys : List Key) (key : Key) → unlinked_each notes (keys ++ key ∷ []) ≡ unlinked (unlinked_each notes keys) key
unlinked_more notes [] key = refl
unlinked_more notes (k ∷ keys) key = unlinked_more (unlinked notes k) keys key

came_more : (notes : List Note) (holds : List Handle) (hold : Handle) → AllCame notes holds → IsPrefix (history_of hold.seen) (unlinked_each notes (keys_of holds)) → AllCame notes (holds ++ hold ∷ [])
came_more notes [] hold all came = (came, tt)
came_more notes (h ∷ holds) hold all came = (all.0, came_more (unlinked notes h.key) holds hold all.1 came)

keys_long : (holds : List Handle) → length (keys_of holds) ≡ length holds
keys_long [] = refl
keys_long (hold ∷ holds) = (let n = keys_long holds in omega (arith, n))

-- so far these were unlinked, and these are left
pub record IsTurned (found now : List Note) (holds before receipts left : List Handle) (count : ℕ) : Type 0 where
  pub done : List Handle
  pub made : List Handle
  pub split : holds ≡ done ++ left
  pub added : receipts ≡ before ++ made
  pub count_is : length done ≡ count
  pub unlinks : now ≡ unlinked_each found (keys_of done)
  pub came : AllCame found done
  pub receipts_are : Each Stays done made

-- so far these were unlinked, and this one is the next
pub record IsTurning (found now : List Note) (holds before receipts : List Handle) (next : Handle) (left : List Handle) (count : ℕ) : Type 0 where
  pub was : Handle
  pub turned : IsTurned found now holds before receipts (was ∷ left) count
  pub next_is : Stays was next

pub none_turned : (found : List Note) (before : List Handle) (first : Handle) (left : List Handle) → IsTurning found found (first ∷ left) before before first left 0
none_turned found before first left = record {
  was = first;
  turned = record {
    done = [];
    made = [];
    split = refl;
    added = sym (append-nil before);
    count_is = refl;
    unlinks = refl;
    came = tt;
    receipts_are = tt;
  };
  next_is = stays_self first;
}

module _ (found now : List Note) (holds before receipts : List Handle) (next : Handle) (left : List Handle) (count : ℕ) (t : IsTurning found now holds before receipts next left count) where
  -- this one was unlinked too
  pub one_turned : (now' : List Note) (receipts' : List Handle) (parted : Handle) → IsPrefix (history_of next.seen) now → now' ≡ unlinked now next.key → Stays next parted → receipts' ≡ receipts ++ parted ∷ []
      → IsTurned found now' holds before receipts' left (count + 1)
  one_turned now' receipts' parted came noted stays push = record {
    done = t.turned.done ++ t.was ∷ [];
    made = t.turned.made ++ parted ∷ [];
    split = t.turned.split ∙ sym (append_assoc t.turned.done (t.was ∷ []) left);
    added = push ∙ ap (λ l. l ++ parted ∷ []) t.turned.added ∙ append_assoc before t.turned.made (parted ∷ []);
    count_is = (let n = length-append t.turned.done (t.was ∷ []) in let c = t.turned.count_is in omega (arith, n, c));
    unlinks = noted ∙ ap (λ k. unlinked now k) t.next_is.0.key ∙ ap (λ l. unlinked l t.was.key) t.turned.unlinks
        ∙ sym (unlinked_more found (keys_of t.turned.done) t.was.key) ∙ ap (unlinked_each found) (sym (keys_more t.turned.done (t.was ∷ [])));
    came = came_more found t.turned.done t.was t.turned.came (subst (IsPrefix (history_of t.was.seen)) t.turned.unlinks
        (prefix_trans (history_of t.was.seen) (history_of next.seen) now (more_told t.was.seen next.seen (stays_more t.was next t.next_is)) came));
    receipts_are = each_more Stays t.turned.done t.turned.made t.was parted t.turned.receipts_are (stays_on t.was next parted t.next_is stays);
  }

  -- it is the last of the turn, since the turn is full or since the unlink was refused
  pub ended_before : (now' : List Note) (back : Handle) → count ≤ 64 → now' ≡ now → Stays next back → WereUnlinked found now' holds before receipts (back ∷ left)
  ended_before now' back few same stays = record {
    done = t.turned.done;
    rest = t.was ∷ left;
    made = t.turned.made;
    gone = keys_of t.turned.done;
    split = t.turned.split;
    added = t.turned.added;
    unlinks = same ∙ t.turned.unlinks;
    first = prefix_self (keys_of t.turned.done);
    among = (keys_of (t.was ∷ left), sym (keys_more t.turned.done (t.was ∷ left)) ∙ sym (ap keys_of t.turned.split));
    most = (let n = keys_long t.turned.done in let c = t.turned.count_is in omega (arith, n, c, few));
    came = t.turned.came;
    receipts_are = t.turned.receipts_are;
    left_are = (stays_on t.was next back t.next_is stays, each_self Stays stays_self left);
  }

  -- or it was unlinked, but was still found linked
  pub ended_after : (now' : List Note) (back : Handle) → suc count ≤ 64 → now' ≡ unlinked now next.key → Stays next back → WereUnlinked found now' holds before receipts (back ∷ left)
  ended_after now' back few noted stays = record {
    done = t.turned.done;
    rest = t.was ∷ left;
    made = t.turned.made;
    gone = keys_of t.turned.done ++ t.was.key ∷ [];
    split = t.turned.split;
    added = t.turned.added;
    unlinks = noted ∙ ap (λ k. unlinked now k) t.next_is.0.key ∙ ap (λ l. unlinked l t.was.key) t.turned.unlinks ∙ sym (unlinked_more found (keys_of t.turned.done) t.was.key);
    first = (t.was.key ∷ [], refl);
    among = (keys_of left, append_assoc (keys_of t.turned.done) (t.was.key ∷ []) (keys_of left) ∙ sym (keys_more t.turned.done (t.was ∷ left)) ∙ sym (ap keys_of t.turned.split));
    most = (let n = keys_long t.turned.done in let m = length-append (keys_of t.turned.done) (t.was.key ∷ []) in let c = t.turned.count_is in omega (arith, n, m, c, few));
    came = t.turned.came;
    receipts_are = t.turned.receipts_are;
    left_are = (stays_on t.was next back t.next_is stays, each_self Stays stays_self left);
  }

  pub ended_refused : (now' : List Note) (back : Handle) → suc count ≤ 64 → (now' ≡ now) ⊎ (now' ≡ unlinked now next.key) → Stays next back → WereUnlinked found now' holds before receipts (back ∷ left)
  ended_refused now' back few noted stays = elim noted [
    | inl same ↦ ended_before now' back (omega (arith, few)) same stays
    | inr more ↦ ended_after now' back few more stays
  ]

-- the next one is still in use, or there is none
pub ended_used : (found now : List Note) (holds before receipts left left' : List Handle) (count : ℕ) → count ≤ 64 → IsTurned found now holds before receipts left count → Each Stays left left' → WereUnlinked found now holds before receipts left'
ended_used found now holds before receipts left left' count few t stays = record {
  done = t.done;
  rest = left;
  made = t.made;
  gone = keys_of t.done;
  split = t.split;
  added = t.added;
  unlinks = t.unlinks;
  first = prefix_self (keys_of t.done);
  among = (keys_of left, sym (keys_more t.done left) ∙ sym (ap keys_of t.split));
  most = (let n = keys_long t.done in let c = t.count_is in omega (arith, n, c, few));
  came = t.came;
  receipts_are = t.receipts_are;
  left_are = stays;
}

-- a look found the next one drained
pub next_turning : (found now : List Note) (holds before receipts left left' : List Handle) (hold next : Handle) (count : ℕ) → IsTurned found now holds before receipts left count → left ≡ hold ∷ left' → Stays hold next
    → IsTurning found now holds before receipts next left' count
next_turning found now holds before receipts left left' hold next count t e stays = record {
  was = hold;
  turned = subst (λ l. IsTurned found now holds before receipts l count) e t;
  next_is = stays;
}

of_middle : (table : TableId) (front : List Handle) (x : Handle) (rest : List Handle) → AreOf table (front ++ x ∷ rest) → x.table ≡ table
of_middle table [] x rest all = all 0 x (omega arith)
of_middle table (y ∷ front) x rest all = of_middle table front x rest (λ i d l. all (suc i) d (omega (arith, l)))

-- this many of these holds, from the first one on, have met the Master
pub record MetSome (notes : List Note) (first now : List Handle) (count : ℕ) : Type 0 where
  pub done : List Handle
  pub met : List Handle
  pub rest : List Handle
  pub was : first ≡ done ++ rest
  pub is : now ≡ met ++ rest
  pub long : length met ≡ count
  pub each : Each (Learned notes) done met

pub met_none : (notes : List Note) (first : List Handle) → MetSome notes first first 0
met_none notes first = record { done = []; met = []; rest = first; was = refl; is = refl; long = refl; each = tt }

pub met_next : (notes : List Note) (first now : List Handle) (count : ℕ) (d new : Handle) → MetSome notes first now count → count < length now → Learned notes (get_or now count d) new → MetSome notes first (set now count new) (count + 1)
met_next notes first now count d new m inside learned = go m.rest m.was m.is
  where
    go : (rest : List Handle) → first ≡ m.done ++ rest → now ≡ m.met ++ rest → MetSome notes first (set now count new) (count + 1)
    go [] was is = absurd (let n = ap length is in let e = length-append m.met [] in let l = m.long in omega (arith, n, e, l, inside))
    go (x ∷ rest) was is = record {
      done = m.done ++ x ∷ [];
      met = m.met ++ new ∷ [];
      rest = rest;
      was = was ∙ sym (append_assoc m.done (x ∷ []) rest);
      is = ap (λ l. set l count new) is ∙ set_at m.met x rest new count m.long ∙ sym (append_assoc m.met (new ∷ []) rest);
      long = (let n = length-append m.met (new ∷ []) in let l = m.long in omega (arith, n, l));
      each = each_more (Learned notes) m.done m.met x new m.each (subst (λ h. Learned notes h new) (ap (λ l. get_or l count d) is ∙ get_or_at m.met x rest d count m.long) learned);
    }

pub met_all : (notes : List Note) (first now : List Handle) (count : ℕ) → MetSome notes first now count → count ≡ length now → Each (Learned notes) first now
met_all notes first now count m all = go m.rest m.was m.is
  where
    go : (rest : List Handle) → first ≡ m.done ++ rest → now ≡ m.met ++ rest → Each (Learned notes) first now
    go [] was is = subst (λ l. Each (Learned notes) l now) (sym (was ∙ append-nil m.done)) (subst (Each (Learned notes) m.done) (sym (is ∙ append-nil m.met)) m.each)
    go (x ∷ rest) was is = absurd (let n = ap length is in let e = length-append m.met (x ∷ rest) in let l = m.long in omega (arith, n, e, l, all))

-- the next of them is of the table
pub next_table : (table : TableId) (notes : List Note) (first now : List Handle) (count : ℕ) (d : Handle) → AreOf table first → MetSome notes first now count → count < length now → (get_or now count d).table ≡ table
next_table table notes first now count d all m inside = go m.rest m.was m.is
  where
    go : (rest : List Handle) → first ≡ m.done ++ rest → now ≡ m.met ++ rest → (get_or now count d).table ≡ table
    go [] was is = absurd (let n = ap length is in let e = length-append m.met [] in let l = m.long in omega (arith, n, e, l, inside))
    go (x ∷ rest) was is = ap (λ (l : List Handle). (get_or l count d).table) is ∙ ap (λ (h : Handle). h.table) (get_or_at m.met x rest d count m.long)
        ∙ of_middle table m.done x rest (subst (AreOf table) was all)

pub keeps_on : (a b c : MasterState) → KeepsNodes a b → KeepsNodes b c → KeepsNodes a c
keeps_on a b c x y = record { history = y.history ∙ x.history; table = y.table ∙ x.table; limit = y.limit ∙ x.limit; nodes = y.nodes ∙ x.nodes; slots = y.slots ∙ x.slots }

pub of_front : (table : TableId) (xs ys : List Handle) → AreOf table (xs ++ ys) → AreOf table xs
of_front table [] ys a i d l = absurd (omega (arith, l))
of_front table (x ∷ xs) ys a zero d l = a 0 d (omega arith)
of_front table (x ∷ xs) ys a (suc i) d l = of_front table xs ys (λ j f m. a (suc j) f (omega (arith, m))) i d (omega (arith, l))

pub of_back : (table : TableId) (xs ys : List Handle) → AreOf table (xs ++ ys) → AreOf table ys
of_back table [] ys a = a
of_back table (x ∷ xs) ys a = of_back table xs ys (λ i d l. a (suc i) d (omega (arith, l)))

pub stays_owners : (xs ys : List Handle) → Each Stays xs ys → owners_of ys ≡ owners_of xs
stays_owners xs ys e = each_owners Stays (λ x y s. s.0) xs ys e

-- the receipts that were made, and what is left, are of the table
module _ (table : TableId) (found after : List Note) (holds before receipts left : List Handle) (u : WereUnlinked found after holds before receipts left) (all : AreOf table holds) where
  pub made_tables : AreOf table u.made
  made_tables = same_owner_tables table u.done u.made (stays_owners u.done u.made u.receipts_are) (of_front table u.done u.rest (subst (AreOf table) u.split all))

  pub left_tables : AreOf table left
  left_tables = same_owner_tables table u.rest left (stays_owners u.rest left u.left_are) (of_back table u.done u.rest (subst (AreOf table) u.split all))

pub of_option : (table : TableId) (o : Option Handle) (holds : List Handle) → AreOf table (option_to_list o ++ holds) → AreOf table (option_to_list o) × AreOf table holds
of_option table o holds all = (of_front table (option_to_list o) holds all, of_back table (option_to_list o) holds all)

pub of_first : (table : TableId) (first : Handle) (holds : List Handle) → first.table ≡ table → AreOf table holds → AreOf table (first ∷ holds)
of_first table first holds e a zero d l = e
of_first table first holds e a (suc i) d l = a i d (omega (arith, l))

-- the two parts of a slice that was cut
pub cut : (before made whole front back : List Handle) (at : ℕ) → whole ≡ before ++ made → front ≡ take at whole → back ≡ drop at whole → length before ≡ at → (front ≡ before) × (back ≡ made)
cut before made whole front back at is f b long = (
  f ∙ ap (take at) is ∙ take_at before made at long,
  b ∙ ap (drop at) is ∙ drop_at before made at long,
)

learned_seen : (notes : List Note) (xs ys : List Handle) → Each (Learned notes) xs ys → All (λ y. IsPrefix notes (history_of y.seen)) ys
learned_seen notes [] [] e i d l = absurd (omega (arith, l))
learned_seen notes [] (y ∷ ys) e i d l = absurd e
learned_seen notes (x ∷ xs) [] e i d l = absurd e
learned_seen notes (x ∷ xs) (y ∷ ys) e zero d l = subst (IsPrefix notes) (sym e.0.2) (prefix_self notes)
learned_seen notes (x ∷ xs) (y ∷ ys) e (suc i) d l = learned_seen notes xs ys e.1 i d (omega (arith, l))

learned_stays : (notes : List Note) (x y : Handle) → Learned notes x y → Stays x y
learned_stays notes x y l = stays_heard x y l.0 l.1

first_stays : (notes : List Note) (xs ys : List Handle) → FirstLearned notes xs ys → Each Stays xs ys
first_stays notes [] ys e = subst (Each Stays []) (sym e) tt
first_stays notes (x ∷ xs) ys l = subst (Each Stays (x ∷ xs)) (sym l.2) (learned_stays notes x l.0 l.1, each_self Stays stays_self xs)

first_saw : (notes : List Note) (xs ys : List Handle) → FirstLearned notes xs ys → FirstSaw notes ys
first_saw notes [] ys e = subst (FirstSaw notes) (sym e) tt
first_saw notes (x ∷ xs) ys l = subst (FirstSaw notes) (sym l.2) (subst (IsPrefix notes) (sym l.1.2) (prefix_self notes))

pub long_alike : (R : Handle → Handle → Type 0) → (xs ys : List Handle) → Each R xs ys → length ys ≡ length xs
long_alike R [] [] e = refl
long_alike R [] (y ∷ ys) e = absurd e
long_alike R (x ∷ xs) [] e = absurd e
long_alike R (x ∷ xs) (y ∷ ys) e = (let n = long_alike R xs ys e.1 in omega (arith, n))

-- then the release of the lock was noted, and the receipts and the first of those that are left have now seen
-- that
pub turn_shut : (found after : List Note) (holds before receipts left made receipts' left' : List Handle) (notes : List Note) (u : WereUnlinked found after holds before receipts left)
    → Each (Learned notes) u.made made → receipts' ≡ before ++ made → FirstLearned notes left left' → notes ≡ after ++ LockReleased ∷ [] → WasTurn found holds before receipts' left'
turn_shut found after holds before receipts left made receipts' left' notes u learned is first shut = record {
  after = after;
  turn = record {
    done = u.done;
    rest = u.rest;
    made = made;
    gone = u.gone;
    split = u.split;
    added = is;
    unlinks = u.unlinks;
    first = u.first;
    among = u.among;
    most = u.most;
    came = u.came;
    receipts_are = each_then Stays Stays Stays stays_on u.done u.made made u.receipts_are (each_as (Learned notes) Stays (learned_stays notes) u.made made learned);
    left_are = each_then Stays Stays Stays stays_on u.rest left left' u.left_are (first_stays notes left left' first);
  };
  seen = subst (λ n. All (λ y. IsPrefix n (history_of y.seen)) made) shut (learned_seen notes u.made made learned);
  next = subst (λ n. FirstSaw n left') shut (first_saw notes left left' first);
}
