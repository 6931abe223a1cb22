-- An event of one world is also an event of a world that has more callers, and numbers its callers
-- differently, if the additional callers have just come.
use Rattle.std.proofs.Common.{◌≡◌, ◌≢◌, ◌⊎◌, inl, inr, ℕ, zero, suc, ◌+◌, arith, Bool, true, false, eqb, eq-eqb, List, [], ◌∷◌, ◌++◌, length, map, set, get_or, if◌then◌else◌, refl, sym, ap, ◌∙◌, subst, ⊎_elim}
use Rattle.std.specs.Prelude.{slice_get, count_by, Some, None, ◌&&◌, not}
use Rattle.std.proofs.lemmas.Bool.{eqb-true}
use Rattle.std.proofs.lemmas.Option.{same_Some, none-some, slice_get_within}
use Rattle.std.proofs.lemmas.List.Sums.{sum_by-append}
use Rattle.kf_core.specs.declared.key.Key.{Key}
use Rattle.kf_core.specs.declared.caller.Caller.{Caller}
use Rattle.kf_core.specs.declared.caller.Phase.{Phase}
use Rattle.kf_core.specs.declared.caller.Phase.TheVariants.{Still, Turned, Running, Broken, Restored, Drained, Parted, Hiding, Hidden, Spent}
use Rattle.kf_core.specs.declared.event.Event.{Event}
use Rattle.kf_core.specs.declared.event.Event.TheVariants.{Born, Rise, Mark, Move, Pin, Enter, Leave, Break, Restore, Look, Unlink, Part, Hide, LookHidden, Show, Release, Undo}
use Rattle.kf_core.specs.declared.slot.SlotState.{SlotState}
use Rattle.kf_core.specs.Keys.{same_key}
use Rattle.kf_core.specs.Marks.{fresh_marks, are_live}
use Rattle.kf_core.specs.Phases.{has_reference, is_hiding}
use Rattle.kf_core.specs.Tallies.{tally}
use Rattle.kf_core.specs.Bare.{BareWorld, IsCaller, IsLast, marks, is_hidden, is_live}
use Rattle.kf_core.specs.Steps.{BareStep, MayPin, IsHeld, NoReference, OnlySpent, with_phase, with_caller}
use Rattle.kf_core.proofs.Climbs.{same_key_self, same_key_is}
use Rattle.kf_core.proofs.Hiding.{hider_hidden, hidden_has, not_false}
use Rattle.kf_core.proofs.Lists.{slice_get-set_same}
use Rattle.kf_core.proofs.Tallies.{Passing, count_set, count_push, count_none, count_some, same_bool}
use Rattle.kf_words.specs.Runs.{newcomer}

-- a test that a given caller passes, and only callers equal to it

abbrev phases : List Phase
phases = Still ∷ Turned ∷ Running ∷ Broken ∷ Restored ∷ Drained ∷ Parted ∷ Hiding ∷ Hidden ∷ Spent ∷ []

abbrev number_of : Phase → ℕ
number_of Still = 0
number_of Turned = 1
number_of Running = 2
number_of Broken = 3
number_of Restored = 4
number_of Drained = 5
number_of Parted = 6
number_of Hiding = 7
number_of Hidden = 8
number_of Spent = 9

numbered : (p : Phase) → get_or phases (number_of p) Spent ≡ p
numbered Still = refl
numbered Turned = refl
numbered Running = refl
numbered Broken = refl
numbered Restored = refl
numbered Drained = refl
numbered Parted = refl
numbered Hiding = refl
numbered Hidden = refl
numbered Spent = refl

abbrev is_it : Caller → Caller → Bool
is_it x y = same_key y.key x.key && eqb (number_of y.phase) (number_of x.phase)

it_is : (x : Caller) → is_it x x ≡ true
it_is x = ap (λ (b : Bool). b && eqb (number_of x.phase) (number_of x.phase)) (same_key_self x.key) ∙ eq-eqb (number_of x.phase) (number_of x.phase) refl

both : (a b : Bool) → (a && b) ≡ true → (a ≡ true) × (b ≡ true)
both true b h = (refl, h)
both false b h = cc

only_it : (x y : Caller) → is_it x y ≡ true → y ≡ x
only_it x y e =
    let b = both (same_key y.key x.key) (eqb (number_of y.phase) (number_of x.phase)) e in
    let key : y.key ≡ x.key = same_key_is y.key x.key b.0 in
    let phase : y.phase ≡ x.phase = sym (numbered y.phase) ∙ ap (λ (n : ℕ). get_or phases n Spent) (eqb-true (number_of y.phase) (number_of x.phase) b.1) ∙ numbered x.phase in
    ap (λ (k : Key). let c : Caller = record { key = k; phase = y.phase } in c) key ∙ ap (λ (p : Phase). let c : Caller = record { key = x.key; phase = p } in c) phase

-- a caller of one list is in each list that has as many callers of each kind
pub found_in : (xs ys : List Caller) → ((p : Caller → Bool) → count_by p xs ≡ count_by p ys) → (i : ℕ) (x : Caller) → slice_get xs i ≡ Some x → (k : ℕ) × (slice_get ys k ≡ Some x)
found_in xs ys same i x there = elim (count_by (is_it x) ys) as (λ n. count_by (is_it x) ys ≡ n → (k : ℕ) × (slice_get ys k ≡ Some x)) [
  | zero ↦ λ e. absurd (let no : true ≡ false = sym (it_is x) ∙ count_none (is_it x) xs (same (is_it x) ∙ e) i x there in cc)
  | suc n ↦ λ e. (let r : Passing (is_it x) ys = count_some (is_it x) ys (omega arith) in
      (r.place, r.there ∙ ap Some (only_it x r.item r.passes)))
] refl

-- the items of two lists, one behind the other
module _ {X : Type 0} where
  pub count_both : (p : X → Bool) (xs ys : List X) → count_by p (xs ++ ys) ≡ count_by p xs + count_by p ys
  count_both p xs ys = sum_by-append (λ (x : X). tally (p x)) xs ys

  in_either : (xs ys : List X) (i : ℕ) (x : X) → slice_get (xs ++ ys) i ≡ Some x → ((j : ℕ) × (slice_get xs j ≡ Some x)) ⊎ ((j : ℕ) × (slice_get ys j ≡ Some x))
  in_either [] ys i x e = inr (i, e)
  in_either (y ∷ xs) ys zero x e = inl (0, e)
  in_either (y ∷ xs) ys (suc i) x e = ⊎_elim
      (λ (l : (j : ℕ) × (slice_get xs j ≡ Some x)). inl (suc l.0, l.1))
      (λ (r : (j : ℕ) × (slice_get ys j ≡ Some x)). inr r)
      (in_either xs ys i x e)

  in_first : (xs ys : List X) (i : ℕ) (x : X) → slice_get xs i ≡ Some x → slice_get (xs ++ ys) i ≡ Some x
  in_first [] ys i x e = absurd (none-some x e)
  in_first (y ∷ xs) ys zero x e = e
  in_first (y ∷ xs) ys (suc i) x e = in_first xs ys i x e

-- a caller that has just come belongs to one of these keys
pub in_new : (keys : List Key) (i : ℕ) (x : Caller) → slice_get (map newcomer keys) i ≡ Some x → (j : ℕ) × (key : Key) × (slice_get keys j ≡ Some key) × (newcomer key ≡ x)
in_new [] i x e = absurd (none-some x e)
in_new (k ∷ keys) zero x e = (0, k, refl, same_Some (newcomer k) x e)
in_new (k ∷ keys) (suc i) x e = let r = in_new keys i x e in (suc r.0, r.1, r.2, r.3)

pub new_in : (keys : List Key) (i : ℕ) (key : Key) → slice_get keys i ≡ Some key → slice_get (map newcomer keys) i ≡ Some (newcomer key)
new_in [] i key e = absurd (none-some key e)
new_in (k ∷ keys) zero key e = ap (λ (x : Key). Some (newcomer x)) (same_Some k key e)
new_in (k ∷ keys) (suc i) key e = new_in keys i key e

-- the list has as many callers of each kind as the world and the callers that have just come to these keys
-- together
abbrev pub AreAsMany : List Caller → BareWorld → List Key → Type 0
AreAsMany callers w keys = (p : Caller → Bool) → count_by p callers ≡ count_by p w.callers + count_by p (map newcomer keys)

-- the world, but with these callers
abbrev pub with_callers : BareWorld → List Caller → BareWorld
with_callers w callers = record { slots = w.slots; callers = callers }

module _ (w : BareWorld) (keys : List Key) (l : List Caller) (same : AreAsMany l w keys) where
  abbrev model : BareWorld
  model = with_callers w l

  abbrev all : List Caller
  all = w.callers ++ map newcomer keys

  mine : (c : ℕ) (x : Caller) → slice_get w.callers c ≡ Some x → (k : ℕ) × (slice_get l k ≡ Some x)
  mine c x there = found_in all l (λ p. count_both p w.callers (map newcomer keys) ∙ sym (same p)) c x (in_first w.callers (map newcomer keys) c x there)

  -- a caller of the list is one of the world, or has just come
  theirs : (k : ℕ) (x : Caller) → slice_get l k ≡ Some x → ((c : ℕ) × (slice_get w.callers c ≡ Some x)) ⊎ ((j : ℕ) × (key : Key) × (slice_get keys j ≡ Some key) × (newcomer key ≡ x))
  theirs k x there =
      let f = found_in l all (λ p. same p ∙ sym (count_both p w.callers (map newcomer keys))) k x there in
      ⊎_elim
      (λ (old : (j : ℕ) × (slice_get w.callers j ≡ Some x)). inl old)
      (λ (new : (j : ℕ) × (slice_get (map newcomer keys) j ≡ Some x)). inr (in_new keys new.0 x new.1))
      (in_either w.callers (map newcomer keys) f.0 x f.1)

  -- a caller that has just come is Still, so a caller in any other phase is one of the world
  unless : (f : Phase → Bool) → f Still ≡ false → (c : ℕ) (key : Key) (phase : Phase) → IsCaller model c key phase → f phase ≡ true → (k : ℕ) × IsCaller w k key phase
  unless f off c key phase h on = ⊎_elim
      (λ (old : (k : ℕ) × IsCaller w k key phase). old)
      (λ (new : (j : ℕ) × (k : Key) × (slice_get keys j ≡ Some k) × (newcomer k ≡ record { key = key; phase = phase })).
      absurd (let x : false ≡ true = sym off ∙ ap (λ (y : Caller). f y.phase) new.3 ∙ on in cc))
      (theirs c (record { key = key; phase = phase }) h)

  hidden_same : (key : Key) → is_hidden model key ≡ is_hidden w key
  hidden_same key = same_bool (is_hidden model key) (is_hidden w key)
      (λ e. let r = hidden_has model key e in
      let o = unless is_hiding refl r.0 key r.1 r.2 r.3 in
      hider_hidden w o.0 key r.1 o.1 r.3)
      (λ e. let r = hidden_has w key e in
      let o = mine r.0 (record { key = key; phase = r.1 }) r.2 in
      hider_hidden model o.0 key r.1 o.1 r.3)

  live_same : (key : Key) → is_live model key ≡ is_live w key
  live_same key = ap (λ (b : Bool). are_live (marks w key) && not b) (hidden_same key)

  unused_too : (key : Key) → NoReference w key → NoReference model key
  unused_too key none c phase h = not_false (has_reference phase) (λ on.
      let o = unless has_reference refl c key phase h on in
      let x : false ≡ true = sym (none o.0 phase o.1) ∙ on in cc)

  pub pin_too : (key : Key) → MayPin w key → MayPin model key
  pin_too key may = ⊎_elim
      (λ linked. inl linked)
      (λ (h : IsHeld w key). let m = mine h.caller (record { key = key; phase = h.phase }) h.there in
      inr (record { caller = m.0; phase = h.phase; there = m.1; holds = h.holds }))
      may

  spent_too : (slot : ℕ) → OnlySpent w slot → ((j : ℕ) (key : Key) → slice_get keys j ≡ Some key → key.slot ≢ slot) → OnlySpent model slot
  spent_too slot spent apart c key phase h its = ⊎_elim
      (λ (old : (k : ℕ) × IsCaller w k key phase). spent old.0 key phase old.1 its)
      (λ (new : (j : ℕ) × (k : Key) × (slice_get keys j ≡ Some k) × (newcomer k ≡ record { key = key; phase = phase })).
      absurd (apart new.0 new.1 new.2 (ap (λ (y : Caller). y.key.slot) new.3 ∙ its)))
      (theirs c (record { key = key; phase = phase }) h)

  -- some event leads to a world that has as many callers of each kind as this one, and the same callers that
  -- have just come
  abbrev pub Carries : BareWorld → Type 0
  Carries w' = (e : Event) × (l' : List Caller) × BareStep model e (with_callers w' l') × AreAsMany l' w' keys

  -- one caller's phase changes
  by_caller : (event : ℕ → Event) (c : ℕ) (key : Key) (phase after : Phase) (w' : BareWorld) → IsCaller w c key phase → w' ≡ with_phase w c key after
      → ((k : ℕ) → IsCaller model k key phase → BareStep model (event k) (with_phase model k key after)) → Carries w'
  by_caller event c key phase after w' there is step =
      let x : Caller = record { key = key; phase = phase } in
      let y : Caller = record { key = key; phase = after } in
      let m = mine c x there in
      subst Carries (sym is) (
        event m.0,
        set l m.0 y,
        step m.0 m.1,
        λ p. let a = count_set p l m.0 x y m.1 in let b = count_set p w.callers c x y there in let s = same p in omega arith,
      )

  pub came : (key : Key) → AreAsMany (l ++ newcomer key ∷ []) (with_caller w key) keys
  came key p = let a = count_push p l (newcomer key) in let b = count_push p w.callers (newcomer key) in let s = same p in omega arith

  pub passed : (x : Caller) → AreAsMany (l ++ x ∷ []) (with_callers w (w.callers ++ x ∷ [])) keys
  passed x p = let a = count_push p l x in let b = count_push p w.callers x in let s = same p in omega arith

  pub carry : (e : Event) (w' : BareWorld) → BareStep w e w' → ((j : ℕ) (key : Key) → slice_get keys j ≡ Some key → IsLast w key.slot key.generation × IsLast w' key.slot key.generation) → Carries w'
  carry (Born key parent name node) w' s lasts =
      let b = s.0 in
      let apart : (j : ℕ) (k : Key) → slice_get keys j ≡ Some k → k.slot ≢ key.slot = λ j k its one.
      let p = lasts j k its in
      let old : SlotState = record { generation = b.last; marks = None } in
      let was : p.0.0 ≡ old = same_Some p.0.0 old (sym p.0.1 ∙ ap (slice_get w.slots) one ∙ b.unlinked) in
      let born : SlotState = record { generation = key.generation; marks = Some fresh_marks } in
      let fits = slice_get_within w.slots key.slot old b.unlinked in
      let is_at : slice_get w'.slots k.slot ≡ Some p.1.0 = p.1.1 in
      let now : Some p.1.0 ≡ Some born = sym is_at ∙ ap (λ (x : BareWorld). slice_get x.slots k.slot) s.1 ∙ ap (slice_get (set w.slots key.slot born)) one ∙ slice_get-set_same w.slots key.slot born fits in
      let is : p.1.0 ≡ born = same_Some p.1.0 born now in
      let g : p.0.0.generation ≡ b.last = ap (λ (x : SlotState). x.generation) was in
      let g' : p.1.0.generation ≡ key.generation = ap (λ (x : SlotState). x.generation) is in
      let a = p.0.2 in let a' = p.1.2 in let n = b.next in
      let no : b.last ≡ b.last + 1 = sym g ∙ a ∙ sym a' ∙ g' ∙ n in
      omega arith in
      subst Carries (sym s.1) (Born key parent name node, l, (record { last = b.last; unlinked = b.unlinked; next = b.next; unheld = spent_too key.slot b.unheld apart }, refl), same)
  carry (Rise key) w' s lasts = subst Carries (sym s.1) (Rise key, l, (s.0, refl), same)
  carry (Mark key) w' s lasts = subst Carries (sym s.3) (Mark key, l, (s.0, s.1, s.2, refl), same)
  carry (Move key dir name) w' s lasts = subst Carries (sym s) (Move key dir name, l, refl, same)
  carry (Pin c key) w' s lasts = subst Carries (sym s.2) (Pin (length l) key, l ++ newcomer key ∷ [], (refl, pin_too key s.1, refl), came key)
  carry (Enter c) w' s lasts =
      by_caller Enter c s.0 s.1 (if is_live w s.0 then Running else Turned) w' s.2 s.4
      (λ k t. (s.0, s.1, t, s.3, ap (λ (b : Bool). with_phase model k s.0 (if b then Running else Turned)) (sym (live_same s.0))))
  carry (Leave c) w' s lasts = by_caller Leave c s.0 s.1 Still w' s.2 s.4 (λ k t. (s.0, s.1, t, s.3, refl))
  carry (Break c) w' s lasts = by_caller Break c s.0 Running Broken w' s.1 s.2 (λ k t. (s.0, t, refl))
  carry (Restore c) w' s lasts = by_caller Restore c s.0 Broken Restored w' s.1 s.2 (λ k t. (s.0, t, refl))
  carry (Look c) w' s lasts =
      let m = s.0 in
      by_caller Look c m.key m.phase Drained w' m.there s.1
      (λ k t. (record { key = m.key; phase = m.phase; there = t; waits = m.waits; doomed = m.doomed; unused = unused_too m.key m.unused }, refl))
  carry (Unlink c) w' s lasts =
      let m = mine c (record { key = s.0; phase = Drained }) s.1 in
      subst Carries (sym s.3) (Unlink m.0, l, (s.0, m.1, s.2, refl), same)
  carry (Part c) w' s lasts = let m = s.0 in by_caller Part c m.key Drained Parted w' m.there s.1 (λ k t. (record { key = m.key; there = t; gone = m.gone }, refl))
  carry (Hide c) w' s lasts =
      let m = s.0 in
      by_caller Hide c m.key m.phase Hiding w' m.there s.1
      (λ k t. (record { key = m.key; phase = m.phase; there = t; waits = m.waits; shown = hidden_same m.key ∙ m.shown }, refl))
  carry (LookHidden c) w' s lasts =
      let m = s.0 in
      by_caller LookHidden c m.key Hiding Hidden w' m.there s.1 (λ k t. (record { key = m.key; there = t; unused = unused_too m.key m.unused }, refl))
  carry (Show c) w' s lasts = by_caller Show c s.0 Hidden Still w' s.1 s.2 (λ k t. (s.0, t, refl))
  carry (Release c) w' s lasts = by_caller Release c s.0 s.1 Spent w' s.2 s.4 (λ k t. (s.0, s.1, t, s.3, refl))
  carry (Undo c) w' s lasts = subst Carries (sym s) (Undo c, l, refl, same)
