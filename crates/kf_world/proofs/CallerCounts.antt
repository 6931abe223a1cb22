-- Counts of callers by slot: how one step changes them, and what a count says.
use Rattle.std.proofs.Common.{◌≡◌, ◌≢◌, inl, inr, ℕ, ◌+◌, ◌<◌, ◌≤◌, List, length, refl, ap, arith, slice_set, sym, ◌∙◌, subst, Bool, true, false, ◌↔◌}
use Rattle.std.specs.Prelude.{slice_get, Some, nat_eq, ◌&&◌, not, count_by}
use Rattle.std.proofs.lemmas.Option.{same_Some, slice_get_within}
use Rattle.std.proofs.lemmas.Bool.{eq-eqb}
use Rattle.std.proofs.lemmas.Bool.Decides.{eqb_tells}
use Rattle.kf_core.specs.declared.key.Key.{Key}
use Rattle.kf_core.specs.declared.caller.Phase.{Phase}
use Rattle.kf_core.specs.declared.caller.Phase.TheVariants.{Still, Turned, Running, Broken, Restored, Drained, Parted, Hiding, Hidden, Spent}
use Rattle.kf_core.specs.declared.caller.Caller.{Caller}
use Rattle.kf_world.specs.declared.counts.Counts.{Counts}
use Rattle.kf_core.specs.declared.slot.SlotState.{SlotState}
use Rattle.kf_core.specs.Bare.{BareWorld, IsCaller, IsLast, is_hidden}
use Rattle.kf_core.specs.Phases.{has_reference, is_hiding, is_spent}
use Rattle.kf_core.specs.Safe.{Safe}
use Rattle.kf_core.specs.Steps.{with_phase, with_caller, IsHeld, NoReference, OnlySpent}
use Rattle.kf_world.specs.Bounded.{holds}
use Rattle.kf_world.specs.Counts.{references, hiders, CountsAre, IsCounted}
use Rattle.kf_core.specs.Tallies.{tally}
use Rattle.kf_core.proofs.Lists.{after_write}
use Rattle.kf_core.proofs.Tallies.{Passing, count_none, count_push, count_set, count_some, count_zero}
use Rattle.kf_core.proofs.Keeping.{caller, same_key}
use Rattle.kf_core.proofs.Hiding.{hidden_has, none_hides, hider_hidden, hiding_holds}

both : (a b : Bool) → (a && b) ≡ true → (a ≡ true) × (b ≡ true)
both true b h = (refl, h)
both false b h = cc

eqb_same : (a b : ℕ) → nat_eq a b ≡ true → a ≡ b
eqb_same a b h = elim (eqb_tells a b) [
  | inl e ↦ e.1
  | inr e ↦ absurd (let f : true ≡ false = sym h ∙ e.0 in cc)
]

pub spent_is : (p : Phase) → is_spent p ≡ true → p ≡ Spent
spent_is Still h = cc
spent_is Turned h = cc
spent_is Running h = cc
spent_is Broken h = cc
spent_is Restored h = cc
spent_is Drained h = cc
spent_is Parted h = cc
spent_is Hiding h = cc
spent_is Hidden h = cc
spent_is Spent h = refl

pub held_told : (p : Phase) → p ≢ Spent → not (is_spent p) ≡ true
held_told p ne = elim (is_spent p) as (λ b. is_spent p ≡ b → not b ≡ true) [ true ↦ λ e. absurd (ne (spent_is p e)) | false ↦ λ _. refl ] refl

-- a caller on this slot whose phase passes
abbrev pub on : ℕ → (Phase → Bool) → Caller → Bool
on slot q c = nat_eq c.key.slot slot && q c.phase

on_here : (key : Key) (q : Phase → Bool) (p : Phase) → on key.slot q (caller key p) ≡ q p
on_here key q p = ap (λ b. b && q p) (eq-eqb key.slot key.slot refl)

on_elsewhere : (key : Key) (slot : ℕ) (q : Phase → Bool) (p : Phase) → key.slot ≢ slot → on slot q (caller key p) ≡ false
on_elsewhere key slot q p ne = elim (eqb_tells key.slot slot) [
  | inl e ↦ absurd (ne e.1)
  | inr e ↦ ap (λ b. b && q p) e.0
]

count_here : (cs : List Caller) (c : ℕ) (key : Key) (from to : Phase) (q : Phase → Bool) → slice_get cs c ≡ Some (caller key from) → count_by (on key.slot q) (slice_set cs c (caller key to)) + tally (q from) ≡ count_by (on key.slot q) cs + tally (q to)
count_here cs c key from to q h =
    subst (λ b. count_by (on key.slot q) (slice_set cs c (caller key to)) + tally b ≡ count_by (on key.slot q) cs + tally (q to)) (on_here key q from)
    (subst (λ b. count_by (on key.slot q) (slice_set cs c (caller key to)) + tally (on key.slot q (caller key from)) ≡ count_by (on key.slot q) cs + tally b) (on_here key q to)
    (count_set (on key.slot q) cs c (caller key from) (caller key to) h))

count_there : (cs : List Caller) (c : ℕ) (key : Key) (slot : ℕ) (from to : Phase) (q : Phase → Bool) → slice_get cs c ≡ Some (caller key from) → key.slot ≢ slot → count_by (on slot q) (slice_set cs c (caller key to)) ≡ count_by (on slot q) cs
count_there cs c key slot from to q h ne =
    let e : count_by (on slot q) (slice_set cs c (caller key to)) + tally (on slot q (caller key from)) ≡ count_by (on slot q) cs + tally (on slot q (caller key to)) = count_set (on slot q) cs c (caller key from) (caller key to) h in
    let a : tally (on slot q (caller key from)) ≡ 0 = ap tally (on_elsewhere key slot q from ne) in
    let b : tally (on slot q (caller key to)) ≡ 0 = ap tally (on_elsewhere key slot q to ne) in
    omega arith

-- how many callers on a slot pass a test after a caller of the key has gone to another phase
moved_count : (w : BareWorld) (c : ℕ) (key : Key) (from to : Phase) (q : Phase → Bool) (old new : ℕ) → IsCaller w c key from → old ≡ count_by (on key.slot q) w.callers → new + tally (q from) ≡ old + tally (q to) → new ≡ count_by (on key.slot q) (with_phase w c key to).callers
moved_count w c key from to q old new was e h =
    let f : count_by (on key.slot q) (with_phase w c key to).callers + tally (q from) ≡ count_by (on key.slot q) w.callers + tally (q to) = count_here w.callers c key from to q was in
    omega arith

-- the counts after a caller of the key has gone to another phase
pub phase_counted : (w : BareWorld) (c : ℕ) (key : Key) (from to : Phase) (counts : List Counts) (old new : Counts) → IsCaller w c key from → slice_get counts key.slot ≡ Some old →
    new.holds + tally (not (is_spent from)) ≡ old.holds + tally (not (is_spent to)) → new.references + tally (has_reference from) ≡ old.references + tally (has_reference to) →
    new.hiders + tally (is_hiding from) ≡ old.hiders + tally (is_hiding to) →
    IsCounted w counts → IsCounted (with_phase w c key to) (slice_set counts key.slot new)
phase_counted w c key from to counts old new was is h r i counted slot n there = elim (after_write counts key.slot slot new n there) [
  | inl p ↦ subst (λ (m : Counts). CountsAre (with_phase w c key to) slot m) p.1
      (subst (λ s. CountsAre (with_phase w c key to) s new) p.0 (
        moved_count w c key from to (λ p. not (is_spent p)) old.holds new.holds was (counted key.slot old is).0 h,
        moved_count w c key from to has_reference old.references new.references was (counted key.slot old is).1 r,
        moved_count w c key from to is_hiding old.hiders new.hiders was (counted key.slot old is).2 i,
      ))
  | inr p ↦ (
    (counted slot n p.1).0 ∙ sym (count_there w.callers c key slot from to (λ p. not (is_spent p)) was p.0),
    (counted slot n p.1).1 ∙ sym (count_there w.callers c key slot from to has_reference was p.0),
    (counted slot n p.1).2 ∙ sym (count_there w.callers c key slot from to is_hiding was p.0),
  )
]

-- how many callers on a slot pass a test after a pin of the key
pinned_here : (w : BareWorld) (key : Key) (q : Phase → Bool) (old new : ℕ) → old ≡ count_by (on key.slot q) w.callers → new ≡ old + tally (q Still) → new ≡ count_by (on key.slot q) (with_caller w key).callers
pinned_here w key q old new e h =
    let f : count_by (on key.slot q) (with_caller w key).callers ≡ count_by (on key.slot q) w.callers + tally (on key.slot q (caller key Still)) = count_push (on key.slot q) w.callers (caller key Still) in
    let t : tally (on key.slot q (caller key Still)) ≡ tally (q Still) = ap tally (on_here key q Still) in
    omega arith

pinned_there : (w : BareWorld) (key : Key) (slot : ℕ) (q : Phase → Bool) → key.slot ≢ slot → count_by (on slot q) w.callers ≡ count_by (on slot q) (with_caller w key).callers
pinned_there w key slot q ne =
    let f : count_by (on slot q) (with_caller w key).callers ≡ count_by (on slot q) w.callers + tally (on slot q (caller key Still)) = count_push (on slot q) w.callers (caller key Still) in
    let t : tally (on slot q (caller key Still)) ≡ 0 = ap tally (on_elsewhere key slot q Still ne) in
    omega arith

-- the counts after a pin of the key
pub pinned_counted : (w : BareWorld) (key : Key) (counts : List Counts) (old new : Counts) → slice_get counts key.slot ≡ Some old → new.holds ≡ old.holds + 1 → new.references ≡ old.references + 0 → new.hiders ≡ old.hiders + 0 →
    IsCounted w counts → IsCounted (with_caller w key) (slice_set counts key.slot new)
pinned_counted w key counts old new is h r i counted slot n there = elim (after_write counts key.slot slot new n there) [
  | inl p ↦ subst (λ (m : Counts). CountsAre (with_caller w key) slot m) p.1
      (subst (λ s. CountsAre (with_caller w key) s new) p.0 (
        pinned_here w key (λ p. not (is_spent p)) old.holds new.holds (counted key.slot old is).0 h,
        pinned_here w key has_reference old.references new.references (counted key.slot old is).1 r,
        pinned_here w key is_hiding old.hiders new.hiders (counted key.slot old is).2 i,
      ))
  | inr p ↦ (
    (counted slot n p.1).0 ∙ pinned_there w key slot (λ p. not (is_spent p)) p.0,
    (counted slot n p.1).1 ∙ pinned_there w key slot has_reference p.0,
    (counted slot n p.1).2 ∙ pinned_there w key slot is_hiding p.0,
  )
]

-- the count of a slot is at least what any one caller on it adds
pub share : (cs : List Caller) (c : ℕ) (key : Key) (p : Phase) (q : Phase → Bool) → slice_get cs c ≡ Some (caller key p) → tally (q p) ≤ count_by (on key.slot q) cs
share cs c key p q h = elim (q p) as (λ b. q p ≡ b → tally b ≤ count_by (on key.slot q) cs) [
  | false ↦ λ _. omega arith
  | true ↦ λ e. elim (eqb_tells (count_by (on key.slot q) cs) 0) [
    | inl z ↦ absurd (let f : on key.slot q (caller key p) ≡ false = count_none (on key.slot q) cs z.1 c (caller key p) h in
        let t : true ≡ false = sym e ∙ (sym (on_here key q p) ∙ f) in cc)
    | inr n ↦ (let m : count_by (on key.slot q) cs ≢ 0 = n.1 in omega arith)
  ]
] refl

not_spent_last : (w : BareWorld) → Safe w → (c : ℕ) (x : Caller) → slice_get w.callers c ≡ Some x → x.phase ≢ Spent → IsLast w x.key.slot x.key.generation
not_spent_last w safe c x h ne = safe.held_last c x.key x.phase h ne

-- past the last slot, each count that leaves out spent callers is 0
pub past_none : (w : BareWorld) (slot : ℕ) (q : Phase → Bool) → Safe w → length w.slots ≤ slot → q Spent ≡ false → count_by (on slot q) w.callers ≡ 0
past_none w slot q safe past none = count_zero (on slot q) w.callers (λ c x h. elim (eqb_tells x.key.slot slot) [
  | inl e ↦ elim (is_spent x.phase) as (λ b. is_spent x.phase ≡ b → on slot q x ≡ false) [
    | true ↦ λ s. ap (λ b. b && q x.phase) e.0 ∙ (ap q (spent_is x.phase s) ∙ none)
    | false ↦ λ s. absurd (let l : IsLast w x.key.slot x.key.generation = not_spent_last w safe c x h (λ is. let f : true ≡ false = ap is_spent (sym is) ∙ s in cc) in
        let i : x.key.slot < length w.slots = slice_get_within w.slots x.key.slot l.0 l.1 in
        let s : x.key.slot ≡ slot = e.1 in omega arith)
  ] refl
  | inr e ↦ ap (λ b. b && q x.phase) e.0
])

pub held_not_spent : (p : Phase) → not (is_spent p) ≡ true → p ≢ Spent
held_not_spent p h e = let x : not (is_spent Spent) ≡ true = subst (λ q. not (is_spent q) ≡ true) e h in cc

pub not_spent_held : (p : Phase) → not (is_spent p) ≡ false → p ≡ Spent
not_spent_held p h = elim (is_spent p) as (λ b. is_spent p ≡ b → not b ≡ false → p ≡ Spent) [ true ↦ λ e _. spent_is p e | false ↦ λ _ f. absurd (let x : true ≡ false = f in cc) ] refl h

-- if the slot has no holds, only spent callers are on it
pub unheld_spent : (w : BareWorld) (slot : ℕ) → holds w slot ≡ 0 → OnlySpent w slot
unheld_spent w slot z c key p h s = not_spent_held p (sym (ap (λ b. b && not (is_spent p)) (eq-eqb key.slot slot s)) ∙ count_none (on slot (λ p. not (is_spent p))) w.callers z c (caller key p) h)

pub spent_unheld : (w : BareWorld) (slot : ℕ) → OnlySpent w slot → holds w slot ≡ 0
spent_unheld w slot only = count_zero (on slot (λ p. not (is_spent p))) w.callers (λ c x h. elim (eqb_tells x.key.slot slot) [
  | inl e ↦ ap (λ b. b && not (is_spent x.phase)) e.0 ∙ ap (λ p. not (is_spent p)) (only c x.key x.phase h e.1)
  | inr e ↦ ap (λ b. b && not (is_spent x.phase)) e.0
])

-- a caller that holds a slot holds the last key of that slot
pub holds_last : (w : BareWorld) (key : Key) (c : ℕ) (x : Caller) → Safe w → IsLast w key.slot key.generation → slice_get w.callers c ≡ Some x → x.phase ≢ Spent → x.key.slot ≡ key.slot → x.key ≡ key
holds_last w key c x safe last h ne s =
    let l : IsLast w x.key.slot x.key.generation = not_spent_last w safe c x h ne in
    let same : l.0 ≡ last.0 = same_Some _ _ (sym l.1 ∙ (ap (slice_get w.slots) s ∙ last.1)) in
    same_key x.key key s (sym l.2 ∙ (ap (λ (y : SlotState). y.generation) same ∙ last.2))

reference_holds : (p : Phase) → has_reference p ≡ true → p ≢ Spent
reference_holds p h e = let x : has_reference Spent ≡ true = subst (λ q. has_reference q ≡ true) e h in cc

-- for the last key of a slot, the slot's count of references is 0 if and only if nobody has a reference to
-- the node
pub unused_exact : (w : BareWorld) (key : Key) → Safe w → IsLast w key.slot key.generation → ((references w key.slot ≡ 0) ↔ NoReference w key)
unused_exact w key safe last = (
  (λ z c p h. sym (on_here key has_reference p) ∙ count_none (on key.slot has_reference) w.callers z c (caller key p) h),
  (λ none. count_zero (on key.slot has_reference) w.callers (λ c x h. elim (eqb_tells x.key.slot key.slot) [
    | inl e ↦ ap (λ b. b && has_reference x.phase) e.0 ∙ elim (has_reference x.phase) as (λ b. has_reference x.phase ≡ b → has_reference x.phase ≡ false) [
      | true ↦ λ r. none c x.phase (h ∙ ap (λ (k : Key). Some (caller k x.phase)) (holds_last w key c x safe last h (reference_holds x.phase r) e.1))
      | false ↦ λ r. r
    ] refl
    | inr e ↦ ap (λ b. b && has_reference x.phase) e.0
  ])),
)

-- for the last key of a slot, the slot's count of holds is above 0 if and only if somebody holds the node
pub held_exact : (w : BareWorld) (key : Key) → Safe w → IsLast w key.slot key.generation → ((1 ≤ holds w key.slot) ↔ IsHeld w key)
held_exact w key safe last = (
  (λ h. let r : Passing (on key.slot (λ p. not (is_spent p))) w.callers = count_some (on key.slot (λ p. not (is_spent p))) w.callers h in
      let b : (nat_eq r.item.key.slot key.slot ≡ true) × (not (is_spent r.item.phase) ≡ true) = both _ _ r.passes in
      let ne : r.item.phase ≢ Spent = held_not_spent r.item.phase b.1 in
      record {
        caller = r.place;
        phase = r.item.phase;
        there = r.there ∙ ap (λ (k : Key). Some (caller k r.item.phase)) (holds_last w key r.place r.item safe last r.there ne (eqb_same _ _ b.0));
        holds = ne;
      }),
  (λ h. let s : tally (not (is_spent h.phase)) ≤ holds w key.slot = share w.callers h.caller key h.phase (λ p. not (is_spent p)) h.there in
      let t : tally (not (is_spent h.phase)) ≡ 1 = ap tally (held_told h.phase h.holds) in omega arith),
)

-- for the last key of a slot, the slot's count of hiders is above 0 if and only if the key is hidden
pub hidden_exact : (w : BareWorld) (key : Key) → Safe w → IsLast w key.slot key.generation → ((1 ≤ hiders w key.slot) ↔ (is_hidden w key ≡ true))
hidden_exact w key safe last = (
  (λ h. let r : Passing (on key.slot is_hiding) w.callers = count_some (on key.slot is_hiding) w.callers h in
      let b : (nat_eq r.item.key.slot key.slot ≡ true) × (is_hiding r.item.phase ≡ true) = both _ _ r.passes in
      let its = holds_last w key r.place r.item safe last r.there (hiding_holds r.item.phase b.1) (eqb_same _ _ b.0) in
      hider_hidden w r.place key r.item.phase (r.there ∙ ap (λ (k : Key). Some (caller k r.item.phase)) its) b.1),
  (λ h. let r = hidden_has w key h in
      let s : tally (is_hiding r.1) ≤ hiders w key.slot = share w.callers r.0 key r.1 is_hiding r.2 in
      let t : tally (is_hiding r.1) ≡ 1 = ap tally r.3 in omega arith),
)

-- what is not true is false
not_true : (b : Bool) → ¬ (b ≡ true) → b ≡ false
not_true true n = absurd (n refl)
not_true false n = refl

-- for the last key of a slot, the slot's count of hiders is 0 if and only if the key is not hidden
pub shown_exact : (w : BareWorld) (key : Key) → Safe w → IsLast w key.slot key.generation → nat_eq (hiders w key.slot) 0 ≡ not (is_hidden w key)
shown_exact w key safe last =
    let exact = hidden_exact w key safe last in
    elim (eqb_tells (hiders w key.slot) 0) [
      | inl z ↦ (let none : hiders w key.slot ≡ 0 = z.1 in
          let shown : is_hidden w key ≡ false = not_true (is_hidden w key) (λ hidden. let some : 1 ≤ hiders w key.slot = exact.1 hidden in omega arith) in
          z.0 ∙ ap not (sym shown))
      | inr n ↦ (let some : hiders w key.slot ≢ 0 = n.1 in
          n.0 ∙ ap not (sym (exact.0 (omega arith))))
    ]

-- a key that is not the last of its slot is not hidden
pub past_shown : (w : BareWorld) (key : Key) → Safe w → ¬ IsLast w key.slot key.generation → is_hidden w key ≡ false
past_shown w key safe past = none_hides w key (λ c p there hides. past (safe.held_last c key p there (hiding_holds p hides)))
