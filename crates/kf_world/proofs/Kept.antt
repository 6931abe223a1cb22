-- What the world keeps besides its slots and callers stays right after each kind of change.
use Rattle.std.proofs.Common.{◌≡◌, ◌≢◌, inl, inr, ℕ, zero, suc, true, false, ◌+◌, ◌<◌, ◌≤◌, ◌-◌, ◌/◌, ◌^◌, List, [], ◌∷◌, ◌++◌, length, get_or, refl, ap, arith, slice_set, sym, ◌∙◌, subst, ◌↔◌, replicate}
use Rattle.std.specs.Prelude.{slice_get, Option, Some, None, not}
use Rattle.std.proofs.lemmas.Option.{same_Some, none-some, slice_get_within, slice_get-get_or, get_or_from_slice_get}
use Rattle.std.proofs.lemmas.List.Sums.{count_by-le-length}
use Rattle.std.proofs.lemmas.List.{length-set, length-replicate}
use Rattle.std.proofs.lemmas.Bool.Decides.{eqb_tells, leb_tells}
use Rattle.kf_core.specs.Limits.{most_slots}
use Rattle.kf_core.specs.declared.key.Key.{Key}
use Rattle.kf_core.specs.declared.caller.Phase.{Phase}
use Rattle.kf_core.specs.declared.caller.Phase.TheVariants.{Still, Turned, Running, Broken, Restored, Drained, Parted, Hiding, Hidden, Spent}
use Rattle.kf_core.specs.declared.caller.Caller.{Caller}
use Rattle.kf_world.specs.declared.counts.Counts.{Counts}
use Rattle.kf_core.specs.declared.event.Event.{Event}
use Rattle.kf_world.specs.declared.world.hint.Hint.{Hint}
use Rattle.kf_core.specs.declared.slot.NodeFlags.{NodeFlags}
use Rattle.kf_core.specs.declared.slot.SlotState.{SlotState}
use Rattle.kf_core.specs.Bare.{BareWorld, IsCaller, IsLast, opening}
use Rattle.kf_core.specs.Phases.{has_reference, is_hiding, is_spent, is_waiting, may_release}
use Rattle.kf_core.specs.Safe.{Safe}
use Rattle.kf_core.specs.Steps.{BareStep, with_phase, with_marks, with_caller, IsHeld}
use Rattle.kf_world.specs.Bounded.{IsFree, holds}
use Rattle.kf_world.specs.Hints.{AsMany, Covers, Skips}
use Rattle.kf_world.specs.Counts.{references, hiders, no_counts, CountsAs, IsHeldIn, IsSoundWorld, NoneFree}
use Rattle.kf_core.specs.Tallies.{tally}
use Rattle.kf_core.proofs.Lists.{slice_get-set_same, slice_get-set_other}
use Rattle.kf_core.proofs.Keeping.{caller, slot_state, step_keeps, one_key}
use Rattle.kf_world.proofs.OneItem.{same_item}
use Rattle.kf_world.proofs.CallerCounts.{phase_counted, pinned_counted, unheld_spent, spent_unheld, share, past_none, spent_is, held_told}

-- a slot is free if and only if it has no node, no holds, and a generation left
pub free_exact : (w : BareWorld) (slot : ℕ) (state : SlotState) → slice_get w.slots slot ≡ Some state → (((state.marks ≡ None) × (state.generation < 2 ^ 32 - 1) × (holds w slot ≡ 0)) ↔ IsFree w slot)
free_exact w slot state is = (
  (λ p. record { last = state.generation; unlinked = is ∙ ap (λ (m : Option NodeFlags). Some (slot_state state.generation m)) p.0; more = p.1; unheld = unheld_spent w slot p.2 }),
  (λ f. let e : state ≡ slot_state f.last None = same_Some _ _ (sym is ∙ f.unlinked) in
      (ap (λ (s : SlotState). s.marks) e, subst (λ n. n < 2 ^ 32 - 1) (sym (ap (λ (s : SlotState). s.generation) e)) f.more, spent_unheld w slot f.unheld)),
)

-- a step of a caller makes no other slot free
free_elsewhere : (w : BareWorld) (c : ℕ) (key : Key) (from to : Phase) (slot : ℕ) → IsCaller w c key from → slot ≢ key.slot → IsFree (with_phase w c key to) slot → IsFree w slot
free_elsewhere w c key from to slot was ne f = record {
  last = f.last;
  unlinked = f.unlinked;
  more = f.more;
  unheld = λ d k p h s. elim (eqb_tells d c) [
    | inl e ↦ absurd (ne (sym s ∙ ap (λ (x : Key). x.slot) (one_key w c k key p from (subst (λ x. IsCaller w x k p) e.1 h) was).0))
    | inr e ↦ f.unheld d k p (slice_get-set_other w.callers c d (caller key to) e.1 ∙ h) s
  ];
}

free_beside : (w : BareWorld) (key : Key) (m : Option NodeFlags) (slot : ℕ) → slot ≢ key.slot → IsFree (with_marks w key m) slot → IsFree w slot
free_beside w key m slot ne f = record {
  last = f.last;
  unlinked = sym (slice_get-set_other w.slots key.slot slot (slot_state key.generation m) ne) ∙ f.unlinked;
  more = f.more;
  unheld = f.unheld;
}

still_there : (xs : List Caller) (i : ℕ) (v y : Caller) → slice_get xs i ≡ Some y → slice_get (xs ++ v ∷ []) i ≡ Some y
still_there [] i v y h = absurd (none-some y h)
still_there (x ∷ xs) zero v y h = h
still_there (x ∷ xs) (suc i) v y h = still_there xs i v y h

free_before : (w : BareWorld) (key : Key) (slot : ℕ) → IsFree (with_caller w key) slot → IsFree w slot
free_before w key slot f = record {
  last = f.last;
  unlinked = f.unlinked;
  more = f.more;
  unheld = λ d k p h s. f.unheld d k p (still_there w.callers d (caller key Still) (caller k p) h) s;
}

-- the slot of a caller that is not spent is in the list
pub slot_within : (w : BareWorld) (counts : List Counts) (hint : Hint) (c : ℕ) (key : Key) (p : Phase) → IsSoundWorld w counts hint → IsCaller w c key p → p ≢ Spent → key.slot < length w.slots
slot_within w counts hint c key p kept was ne = let l : IsLast w key.slot key.generation = kept.safe.held_last c key p was ne in slice_get_within w.slots key.slot l.0 l.1

-- the block and the group of a slot in the list have marks
pub block_within : (w : BareWorld) (counts : List Counts) (hint : Hint) (slot : ℕ) → IsSoundWorld w counts hint → slot < length w.slots → Covers hint.taken slot
block_within w counts hint slot kept within = (omega (arith, kept.covered.0, within), omega (arith, kept.covered.1, within))

-- the counts of a slot are at least what any one of its callers adds
pub own_share : (w : BareWorld) (counts : List Counts) (hint : Hint) (c : ℕ) (key : Key) (p : Phase) (n : Counts) → IsSoundWorld w counts hint → IsCaller w c key p → slice_get counts key.slot ≡ Some n → (tally (not (is_spent p)) ≤ n.holds) × (tally (has_reference p) ≤ n.references) × (tally (is_hiding p) ≤ n.hiders)
own_share w counts hint c key p n kept was is = (
  subst (λ x. tally (not (is_spent p)) ≤ x) (sym (kept.counted key.slot n is).0) (share w.callers c key p (λ p. not (is_spent p)) was),
  subst (λ x. tally (has_reference p) ≤ x) (sym (kept.counted key.slot n is).1) (share w.callers c key p has_reference was),
  subst (λ x. tally (is_hiding p) ≤ x) (sym (kept.counted key.slot n is).2) (share w.callers c key p is_hiding was),
)

-- the counts of a slot are at most the number of all callers
pub few_counts : (w : BareWorld) (counts : List Counts) (hint : Hint) (slot : ℕ) (n : Counts) → IsSoundWorld w counts hint → slice_get counts slot ≡ Some n → (n.holds ≤ length w.callers) × (n.references ≤ length w.callers) × (n.hiders ≤ length w.callers)
few_counts w counts hint slot n kept is = (
  subst (λ x. x ≤ length w.callers) (sym (kept.counted slot n is).0) (count_by-le-length _ w.callers),
  subst (λ x. x ≤ length w.callers) (sym (kept.counted slot n is).1) (count_by-le-length _ w.callers),
  subst (λ x. x ≤ length w.callers) (sym (kept.counted slot n is).2) (count_by-le-length _ w.callers),
)

-- what a caller counts as: one that waits, one that has a reference, and one that may release its hold
pub waiting_counts : (p : Phase) → is_waiting p ≡ true → CountsAs Still p
waiting_counts Still h = (refl, refl, refl)
waiting_counts Turned h = (refl, refl, refl)
waiting_counts Running h = cc
waiting_counts Broken h = cc
waiting_counts Restored h = cc
waiting_counts Drained h = cc
waiting_counts Parted h = cc
waiting_counts Hiding h = cc
waiting_counts Hidden h = cc
waiting_counts Spent h = cc

pub reference_counts : (p : Phase) → has_reference p ≡ true → CountsAs Running p
reference_counts Still h = cc
reference_counts Turned h = cc
reference_counts Running h = (refl, refl, refl)
reference_counts Broken h = cc
reference_counts Restored h = (refl, refl, refl)
reference_counts Drained h = cc
reference_counts Parted h = cc
reference_counts Hiding h = cc
reference_counts Hidden h = cc
reference_counts Spent h = cc

pub release_counts : (p : Phase) → may_release p ≡ true → CountsAs Still p
release_counts Still h = (refl, refl, refl)
release_counts Turned h = (refl, refl, refl)
release_counts Running h = cc
release_counts Broken h = cc
release_counts Restored h = cc
release_counts Drained h = (refl, refl, refl)
release_counts Parted h = (refl, refl, refl)
release_counts Hiding h = cc
release_counts Hidden h = cc
release_counts Spent h = cc

-- a caller on the key counts like one in this phase
abbrev pub CountsFrom : BareWorld → ℕ → Key → Phase → Type 0
CountsFrom w c key from = (was : Phase) × IsCaller w c key was × CountsAs from was

-- a caller that counts as a holder is not spent
still_held : (from was : Phase) → CountsAs from was → from ≢ Spent → was ≢ Spent
still_held from was like held e = held (spent_is from (like.0 ∙ ap is_spent e))

-- the slot of such a caller is in the list
pub held_within : (w : BareWorld) (counts : List Counts) (hint : Hint) (c : ℕ) (key : Key) (from : Phase) → IsSoundWorld w counts hint → CountsFrom w c key from → from ≢ Spent → key.slot < length w.slots
held_within w counts hint c key from kept there held = slot_within w counts hint c key there.0 kept there.1 (still_held from there.0 there.2 held)

-- the counts of such a caller's slot say that the slot is held
pub counts_held : (w : BareWorld) (counts : List Counts) (hint : Hint) (c : ℕ) (key : Key) (from : Phase) → IsSoundWorld w counts hint → CountsFrom w c key from → from ≢ Spent → IsHeldIn counts key.slot
counts_held w counts hint c key from kept there held =
    let within : key.slot < length counts = (let i = held_within w counts hint c key from kept there held in let e : length counts ≡ length w.slots = kept.as_long in omega (arith, i)) in
    let n : Counts = get_or counts key.slot no_counts in
    let is : slice_get counts key.slot ≡ Some n = slice_get-get_or counts key.slot no_counts within in
    let its : tally (not (is_spent there.0)) ≤ n.holds = (own_share w counts hint c key there.0 n kept there.1 is).0 in
    let one : tally (not (is_spent there.0)) ≡ 1 = ap tally (held_told there.0 (still_held from there.0 there.2 held)) in
    (n, is, omega arith)

-- the counts that were read are those of the slot: they include the caller, and at most all callers have
-- references or hide
pub record CountsAt (counts : List Counts) (slot : ℕ) (n : Counts) (from : Phase) (callers : ℕ) : Type 0 where
  pub found : slice_get counts slot ≡ Some n
  pub holds : tally (not (is_spent from)) ≤ n.holds
  pub references : tally (has_reference from) ≤ n.references
  pub hiders : tally (is_hiding from) ≤ n.hiders
  pub few_references : n.references ≤ callers
  pub few_hiders : n.hiders ≤ callers

pub counts_at : (w : BareWorld) (counts : List Counts) (hint : Hint) (c : ℕ) (key : Key) (from : Phase) (n : Counts) → IsSoundWorld w counts hint → CountsFrom w c key from → from ≢ Spent → n ≡ get_or counts key.slot n → CountsAt counts key.slot n from (length w.callers)
counts_at w counts hint c key from n kept there held read =
    let of = counts_held w counts hint c key from kept there held in
    let is : slice_get counts key.slot ≡ Some n = of.1 ∙ ap Some (sym (read ∙ get_or_from_slice_get counts key.slot of.0 n of.1)) in
    let its = own_share w counts hint c key there.0 n kept there.1 is in
    let few = few_counts w counts hint key.slot n kept is in
    record {
      found = is;
      holds = subst (λ b. tally (not b) ≤ n.holds) (sym there.2.0) its.0;
      references = subst (λ b. tally b ≤ n.references) (sym there.2.1) its.1;
      hiders = subst (λ b. tally b ≤ n.hiders) (sym there.2.2) its.2;
      few_references = few.1;
      few_hiders = few.2;
    }

-- the caller that was read has this key
pub key_read : (cs : List Caller) (id : ℕ) (x : Caller) (key : Key) (p : Phase) → x ≡ get_or cs id x → slice_get cs id ≡ Some (caller key p) → x.key ≡ key
key_read cs id x key p is there = ap (λ (c : Caller). c.key) (is ∙ get_or_from_slice_get cs id (caller key p) x there)

-- each slot that is skipped now was skipped before, and there are as many marks
pub record Fewer (now before : Hint) : Type 0 where
  pub skips : (slot : ℕ) → Skips now.lowest now.taken slot → Skips before.lowest before.taken slot
  pub as_many : AsMany before.taken now.taken

-- the world stays sound after a step of a caller on the key
pub phase_kept : (w : BareWorld) (c : ℕ) (key : Key) (from to : Phase) (counts : List Counts) (old new : Counts) (state : SlotState) (hint hint' : Hint) →
    IsSoundWorld w counts hint → (e : Event) → BareStep w e (with_phase w c key to) → CountsFrom w c key from → slice_get counts key.slot ≡ Some old → slice_get w.slots key.slot ≡ Some state →
    new.holds + tally (not (is_spent from)) ≡ old.holds + tally (not (is_spent to)) → new.references + tally (has_reference from) ≡ old.references + tally (has_reference to) →
    new.hiders + tally (is_hiding from) ≡ old.hiders + tally (is_hiding to) →
    Fewer hint' hint → ((state.marks ≡ None) × (state.generation < 2 ^ 32 - 1) × (new.holds ≡ 0) → 1 ≤ key.slot → ¬ Skips hint'.lowest hint'.taken key.slot) →
    IsSoundWorld (with_phase w c key to) (slice_set counts key.slot new) hint'
phase_kept w c key from to counts old new state hint hint' kept e step there is has h r i fewer looks =
    let counted = phase_counted w c key there.0 to counts old new there.1 is
    (subst (λ b. new.holds + tally (not b) ≡ old.holds + tally (not (is_spent to))) there.2.0 h)
    (subst (λ b. new.references + tally b ≡ old.references + tally (has_reference to)) there.2.1 r)
    (subst (λ b. new.hiders + tally b ≡ old.hiders + tally (is_hiding to)) there.2.2 i) kept.counted in
    let told : new.holds ≡ holds (with_phase w c key to) key.slot = (counted key.slot new (slice_get-set_same counts key.slot new (slice_get_within counts key.slot old is))).0 in
    record {
      safe = step_keeps w e (with_phase w c key to) kept.safe step;
      few = kept.few;
      as_long = length-set counts key.slot new ∙ kept.as_long;
      counted = counted;
      covered = (subst (λ n. length w.slots / 64 < n) (sym fewer.as_many.0) kept.covered.0, subst (λ n. length w.slots / 4096 < n) (sym fewer.as_many.1) kept.covered.1);
      skipped = λ slot one s f. elim (eqb_tells slot key.slot) [
        | inl e ↦ (let free = (free_exact (with_phase w c key to) key.slot state has).1 (subst (IsFree (with_phase w c key to)) e.1 f) in
            looks (free.0, free.1, told ∙ free.2) (subst (λ x. 1 ≤ x) e.1 one) (subst (Skips hint'.lowest hint'.taken) e.1 s))
        | inr n ↦ kept.skipped slot one (fewer.skips slot s) (free_elsewhere w c key there.0 to slot there.1 n.1 f)
      ];
    }

-- if the caller still holds the slot, the slot is not free after the step, so the world stays sound with the
-- same slots to skip
pub held_kept : (w : BareWorld) (c : ℕ) (key : Key) (from to : Phase) (counts : List Counts) (old new : Counts) (hint : Hint) →
    IsSoundWorld w counts hint → (e : Event) → BareStep w e (with_phase w c key to) → CountsFrom w c key from → from ≢ Spent → is_spent to ≡ false → CountsAt counts key.slot old from (length w.callers) →
    new.holds + tally (not (is_spent from)) ≡ old.holds + tally (not (is_spent to)) → new.references + tally (has_reference from) ≡ old.references + tally (has_reference to) →
    new.hiders + tally (is_hiding from) ≡ old.hiders + tally (is_hiding to) →
    IsSoundWorld (with_phase w c key to) (slice_set counts key.slot new) hint
held_kept w c key from to counts old new hint kept e step there held still at h r i =
    let last : IsLast w key.slot key.generation = kept.safe.held_last c key there.0 there.1 (still_held from there.0 there.2 held) in
    let its : tally (not (is_spent from)) ≤ old.holds = at.holds in
    let one : tally (not (is_spent to)) ≡ 1 = ap (λ b. tally (not b)) still in
    let some : 1 ≤ new.holds = omega arith in
    phase_kept w c key from to counts old new last.0 hint hint kept e step there at.found last.1 h r i (record { skips = λ slot s. s; as_many = (refl, refl) })
    (λ free. let none : new.holds ≡ 0 = free.2 in omega arith)

-- the world stays sound after a change of the key's marks, if the slot is not free after it
pub marks_kept : (w : BareWorld) (key : Key) (m : Option NodeFlags) (counts : List Counts) (hint : Hint) → IsSoundWorld w counts hint → (e : Event) → BareStep w e (with_marks w key m) → ¬ IsFree (with_marks w key m) key.slot → IsSoundWorld (with_marks w key m) counts hint
marks_kept w key m counts hint kept e step taken =
    let l : length (with_marks w key m).slots ≡ length w.slots = length-set w.slots key.slot (slot_state key.generation m) in
    record {
      safe = step_keeps w e (with_marks w key m) kept.safe step;
      few = subst (λ n. n ≤ most_slots) (sym l) kept.few;
      as_long = kept.as_long ∙ sym l;
      counted = kept.counted;
      covered = subst (Covers hint.taken) (sym l) kept.covered;
      skipped = λ slot one s f. elim (eqb_tells slot key.slot) [
        | inl e ↦ taken (subst (IsFree (with_marks w key m)) e.1 f)
        | inr n ↦ kept.skipped slot one s (free_beside w key m slot n.1 f)
      ];
    }

-- the world stays sound after a pin of the key
pub pinned_kept : (w : BareWorld) (key : Key) (counts : List Counts) (old new : Counts) (hint : Hint) → IsSoundWorld w counts hint → (e : Event) → BareStep w e (with_caller w key) → slice_get counts key.slot ≡ Some old → new.holds ≡ old.holds + 1 → new.references ≡ old.references + 0 → new.hiders ≡ old.hiders + 0 → IsSoundWorld (with_caller w key) (slice_set counts key.slot new) hint
pinned_kept w key counts old new hint kept e step is h r i = record {
  safe = step_keeps w e (with_caller w key) kept.safe step;
  few = kept.few;
  as_long = length-set counts key.slot new ∙ kept.as_long;
  counted = pinned_counted w key counts old new is h r i kept.counted;
  covered = kept.covered;
  skipped = λ slot one s f. kept.skipped slot one s (free_before w key slot f);
}

-- past the last slot, all counts are 0
pub past_kept : (w : BareWorld) (counts : List Counts) (hint : Hint) (slot : ℕ) → IsSoundWorld w counts hint → length counts ≤ slot → (0 ≡ holds w slot) × (0 ≡ references w slot) × (0 ≡ hiders w slot)
past_kept w counts hint slot kept past =
    let out : length w.slots ≤ slot = (let e : length counts ≡ length w.slots = kept.as_long in omega arith) in
    (sym (past_none w slot (λ p. not (is_spent p)) kept.safe out refl), sym (past_none w slot has_reference kept.safe out refl), sym (past_none w slot is_hiding kept.safe out refl))

-- if no slot below `low` is free, and all slots from `low` to `high` are skipped, no slot below `high` is
-- free
pub none_skipped : (w : BareWorld) (counts : List Counts) (hint : Hint) (low high : ℕ) → IsSoundWorld w counts hint → NoneFree w low → ((slot : ℕ) → low ≤ slot → slot < high → Skips hint.lowest hint.taken slot) → NoneFree w high
none_skipped w counts hint low high kept passed skips slot one below free = elim (leb_tells low slot) [
  | inl m ↦ kept.skipped slot one (skips slot m.1 below) free
  | inr l ↦ passed slot one (omega (arith, l.1)) free
]

-- a slot that is not in the list is not free
pub none_free : (w : BareWorld) (slot : ℕ) → length w.slots ≤ slot → ¬ IsFree w slot
none_free w slot past f = let i : slot < length w.slots = slice_get_within w.slots slot _ f.unlinked in omega arith

-- nobody holds a key whose slot is not in the list, or has another last generation
pub none_holds : (w : BareWorld) (key : Key) → Safe w → length w.slots ≤ key.slot → ¬ IsHeld w key
none_holds w key safe past h =
    let l : IsLast w key.slot key.generation = safe.held_last h.caller key h.phase h.there h.holds in
    let i : key.slot < length w.slots = slice_get_within w.slots key.slot l.0 l.1 in omega arith

pub other_holds : (w : BareWorld) (key : Key) (state : SlotState) → Safe w → slice_get w.slots key.slot ≡ Some state → state.generation ≢ key.generation → ¬ IsHeld w key
other_holds w key state safe is ne h =
    let l : IsLast w key.slot key.generation = safe.held_last h.caller key h.phase h.there h.holds in
    ne (ap (λ (s : SlotState). s.generation) (same_Some _ _ (sym is ∙ l.1)) ∙ l.2)

-- a slot that has a linked node or a holder is not free
pub linked_taken : (w : BareWorld) (slot : ℕ) (state : SlotState) (m : NodeFlags) → slice_get w.slots slot ≡ Some state → state.marks ≡ Some m → ¬ IsFree w slot
linked_taken w slot state m is linked f = none-some m (ap (λ (s : SlotState). s.marks) (same_Some _ _ (sym f.unlinked ∙ is)) ∙ linked)

pub held_taken : (w : BareWorld) (slot c : ℕ) (key : Key) (p : Phase) → IsCaller w c key p → key.slot ≡ slot → p ≢ Spent → ¬ IsFree w slot
held_taken w slot c key p was s ne f = ne (f.unheld c key p was s)

-- the state of a free slot has the slot's last generation, which is below 2 ^ 32 - 1
pub free_state : (w : BareWorld) (slot : ℕ) (state : SlotState) (free : IsFree w slot) → slice_get w.slots slot ≡ Some state → (state.generation ≡ free.last) × (state.generation < 2 ^ 32 - 1)
free_state w slot state free is =
    let e : state.generation ≡ free.last = ap (λ (s : SlotState). s.generation) (same_Some _ _ (sym is ∙ free.unlinked)) in (e, subst (λ n. n < 2 ^ 32 - 1) (sym e) free.more)

-- a key whose slot is not in the list, or has another last generation, is not the last key of its slot
pub none_last : (w : BareWorld) (key : Key) → length w.slots ≤ key.slot → ¬ IsLast w key.slot key.generation
none_last w key past l = let i : key.slot < length w.slots = slice_get_within w.slots key.slot l.0 l.1 in omega arith

pub other_last : (w : BareWorld) (key : Key) (state : SlotState) → slice_get w.slots key.slot ≡ Some state → state.generation ≢ key.generation → ¬ IsLast w key.slot key.generation
other_last w key state is ne l = ne (ap (λ (s : SlotState). s.generation) (same_Some _ _ (sym is ∙ l.1)) ∙ l.2)

-- the opening world, which has no callers, is sound
pub opening_kept : (slots start : ℕ) (counts : List Counts) (hint : Hint) → slots ≤ most_slots → counts ≡ replicate slots (record { holds = 0; references = 0; hiders = 0 }) →
    ((slot : ℕ) → 1 ≤ slot → ¬ Skips hint.lowest hint.taken slot) → Covers hint.taken slots → IsSoundWorld (opening slots start) counts hint
opening_kept slots start counts hint few is looks covered =
    let len : length (opening slots start).slots ≡ slots = length-set (replicate slots (slot_state start None)) 0 _ ∙ length-replicate slots _ in
    record {
      safe = record {
        none_running = λ c key phase h. absurd (none-some _ h);
        drain_doomed = λ c key phase h. absurd (none-some _ h);
        parted_gone = λ c key h. absurd (none-some _ h);
        held_last = λ c key phase h. absurd (none-some _ h);
        running_linked = λ c key h. absurd (none-some _ h);
        one_hides = λ c key p h hiding. absurd (none-some _ h);
      };
      few = subst (λ n. n ≤ most_slots) (sym len) few;
      as_long = ap length is ∙ length-replicate slots _ ∙ sym len;
      counted = λ slot n h.
          (let e : n ≡ record { holds = 0; references = 0; hiders = 0 } = same_item slots slot _ n (ap (λ l. slice_get l slot) (sym is) ∙ h) in
          (ap (λ (x : Counts). x.holds) e, ap (λ (x : Counts). x.references) e, ap (λ (x : Counts). x.hiders) e));
      covered = subst (Covers hint.taken) (sym len) covered;
      skipped = λ slot one s f. looks slot one s;
    }
