-- A key that was linked, and is no longer linked, is never linked again.
use Rattle.std.proofs.Common.{◌≡◌, ◌≢◌, ◌⊎◌, inl, inr, ℕ, ◌+◌, ◌≤◌, refl, ap, arith, ⊎_elim, sym, ◌∙◌, subst, true, false, cond}
use Rattle.std.specs.Prelude.{Option, None, Some, slice_get, is_some}
use Rattle.std.proofs.lemmas.Option.{none-some, same_Some, slice_get_within}
use Rattle.std.proofs.lemmas.Bool.Decides.{eqb_tells}
use Rattle.kf_core.specs.declared.caller.Phase.TheVariants.{Parted, Spent}
use Rattle.kf_core.specs.declared.event.Event.{Event}
use Rattle.kf_core.specs.declared.event.Event.TheVariants.{Born, Rise, Mark, Move, Pin, Enter, Leave, Break, Restore, Look, Unlink, Part, Hide, LookHidden, Show, Release, Undo}
use Rattle.kf_core.specs.declared.key.Key.{Key}
use Rattle.kf_core.specs.declared.slot.NodeFlags.{NodeFlags}
use Rattle.kf_core.specs.declared.slot.SlotState.{SlotState}
use Rattle.kf_core.specs.Bare.{BareWorld, IsCaller, marks, marks_in}
use Rattle.kf_core.specs.Marks.{fresh_marks, live_marks}
use Rattle.kf_core.specs.Safe.{Safe}
use Rattle.kf_core.specs.Steps.{BareStep, with_marks}
use Rattle.kf_core.proofs.Climbs.{same_parts}
use Rattle.kf_core.proofs.Lists.{slice_get-set_same, slice_get-set_other}
use Rattle.kf_core.proofs.Passing.{HasCome, step_come}
use Rattle.kf_words.specs.declared.sight.StepKind.{StepKind}
use Rattle.kf_words.proofs.WordSteps.{Alone, TakenOut, Came, Passed}
use Rattle.kf_words.proofs.Runs.{alone_come}

-- the key is not linked, and its slot has reached the key's generation
pub record Gone (w : BareWorld) (key : Key) : Type 0 where
  pub unlinked : marks w key ≡ None
  pub come : HasCome w key

-- if another key gets these marks, a key that is not linked stays so
elsewhere : (w : BareWorld) (key k : Key) (m : Option NodeFlags) (p : SlotState) → slice_get w.slots key.slot ≡ Some p → key ≢ k → marks w k ≡ None → marks (with_marks w key m) k ≡ None
elsewhere w key k m p there other none = elim (eqb_tells k.slot key.slot) [
  | inl s ↦ ap (λ x. marks_in (slice_get (with_marks w key m).slots x) k.generation) s.1
      ∙ ap (λ o. marks_in o k.generation) (slice_get-set_same w.slots key.slot _ (slice_get_within w.slots key.slot p there))
      ∙ (elim (eqb_tells key.generation k.generation) [
        | inl g ↦ absurd (other (same_parts key k (sym s.1) g.1))
        | inr n ↦ ap (λ b. cond b m None) n.0
      ])
  | inr n ↦ ap (λ o. marks_in o k.generation) (slice_get-set_other w.slots key.slot k.slot _ n.1) ∙ none
]

-- the slot of a linked key has a state
its_slot : (o : Option SlotState) (generation : ℕ) (m : NodeFlags) → marks_in o generation ≡ Some m → (p : SlotState) × (o ≡ Some p)
its_slot None generation m e = absurd (none-some m e)
its_slot (Some p) generation m e = (p, refl)

linked_else : (w : BareWorld) (key k : Key) (m : NodeFlags) (m' : Option NodeFlags) → marks w key ≡ Some m → marks w k ≡ None → marks (with_marks w key m') k ≡ None
linked_else w key k m m' e none =
    let p = its_slot (slice_get w.slots key.slot) key.generation m e in
    elsewhere w key k m' p.0 p.1 (λ s. none-some m (sym none ∙ (ap (marks w) (sym s) ∙ e))) none

has_marks : (o : Option NodeFlags) → is_some o ≡ true → (m : NodeFlags) × (o ≡ Some m)
has_marks None e = absurd (let x : false ≡ true = e in cc)
has_marks (Some m) e = (m, refl)

no_marks : (o : Option NodeFlags) → is_some o ≡ false → o ≡ None
no_marks None e = refl
no_marks (Some m) e = absurd (let x : true ≡ false = e in cc)

stays : (w : BareWorld) (e : Event) (w' : BareWorld) (k : Key) → BareStep w e w' → Gone w k → marks w' k ≡ None
stays w (Born key parent name node) w' k s g = subst (λ (x : BareWorld). marks x k ≡ None) (sym s.1)
    (elsewhere w key k (Some fresh_marks) _ s.0.unlinked (λ same. (let n : key.generation ≡ s.0.last + 1 = s.0.next in
    let c : k.generation ≤ g.come.last.generation = g.come.come in
    let one : g.come.last ≡ record { generation = s.0.last; marks = None } = same_Some _ _ (sym g.come.there ∙ (ap (λ (x : Key). slice_get w.slots x.slot) (sym same) ∙ s.0.unlinked)) in
    let l : g.come.last.generation ≡ s.0.last = ap (λ (x : SlotState). x.generation) one in
    let y : key.generation ≡ k.generation = ap (λ (x : Key). x.generation) same in
    omega arith)) g.unlinked)
stays w (Rise key) w' k s g = subst (λ (x : BareWorld). marks x k ≡ None) (sym s.1) (linked_else w key k _ (Some live_marks) s.0 g.unlinked)
stays w (Mark key) w' k s g = subst (λ (x : BareWorld). marks x k ≡ None) (sym s.3) (linked_else w key k s.0 _ s.1 g.unlinked)
stays w (Move key dir name) w' k s g = subst (λ (x : BareWorld). marks x k ≡ None) (sym s) g.unlinked
stays w (Pin c key) w' k s g = subst (λ (x : BareWorld). marks x k ≡ None) (sym s.2) g.unlinked
stays w (Enter c) w' k s g = subst (λ (x : BareWorld). marks x k ≡ None) (sym s.4) g.unlinked
stays w (Leave c) w' k s g = subst (λ (x : BareWorld). marks x k ≡ None) (sym s.4) g.unlinked
stays w (Break c) w' k s g = subst (λ (x : BareWorld). marks x k ≡ None) (sym s.2) g.unlinked
stays w (Restore c) w' k s g = subst (λ (x : BareWorld). marks x k ≡ None) (sym s.2) g.unlinked
stays w (Look c) w' k s g = subst (λ (x : BareWorld). marks x k ≡ None) (sym s.1) g.unlinked
stays w (Unlink c) w' k s g = subst (λ (x : BareWorld). marks x k ≡ None) (sym s.3) (let m = has_marks (marks w s.0) s.2 in linked_else w s.0 k m.0 None m.1 g.unlinked)
stays w (Part c) w' k s g = subst (λ (x : BareWorld). marks x k ≡ None) (sym s.1) g.unlinked
stays w (Hide c) w' k s g = subst (λ (x : BareWorld). marks x k ≡ None) (sym s.1) g.unlinked
stays w (LookHidden c) w' k s g = subst (λ (x : BareWorld). marks x k ≡ None) (sym s.1) g.unlinked
stays w (Show c) w' k s g = subst (λ (x : BareWorld). marks x k ≡ None) (sym s.2) g.unlinked
stays w (Release c) w' k s g = subst (λ (x : BareWorld). marks x k ≡ None) (sym s.4) g.unlinked
stays w (Undo c) w' k s g = subst (λ (x : BareWorld). marks x k ≡ None) (sym s) g.unlinked

pub step_gone : (w : BareWorld) (e : Event) (w' : BareWorld) (k : Key) → BareStep w e w' → Gone w k → Gone w' k
step_gone w e w' k s g = record { unlinked = stays w e w' k s g; come = step_come w e w' k s g.come }

-- the same for a change that is not one event
pub alone_gone : (k : Key) (kind : StepKind) (w w' : BareWorld) → Alone kind w w' → Gone w k → Gone w' k
alone_gone k kind w w' a g = record {
  unlinked = ⊎_elim
      (λ (o : TakenOut kind w w'). subst (λ (x : BareWorld). marks x k ≡ None) (sym o.is) (linked_else w o.key k o.had None o.linked g.unlinked))
      (λ (m : Came kind w w' ⊎ Passed kind w w'). ⊎_elim
      (λ (c : Came kind w w'). subst (λ (x : BareWorld). marks x k ≡ None) (sym c.is) g.unlinked)
      (λ (p : Passed kind w w'). subst (λ (x : BareWorld). marks x k ≡ None) (sym p.is) g.unlinked)
      m)
      a;
  come = alone_come k kind w w' a g.come;
}

-- the key of a parted caller is gone
pub parted_gone : (w : BareWorld) (c : ℕ) (key : Key) → Safe w → IsCaller w c key Parted → Gone w key
parted_gone w c key safe there =
    let last = safe.held_last c key Parted there (λ e. let x : Parted ≡ Spent = e in cc) in
    record { unlinked = no_marks (marks w key) (safe.parted_gone c key there); come = record { last = last.0; there = last.1; come = (let e : last.0.generation ≡ key.generation = last.2 in omega arith) } }
