-- A key whose node has left the tree, or whose slot has a later generation, is never linked again.
use Rattle.std.proofs.Common.{◌≡◌, ◌⊎◌, ℕ, ◌<◌, ◌≤◌, Bool, true, false, List, if◌then◌else◌, refl, sym, ap, ◌∙◌, subst, ⊎_elim, arith, eq-eqb}
use Rattle.std.specs.Prelude.{slice_get, Option, Some, None, is_some}
use Rattle.std.proofs.lemmas.Option.{slice_get_within, same_Some, none-some}
use mathlib.Core.Logic.{dite}
use native.Mathlib.Decide.{ℕ_discrete}
use Rattle.kf_core.specs.declared.key.Key.{Key}
use Rattle.kf_core.specs.declared.event.Event.{Event}
use Rattle.kf_core.specs.declared.event.Event.TheVariants.{Born, Rise, Mark, Move, Pin, Enter, Leave, Break, Restore, Look, Unlink, Part, Hide, LookHidden, Show, Release, Undo}
use Rattle.kf_core.specs.declared.slot.NodeFlags.{NodeFlags}
use Rattle.kf_core.specs.declared.slot.SlotState.{SlotState}
use Rattle.kf_core.specs.Bare.{BareWorld, marks, marks_in, is_linked}
use Rattle.kf_core.specs.Marks.{fresh_marks, live_marks}
use Rattle.kf_core.specs.Steps.{BareStep, with_marks, MayBeBorn}
use Rattle.kf_core.proofs.Lists.{slice_get-set_same, slice_get-set_other}
use Rattle.kf_core.proofs.SlotStates.{in_place}
use Rattle.kf_core.proofs.Keeping.{linked_marks, slot_state}
use Rattle.kf_core.proofs.Passing.{HasCome}
use Rattle.kf_words.specs.Rule.{Shown}
use Rattle.kf_words.specs.TableSteps.{Table, StepKind, world, WordRun}
use Rattle.kf_words.proofs.Led.{Alone, TakenOut, Came, Passed}
use Rattle.kf_words.proofs.Runs.{run_holds}

-- the key's node has left the tree, or its slot has a later generation
pub record Gone (w : BareWorld) (k : Key) : Type 0 where
  pub last : SlotState
  pub there : slice_get w.slots k.slot ≡ Some last
  pub come : k.generation ≤ last.generation
  pub out : last.generation ≡ k.generation → last.marks ≡ None

gone_written : (w : BareWorld) (key k : Key) (m : Option NodeFlags) (p : SlotState) → slice_get w.slots key.slot ≡ Some p → (k.slot ≡ key.slot → (h : Gone w k) → h.last ≡ p → k.generation < key.generation) → Gone w k → Gone (with_marks w key m) k
gone_written w key k m p is later h = dite (ℕ_discrete k.slot key.slot)
    (λ e.
    let one : h.last ≡ p = same_Some _ _ (sym h.there ∙ ap (λ (i : ℕ). slice_get w.slots i) e ∙ is) in
    let more = later e h one in
    record {
      last = slot_state key.generation m;
      there = ap (λ (i : ℕ). slice_get (with_marks w key m).slots i) e ∙ slice_get-set_same w.slots key.slot (slot_state key.generation m) (slice_get_within w.slots key.slot p is);
      come = omega (arith, more);
      out = λ x. absurd (omega (arith, more, x));
    })
    (λ ne. record {
      last = h.last;
      there = slice_get-set_other w.slots key.slot k.slot (slot_state key.generation m) ne ∙ h.there;
      come = h.come;
      out = h.out;
    })

-- what is gone stays gone if the marks of a linked node change
gone_linked : (w : BareWorld) (key k : Key) (m : NodeFlags) (m' : Option NodeFlags) → marks w key ≡ Some m → Gone w k → Gone (with_marks w key m') k
gone_linked w key k m m' e =
    gone_written w key k m' (slot_state key.generation (Some m)) (in_place (slice_get w.slots key.slot) key.generation m e)
    (λ same h one. dite (ℕ_discrete k.generation key.generation)
    (λ g. absurd (none-some m (sym (h.out (ap (λ (x : SlotState). x.generation) one ∙ sym g)) ∙ ap (λ (x : SlotState). x.marks) one)))
    (λ ne. let c = h.come in let g : h.last.generation ≡ key.generation = ap (λ (x : SlotState). x.generation) one in omega (arith, ne, c, g)))

gone_born : (w : BareWorld) (key k : Key) (m : Option NodeFlags) → MayBeBorn w key → Gone w k → Gone (with_marks w key m) k
gone_born w key k m may = gone_written w key k m (slot_state may.last None) may.unlinked
    (λ same h one. let c = h.come in let g : h.last.generation ≡ may.last = ap (λ (x : SlotState). x.generation) one in let n = may.next in omega (arith, c, g, n))

-- what is gone stays gone if no slot changes
gone_still : (w w' : BareWorld) (k : Key) → w'.slots ≡ w.slots → Gone w k → Gone w' k
gone_still w w' k same h = record { last = h.last; there = ap (λ (l : List SlotState). slice_get l k.slot) same ∙ h.there; come = h.come; out = h.out }

slots_of : (w w' v : BareWorld) → w' ≡ v → v.slots ≡ w.slots → w'.slots ≡ w.slots
slots_of w w' v e same = ap (λ (x : BareWorld). x.slots) e ∙ same

gone_step : (w : BareWorld) (e : Event) (w' : BareWorld) (k : Key) → BareStep w e w' → Gone w k → Gone w' k
gone_step w (Born key parent name node) w' k s h = subst (λ x. Gone x k) (sym s.1) (gone_born w key k (Some fresh_marks) s.0 h)
gone_step w (Rise key) w' k s h = subst (λ x. Gone x k) (sym s.1) (gone_linked w key k fresh_marks (Some live_marks) s.0 h)
gone_step w (Mark key) w' k s h = subst (λ x. Gone x k) (sym s.3) (gone_linked w key k s.0 (Some (record { activated = s.0.activated; doomed = true })) s.1 h)
gone_step w (Move key dir name) w' k s h = gone_still w w' k (slots_of w w' w s refl) h
gone_step w (Pin c key) w' k s h = gone_still w w' k (slots_of w w' _ s.2 refl) h
gone_step w (Enter c) w' k s h = gone_still w w' k (slots_of w w' _ s.4 refl) h
gone_step w (Leave c) w' k s h = gone_still w w' k (slots_of w w' _ s.4 refl) h
gone_step w (Break c) w' k s h = gone_still w w' k (slots_of w w' _ s.2 refl) h
gone_step w (Restore c) w' k s h = gone_still w w' k (slots_of w w' _ s.2 refl) h
gone_step w (Look c) w' k s h = gone_still w w' k (slots_of w w' _ s.1 refl) h
gone_step w (Unlink c) w' k s h = let m : (m : NodeFlags) × (marks w s.0 ≡ Some m) = linked_marks (marks w s.0) s.2 in subst (λ x. Gone x k) (sym s.3) (gone_linked w s.0 k m.0 None m.1 h)
gone_step w (Part c) w' k s h = gone_still w w' k (slots_of w w' _ s.1 refl) h
gone_step w (Hide c) w' k s h = gone_still w w' k (slots_of w w' _ s.1 refl) h
gone_step w (LookHidden c) w' k s h = gone_still w w' k (slots_of w w' _ s.1 refl) h
gone_step w (Show c) w' k s h = gone_still w w' k (slots_of w w' _ s.2 refl) h
gone_step w (Release c) w' k s h = gone_still w w' k (slots_of w w' _ s.4 refl) h
gone_step w (Undo c) w' k s h = gone_still w w' k (slots_of w w' w s refl) h

gone_alone : (k : Key) (kind : StepKind) (w w' : BareWorld) → Alone kind w w' → Gone w k → Gone w' k
gone_alone k kind w w' a h = ⊎_elim
    (λ (o : TakenOut kind w w'). subst (λ (x : BareWorld). Gone x k) (sym o.is) (gone_linked w o.key k o.had None o.linked h))
    (λ (m : Came kind w w' ⊎ Passed kind w w'). ⊎_elim
    (λ (c : Came kind w w'). gone_still w w' k (slots_of w w' _ c.is refl) h)
    (λ (p : Passed kind w w'). gone_still w w' k (slots_of w w' _ p.is refl) h)
    m)
    a

-- what is gone stays gone over a run
pub gone_for_good : (slots limit : ℕ) (kinds : List StepKind) (t u : Table) (k : Key) → Shown slots limit t → WordRun t kinds u → Gone (world t) k → Gone (world u) k
gone_for_good slots limit kinds t u k g r = run_holds (λ x. Gone x k) (λ x e y s p. gone_step x e y k s p) (gone_alone k) slots limit kinds t u g r

pub gone_unlinked : (w : BareWorld) (k : Key) → Gone w k → is_linked w k ≡ true → ⊥
gone_unlinked w k h node =
    let x : (m : NodeFlags) × (marks w k ≡ Some m) = linked_marks (marks w k) node in
    let is = in_place (slice_get w.slots k.slot) k.generation x.0 x.1 in
    let one : h.last ≡ slot_state k.generation (Some x.0) = same_Some _ _ (sym h.there ∙ is) in
    none-some x.0 (sym (h.out (ap (λ (y : SlotState). y.generation) one)) ∙ ap (λ (y : SlotState). y.marks) one)

pub unlinked_gone : (w : BareWorld) (k : Key) → HasCome w k → is_linked w k ≡ false → Gone w k
unlinked_gone w k h none = record {
  last = h.last;
  there = h.there;
  come = h.come;
  out = λ g. no_marks h.last.marks (sym (ap is_some (ap (λ (o : Option SlotState). marks_in o k.generation) h.there ∙ ap (λ (b : Bool). if b then h.last.marks else None) (eq-eqb h.last.generation k.generation g))) ∙ none);
}
  where
    no_marks : (o : Option NodeFlags) → is_some o ≡ false → o ≡ None
    no_marks None e = refl
    no_marks (Some x) e = absurd (let y : true ≡ false = e in cc)

-- the slot of a linked key has the key's generation and a node
pub linked_here : (w : BareWorld) (k : Key) → is_linked w k ≡ true → (m : NodeFlags) × (slice_get w.slots k.slot ≡ Some (slot_state k.generation (Some m)))
linked_here w k node =
    let x : (m : NodeFlags) × (marks w k ≡ Some m) = linked_marks (marks w k) node in
    (x.0, in_place (slice_get w.slots k.slot) k.generation x.0 x.1)
