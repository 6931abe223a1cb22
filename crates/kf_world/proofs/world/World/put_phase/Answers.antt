-- The change is a step, and the counts of the slot change with it.
use Rattle.std.proofs.Common.{◌≡◌, ◌+◌, length, ap, sym, subst, arith, not, refl, ◌∙◌}
use Rattle.std.proofs.lemmas.Option.{slice_get_within, slice_get_read}
use Rattle.kf_core.specs.Phases.{is_spent, has_reference, is_hiding}
use Rattle.kf_core.specs.Steps.{BareStep, with_phase}
use Rattle.kf_world.specs.Bounded.{BoundedWorld, bounded}
use Rattle.kf_core.specs.Tallies.{tally}
use Rattle.kf_world.proofs.Kept.{CountsFrom, held_within, block_within, counts_held, counts_at, key_read, phase_kept, held_kept}
use Rattle.kf_world.proofs.world.World.put_phase.Goals as goal

pub held-requires : goal.held-requires
held-requires c =
    let there = subst (λ (b : BoundedWorld). CountsFrom b.world c.args.id c.args.key c.args.from) (sym c.self.view_is) c.requires.there in
    record { held = counts_held _ _ _ _ _ _ c.self.invariant there c.requires.holds }

pub without-requires-clause-holds : goal.without-requires-clause-holds
without-requires-clause-holds c =
    let there = subst (λ (b : BoundedWorld). CountsFrom b.world c.args.id c.args.key c.args.from) (sym c.self.view_is) c.requires.there in
    (counts_at _ _ _ _ _ _ c.held.result c.self.invariant there c.requires.holds c.held.ensures.known).holds

pub without-requires-clause-references : goal.without-requires-clause-references
without-requires-clause-references c =
    let there = subst (λ (b : BoundedWorld). CountsFrom b.world c.args.id c.args.key c.args.from) (sym c.self.view_is) c.requires.there in
    (counts_at _ _ _ _ _ _ c.held.result c.self.invariant there c.requires.holds c.held.ensures.known).references

pub without-requires-clause-hiders : goal.without-requires-clause-hiders
without-requires-clause-hiders c =
    let there = subst (λ (b : BoundedWorld). CountsFrom b.world c.args.id c.args.key c.args.from) (sym c.self.view_is) c.requires.there in
    (counts_at _ _ _ _ _ _ c.held.result c.self.invariant there c.requires.holds c.held.ensures.known).hiders

pub with-counts-requires-clause-few_references : goal.with-counts-requires-clause-few_references
with-counts-requires-clause-few_references c =
    let there = subst (λ (b : BoundedWorld). CountsFrom b.world c.args.id c.args.key c.args.from) (sym c.self.view_is) c.requires.there in
    let at = counts_at _ _ _ _ _ _ c.held.result c.self.invariant there c.requires.holds c.held.ensures.known in
    omega (arith, at.few_references, c.self.inside.callers.ok.0, c.without.ensures.references)

pub with-counts-requires-clause-few_hiders : goal.with-counts-requires-clause-few_hiders
with-counts-requires-clause-few_hiders c =
    let there = subst (λ (b : BoundedWorld). CountsFrom b.world c.args.id c.args.key c.args.from) (sym c.self.view_is) c.requires.there in
    let at = counts_at _ _ _ _ _ _ c.held.result c.self.invariant there c.requires.holds c.held.ensures.known in
    omega (arith, at.few_hiders, c.self.inside.callers.ok.0, c.without.ensures.hiders)

pub set_held-requires : goal.set_held-requires
set_held-requires c =
    let there = subst (λ (b : BoundedWorld). CountsFrom b.world c.args.id c.args.key c.args.from) (sym c.self.view_is) c.requires.there in
    record { held = counts_held _ _ _ _ _ _ c.self.invariant there c.requires.holds }

pub index_mut-requires : goal.index_mut-requires
index_mut-requires c =
    let there = subst (λ (b : BoundedWorld). CountsFrom b.world c.args.id c.args.key c.args.from) (sym c.self.view_is) c.requires.there in
    omega (arith, slice_get_within c.self.inside.callers.items c.args.id _ there.1, c.self.inside.callers.ok.0)

pub at-requires : goal.at-requires
at-requires c =
    let there = subst (λ (b : BoundedWorld). CountsFrom b.world c.args.id c.args.key c.args.from) (sym c.self.view_is) c.requires.there in
    record { within = held_within _ _ _ _ _ _ c.self.invariant there c.requires.holds }

pub note-requires : goal.note-requires
note-requires c =
    let there = subst (λ (b : BoundedWorld). CountsFrom b.world c.args.id c.args.key c.args.from) (sym c.self.view_is) c.requires.there in
    record { within = block_within _ _ _ c.args.key.slot c.self.invariant (held_within _ _ _ _ _ _ c.self.invariant there c.requires.holds) }

pub invariant_of-self : goal.invariant_of-self
invariant_of-self c =
    let there = subst (λ (b : BoundedWorld). CountsFrom b.world c.args.id c.args.key c.args.from) (sym c.self.view_is) c.requires.there in
    let step = subst (λ (b : BoundedWorld). BareStep b.world c.requires.step.0 (with_phase b.world c.args.id c.args.key c.args.phase)) (sym c.self.view_is) c.requires.step.1 in
    let at = counts_at _ _ _ _ _ _ c.held.result c.self.invariant there c.requires.holds c.held.ensures.known in
    let within = held_within _ _ _ _ _ _ c.self.invariant there c.requires.holds in
    let state = slice_get_read c.self.inside.slots (length c.self.inside.slots) c.args.key.slot c.at.result refl within c.at.ensures.known in
    let h : c.with-counts.result.holds + tally (not (is_spent c.args.from)) ≡ c.held.result.holds + tally (not (is_spent c.args.phase)) = omega (arith, c.with-counts.ensures.holds, c.without.ensures.holds) in
    let r : c.with-counts.result.references + tally (has_reference c.args.from) ≡ c.held.result.references + tally (has_reference c.args.phase) = omega (arith, c.with-counts.ensures.references, c.without.ensures.references) in
    let i : c.with-counts.result.hiders + tally (is_hiding c.args.from) ≡ c.held.result.hiders + tally (is_hiding c.args.phase) = omega (arith, c.with-counts.ensures.hiders, c.without.ensures.hiders) in
    let same : c.index_mut.result.now.key ≡ c.args.key = key_read c.self.inside.callers.items c.args.id c.index_mut.result.now c.args.key there.0 c.index_mut.ensures.value there.1 in
    rw same (rw c.set_held.ensures.set
    (phase_kept _ c.args.id c.args.key c.args.from c.args.phase _ c.held.result c.with-counts.result c.at.result c.self.inside.hint _
    c.self.invariant c.requires.step.0 step there at.found state h r i (record { skips = c.note.ensures.skips; as_many = c.note.ensures.as_many })
    (λ free one. c.note.ensures.looks (c.may_be_given-free.ensures.1 free) one)))

pub invariant_of-self-else-is_spent : goal.invariant_of-self-else-is_spent
invariant_of-self-else-is_spent c =
    let there = subst (λ (b : BoundedWorld). CountsFrom b.world c.args.id c.args.key c.args.from) (sym c.self.view_is) c.requires.there in
    let step = subst (λ (b : BoundedWorld). BareStep b.world c.requires.step.0 (with_phase b.world c.args.id c.args.key c.args.phase)) (sym c.self.view_is) c.requires.step.1 in
    let at = counts_at _ _ _ _ _ _ c.held.result c.self.invariant there c.requires.holds c.held.ensures.known in
    let h : c.with-counts.result.holds + tally (not (is_spent c.args.from)) ≡ c.held.result.holds + tally (not (is_spent c.args.phase)) = omega (arith, c.with-counts.ensures.holds, c.without.ensures.holds) in
    let r : c.with-counts.result.references + tally (has_reference c.args.from) ≡ c.held.result.references + tally (has_reference c.args.phase) = omega (arith, c.with-counts.ensures.references, c.without.ensures.references) in
    let i : c.with-counts.result.hiders + tally (is_hiding c.args.from) ≡ c.held.result.hiders + tally (is_hiding c.args.phase) = omega (arith, c.with-counts.ensures.hiders, c.without.ensures.hiders) in
    let same : c.index_mut.result.now.key ≡ c.args.key = key_read c.self.inside.callers.items c.args.id c.index_mut.result.now c.args.key there.0 c.index_mut.ensures.value there.1 in
    rw same (rw c.set_held.ensures.set
    (held_kept _ c.args.id c.args.key c.args.from c.args.phase _ c.held.result c.with-counts.result _ c.self.invariant c.requires.step.0 step there c.requires.holds (sym c.is_spent.ensures.known ∙ c.if-is_spent.false) at h r i))

pub returns-then-is_spent : goal.returns-then-is_spent
returns-then-is_spent c =
    let there = subst (λ (b : BoundedWorld). CountsFrom b.world c.args.id c.args.key c.args.from) (sym c.self.view_is) c.requires.there in
    let same : c.index_mut.result.now.key ≡ c.args.key = key_read c.self.inside.callers.items c.args.id c.index_mut.result.now c.args.key there.0 c.index_mut.ensures.value there.1 in
    rw same (ap (λ (b : BoundedWorld). bounded (with_phase b.world c.args.id c.args.key c.args.phase) b.limit) c.self.view_is)

pub returns-else-is_spent : goal.returns-else-is_spent
returns-else-is_spent c =
    let there = subst (λ (b : BoundedWorld). CountsFrom b.world c.args.id c.args.key c.args.from) (sym c.self.view_is) c.requires.there in
    let same : c.index_mut.result.now.key ≡ c.args.key = key_read c.self.inside.callers.items c.args.id c.index_mut.result.now c.args.key there.0 c.index_mut.ensures.value there.1 in
    rw same (ap (λ (b : BoundedWorld). bounded (with_phase b.world c.args.id c.args.key c.args.phase) b.limit) c.self.view_is)
