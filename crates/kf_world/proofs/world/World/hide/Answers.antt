-- The caller waits, and nobody hides its node.
use Rattle.std.proofs.Common.{◌≡◌, ap, sym, ◌∙◌, refl, subst, not, true}
use Rattle.kf_core.specs.declared.event.Event.TheVariants.{Hide}
use Rattle.kf_core.specs.Bare.{is_hidden}
use Rattle.kf_core.specs.Phases.{is_waiting}
use Rattle.kf_world.specs.Bounded.{BoundedWorld}
use Rattle.kf_core.proofs.Keeping.{one_key}
use Rattle.kf_world.proofs.Events.{found, happens}
use Rattle.kf_world.proofs.Kept.{waiting_counts}
use Rattle.kf_world.proofs.world.World.hide.Goals as goal

pub put_phase-requires-clause-there : goal.put_phase-requires-clause-there
put_phase-requires-clause-there c =
    let is = found _ _ c.args.id c.index.result.now _ (ap (λ (b : BoundedWorld). b.world.callers) c.self.view_is) c.index.ensures c.requires.waits.2 in
    let waits = subst (λ p. is_waiting p ≡ true) (one_key c.args.self.now.world c.args.id c.requires.waits.0 c.index.result.now.key c.requires.waits.1 c.index.result.now.phase c.requires.waits.2 is).1 c.requires.waits.3 in
    (c.index.result.now.phase, is, waiting_counts c.index.result.now.phase waits)

pub put_phase-requires-clause-step : goal.put_phase-requires-clause-step
put_phase-requires-clause-step c =
    let is = found _ _ c.args.id c.index.result.now _ (ap (λ (b : BoundedWorld). b.world.callers) c.self.view_is) c.index.ensures c.requires.waits.2 in
    let waits = subst (λ p. is_waiting p ≡ true) (one_key c.args.self.now.world c.args.id c.requires.waits.0 c.index.result.now.key c.requires.waits.1 c.index.result.now.phase c.requires.waits.2 is).1 c.requires.waits.3 in
    (Hide c.args.id, (record { key = c.index.result.now.key; phase = c.index.result.now.phase; there = is; waits = waits; shown = sym c.is_hidden.ensures ∙ c.if-is_hidden.false }, refl))

pub returns-clause-step : goal.returns-clause-step
returns-clause-step c =
    let is = found _ _ c.args.id c.index.result.now _ (ap (λ (b : BoundedWorld). b.world.callers) c.self.view_is) c.index.ensures c.requires.waits.2 in
    let waits = subst (λ p. is_waiting p ≡ true) (one_key c.args.self.now.world c.args.id c.requires.waits.0 c.index.result.now.key c.requires.waits.1 c.index.result.now.phase c.requires.waits.2 is).1 c.requires.waits.3 in
    happens _ _ _ _ (record { key = c.index.result.now.key; phase = c.index.result.now.phase; there = is; waits = waits; shown = sym c.is_hidden.ensures ∙ c.if-is_hidden.false }, refl) c.put_phase.ensures

pub returns-clause-told : goal.returns-clause-told
returns-clause-told c key phase there =
    let is = found _ _ c.args.id c.index.result.now _ (ap (λ (b : BoundedWorld). b.world.callers) c.self.view_is) c.index.ensures there in
    ap not (sym c.if-is_hidden.false ∙ c.is_hidden.ensures ∙ ap (is_hidden c.args.self.now.world) (one_key c.args.self.now.world c.args.id c.index.result.now.key key c.index.result.now.phase phase is there).0)
