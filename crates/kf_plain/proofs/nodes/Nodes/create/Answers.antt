use Rattle.std.proofs.Common.{refl, ap, ◌∙◌, slice_set, true, false}
use Rattle.kf_core.specs.Bare.{BareWorld}
use Rattle.kf_plain.proofs.Ties.{seen_next, seen_after, seen_last, fresh_born, tied_born, tied_born_live, last_born, last_born_live, log_after, logs, logs_live}
use Rattle.kf_plain.proofs.HiddenMarks.{told_after, told_created}
use Rattle.kf_plain.proofs.nodes.Nodes.create.Goals as goal

pub born-requires : goal.born-requires
born-requires c = record { may = seen_next c.args.self.now c.self.inside.state c.self.inside.world c.args.next c.in_ok-key.key c.self.view_is c.requires.next c.in_ok-key.ensures.given c.self.invariant.0 }

pub activate-requires : goal.activate-requires
activate-requires c =
    let may = seen_next c.args.self.now c.self.inside.state c.self.inside.world c.args.next c.in_ok-key.key c.self.view_is c.requires.next c.in_ok-key.ensures.given c.self.invariant.0 in
    let born = (c.born.ensures.step c.args.parent c.args.name.now c.args.node).steps.1 in
    record { may = (_, (fresh_born c.self.inside.state c.create.new.self c.self.inside.world.world c.born.new.self.world c.in_ok-key.key c.args.parent c.args.name.now c.args.node c.self.invariant.0 may born, refl)) }

pub invariant_of-self-then-is_live : goal.invariant_of-self-then-is_live
invariant_of-self-then-is_live c =
    let may = seen_next c.args.self.now c.self.inside.state c.self.inside.world c.args.next c.in_ok-key.key c.self.view_is c.requires.next c.in_ok-key.ensures.given c.self.invariant.0 in
    let born = (c.born.ensures.step c.args.parent c.args.name.now c.args.node).steps.1 in
    let log = logs_live c.self.inside.state c.create.new.self c.in_ok-key.key c.args.parent c.args.name.now c.args.node c.args.is_live true c.if-is_live.true (logs c.in_ok-key.ensures.accepted) in (
      tied_born_live c.self.inside.state c.create.new.self c.self.inside.world.world c.born.new.self.world c.in_ok-key.key c.args.parent c.args.name.now c.args.node c.self.invariant.0 may born
          c.activate.new.self.world c.activate.ensures.step.steps.1 log,
      told_after c.self.inside.state c.create.new.self c.activate.new.self.world _ log
          (told_created c.self.inside.state.tree c.self.inside.world.world c.self.invariant.1 c.activate.new.self.world c.in_ok-key.key c.args.parent c.args.name.now c.args.node true
          (ap (λ (w : BareWorld). w.callers) c.activate.ensures.step.steps.1 ∙ ap (λ (w : BareWorld). w.callers) born) may.unheld),
    )

pub invariant_of-self-else-is_live : goal.invariant_of-self-else-is_live
invariant_of-self-else-is_live c =
    let may = seen_next c.args.self.now c.self.inside.state c.self.inside.world c.args.next c.in_ok-key.key c.self.view_is c.requires.next c.in_ok-key.ensures.given c.self.invariant.0 in
    let born = (c.born.ensures.step c.args.parent c.args.name.now c.args.node).steps.1 in
    let log = logs_live c.self.inside.state c.create.new.self c.in_ok-key.key c.args.parent c.args.name.now c.args.node c.args.is_live false c.if-is_live.false (logs c.in_ok-key.ensures.accepted) in (
      tied_born c.self.inside.state c.create.new.self c.self.inside.world.world c.born.new.self.world c.in_ok-key.key c.args.parent c.args.name.now c.args.node c.self.invariant.0 may born log,
      told_after c.self.inside.state c.create.new.self c.born.new.self.world _ log
          (told_created c.self.inside.state.tree c.self.inside.world.world c.self.invariant.1 c.born.new.self.world c.in_ok-key.key c.args.parent c.args.name.now c.args.node false
          (ap (λ (w : BareWorld). w.callers) born) may.unheld),
    )

pub returns-then-is_live-clause-made : goal.returns-then-is_live-clause-made
returns-then-is_live-clause-made c =
    let may = seen_next c.args.self.now c.self.inside.state c.self.inside.world c.args.next c.in_ok-key.key c.self.view_is c.requires.next c.in_ok-key.ensures.given c.self.invariant.0 in
    let born = c.born.ensures.step c.args.parent c.args.name.now c.args.node in
    let key = c.in_ok-key.key in
    seen_after c.args.self.now c.self.inside.state c.create.new.self c.self.inside.world c.activate.new.self _ _ c.self.view_is
    (log_after c.self.inside.state c.create.new.self _ (logs c.in_ok-key.ensures.accepted))
    (last_born_live c.self.inside.state c.create.new.self c.self.inside.world.world c.born.new.self.world key c.args.parent c.args.name.now c.args.node c.self.invariant.0 may born.steps.1 c.activate.new.self.world c.activate.ensures.step.steps.1
    ∙ ap (λ xs. slice_set xs key.slot key.generation) (seen_last c.args.self.now c.self.inside.state c.self.inside.world c.self.view_is))
    (c.activate.ensures.step.limit ∙ born.limit)
    (ap (λ (w : BareWorld). w.callers) c.activate.ensures.step.steps.1 ∙ ap (λ (w : BareWorld). w.callers) born.steps.1)

pub returns-else-is_live-clause-made : goal.returns-else-is_live-clause-made
returns-else-is_live-clause-made c =
    let may = seen_next c.args.self.now c.self.inside.state c.self.inside.world c.args.next c.in_ok-key.key c.self.view_is c.requires.next c.in_ok-key.ensures.given c.self.invariant.0 in
    let born = c.born.ensures.step c.args.parent c.args.name.now c.args.node in
    let key = c.in_ok-key.key in
    seen_after c.args.self.now c.self.inside.state c.create.new.self c.self.inside.world c.born.new.self _ _ c.self.view_is
    (log_after c.self.inside.state c.create.new.self _ (logs c.in_ok-key.ensures.accepted))
    (last_born c.self.inside.state c.create.new.self c.self.inside.world.world c.born.new.self.world key c.args.parent c.args.name.now c.args.node c.self.invariant.0 may born.steps.1
    ∙ ap (λ xs. slice_set xs key.slot key.generation) (seen_last c.args.self.now c.self.inside.state c.self.inside.world c.self.view_is))
    born.limit
    (ap (λ (w : BareWorld). w.callers) born.steps.1)
