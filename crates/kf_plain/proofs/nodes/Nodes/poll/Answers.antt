use Rattle.kf_core.specs.Calls.{tried}
use Rattle.kf_world.proofs.WorldVisits.{alone}
use Rattle.kf_plain.proofs.Callers.{waits_inside}
use Rattle.kf_plain.proofs.BoardVisits.{visited, tied_slots, to_live, live_seen, seen_waits, can_try}
use Rattle.kf_plain.proofs.HiddenMarks.{told_by, hiders_waiting}
use Rattle.kf_plain.proofs.nodes.Nodes.poll.Goals as goal

pub poll-requires : goal.poll-requires
poll-requires c = record { may_enter = can_try c.args.self.now c.self.inside.state c.self.inside.world c.args.file.now.file.hold c.args.file.now.key c.self.view_is c.requires.waits }

pub invariant_of-self : goal.invariant_of-self
invariant_of-self c =
    let waits = waits_inside c.args.self.now c.self.inside.state c.self.inside.world c.args.file.now.file.hold c.args.file.now.key c.self.view_is c.requires.waits in
    let polls = c.poll.ensures.polls in
    let a = alone _ _ c.self.inside.world c.poll.new.guard c.args.file.now.file.hold _ c.args.file.now.key waits.phase (tried polls.0) waits.there polls.1 in
    let seen = visited c.self.inside.world c.args.file.now.file.hold c.args.file.now.key c.poll.new.guard _ _ (tried polls.0) a.1 in (
      tied_slots c.self.inside.state c.self.inside.world.world c.poll.new.guard.world c.self.invariant.0 seen.slots,
      told_by c.self.inside.state.tree c.self.inside.world.world c.poll.new.guard.world (hiders_waiting c.self.inside.world.world.callers c.args.file.now.file.hold c.args.file.now.key c.poll.new.guard.world.callers waits seen.callers) c.self.invariant.1,
    )

pub returns-clause-polls : goal.returns-clause-polls
returns-clause-polls c =
    let waits = waits_inside c.args.self.now c.self.inside.state c.self.inside.world c.args.file.now.file.hold c.args.file.now.key c.self.view_is c.requires.waits in
    let polls = c.poll.ensures.polls in
    let a = alone _ _ c.self.inside.world c.poll.new.guard c.args.file.now.file.hold _ c.args.file.now.key waits.phase (tried polls.0) waits.there polls.1 in
    (polls.0, to_live c.self.inside.world c.args.file.now.file.hold c.args.file.now.key c.poll.new.guard _ _ _ _ _ (tried polls.0) (live_seen c.args.self.now c.self.inside.state c.self.inside.world c.args.file.now.key c.self.view_is c.self.invariant.0 c.self.invariant.1) (λ i. tt) (λ d h. h.0) a.1, polls.2)

pub returns-clause-waiting : goal.returns-clause-waiting
returns-clause-waiting c =
    let waits = waits_inside c.args.self.now c.self.inside.state c.self.inside.world c.args.file.now.file.hold c.args.file.now.key c.self.view_is c.requires.waits in
    let polls = c.poll.ensures.polls in
    let a = alone _ _ c.self.inside.world c.poll.new.guard c.args.file.now.file.hold _ c.args.file.now.key waits.phase (tried polls.0) waits.there polls.1 in
    seen_waits c.args.self.now c.self.inside.state c.self.inside.world c.args.file.now.file.hold c.args.file.now.key _ c.self.view_is (visited c.self.inside.world c.args.file.now.file.hold c.args.file.now.key c.poll.new.guard _ _ (tried polls.0) a.1).callers
