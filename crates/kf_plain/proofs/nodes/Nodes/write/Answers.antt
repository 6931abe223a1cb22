use Rattle.kf_world.proofs.WorldVisits.{alone}
use Rattle.kf_plain.proofs.Callers.{waits_inside}
use Rattle.kf_plain.proofs.BoardVisits.{visited, to_live, live_seen, tied_slots, seen_waits, can_try, writes_by, writes_visit}
use Rattle.kf_plain.proofs.HiddenMarks.{told_by, hiders_waiting}
use Rattle.kf_plain.proofs.nodes.Nodes.write.Goals as goal

pub write-requires : goal.write-requires
write-requires c = record { may_enter = can_try c.args.self.now c.self.inside.state c.self.inside.world c.args.file.now.file.hold c.args.file.now.key c.self.view_is c.requires.waits }

pub invariant_of-self : goal.invariant_of-self
invariant_of-self c =
    let waits = waits_inside c.args.self.now c.self.inside.state c.self.inside.world c.args.file.now.file.hold c.args.file.now.key c.self.view_is c.requires.waits in
    let v = writes_visit _ _ (λ v h. h) c.args.file.now.file.state c.write.result c.write.ensures.writes in
    let a = alone _ _ c.self.inside.world c.write.new.guard c.args.file.now.file.hold _ c.args.file.now.key waits.phase v.0 waits.there v.1 in
    let seen = visited c.self.inside.world c.args.file.now.file.hold c.args.file.now.key c.write.new.guard _ _ v.0 a.1 in (
      tied_slots c.self.inside.state c.self.inside.world.world c.write.new.guard.world c.self.invariant.0 seen.slots,
      told_by c.self.inside.state.tree c.self.inside.world.world c.write.new.guard.world (hiders_waiting c.self.inside.world.world.callers c.args.file.now.file.hold c.args.file.now.key c.write.new.guard.world.callers waits seen.callers) c.self.invariant.1,
    )

pub returns-clause-writes : goal.returns-clause-writes
returns-clause-writes c =
    let waits = waits_inside c.args.self.now c.self.inside.state c.self.inside.world c.args.file.now.file.hold c.args.file.now.key c.self.view_is c.requires.waits in
    writes_by _ _
    (λ v h. to_live c.self.inside.world c.args.file.now.file.hold c.args.file.now.key c.write.new.guard _ _ _ _ _ v (live_seen c.args.self.now c.self.inside.state c.self.inside.world c.args.file.now.key c.self.view_is c.self.invariant.0 c.self.invariant.1) (λ i. i) (λ d h. h)
    (alone _ _ c.self.inside.world c.write.new.guard c.args.file.now.file.hold _ c.args.file.now.key waits.phase v waits.there h).1)
    c.args.file.now.file.state c.write.result c.write.ensures.writes

pub returns-clause-waiting : goal.returns-clause-waiting
returns-clause-waiting c =
    let waits = waits_inside c.args.self.now c.self.inside.state c.self.inside.world c.args.file.now.file.hold c.args.file.now.key c.self.view_is c.requires.waits in
    let v = writes_visit _ _ (λ v h. h) c.args.file.now.file.state c.write.result c.write.ensures.writes in
    let a = alone _ _ c.self.inside.world c.write.new.guard c.args.file.now.file.hold _ c.args.file.now.key waits.phase v.0 waits.there v.1 in
    seen_waits c.args.self.now c.self.inside.state c.self.inside.world c.args.file.now.file.hold c.args.file.now.key _ c.self.view_is (visited c.self.inside.world c.args.file.now.file.hold c.args.file.now.key c.write.new.guard _ _ v.0 a.1).callers
