use Rattle.std.proofs.Common.{refl, ap, ◌∙◌}
use Rattle.kf_world.proofs.WorldVisits.{alone}
use Rattle.kf_plain.proofs.Callers.{waits_inside}
use Rattle.kf_plain.proofs.BoardVisits.{visited, to_live, either_way, live_seen, tied_slots, seen_same, seen_waits, can_try, reads_by, reads_visit}
use Rattle.std.proofs.Common.{ℕ}
use Rattle.kf_pages.specs.Held.{Held}
use Rattle.kf_plain.specs.declared.nodes.visits.BoardFile.{BoardFile}
use Rattle.kf_plain.proofs.HiddenMarks.{told_by, hiders_waiting}
use Rattle.kf_plain.proofs.nodes.Nodes.read.Goals as goal

pub prepare-requires : goal.prepare-requires
prepare-requires c = record { may_enter = can_try c.args.self.now c.self.inside.state c.self.inside.world c.args.file.now.file.hold c.args.file.now.key c.self.view_is c.requires.waits }

pub invariant_of-self : goal.invariant_of-self
invariant_of-self c =
    let waits = waits_inside c.args.self.now c.self.inside.state c.self.inside.world c.args.file.now.file.hold c.args.file.now.key c.self.view_is c.requires.waits in
    let v = reads_visit _ _ c.args.file.now.file.state c.args.offset 0 c.prepare.new.self.state (c.prepare.ensures.reads 0) in
    let a = alone _ _ c.self.inside.world c.prepare.new.guard c.args.file.now.file.hold _ c.args.file.now.key waits.phase v.0 waits.there v.1 in
    let seen = visited c.self.inside.world c.args.file.now.file.hold c.args.file.now.key c.prepare.new.guard _ _ v.0 a.1 in (
      tied_slots c.self.inside.state c.self.inside.world.world c.prepare.new.guard.world c.self.invariant.0 seen.slots,
      told_by c.self.inside.state.tree c.self.inside.world.world c.prepare.new.guard.world (hiders_waiting c.self.inside.world.world.callers c.args.file.now.file.hold c.args.file.now.key c.prepare.new.guard.world.callers waits seen.callers) c.self.invariant.1,
    )

pub returns-clause-reads : goal.returns-clause-reads
returns-clause-reads c = λ count.
    let waits = waits_inside c.args.self.now c.self.inside.state c.self.inside.world c.args.file.now.file.hold c.args.file.now.key c.self.view_is c.requires.waits in
    reads_by _ _
    (λ v h. to_live c.self.inside.world c.args.file.now.file.hold c.args.file.now.key c.prepare.new.guard _ _ _ _ _ v (live_seen c.args.self.now c.self.inside.state c.self.inside.world c.args.file.now.key c.self.view_is c.self.invariant.0 c.self.invariant.1) (λ i. tt) (λ d h. (h.0.0, (h.1.0, refl)))
    (alone _ _ c.self.inside.world c.prepare.new.guard c.args.file.now.file.hold _ c.args.file.now.key waits.phase v waits.there h).1)
    _ c.args.file.now.file.state c.args.offset count c.prepare.new.self.state (c.prepare.ensures.reads count)

pub returns-clause-same_file : goal.returns-clause-same_file
returns-clause-same_file c =
    let waits = waits_inside c.args.self.now c.self.inside.state c.self.inside.world c.args.file.now.file.hold c.args.file.now.key c.self.view_is c.requires.waits in
    let v = reads_visit _ _ c.args.file.now.file.state c.args.offset 0 c.prepare.new.self.state (c.prepare.ensures.reads 0) in
    let a = alone _ _ c.self.inside.world c.prepare.new.guard c.args.file.now.file.hold _ c.args.file.now.key waits.phase v.0 waits.there v.1 in
    ap (λ (f : Held ℕ). let b : BoardFile = record { key = c.args.file.now.key; file = f } in b)
    (c.prepare.ensures.same ∙ ap (λ (h : ℕ). let f : Held ℕ = record { hold = h; tag = c.args.file.now.file.tag; state = c.prepare.new.self.state } in f) a.0)

pub returns-clause-same_texts : goal.returns-clause-same_texts
returns-clause-same_texts c =
    let waits = waits_inside c.args.self.now c.self.inside.state c.self.inside.world c.args.file.now.file.hold c.args.file.now.key c.self.view_is c.requires.waits in
    let v = reads_visit _ _ c.args.file.now.file.state c.args.offset 0 c.prepare.new.self.state (c.prepare.ensures.reads 0) in
    let a = alone _ _ c.self.inside.world c.prepare.new.guard c.args.file.now.file.hold _ c.args.file.now.key waits.phase v.0 waits.there v.1 in
    (either_way c.self.inside.world c.args.file.now.file.hold c.args.file.now.key c.prepare.new.guard _ _ v.0 (λ d h. (h.1.1, h.0.1)) a.1).0

pub returns-clause-same : goal.returns-clause-same
returns-clause-same c =
    let waits = waits_inside c.args.self.now c.self.inside.state c.self.inside.world c.args.file.now.file.hold c.args.file.now.key c.self.view_is c.requires.waits in
    let v = reads_visit _ _ c.args.file.now.file.state c.args.offset 0 c.prepare.new.self.state (c.prepare.ensures.reads 0) in
    let a = alone _ _ c.self.inside.world c.prepare.new.guard c.args.file.now.file.hold _ c.args.file.now.key waits.phase v.0 waits.there v.1 in
    let visit = visited c.self.inside.world c.args.file.now.file.hold c.args.file.now.key c.prepare.new.guard _ _ v.0 a.1 in
    seen_same c.args.self.now c.self.inside.state c.self.inside.world c.prepare.new.guard c.self.view_is visit.slots visit.limit

pub returns-clause-waiting : goal.returns-clause-waiting
returns-clause-waiting c =
    let waits = waits_inside c.args.self.now c.self.inside.state c.self.inside.world c.args.file.now.file.hold c.args.file.now.key c.self.view_is c.requires.waits in
    let v = reads_visit _ _ c.args.file.now.file.state c.args.offset 0 c.prepare.new.self.state (c.prepare.ensures.reads 0) in
    let a = alone _ _ c.self.inside.world c.prepare.new.guard c.args.file.now.file.hold _ c.args.file.now.key waits.phase v.0 waits.there v.1 in
    seen_waits c.args.self.now c.self.inside.state c.self.inside.world c.args.file.now.file.hold c.args.file.now.key _ c.self.view_is (visited c.self.inside.world c.args.file.now.file.hold c.args.file.now.key c.prepare.new.guard _ _ v.0 a.1).callers
