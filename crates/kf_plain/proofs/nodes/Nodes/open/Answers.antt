use Rattle.std.proofs.Common.{refl, sym, ◌∙◌, inl, inr, Some, None, [], ◌∷◌}
use Rattle.kf_core.specs.declared.caller.Phase.TheVariants.{Still}
use Rattle.kf_core.specs.Calls.{tried}
use Rattle.kf_world.proofs.WorldVisits.{alone, may_enter}
use Rattle.kf_table.specs.Live.{live_in}
use Rattle.kf_plain.proofs.BoardVisits.{visited, opens_visit, opens_cause, told_live, pinned_there, opened_held, opened_may_release, tied_opened, told_opened, tied_given_back, told_given_back, given_back_seen, live_pinned, room_seen}
use Rattle.kf_plain.proofs.nodes.Nodes.open.Goals as goal

pub open-requires : goal.open-requires
open-requires c = record { may_enter = may_enter c.pin.new.self c.in_ok-id.id c.args.key Still (pinned_there c.self.inside.world c.in_ok-id.id c.args.key c.pin.new.self c.in_ok-id.ensures.step) refl }

pub release-requires : goal.release-requires
release-requires c =
    let v = opens_visit _ c.args.want _ c.args.node c.in-Err.ensures.opens in
    let a = alone _ _ c.pin.new.self c.open.new.guard c.in_ok-id.id c.in-Err.id c.args.key Still v.0 (pinned_there c.self.inside.world c.in_ok-id.id c.args.key c.pin.new.self c.in_ok-id.ensures.step) v.1 in
    let visit = visited c.pin.new.self c.in_ok-id.id c.args.key c.open.new.guard _ _ v.0 a.1 in
    record { may = opened_may_release c.args.self.now c.self.inside.state c.self.inside.world c.pin.new.self c.open.new.guard c.in_ok-id.id c.args.key c.self.view_is c.self.invariant.0 c.in_ok-id.ensures.step visit c.in-Err.id a.0 }

pub invariant_of-self-in-Err : goal.invariant_of-self-in-Err
invariant_of-self-in-Err c =
    let v = opens_visit _ c.args.want _ c.args.node c.in-Err.ensures.opens in
    let a = alone _ _ c.pin.new.self c.open.new.guard c.in_ok-id.id c.in-Err.id c.args.key Still v.0 (pinned_there c.self.inside.world c.in_ok-id.id c.args.key c.pin.new.self c.in_ok-id.ensures.step) v.1 in
    let visit = visited c.pin.new.self c.in_ok-id.id c.args.key c.open.new.guard _ _ v.0 a.1 in (
      tied_given_back c.args.self.now c.self.inside.state c.self.inside.world c.pin.new.self c.open.new.guard c.in_ok-id.id c.args.key c.self.view_is c.self.invariant.0 c.in_ok-id.ensures.step visit c.release.new.self c.in-Err.id a.0 c.release.ensures.step,
      told_given_back c.args.self.now c.self.inside.state c.self.inside.world c.pin.new.self c.open.new.guard c.in_ok-id.id c.args.key c.self.view_is c.self.invariant.0 c.in_ok-id.ensures.step visit c.release.new.self c.in-Err.id a.0 c.release.ensures.step c.self.invariant.1,
    )

pub invariant_of-self-in-Ok : goal.invariant_of-self-in-Ok
invariant_of-self-in-Ok c =
    let v = opens_visit _ c.args.want _ c.args.node c.in-Ok.ensures.opens in
    let a = alone _ _ c.pin.new.self c.open.new.guard c.in_ok-id.id _ c.args.key Still v.0 (pinned_there c.self.inside.world c.in_ok-id.id c.args.key c.pin.new.self c.in_ok-id.ensures.step) v.1 in
    let visit = visited c.pin.new.self c.in_ok-id.id c.args.key c.open.new.guard _ _ v.0 a.1 in (
      tied_opened c.args.self.now c.self.inside.state c.self.inside.world c.pin.new.self c.open.new.guard c.in_ok-id.id c.args.key c.self.view_is c.self.invariant.0 c.in_ok-id.ensures.step visit,
      told_opened c.args.self.now c.self.inside.state c.self.inside.world c.pin.new.self c.open.new.guard c.in_ok-id.id c.args.key c.self.view_is c.self.invariant.0 c.in_ok-id.ensures.step visit c.self.invariant.1,
    )

pub returns-in-Ok-clause-no_cause : goal.returns-in-Ok-clause-no_cause
returns-in-Ok-clause-no_cause c =
    let there = pinned_there c.self.inside.world c.in_ok-id.id c.args.key c.pin.new.self c.in_ok-id.ensures.step in
    sym (opens_cause _ c.args.want None (live_in c.args.self.now.log.tree c.args.key)
    (λ came h. told_live c.pin.new.self c.in_ok-id.id c.args.key c.open.new.guard _ _ came (alone _ _ c.pin.new.self c.open.new.guard c.in_ok-id.id _ c.args.key Still (tried came) there h).1
    ∙ live_pinned c.args.self.now c.self.inside.state c.self.inside.world c.pin.new.self c.in_ok-id.id c.args.key c.self.view_is c.self.invariant.0 c.self.invariant.1 c.in_ok-id.ensures.step)
    c.args.node c.in-Ok.ensures.opens)

pub returns-in-Ok-clause-held : goal.returns-in-Ok-clause-held
returns-in-Ok-clause-held c =
    let v = opens_visit _ c.args.want _ c.args.node c.in-Ok.ensures.opens in
    let a = alone _ _ c.pin.new.self c.open.new.guard c.in_ok-id.id _ c.args.key Still v.0 (pinned_there c.self.inside.world c.in_ok-id.id c.args.key c.pin.new.self c.in_ok-id.ensures.step) v.1 in
    let visit = visited c.pin.new.self c.in_ok-id.id c.args.key c.open.new.guard _ _ v.0 a.1 in
    opened_held c.args.self.now c.self.inside.state c.self.inside.world c.pin.new.self c.open.new.guard c.in_ok-id.id c.args.key c.self.view_is c.self.invariant.0 c.in_ok-id.ensures.step visit

pub returns-in-Err-clause-refused : goal.returns-in-Err-clause-refused
returns-in-Err-clause-refused c =
    let there = pinned_there c.self.inside.world c.in_ok-id.id c.args.key c.pin.new.self c.in_ok-id.ensures.step in
    let v = opens_visit _ c.args.want _ c.args.node c.in-Err.ensures.opens in
    let a = alone _ _ c.pin.new.self c.open.new.guard c.in_ok-id.id c.in-Err.id c.args.key Still v.0 there v.1 in
    let visit = visited c.pin.new.self c.in_ok-id.id c.args.key c.open.new.guard _ _ v.0 a.1 in
    let cause = opens_cause _ c.args.want (Some c.in-Err.refusal) (live_in c.args.self.now.log.tree c.args.key)
    (λ came h. told_live c.pin.new.self c.in_ok-id.id c.args.key c.open.new.guard _ _ came (alone _ _ c.pin.new.self c.open.new.guard c.in_ok-id.id _ c.args.key Still (tried came) there h).1
    ∙ live_pinned c.args.self.now c.self.inside.state c.self.inside.world c.pin.new.self c.in_ok-id.id c.args.key c.self.view_is c.self.invariant.0 c.self.invariant.1 c.in_ok-id.ensures.step)
    c.args.node c.in-Err.ensures.opens in (
      inr (inl (room_seen c.args.self.now c.self.inside.state c.self.inside.world c.args.key c.self.view_is c.in_ok-id.ensures.room, sym cause)),
      (c.args.key ∷ [], given_back_seen c.args.self.now c.self.inside.state c.self.inside.world c.pin.new.self c.open.new.guard c.in_ok-id.id c.args.key c.self.view_is c.self.invariant.0 c.in_ok-id.ensures.step visit c.release.new.self c.in-Err.id a.0 c.release.ensures.step),
    )
