use Rattle.std.proofs.Common.{[], ◌∷◌, ◌∙◌, take, refl, sym, subst, slice_index_or}
use Rattle.std.proofs.lemmas.List.{take_more, take_all}
use Rattle.kf_core.specs.declared.key.Key.{Key}
use Rattle.kf_core.specs.Bare.{BareWorld}
use Rattle.kf_tree.specs.SlotMarks.{Changed, doomed_if}
use Rattle.kf_tree.proofs.MarkChanges.{doomed_marking, changed_none, changed_more, changed_one}
use Rattle.kf_plain.proofs.Marking.{still_marked, only_same, only_after, only_marked, same_mark}
use Rattle.kf_plain.proofs.nodes.subtrees.doom_each.Goals as goal

abbrev none : Key
none = record { slot = 0; generation = 0 }

pub loop-key-init : goal.loop-key-init
loop-key-init c = (changed_none doomed_if doomed_marking c.args.world.now.world.slots, only_same c.args.world.now)

pub doom-requires : goal.doom-requires
doom-requires c =
    let mark = c.requires.undoomed c.loop-key.key-index none c.loop-key-test.true in
    record { may = (_, (mark.0, still_marked doomed_if doomed_marking c.args.keys.now c.loop-key.key-index none c.args.world.now.world c.loop-key.world.world mark.0 c.requires.different c.loop-key-test.true c.loop-key.invariant.0 mark.1, mark.2, refl)) }

pub loop-key-preserved : goal.loop-key-preserved
loop-key-preserved c =
    let i = c.loop-key.key-index in
    let key = slice_index_or c.args.keys.now i none in
    let mark = c.requires.undoomed i none c.loop-key-test.true in
    let was = still_marked doomed_if doomed_marking c.args.keys.now i none c.args.world.now.world c.loop-key.world.world mark.0 c.requires.different c.loop-key-test.true c.loop-key.invariant.0 mark.1 in
    let step = c.doom.ensures.step.steps in
    let new = step.3 ∙ same_mark c.loop-key.world.world key step.0 mark.0 step.1 was in (
      subst (λ ks. Changed doomed_if ks c.args.world.now.world.slots c.doom.new.self.world.slots) (sym (take_more c.args.keys.now i none c.loop-key-test.true))
          (changed_more doomed_if doomed_marking (take i c.args.keys.now) key c.args.world.now.world.slots c.loop-key.world.world.slots c.doom.new.self.world.slots c.loop-key.invariant.0
          (subst (λ (v : BareWorld). Changed doomed_if (key ∷ []) c.loop-key.world.world.slots v.slots) (sym new) (changed_one doomed_if doomed_marking c.loop-key.world.world.slots key mark.0 was))),
      only_after c.args.world.now c.loop-key.world c.doom.new.self c.loop-key.invariant.1
          (only_marked c.loop-key.world c.doom.new.self key mark.0 _ was new c.doom.ensures.step.limit),
    )

pub returns-clause-doomed : goal.returns-clause-doomed
returns-clause-doomed c = subst (λ ks. Changed doomed_if ks c.args.world.now.world.slots c.loop-key.world.world.slots) (take_all c.loop-key.key-index c.args.keys.now c.loop-key-test.false) c.loop-key.invariant.0

pub returns-clause-only : goal.returns-clause-only
returns-clause-only c = c.loop-key.invariant.1
