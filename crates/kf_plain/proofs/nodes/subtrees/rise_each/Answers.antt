use Rattle.std.proofs.Common.{[], ◌∷◌, Some, take, refl, sym, subst, slice_index_or}
use Rattle.std.proofs.lemmas.List.{take_more, take_all}
use Rattle.kf_core.specs.declared.key.Key.{Key}
use Rattle.kf_core.specs.Bare.{BareWorld}
use Rattle.kf_core.specs.Marks.{fresh_marks, live_marks}
use Rattle.kf_tree.specs.SlotMarks.{Changed, risen_if}
use Rattle.kf_tree.proofs.MarkChanges.{risen_marking, changed_none, changed_more, changed_one}
use Rattle.kf_plain.proofs.Marking.{still_marked, only_same, only_after, only_marked}
use Rattle.kf_plain.proofs.nodes.subtrees.rise_each.Goals as goal

abbrev none : Key
none = record { slot = 0; generation = 0 }

pub loop-key-init : goal.loop-key-init
loop-key-init c = (changed_none risen_if risen_marking c.args.world.now.world.slots, only_same c.args.world.now)

pub activate-requires : goal.activate-requires
activate-requires c = record { may = (_, (still_marked risen_if risen_marking c.args.keys.now c.loop-key.key-index none c.args.world.now.world c.loop-key.world.world fresh_marks c.requires.different c.loop-key-test.true c.loop-key.invariant.0 (c.requires.fresh c.loop-key.key-index none c.loop-key-test.true), refl)) }

pub loop-key-preserved : goal.loop-key-preserved
loop-key-preserved c =
    let i = c.loop-key.key-index in
    let key = slice_index_or c.args.keys.now i none in
    let was = still_marked risen_if risen_marking c.args.keys.now i none c.args.world.now.world c.loop-key.world.world fresh_marks c.requires.different c.loop-key-test.true c.loop-key.invariant.0 (c.requires.fresh i none c.loop-key-test.true) in (
      subst (λ ks. Changed risen_if ks c.args.world.now.world.slots c.activate.new.self.world.slots) (sym (take_more c.args.keys.now i none c.loop-key-test.true))
          (changed_more risen_if risen_marking (take i c.args.keys.now) key c.args.world.now.world.slots c.loop-key.world.world.slots c.activate.new.self.world.slots c.loop-key.invariant.0
          (subst (λ (v : BareWorld). Changed risen_if (key ∷ []) c.loop-key.world.world.slots v.slots) (sym c.activate.ensures.step.steps.1) (changed_one risen_if risen_marking c.loop-key.world.world.slots key fresh_marks was))),
      only_after c.args.world.now c.loop-key.world c.activate.new.self c.loop-key.invariant.1
          (only_marked c.loop-key.world c.activate.new.self key fresh_marks (Some live_marks) was c.activate.ensures.step.steps.1 c.activate.ensures.step.limit),
    )

pub returns-clause-risen : goal.returns-clause-risen
returns-clause-risen c = subst (λ ks. Changed risen_if ks c.args.world.now.world.slots c.loop-key.world.world.slots) (take_all c.loop-key.key-index c.args.keys.now c.loop-key-test.false) c.loop-key.invariant.0

pub returns-clause-only : goal.returns-clause-only
returns-clause-only c = c.loop-key.invariant.1
