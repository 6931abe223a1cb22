use Rattle.std.proofs.Common.{take, refl, sym, subst}
use Rattle.std.proofs.lemmas.List.{take_more, take_all}
use Rattle.kf_tree.specs.SlotMarks.{Changed, risen_if}
use Rattle.kf_tree.proofs.MarkChanges.{risen_marking, changed_none, changed_more, changed_linked}
use Rattle.kf_shared.proofs.Ties.{only_after}
use Rattle.kf_shared.proofs.marking.rise_each.Goals as goal

pub loop-key-init : goal.loop-key-init
loop-key-init c = (changed_none risen_if risen_marking c.args.master.now.view.slots, record { table = refl; nodes = refl; slots = refl; history = refl })

pub rise_one-requires : goal.rise_one-requires
rise_one-requires c = record {
  linked = changed_linked risen_if risen_marking (take c.loop-key.key-index c.args.keys.now) c.args.master.now.view.slots c.loop-key.master.view.slots _ c.loop-key.invariant.0 (c.requires.linked c.loop-key.key-index (record { slot = 0; generation = 0 }) c.loop-key-test.true);
}

pub loop-key-preserved : goal.loop-key-preserved
loop-key-preserved c = (
  subst (λ ks. Changed risen_if ks c.args.master.now.view.slots c.rise_one.new.master.view.slots) (sym (take_more c.args.keys.now c.loop-key.key-index (record { slot = 0; generation = 0 }) c.loop-key-test.true))
      (changed_more risen_if risen_marking (take c.loop-key.key-index c.args.keys.now) _ c.args.master.now.view.slots c.loop-key.master.view.slots c.rise_one.new.master.view.slots c.loop-key.invariant.0 c.rise_one.ensures.marks),
  only_after c.args.master.now c.loop-key.master c.rise_one.new.master c.loop-key.invariant.1 c.rise_one.ensures.only,
)

pub returns-clause-marks : goal.returns-clause-marks
returns-clause-marks c = subst (λ ks. Changed risen_if ks c.args.master.now.view.slots c.loop-key.master.view.slots) (take_all c.loop-key.key-index c.args.keys.now c.loop-key-test.false) c.loop-key.invariant.0

pub returns-clause-only : goal.returns-clause-only
returns-clause-only c = c.loop-key.invariant.1
