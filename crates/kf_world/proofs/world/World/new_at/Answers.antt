-- The opening world is sound.
use Rattle.std.proofs.Common.{◌∙◌, subst, sym}
use Rattle.kf_world.specs.Hints.{Covers}
use Rattle.kf_world.proofs.Kept.{opening_kept}
use Rattle.kf_world.proofs.world.World.new_at.Goals as goal

pub invariant_of-result : goal.invariant_of-result
invariant_of-result c =
    rw c.set.ensures.set (rw c.in_ok-slots.ensures.made (rw c.new-2.ensures.items (opening_kept c.slots-count.result c.args.start _ _ c.slots-count.ensures.few c.in_ok-new.ensures.made c.in_ok-new-2.ensures.looks
    (subst (Covers c.in_ok-new-2.field-0.taken) (c.slots.ensures.value ∙ sym c.slots-count.ensures.value) c.in_ok-new-2.ensures.covered))))
