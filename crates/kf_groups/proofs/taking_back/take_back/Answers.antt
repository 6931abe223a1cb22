use Rattle.std.proofs.Common.{arith, inr, length}
use Rattle.kf_shared.specs.Removal.{keys_of}
use Rattle.kf_tree.specs.Subtrees.{linked_count}
use Rattle.kf_groups.proofs.Counts.{doomed_count, one_gone, single}
use Rattle.kf_groups.proofs.Older.{took_older}
use Rattle.kf_groups.proofs.Unlinks.{took}
use Rattle.kf_groups.proofs.taking_back.take_back.Goals as goal

pub returns-clause-took : goal.returns-clause-took
returns-clause-took g c = inr (took c.args.editor.now c.doom.new.editor c.unlink_each-all.new.editor c.args.key _
    (keys_of c.in-Ok.holds.items) c.in-Ok.ensures.ordered c.in-Ok.ensures.done c.unlink_each-all.ensures.unlinked)

pub returns-clause-older : goal.returns-clause-older
returns-clause-older g c =
    took_older c.args.editor.now c.unlink_each-all.new.editor c.args.key
    (inr (took c.args.editor.now c.doom.new.editor c.unlink_each-all.new.editor c.args.key _
    (keys_of c.in-Ok.holds.items) c.in-Ok.ensures.ordered c.in-Ok.ensures.done c.unlink_each-all.ensures.unlinked))

pub returns-clause-counted : goal.returns-clause-counted
returns-clause-counted g c =
    one_gone (linked_count c.args.editor.now.state.tree) (linked_count c.doom.new.editor.state.tree)
    (linked_count c.unlink_each-all.new.editor.state.tree) (length c.in-Ok.holds.items) _ c.unlink_each-all.result
    (λ e. (let one = single c.len-alone.result e in omega (arith, one, c.len-alone.ensures, c.in-Ok.holds.ok.0))) c.unlink_each-all.ensures.counted
    (doomed_count c.args.editor.now.state c.doom.new.editor.state _ c.args.key c.in-Ok.ensures.done)
