use Rattle.std.proofs.Common.{◌≡◌, sym, rules}
use Rattle.std.specs.Prelude.{Ok}
use Rattle.kf_device.specs.Removals.{entry_at}
use Rattle.kf_device.proofs.Linked.{there_linked, there_slot}
use Rattle.kf_device.proofs.Refused.{holds_refused}
use Rattle.kf_device.proofs.removal.begin_at.Goals as goal

pub returns-in_err-begin_removal_of-in-Ok-clause-refused : goal.returns-in_err-begin_removal_of-in-Ok-clause-refused
returns-in_err-begin_removal_of-in-Ok-clause-refused g c =
    let state = c.args.editor.now.state in
    let whole = c.state.ensures.whole in
    let there : entry_at state c.args.path.now c.args.name.now ≡ Ok c.in-Ok.key = rw (← c.state.ensures.same) (sym c.in-Ok.ensures.told) in
    let linked = there_linked state c.args.path.now c.args.name.now c.in-Ok.key whole.kept there in
    let below = there_slot state c.args.path.now c.args.name.now c.in-Ok.key whole.kept whole.tied.root there in
    let why = holds_refused state c.in-Ok.key c.in_err-begin_removal_of-in-Ok.field-0.0 linked whole.tied.root below c.in_err-begin_removal_of-in-Ok.ensures.refused in
    search rules

pub returns-in_ok-begin_removal_of-in-Ok-clause-begun : goal.returns-in_ok-begin_removal_of-in-Ok-clause-begun
returns-in_ok-begin_removal_of-in-Ok-clause-begun g c =
    let there : entry_at c.args.editor.now.state c.args.path.now c.args.name.now ≡ Ok c.in-Ok.key = rw (← c.state.ensures.same) (sym c.in-Ok.ensures.told) in
    record {
      key = c.in-Ok.key;
      there = there;
      fit = rw (← c.state-in-Ok.ensures.same, ← c.fits.ensures.told) (search rules);
      ordered = c.in_ok-begin_removal_of-in-Ok.ensures.ordered;
      doomed = c.in_ok-begin_removal_of-in-Ok.ensures.done;
    }
