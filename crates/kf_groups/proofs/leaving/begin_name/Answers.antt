use Rattle.std.proofs.Common.{rules}
use Rattle.kf_groups.proofs.Leavings.{key_refused}
use Rattle.kf_groups.proofs.leaving.begin_name.Goals as goal

pub returns-clause-why : goal.returns-clause-why
returns-clause-why g c =
    key_refused _ c.args.editor.now c.args.dir c.args.name.now c.in_ok-key.key c.begin_removal_of.result c.state.ensures.whole
    (search rules) c.begin_removal_of.ensures.refused
