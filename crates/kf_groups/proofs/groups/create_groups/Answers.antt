use Rattle.std.proofs.Common.{◌≡◌, ◌∙◌, ap, sym}
use Rattle.std.specs.Prelude.{None}
use Rattle.kf_tree.specs.TreeLogs.{TreeLog}
use Rattle.kf_groups.specs.Groups.{groups_cause}
use Rattle.kf_groups.proofs.Several.{groups_refused}
use Rattle.kf_groups.proofs.groups.create_groups.Goals as goal

pub returns-clause-refused : goal.returns-clause-refused
returns-clause-refused g c =
    let free : groups_cause c.args.editor.now.state.tree c.args.editor.now.state.root c.args.dir c.args.groups.now ≡ None =
    ap (λ (s : TreeLog). groups_cause s.tree s.root c.args.dir c.args.groups.now) (sym c.state.ensures.same) ∙ sym c.in_default.ensures.first in
    groups_refused c.make_groups.result c.args.editor.now c.make_groups.new.editor c.args.dir c.args.groups.now free
    c.make_groups.ensures.others c.make_groups.ensures.refused
