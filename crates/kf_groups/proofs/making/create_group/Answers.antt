use Rattle.std.proofs.Common.{◌≡◌, ◌∙◌, ap, refl, sym}
use Rattle.std.specs.Prelude.{None}
use Rattle.kf_tree.specs.TreeLogs.{TreeLog}
use Rattle.kf_groups.specs.Attributes.{group_cause}
use Rattle.kf_groups.proofs.Invisible.{nothing_made}
use Rattle.kf_groups.proofs.Refusals.{directory_refused, in_place_refused}
use Rattle.kf_groups.proofs.making.create_group.Goals as goal

pub returns-in-Err-clause-refused : goal.returns-in-Err-clause-refused
returns-in-Err-clause-refused g c =
    let cause : group_cause c.args.editor.now.state.tree c.args.editor.now.state.root c.args.dir c.args.group.now ≡ None =
    ap (λ (s : TreeLog). group_cause s.tree s.root c.args.dir c.args.group.now) (sym c.state.ensures.same) ∙ sym c.in_default.ensures.first in
    in_place_refused c.args.editor.now c.make_files.new.editor c.args.dir c.args.group.now cause c.make_files.ensures.others
    c.in-Err.refusal (sym c.own_name.ensures.known ∙ c.in-None.is) c.in-Err.ensures.refused

pub returns-in-Some-own_name-clause-refused : goal.returns-in-Some-own_name-clause-refused
returns-in-Some-own_name-clause-refused g c =
    let cause : group_cause c.args.editor.now.state.tree c.args.editor.now.state.root c.args.dir c.args.group.now ≡ None =
    ap (λ (s : TreeLog). group_cause s.tree s.root c.args.dir c.args.group.now) (sym c.state.ensures.same) ∙ sym c.in_default.ensures.first in
    directory_refused c.args.editor.now c.make_directory.new.editor c.args.dir c.args.group.now cause c.make_directory.ensures.others
    c.make_directory.result c.in-Some-own_name.name (sym c.own_name.ensures.known ∙ c.in-Some-own_name.is) c.make_directory.ensures.refused

pub returns-in-Ok-clause-invisible : goal.returns-in-Ok-clause-invisible
returns-in-Ok-clause-invisible g c none =
    let made = c.in-Ok.ensures.made in
    (refl, nothing_made c.args.editor.now.state c.make_files.new.editor.state c.args.dir c.args.group.now.attributes.now made.0 none made.2)
