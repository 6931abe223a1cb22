use Rattle.std.proofs.Common.{rules}
use Rattle.kf_driver.proofs.Openings.{path_opened, path_refused}
use Rattle.kf_driver.proofs.files.open_path_on.Goals as goal

pub returns-clause-opened : goal.returns-clause-opened
returns-clause-opened g c =
    let hold = c.in_ok-hold.ensures.hold in
    path_opened _ _ _ c.in_ok-place.place c.in_ok-key.key _ _ c.in_ok-hold.hold _ (search rules) (search rules) hold.key_is hold.node
    c.open_held.ensures.held c.open_held.ensures.fresh c.open_held.ensures.new

pub returns-clause-refused : goal.returns-clause-refused
returns-clause-refused g c =
    let hold = c.in_ok-hold.ensures.hold in
    path_refused c.args.editor.now _ _ c.in_ok-place.place c.in_ok-key.key c.args.path.now _
    c.in_ok-hold.hold _ (search rules) (search rules) hold.key_is hold.node
    c.open_held.ensures.refused
