use Rattle.kf_registry.proofs.Refusals.{not_stood}
use Rattle.kf_registry.proofs.registry.Registry.exchange.Goals as goal

pub returns-in-Err-clause-refused : goal.returns-in-Err-clause-refused
returns-in-Err-clause-refused g c = c.in-Err.ensures.refused c.args.name.now

pub returns-in-Err-stand-clause-refused : goal.returns-in-Err-stand-clause-refused
returns-in-Err-stand-clause-refused g c =
    let m = c.in-Ok.ensures.moved in
    not_stood c.args.editor.now c.move_away.new.editor c.args.path.now m.0 c.args.name.now c.in-Ok.old c.in-Err-stand.why m.1 c.in-Err-stand.ensures.refused
