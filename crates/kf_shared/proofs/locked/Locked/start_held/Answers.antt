use Rattle.std.proofs.lemmas.Result.{err_from_is_err_and}
use Rattle.kf_shared.proofs.Told.{held_master}
use Rattle.kf_shared.proofs.Pins.{held_met}
use Rattle.kf_shared.proofs.locked.Locked.start_held.Goals as goal

pub invariant_of-self-2 : goal.invariant_of-self-2
invariant_of-self-2 g c = held_master g.N.Naming.table c.self.inside.state c.self.inside.master c.pin_held.new.self c.self.inside.claims.items c.self.invariant c.pin_held.ensures.kept

pub returns-in_err-hold-clause-refused : goal.returns-in_err-hold-clause-refused
returns-in_err-hold-clause-refused g c =
    let p = err_from_is_err_and c.from_residual.result c.from_residual.ensures.1 in
    rw p.1 (held_met c.self.inside.state.log c.self.inside.state.links c.self.inside.master c.pin_held.new.self c.self.inside.claims.items c.args.self.now c.args.call.now.key _ _ c.self.view_is p.2 c.requires.not_root c.in_err-hold.ensures.refused c.in_err-hold.ensures.full)
