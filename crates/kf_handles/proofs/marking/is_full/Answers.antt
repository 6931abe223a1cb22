use Rattle.std.proofs.Common.{◌≡◌, rules, subst}
use Rattle.kf_core.specs.declared.refusal.Refusal.TheVariants.{TooManyHolds}
use Rattle.kf_shared.specs.Locked.{HoldRefused}
use Rattle.kf_handles.proofs.Refusals.{full_of}
use Rattle.kf_handles.proofs.marking.is_full.Goals as goal

pub returns-in-Err-clause-full : goal.returns-in-Err-clause-full
returns-in-Err-clause-full g c = λ full.
    let many : c.in-Err.refusal ≡ TooManyHolds = search (rules, full) in
    full_of c.args.locked.now c.hold.new.self c.args.key
    (subst (λ why. HoldRefused c.args.locked.now c.hold.new.self c.args.key why) many c.in-Err.ensures.refused)
