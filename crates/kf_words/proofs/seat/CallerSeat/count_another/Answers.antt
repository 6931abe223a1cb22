use Rattle.std.proofs.Common.{◌≡◌, ℕ, suc, rules, arith, subst}
use Rattle.kf_words.specs.Callers.{sight_of}
use Rattle.kf_words.specs.Another.{WereOutrun}
use Rattle.kf_words.specs.TableSteps.{sees_holds}
use Rattle.kf_words.proofs.Waits.{outrun_missed}
use Rattle.kf_words.proofs.seat.CallerSeat.count_another.Goals as goal

pub returns-in-Ok-clause-counted : goal.returns-in-Ok-clause-counted
returns-in-Ok-clause-counted c =
    let more = c.loop-tries-test.true in
    (sight_of c.loop-tries.self, (c.loop-tries.tries, omega arith, omega arith, outrun_missed _ _ _ _ c.loop-tries.invariant.outrun), search rules)

pub returns-in-Err-None-clause-missed : goal.returns-in-Err-None-clause-missed
returns-in-Err-None-clause-missed c =
    let more = c.loop-tries-test.true in
    (suc c.loop-tries.tries, omega arith, omega arith, (sight_of c.loop-tries.self, outrun_missed _ _ _ _ c.loop-tries.invariant.outrun, c.in-Err-None.ensures.missed))

pub returns-clause-refused : goal.returns-clause-refused
returns-clause-refused c =
    let all : c.loop-tries.tries ≡ 64 = omega (arith, c.loop-tries-test.false, c.loop-tries.auto.tries-end) in
    subst (λ (n : ℕ). WereOutrun sees_holds n (sight_of c.args.self.now) (sight_of c.loop-tries.self)) all c.loop-tries.invariant.outrun

pub returns-clause-missed : goal.returns-clause-missed
returns-clause-missed c =
    let all : c.loop-tries.tries ≡ 64 = omega (arith, c.loop-tries-test.false, c.loop-tries.auto.tries-end) in
    (c.loop-tries.tries, omega arith, omega arith, outrun_missed _ _ _ _ c.loop-tries.invariant.outrun)
