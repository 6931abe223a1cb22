use Rattle.std.proofs.Common.{◌≡◌, ℕ, suc, rules, arith, subst}
use Rattle.kf_words.specs.TableSteps.{sees_holds_at}
use Rattle.kf_words.specs.Callers.{sight_of}
use Rattle.kf_words.specs.Another.{WereOutrun}
use Rattle.kf_words.proofs.Waits.{outrun_missed, outrun_more}
use Rattle.kf_words.proofs.seat.CallerSeat.count_pin.Goals as goal

pub returns-in-Ok-clause-pinned : goal.returns-in-Ok-clause-pinned
returns-in-Ok-clause-pinned c =
    let more = c.loop-tries-test.true in
    (sight_of c.loop-tries.self, (c.loop-tries.tries, omega arith, omega arith, outrun_missed _ _ _ _ c.loop-tries.invariant.outrun), search rules)

pub returns-in-Err-Err-clause-missed : goal.returns-in-Err-Err-clause-missed
returns-in-Err-Err-clause-missed c =
    let more = c.loop-tries-test.true in
    (suc c.loop-tries.tries, omega arith, omega arith, (sight_of c.loop-tries.self, outrun_missed _ _ _ _ c.loop-tries.invariant.outrun, c.in-Err-Err.ensures.missed))

pub returns-clause-refused : goal.returns-clause-refused
returns-clause-refused c =
    let all : c.loop-tries.tries ≡ 64 = omega (arith, c.loop-tries-test.false, c.loop-tries.auto.tries-end) in
    subst (λ (n : ℕ). WereOutrun (sees_holds_at c.args.key.slot) n (sight_of c.args.self.now) (sight_of c.loop-tries.self)) all c.loop-tries.invariant.outrun

pub returns-clause-missed : goal.returns-clause-missed
returns-clause-missed c =
    let all : c.loop-tries.tries ≡ 64 = omega (arith, c.loop-tries-test.false, c.loop-tries.auto.tries-end) in
    (c.loop-tries.tries, omega arith, omega arith, outrun_missed _ _ _ _ c.loop-tries.invariant.outrun)

pub loop-tries-preserved : goal.loop-tries-preserved
loop-tries-preserved c =
    let now = c.in-Err-Ok.ensures in
    record {
      same = search rules;
      stays = search rules;
      rests = search rules;
      there = search rules;
      outrun = outrun_more (sees_holds_at c.args.key.slot) c.loop-tries.tries c.loop-tries.guess c.in-Err-Ok.found (sight_of c.args.self.now) (sight_of c.loop-tries.self) (sight_of c.try_pin.new.self)
          c.loop-tries.invariant.outrun now.missed c.loop-tries.invariant.near (search rules);
      near = search rules;
    }
