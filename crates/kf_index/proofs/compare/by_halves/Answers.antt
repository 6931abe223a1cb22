use Rattle.std.proofs.Common.{◌≡◌, ◌+◌, ◌-◌, ◌≤◌, take, rules, refl, sym, ◌∙◌, arith, length}
use Rattle.kf_index.proofs.Compared.{AreBytes, half_is, same_less, numbers_stand, numbers_pass, ends_tell}
use Rattle.kf_index.proofs.compare.by_halves.Goals as goal

pub returns-then-x-y : goal.returns-then-x-y
returns-then-x-y c =
    let small : AreBytes c.args.a.now = search rules in
    let low : AreBytes c.args.b.now = search rules in
    let a_long : 0 + 4 ≤ length c.args.a.now = omega (arith, c.requires.both, c.requires.some) in
    let b_long : 0 + 4 ≤ length c.args.b.now = omega (arith, c.requires.both, c.requires.some) in
    let told = numbers_stand c.args.a.now c.args.b.now 0 refl 4 a_long b_long small low _ _ (half_is _ 0 _ a_long c.half_at-x.ensures.read) (half_is _ 0 _ b_long c.half_at-y.ensures.read) c.if-x-y.true in
    record { known = c.cmp.ensures ∙ sym told }

pub returns-then-x-y-2 : goal.returns-then-x-y-2
returns-then-x-y-2 c =
    let small : AreBytes c.args.a.now = search rules in
    let low : AreBytes c.args.b.now = search rules in
    let a_long : 0 + 4 ≤ length c.args.a.now = omega (arith, c.requires.both, c.requires.some) in
    let b_long : 0 + 4 ≤ length c.args.b.now = omega (arith, c.requires.both, c.requires.some) in
    let first : take 4 c.args.a.now ≡ take 4 c.args.b.now = numbers_pass c.args.a.now c.args.b.now 0 refl 4 a_long b_long small low _ _ (half_is _ 0 _ a_long c.half_at-x.ensures.read) (half_is _ 0 _ b_long c.half_at-y.ensures.read) c.if-x-y.false in
    let same = same_less c.args.a.now c.args.b.now (c.args.both - 4) 4 (omega (arith, c.requires.few)) first in
    let a_end : (c.args.both - 4) + 4 ≤ length c.args.a.now = omega (arith, c.requires.both, c.requires.some) in
    let b_end : (c.args.both - 4) + 4 ≤ length c.args.b.now = omega (arith, c.requires.both, c.requires.some) in
    let told = numbers_stand c.args.a.now c.args.b.now (c.args.both - 4) same 4 a_end b_end small low _ _ (half_is _ _ _ a_end c.half_at-x-2.ensures.read) (half_is _ _ _ b_end c.half_at-y-2.ensures.read) c.if-x-y-2.true in
    record { known = c.cmp-then-x-y-2.ensures ∙ sym told }

pub returns : goal.returns
returns c =
    let small : AreBytes c.args.a.now = search rules in
    let low : AreBytes c.args.b.now = search rules in
    let a_long : 0 + 4 ≤ length c.args.a.now = omega (arith, c.requires.both, c.requires.some) in
    let b_long : 0 + 4 ≤ length c.args.b.now = omega (arith, c.requires.both, c.requires.some) in
    let first : take 4 c.args.a.now ≡ take 4 c.args.b.now = numbers_pass c.args.a.now c.args.b.now 0 refl 4 a_long b_long small low _ _ (half_is _ 0 _ a_long c.half_at-x.ensures.read) (half_is _ 0 _ b_long c.half_at-y.ensures.read) c.if-x-y.false in
    let same = same_less c.args.a.now c.args.b.now (c.args.both - 4) 4 (omega (arith, c.requires.few)) first in
    let a_end : (c.args.both - 4) + 4 ≤ length c.args.a.now = omega (arith, c.requires.both, c.requires.some) in
    let b_end : (c.args.both - 4) + 4 ≤ length c.args.b.now = omega (arith, c.requires.both, c.requires.some) in
    let pass = numbers_pass c.args.a.now c.args.b.now (c.args.both - 4) same 4 a_end b_end small low _ _ (half_is _ _ _ a_end c.half_at-x-2.ensures.read) (half_is _ _ _ b_end c.half_at-y-2.ensures.read) c.if-x-y-2.false in
    record { known = c.cmp-2.ensures ∙ sym (ends_tell c.args.a.now c.args.b.now _ pass (omega (arith, c.requires.both, c.requires.some))) }
