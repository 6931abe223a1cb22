use Rattle.std.proofs.Common.{◌+◌, ◌-◌, ◌≤◌, rules, sym, ◌∙◌, arith, length}
use Rattle.kf_index.proofs.Compared.{AreBytes, word_is, same_less, numbers_stand, numbers_pass, ends_tell}
use Rattle.kf_index.proofs.compare.by_words.Goals as goal

pub returns-then-x-y : goal.returns-then-x-y
returns-then-x-y c =
    let small : AreBytes c.args.a.now = search rules in
    let low : AreBytes c.args.b.now = search rules in
    let a_long : c.loop-at.at + 8 ≤ length c.args.a.now = omega (arith, c.requires.both, c.requires.some, c.loop-at-test.true) in
    let b_long : c.loop-at.at + 8 ≤ length c.args.b.now = omega (arith, c.requires.both, c.requires.some, c.loop-at-test.true) in
    let told = numbers_stand c.args.a.now c.args.b.now c.loop-at.at c.loop-at.invariant.0 8 a_long b_long small low _ _ (word_is _ _ _ a_long c.word_at-x.ensures.read) (word_is _ _ _ b_long c.word_at-y.ensures.read) c.if-x-y.true in
    record { known = c.cmp.ensures ∙ sym told }

pub loop-at-preserved : goal.loop-at-preserved
loop-at-preserved c =
    let small : AreBytes c.args.a.now = search rules in
    let low : AreBytes c.args.b.now = search rules in
    let a_long : c.loop-at.at + 8 ≤ length c.args.a.now = omega (arith, c.requires.both, c.requires.some, c.loop-at-test.true) in
    let b_long : c.loop-at.at + 8 ≤ length c.args.b.now = omega (arith, c.requires.both, c.requires.some, c.loop-at-test.true) in
    let pass = numbers_pass c.args.a.now c.args.b.now c.loop-at.at c.loop-at.invariant.0 8 a_long b_long small low _ _ (word_is _ _ _ a_long c.word_at-x.ensures.read) (word_is _ _ _ b_long c.word_at-y.ensures.read) c.if-x-y.false in
    (pass, omega (arith, c.requires.some, c.loop-at-test.true))

pub returns-then-x-y-2 : goal.returns-then-x-y-2
returns-then-x-y-2 c =
    let small : AreBytes c.args.a.now = search rules in
    let low : AreBytes c.args.b.now = search rules in
    let same = same_less c.args.a.now c.args.b.now (c.args.both - 8) c.loop-at.at (omega (arith, c.loop-at-test.false)) c.loop-at.invariant.0 in
    let a_end : (c.args.both - 8) + 8 ≤ length c.args.a.now = omega (arith, c.requires.both, c.requires.some) in
    let b_end : (c.args.both - 8) + 8 ≤ length c.args.b.now = omega (arith, c.requires.both, c.requires.some) in
    let told = numbers_stand c.args.a.now c.args.b.now (c.args.both - 8) same 8 a_end b_end small low _ _ (word_is _ _ _ a_end c.word_at-x-2.ensures.read) (word_is _ _ _ b_end c.word_at-y-2.ensures.read) c.if-x-y-2.true in
    record { known = c.cmp-then-x-y-2.ensures ∙ sym told }

pub returns : goal.returns
returns c =
    let small : AreBytes c.args.a.now = search rules in
    let low : AreBytes c.args.b.now = search rules in
    let same = same_less c.args.a.now c.args.b.now (c.args.both - 8) c.loop-at.at (omega (arith, c.loop-at-test.false)) c.loop-at.invariant.0 in
    let a_end : (c.args.both - 8) + 8 ≤ length c.args.a.now = omega (arith, c.requires.both, c.requires.some) in
    let b_end : (c.args.both - 8) + 8 ≤ length c.args.b.now = omega (arith, c.requires.both, c.requires.some) in
    let pass = numbers_pass c.args.a.now c.args.b.now (c.args.both - 8) same 8 a_end b_end small low _ _ (word_is _ _ _ a_end c.word_at-x-2.ensures.read) (word_is _ _ _ b_end c.word_at-y-2.ensures.read) c.if-x-y-2.false in
    record { known = c.cmp-2.ensures ∙ sym (ends_tell c.args.a.now c.args.b.now _ pass (omega (arith, c.requires.both, c.requires.some))) }
