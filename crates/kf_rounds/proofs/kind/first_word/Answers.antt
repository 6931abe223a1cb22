use Rattle.std.proofs.Common.{◌+◌, ◌∙◌, take, drop, sym, ap, arith, take_all, drop_of_length-le}
use Rattle.std.specs.List.{position_or_len}
use Rattle.std.proofs.lemmas.List.{take_rest}
use Rattle.kf_script.specs.Requests.{is_space}
use Rattle.kf_rounds.proofs.Cuts.{place, nowhere}
use Rattle.kf_rounds.proofs.kind.first_word.Goals as goal

pub returns-in-Some-clause-word : goal.returns-in-Some-clause-word
returns-in-Some-clause-word c = ap (λ k. take k c.args.line.now) (sym (place is_space c.args.line.now _ c.in-Some.ensures))

pub returns-in-Some-clause-rest : goal.returns-in-Some-clause-rest
returns-in-Some-clause-rest c =
    take_rest c.args.line.now (c.in-Some.at + 1) ∙ ap (λ k. drop (k + 1) c.args.line.now) (sym (place is_space c.args.line.now _ c.in-Some.ensures))

pub returns-in-None-clause-word : goal.returns-in-None-clause-word
returns-in-None-clause-word c = sym (take_all _ c.args.line.now (nowhere is_space c.args.line.now c.in-None.ensures))

pub returns-in-None-clause-rest : goal.returns-in-None-clause-rest
returns-in-None-clause-rest c =
    let far = nowhere is_space c.args.line.now c.in-None.ensures in
    sym (drop_of_length-le c.args.line.now {i = position_or_len is_space c.args.line.now + 1} (omega arith))
