use Rattle.std.proofs.Common.{◌≡◌, ◌≤◌, ◌+◌, ◌-◌, ◌++◌, ◌∙◌, List, ℕ, take, drop, length, subst, sym, ap}
use Rattle.std.proofs.lemmas.List.{take_rest, length-take-le}
use Rattle.kf_rounds.specs.declared.kind.LineKind.{LineKind}
use Rattle.kf_rounds.proofs.Turning.{taken_more}
use Rattle.kf_rounds.proofs.round.round_at.Goals as goal

pub returns-clause-there : goal.returns-clause-there
returns-clause-there c =
    let kinds : List LineKind = c.args.kinds.now in
    let from : ℕ = c.args.from in
    let count : ℕ = c.round_len.result in
    let rest : take (length kinds - from) (drop from kinds) ≡ drop from kinds = take_rest kinds from in
    let within : count ≤ length (drop from kinds) = subst (λ l. count ≤ length l) rest c.round_len.ensures.within in
    let clean : take (from + length (take count (drop from kinds))) kinds ≡ take from kinds ++ take count (drop from kinds) =
    ap (λ n. take (from + n) kinds) (length-take-le count (drop from kinds) within) ∙ taken_more kinds from count in
    subst (λ l. take (from + length (take count l)) kinds ≡ take from kinds ++ take count l) (sym rest) clean
