use Rattle.std.proofs.Common.{rules, subst, sym, ◌∙◌, ◌≡◌, ℕ, ◌+◌, ◌*◌, List, [], set, replicate, arith, ap}
use Rattle.atomic_table.specs.Table.{opening}
use Rattle.kf_gates.specs.Rule.{Kept, opened}
use Rattle.kf_gates.proofs.Keeping.{opening_kept}
use Rattle.kf_gates.proofs.board.Board.new.Goals as goal

pub of_words-requires : goal.of_words-requires
of_words-requires c =
    let z : ℕ = 0 in
    let n : c.args.lanes * 8 + 8 ≡ 8 * c.args.lanes + 8 = omega arith in
    let items : c.in_ok-words.words.items ≡ replicate (c.args.lanes * 8 + 8) z = search rules in
    let all : c.in_ok-words.words.items ≡ replicate (8 * c.args.lanes + 8) z = items ∙ ap (λ (k : ℕ). replicate k z) n in
    subst (λ (words : List ℕ). Kept c.args.lanes (opening words [] (opened c.args.lanes))) (sym (c.as_slice.ensures.value ∙ ap (λ (l : List ℕ). set (set l 0 1) 2 2) all))
    (opening_kept c.args.lanes)
