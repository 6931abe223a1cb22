use Rattle.std.proofs.Common.{rules, ◌≡◌, ℕ, ◌+◌, ◌*◌, List, [], set, replicate, sym, ap, ◌∙◌, subst, arith}
use Rattle.atomic_table.specs.Table.{opening}
use Rattle.kf_looks.specs.Lines.{words_for, lines_at}
use Rattle.kf_looks.specs.Rule.{Kept, opened}
use Rattle.kf_looks.proofs.Allowed.{opening_kept}
use Rattle.kf_looks.proofs.lookup_table.LookupTable.new.Goals as goal

pub of_words-requires : goal.of_words-requires
of_words-requires c =
    let z : ℕ = 0 in let slots : ℕ = c.args.slots in let version : ℕ = c.if-slots-eq0.version in
    let n : slots * 11 + 24 + lines_at ≡ words_for slots + lines_at = omega arith in
    let items : c.in_ok-words.words.items ≡ replicate (slots * 11 + 24 + lines_at) z = search rules in
    subst (λ (words : List ℕ). Kept slots (opening words [] (opened slots version)))
    (sym (c.as_slice.ensures.value ∙ ap (λ (l : List ℕ). set l 0 version) (items ∙ ap (λ (k : ℕ). replicate k z) n)))
    (opening_kept slots version)
