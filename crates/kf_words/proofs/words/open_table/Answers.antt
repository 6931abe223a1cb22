use Rattle.std.proofs.Common.{ℕ, ◌*◌, List, [], length, sym, ap, ◌∙◌, subst}
use Rattle.kf_words.specs.Layout.{line_words}
use Rattle.kf_words.specs.declared.sight.Opening.{Opening}
use Rattle.kf_words.specs.History.{Kept, first_sight}
use Rattle.atomic_table.specs.Table.{opening}
use Rattle.kf_words.proofs.Opening.{length-words}
use Rattle.kf_words.proofs.Histories.{opening_kept}
use Rattle.kf_words.proofs.words.open_table.Goals as goal

pub of_words-requires : goal.of_words-requires
of_words-requires c =
    let o : Opening = c.args.opening in
    subst (λ (words : List ℕ). Kept o (opening words [] (first_sight o))) (sym (c.as_slice.ensures.value ∙ c.in_ok-words.ensures)) (opening_kept o c.requires.some c.requires.few)

pub invariant_of-steps-clause-lines : goal.invariant_of-steps-clause-lines
invariant_of-steps-clause-lines c =
    let same = c.in_ok-shared.ensures ∙ c.in_ok-table-2.ensures.ok in
    let its = c.in_ok-table.ensures in
    let words = ap (λ (l : List ℕ). length l) (c.as_slice.ensures.value ∙ c.in_ok-words.ensures) in
    let long = length-words c.args.opening.slots c.args.opening.start in
    ap (λ t. t.shared.table_id.words) same ∙ its.0 ∙ words ∙ long ∙ sym (ap (λ t. t.shared.key.slots * line_words) same ∙ ap (λ o. o.slots * line_words) its.5)
