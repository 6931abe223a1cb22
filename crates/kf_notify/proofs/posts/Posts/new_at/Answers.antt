use Rattle.std.proofs.Common.{rules, subst, sym, ◌∙◌, ◌≡◌, ℕ, List, [], replicate}
use Rattle.std.specs.Prelude.{max}
use Rattle.kf_notify.specs.declared.sight.NumberOpening.{NumberOpening}
use Rattle.kf_notify.specs.History.{Kept, first_sight}
use Rattle.atomic_table.specs.Table.{opening}
use Rattle.kf_notify.proofs.Histories.{opens_kept}
use Rattle.kf_notify.proofs.posts.Posts.new_at.Goals as goal

pub of_words-requires : goal.of_words-requires
of_words-requires c =
    let o : NumberOpening = record { slots = c.args.slots; start = c.args.start } in
    let items : c.in_ok-words.words.items ≡ replicate (max c.args.slots 1) c.args.start = search rules in
    subst (λ (words : List ℕ). Kept o (opening words [] (first_sight o))) (sym (c.as_slice.ensures.value ∙ items)) (opens_kept o)
