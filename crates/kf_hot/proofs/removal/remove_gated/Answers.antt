use Rattle.std.proofs.Common.{ap, sym, subst, ◌∙◌, ◌≡◌, length}
use Rattle.std.proofs.lemmas.List.{with_items_is}
use Rattle.kf_shared.proofs.Receipts.{listed_different}
use Rattle.kf_shared.proofs.Removed.{receipts_at_end, receipts_of_doom, was_removed_in}
use Rattle.kf_hot.specs.Gated.{AreShut, HaveReference, kept_by}
use Rattle.kf_hot.proofs.removal.remove_gated.Goals as goal

pub close_each-closed-requires-clause-shut : goal.close_each-closed-requires-clause-shut
close_each-closed-requires-clause-shut g c =
    let long : length c.shut_each.new.gates ≡ c.args.gates.len = c.shut_each.auto.gates ∙ c.as_mut_slice.ensures.len in
    subst AreShut (sym (with_items_is c.args.gates c.shut_each.new.gates long)) c.shut_each.ensures.shut

pub close_each-closed-requires-clause-inside : goal.close_each-closed-requires-clause-inside
close_each-closed-requires-clause-inside g c =
    let long : length c.shut_each.new.gates ≡ c.args.gates.len = c.shut_each.auto.gates ∙ c.as_mut_slice.ensures.len in
    subst (λ gates. HaveReference (kept_by gates)) (sym (with_items_is c.args.gates c.shut_each.new.gates long))
    (subst HaveReference (sym (c.shut_each.ensures.kept ∙ ap kept_by c.as_mut_slice.ensures.value)) c.requires.inside)

pub returns-in-Ok-begin_removal-clause-alone : goal.returns-in-Ok-begin_removal-clause-alone
returns-in-Ok-begin_removal-clause-alone g c =
    let b = c.in-Ok-begin_removal.ensures in
    was_removed_in c.args.editor c.begin_removal.new.self c.args.hold c.in-Ok-begin_removal.removing c.end_removal-draining.result c.finish.result.items c.args.editor.master
    b.holds b.order b.after b.noted c.end_removal-draining.ensures.ended c.finish.ensures.finished c.finish.ensures.owners

pub returns-in-Ok-begin_removal-clause-last : goal.returns-in-Ok-begin_removal-clause-last
returns-in-Ok-begin_removal-clause-last g c =
    let b = c.in-Ok-begin_removal.ensures in
    receipts_at_end c.args.editor c.begin_removal.new.self c.args.hold c.in-Ok-begin_removal.removing c.end_removal-draining.result c.finish.result.items c.args.editor.master
    b.holds b.order b.after b.noted c.end_removal-draining.ensures.ended c.finish.ensures.finished c.finish.ensures.owners

pub returns-in-Ok-begin_removal-clause-listed : goal.returns-in-Ok-begin_removal-clause-listed
returns-in-Ok-begin_removal-clause-listed g c =
    let b = c.in-Ok-begin_removal.ensures in
    receipts_of_doom c.args.editor c.begin_removal.new.self c.args.hold c.in-Ok-begin_removal.removing c.end_removal-draining.result c.finish.result.items c.args.editor.master
    b.holds b.order b.after b.noted c.end_removal-draining.ensures.ended c.finish.ensures.finished c.finish.ensures.owners

pub returns-in-Ok-begin_removal-clause-different : goal.returns-in-Ok-begin_removal-clause-different
returns-in-Ok-begin_removal-clause-different g c = listed_different c.args.editor.state.tree c.args.editor.state.root c.in-Ok-begin_removal.ensures.was_whole.kept.lawful c.args.hold.key _
    (returns-in-Ok-begin_removal-clause-listed g c)
