use Rattle.std.proofs.Common.{sym, subst, ◌∙◌}
use Rattle.kf_core.specs.PostOrder.{IsPostOrder}
use Rattle.kf_shared.proofs.Removed.{keys_ended, saw_removal}
use Rattle.kf_files.specs.Telling.{WereTold}
use Rattle.kf_files.proofs.telling.remove_and_tell.Goals as goal

pub returns-clause-alone : goal.returns-clause-alone
returns-clause-alone g c =
    saw_removal c.args.editor c.begin_removal_of.new.self c.args.key c.in_ok-removing.removing c.end_removal-draining.result c.finish.result.items
    c.in_ok-removing.ensures.noted c.in_ok-removing.ensures.last c.end_removal-draining.ensures.ended c.finish.ensures.finished c.finish.ensures.owners

pub returns-clause-listed : goal.returns-clause-listed
returns-clause-listed g c = record {
  no_cause = c.in_ok-removing.ensures.done.no_cause;
  ordered = subst (IsPostOrder c.args.editor.state.tree c.args.key)
      (sym (c.finish.ensures.keys ∙ keys_ended c.begin_removal_of.new.self c.in_ok-removing.removing c.end_removal-draining.result c.end_removal-draining.ensures.ended)) c.in_ok-removing.ensures.ordered;
}

pub returns-clause-told : goal.returns-clause-told
returns-clause-told g c =
    subst (λ keys. WereTold c.args.posts.now keys c.tell_removed.new.posts)
    (sym (c.finish.ensures.keys ∙ keys_ended c.begin_removal_of.new.self c.in_ok-removing.removing c.end_removal-draining.result c.end_removal-draining.ensures.ended)) c.tell_removed.ensures.told
