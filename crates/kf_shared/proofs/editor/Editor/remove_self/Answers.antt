use Rattle.std.proofs.Common.{◌≡◌, rules, [], refl, subst}
use Rattle.kf_tree.specs.Ends.{EndsWith}
use Rattle.kf_shared.specs.Removal.{keys_of}
use Rattle.kf_shared.specs.Receipts.{IsDoomList}
use Rattle.kf_shared.proofs.Receipts.{receipts_end, receipts_listed, end_key, listed_different}
use Rattle.kf_words.specs.Callers.{seat_view}
use Rattle.kf_words.specs.declared.sight.StepKind.TheVariants.{Breaks as breaks}
use Rattle.kf_shared.specs.Locked.{Locked, history}
use Rattle.kf_shared.specs.Sections.{IsTaken, WasClosed}
use Rattle.kf_shared.proofs.Alone.{late_added, self_added}
use Rattle.kf_shared.proofs.Hearing.{woken_more}
use Rattle.kf_shared.proofs.Refusals.{may_be_doomed}
use Rattle.kf_shared.proofs.editor.Editor.remove_self.Goals as goal

pub returns-clause-last : goal.returns-clause-last
returns-clause-last g c =
    let h = c.in_ok-first.ensures.holds in
    subst (EndsWith (keys_of c.finish-receipts.result.items)) h.1
    (end_key h.0 c.finish-receipts.result.items (receipts_end h.0 c.in_ok-first.removing [] [] c.finish-receipts.result.items refl refl c.finish-receipts.ensures.owners c.args.self.master h.3))

pub returns-clause-listed : goal.returns-clause-listed
returns-clause-listed g c =
    let h = c.in_ok-first.ensures.holds in
    subst (λ k. IsDoomList c.args.self.state.tree k (keys_of c.finish-receipts.result.items)) h.1
    (receipts_listed h.0 c.in_ok-first.removing [] [] c.finish-receipts.result.items refl refl c.finish-receipts.ensures.owners c.args.self.state.tree h.4)

pub returns-clause-different : goal.returns-clause-different
returns-clause-different g c = listed_different c.args.self.state.tree c.args.self.state.root c.in_ok-first.ensures.was_whole.kept.lawful c.args.call.now.key _ (returns-clause-listed g c)

pub returns-clause-no_cause : goal.returns-clause-no_cause
returns-clause-no_cause g c = may_be_doomed c.args.self c.begin_self_removal.new.self c.args.call.now.key c.in_ok-first.ensures.done

pub returns-clause-alone : goal.returns-clause-alone
returns-clause-alone g c =
    let here : c.deref_mut.result.now ≡ c.begin_self_removal.new.self = search rules in
    late_added c.args.self c.begin_self_removal.new.self c.args.call.now c.begin_self_removal.new.call c.close_call.new.call c.restore_alone.new.call _
    (woken_more breaks (seat_view c.args.call.now) (seat_view c.begin_self_removal.new.call) c.in_ok-first.ensures.made)
    (self_added c.args.self c.begin_self_removal.new.self c.args.call.now.key c.in_ok-first.ensures.noted)
    (subst (λ (l : Locked). WasClosed l [] c.begin_self_removal.new.call c.close_call.new.call) here c.close_call.ensures.call) c.restore_alone.ensures.later

pub returns-clause-restored : goal.returns-clause-restored
returns-clause-restored g c =
    let here : c.edit-editor.result ≡ c.deref_mut-2.result.now = search rules in
    (history c.deref_mut-2.result.now, subst (λ (l : Locked). IsTaken (history l)) here c.edit-editor.ensures.taken, c.restore_alone.ensures.restored)
