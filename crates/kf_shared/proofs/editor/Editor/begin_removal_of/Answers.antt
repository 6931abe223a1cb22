use Rattle.std.proofs.Common.{ap, ◌∙◌}
use Rattle.kf_words.specs.Callers.{Handle}
use Rattle.std.proofs.lemmas.Result.{err_from_is_err_and}
use Rattle.kf_shared.proofs.KeyRefusals.{hold_key_refused, doom_key_refused, doom_key_ordered, doom_key_done, doom_key_noted, whole_kept}
use Rattle.kf_shared.proofs.editor.Editor.begin_removal_of.Goals as goal

pub returns-in_err-hold-clause-whole : goal.returns-in_err-hold-clause-whole
returns-in_err-hold-clause-whole g c = whole_kept g.N.Naming.table c.args.self.now c.hold.new.self c.state.ensures.whole c.in_err-hold.ensures.state c.in_err-hold.ensures.words c.in_err-hold.ensures.claims

pub returns-in_err-hold-clause-refused : goal.returns-in_err-hold-clause-refused
returns-in_err-hold-clause-refused g c =
    let p = err_from_is_err_and c.from_residual-in_err-hold.result c.from_residual-in_err-hold.ensures.1 in
    rw p.1 (hold_key_refused c.state.result.now c.args.self.now c.hold.new.self c.args.key _ _ c.state.ensures.same p.2 c.in_ok-may_doom.ensures.checked c.in_err-hold.ensures.refused)

pub returns-in-Err-clause-refused : goal.returns-in-Err-clause-refused
returns-in-Err-clause-refused g c = doom_key_refused c.state.result.now c.args.self.now c.hold.new.self c.begin_removal.new.self c.in_ok-hold.hold.key c.args.key c.in-Err.refusal c.state.ensures.same c.in_ok-may_doom.ensures.checked
    c.in_ok-hold.ensures.state c.in_ok-hold.ensures.hold.key_is c.in-Err.ensures.refused

pub returns-in-Ok-clause-ordered : goal.returns-in-Ok-clause-ordered
returns-in-Ok-clause-ordered g c = doom_key_ordered c.state.result.now c.args.self.now c.hold.new.self c.in_ok-hold.hold c.in-Ok.removing c.args.key c.state.ensures.same c.in_ok-may_doom.ensures.checked
    c.in_ok-hold.ensures.state c.in_ok-hold.ensures.hold.key_is c.in-Ok.ensures.order

pub returns-in-Ok-clause-done : goal.returns-in-Ok-clause-done
returns-in-Ok-clause-done g c = doom_key_done c.state.result.now c.args.self.now c.hold.new.self c.begin_removal.new.self c.in_ok-hold.hold.key c.args.key c.state.ensures.same c.in_ok-may_doom.ensures.checked
    c.in_ok-hold.ensures.state c.in_ok-hold.ensures.hold.key_is c.in-Ok.ensures.done

pub returns-in-Ok-clause-noted : goal.returns-in-Ok-clause-noted
returns-in-Ok-clause-noted g c = doom_key_noted c.state.result.now c.args.self.now c.hold.new.self c.begin_removal.new.self c.in_ok-hold.hold.key c.args.key c.state.ensures.same c.in_ok-may_doom.ensures.checked
    c.in_ok-hold.ensures.state c.in_ok-hold.ensures.words.history c.in_ok-hold.ensures.hold.key_is c.in-Ok.ensures.noted

pub returns-in-Ok-clause-last : goal.returns-in-Ok-clause-last
returns-in-Ok-clause-last g c =
    let h = c.in-Ok.ensures.holds in
    (h.0, h.1, h.2, ap (λ (x : Handle). x.key) h.3 ∙ c.in_ok-hold.ensures.hold.key_is)
