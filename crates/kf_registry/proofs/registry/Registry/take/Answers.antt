use Rattle.std.proofs.Common.{inr, sym, subst}
use Rattle.std.specs.Prelude.{Ok}
use Rattle.std.proofs.lemmas.Result.{err_from_is_err_and}
use Rattle.kf_core.specs.declared.refusal.Refusal.{Refusal}
use Rattle.kf_registry.specs.Receipts.{IsPlain}
use Rattle.kf_registry.specs.Refusals.{TakeCause, WasFound}
use Rattle.kf_registry.proofs.Backs.{was_taken}
use Rattle.kf_registry.proofs.Refusals.{named, plain_at, seen_same, unnamed, was_found}
use Rattle.kf_registry.proofs.registry.Registry.take.Goals as goal

pub returns-in_err-key-clause-refused : goal.returns-in_err-key-clause-refused
returns-in_err-key-clause-refused g c =
    let p = err_from_is_err_and c.from_residual.result c.from_residual.ensures.1 in
    let lock = c.lock-editor.ensures in
    rw p.1 (was_found g.N.Naming.table c.lock-editor.result _ (TakeCause c.args.path.now _) lock.whole lock.taken lock.known
    (unnamed _ _ _ _ (seen_same c.state.result.now c.lock-editor.result.state c.args.path.now _ c.state.ensures.same c.in_err-key.ensures.seen) p.2))

pub returns-in_err-removing-clause-refused : goal.returns-in_err-removing-clause-refused
returns-in_err-removing-clause-refused g c =
    let p = err_from_is_err_and c.from_residual-in_err-removing.result c.from_residual-in_err-removing.ensures.1 in
    let lock = c.lock-editor.ensures in
    let s = c.lock-editor.result in
    let key = c.in_ok-key.key in
    rw p.1 (subst (λ (why : Refusal). WasFound c.lock-editor.new.self.holder.holds.by (TakeCause c.args.path.now why)) (sym p.2)
    (was_found g.N.Naming.table s _ (TakeCause c.args.path.now _) lock.whole lock.taken lock.known
    (named _ _ key _ (seen_same c.state.result.now s.state c.args.path.now (Ok key) c.state.ensures.same c.in_ok-key.ensures.seen)
    (inr (plain_at c.state-2.result.now s.state key c.is_hot.result c.state-2.ensures.same c.is_hot.ensures.hot c.if-is_hot.false, c.in_err-removing.ensures.refused)))))

pub returns-clause-taken : goal.returns-clause-taken
returns-clause-taken g c =
    let lock = c.lock-editor.ensures in
    let s = c.lock-editor.result in
    let key = c.in_ok-key.key in
    was_taken IsPlain g.N.Naming.table s c.args.path.now key c.take_back.result.receipt lock.whole lock.taken
    (seen_same c.state.result.now s.state c.args.path.now (Ok key) c.state.ensures.same c.in_ok-key.ensures.seen)
    (plain_at c.state-2.result.now s.state key c.is_hot.result c.state-2.ensures.same c.is_hot.ensures.hot c.if-is_hot.false)
    c.take_back.ensures.key c.take_back.ensures.parted (c.take_back.ensures.saw s c.in_ok-removing.ensures.noted)
