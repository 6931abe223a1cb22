use Rattle.std.proofs.Common.{inr, refl}
use Rattle.std.specs.Prelude.{Ok}
use Rattle.kf_core.specs.declared.refusal.Refusal.TheVariants.{NoEntry}
use Rattle.kf_registry.specs.Refusals.{HotCallerCause, WasFound}
use Rattle.kf_registry.proofs.Refusals.{hot_at, name_refused, named, seen_same, was_found}
use Rattle.kf_registry.proofs.registry.Registry.hot_caller.Goals as goal

pub returns-clause-refused : goal.returns-clause-refused
returns-clause-refused g c =
    let lock = c.lock-editor.ensures in
    let s = c.lock-editor.result in
    let by = c.lock-editor.new.self.holder.holds.by in
    let key = c.in_ok-key.key in
    name_refused (λ _. WasFound by (HotCallerCause c.args.path.now NoEntry)) c.args.path.now c.in_ok-name_of.field-0.now NoEntry c.in_ok-name_of.ensures.name
    (was_found g.N.Naming.table s by (HotCallerCause c.args.path.now NoEntry) lock.whole lock.taken lock.known
    (named _ _ key _ (seen_same c.state.result.now s.state c.args.path.now (Ok key) c.state.ensures.same c.in_ok-key.ensures.seen)
    (inr (hot_at c.state-2.result.now s.state key c.is_hot.result c.state-2.ensures.same c.is_hot.ensures.hot c.if-not-is_hot.false, inr refl))))
