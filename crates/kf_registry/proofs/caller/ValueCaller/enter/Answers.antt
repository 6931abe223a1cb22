use Rattle.std.proofs.Common.{inl, inr, refl, sym, subst}
use Rattle.std.specs.Prelude.{Ok}
use Rattle.kf_words.specs.Callers.{Handle}
use Rattle.kf_shared.specs.Finding.{WasNamed}
use Rattle.kf_registry.proofs.Refusals.{seen_same, was_named}
use Rattle.kf_registry.proofs.caller.ValueCaller.enter.Goals as goal

pub returns-clause-refused : goal.returns-clause-refused
returns-clause-refused g c =
    let hold = c.in_ok-hold.hold in
    let s = c.lock-editor.result in
    let by = c.lock-editor.new.self.holder.holds.by in
    let lock = c.lock-editor.ensures in
    let named = was_named g.N.Naming.table s c.args.path.now c.in_ok-key.key by hold lock.whole lock.taken lock.known
    (seen_same c.state.result.now s.state c.args.path.now (Ok c.in_ok-key.key) c.state.ensures.same c.in_ok-key.ensures.seen) c.in_ok-hold.ensures.hold in
    inr (inl refl, (hold, subst (λ (h : Handle). WasNamed c.args.path.now h hold) (sym c.release.ensures.by) named))
