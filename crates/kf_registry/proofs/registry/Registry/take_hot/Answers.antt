use Rattle.std.proofs.Common.{rules, ◌≡◌, ℕ, List, inr, subst}
use Rattle.std.specs.Prelude.{Ok}
use Rattle.kf_core.specs.declared.key.Key.{Key}
use Rattle.kf_core.specs.declared.command.Command.TheVariants.{Doom}
use Rattle.kf_tree.specs.Paths.{seen}
use Rattle.kf_words.specs.declared.note.Note.TheVariants.{Did}
use Rattle.kf_shared.specs.Locked.{Adds}
use Rattle.kf_registry.specs.Receipts.{IsHot}
use Rattle.kf_registry.specs.Refusals.{HotTakeCause, KeyCause}
use Rattle.kf_registry.proofs.Backs.{was_taken}
use Rattle.kf_registry.proofs.Refusals.{hot_at, named, seen_same, was_found}
use Rattle.kf_registry.proofs.registry.Registry.take_hot.Goals as goal

pub returns-in-Ok-begin_removal_of-clause-taken : goal.returns-in-Ok-begin_removal_of-clause-taken
returns-in-Ok-begin_removal_of-clause-taken g c =
    let lock = c.lock-editor.ensures in
    let s = c.lock-editor.result in
    let key = c.in-Ok.key in
    let same : key ≡ c.args.hot.key = search rules in
    let path : c.as_slice.result.now ≡ c.args.hot.path = search rules in
    let at = subst (λ (p : List ℕ). seen s.state.tree s.state.root p ≡ Ok key) path (seen_same c.state.result.now s.state c.as_slice.result.now (Ok key) c.state.ensures.same c.in-Ok.ensures.seen) in
    let hot = hot_at c.state-else-ne.result.now s.state key c.is_hot.result c.state-else-ne.ensures.same c.is_hot.ensures.hot c.if-not-is_hot.false in
    was_taken IsHot g.N.Naming.table s c.args.hot.path c.args.hot.key c.cool.result.receipt lock.whole lock.taken
    (subst (λ (k : Key). seen s.state.tree s.state.root c.args.hot.path ≡ Ok k) same at)
    (subst (λ (k : Key). IsHot s.state.tree k) same hot)
    c.cool.ensures.key c.cool.ensures.parted
    (c.cool.ensures.saw s (subst (λ (k : Key). Adds s c.begin_removal_of.new.self (Did (Doom k))) same c.in-Ok-begin_removal_of.ensures.noted))

pub returns-in-Err-begin_removal_of-clause-refused : goal.returns-in-Err-begin_removal_of-clause-refused
returns-in-Err-begin_removal_of-clause-refused g c =
    let lock = c.lock-editor.ensures in
    let s = c.lock-editor.result in
    let key = c.in-Ok.key in
    let why = c.in-Err-begin_removal_of.why in
    let same : key ≡ c.args.hot.key = search rules in
    let path : c.as_slice.result.now ≡ c.args.hot.path = search rules in
    let at = subst (λ (p : List ℕ). seen s.state.tree s.state.root p ≡ Ok key) path (seen_same c.state.result.now s.state c.as_slice.result.now (Ok key) c.state.ensures.same c.in-Ok.ensures.seen) in
    was_found g.N.Naming.table s c.lock-editor.new.self.holder.holds.by (HotTakeCause c.args.hot.path c.args.hot.key why) lock.whole lock.taken lock.known
    (named _ _ key why at (inr (same, subst (λ (k : Key). KeyCause s.state.tree s.state.root k why) same c.in-Err-begin_removal_of.ensures.refused)))
