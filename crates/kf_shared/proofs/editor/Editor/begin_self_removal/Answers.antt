use Rattle.std.proofs.Common.{◌≡◌, rules, List, sym, ap, ◌∙◌, subst}
use Rattle.kf_core.specs.declared.key.Key.{Key}
use Rattle.kf_words.specs.Callers.{Handle}
use Rattle.kf_shared.specs.Locked.{Locked}
use Rattle.kf_shared.specs.Removal.{IsNew, AreHolds, DoomHolds}
use Rattle.kf_shared.proofs.Receipts.{are_of}
use Rattle.kf_shared.proofs.editor.Editor.begin_self_removal.Goals as goal

abbrev HoldsOf : Key → Locked → List Handle → Type 0
HoldsOf key s holds = (hold : Handle) × (hold.key ≡ key) × IsNew s.master hold × AreHolds s.master hold holds × DoomHolds s.state.tree hold holds

pub returns-in-Ok-clause-holds : goal.returns-in-Ok-clause-holds
returns-in-Ok-clause-holds g c =
    let here : c.deref_mut.result.now ≡ c.args.self.now = search rules in
    subst (HoldsOf c.args.call.now.key c.args.self.now) (sym c.new.ensures.same) (subst (λ s. HoldsOf c.args.call.now.key s c.in-Ok.holds.items) here c.in-Ok.ensures.holds)

pub new-requires-clause-table : goal.new-requires-clause-table
new-requires-clause-table g c =
    let here : c.deref_mut.result.now ≡ c.args.self.now = search rules in
    let table : c.deref_mut.result.now.master.table ≡ g.N.Naming.table = ap (λ (s : Locked). s.master.table) here ∙ c.state.ensures.whole.tied.same_table in
    let its = c.in-Ok.ensures.holds in
    are_of _ c.deref_mut.result.now.master its.0 c.in-Ok.holds.items table (its.2.table ∙ table) its.3
