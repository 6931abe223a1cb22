use Rattle.std.proofs.Common.{◌≡◌, rules, subst}
use Rattle.kf_shared.specs.Locked.{Locked, IsWhole, history}
use Rattle.kf_shared.specs.Sections.{IsTaken}
use Rattle.kf_shared.proofs.Alone.{shown_alone}
use Rattle.kf_shared.proofs.tree.SharedTree.show.Goals as goal

pub returns-clause-alone : goal.returns-clause-alone
returns-clause-alone g c =
    let same : c.edit-editor.result ≡ c.deref_mut.result.now = search rules in
    shown_alone g.N.Naming.table c.deref_mut.result.now (subst (IsWhole g.N.Naming.table) same c.edit-editor.ensures.whole) (subst (λ (l : Locked). IsTaken (history l)) same c.edit-editor.ensures.taken)
    c.args.hidden c.show_alone.result c.show_alone.ensures.came c.show_alone.ensures.seen
