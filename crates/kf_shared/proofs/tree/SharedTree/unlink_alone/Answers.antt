use Rattle.std.proofs.Common.{◌≡◌, rules, subst}
use Rattle.kf_shared.specs.Locked.{Locked, IsWhole, history}
use Rattle.kf_shared.specs.Sections.{IsTaken}
use Rattle.kf_shared.proofs.Alone.{finished_in}
use Rattle.kf_shared.proofs.tree.SharedTree.unlink_alone.Goals as goal

pub returns-clause-done : goal.returns-clause-done
returns-clause-done g c =
    let same : c.edit-editor.result ≡ c.deref_mut.result.now = search rules in
    finished_in g.N.Naming.table c.deref_mut.result.now (subst (IsWhole g.N.Naming.table) same c.edit-editor.ensures.whole) (subst (λ (l : Locked). IsTaken (history l)) same c.edit-editor.ensures.taken)
    c.unlink_alone.result c.args.drained.now c.unlink_alone.new.drained c.unlink_alone.ensures.told
