use Rattle.kf_words.specs.Callers.{Handle}
use Rattle.kf_core.specs.declared.refusal.Refusal.{Refusal}
use Rattle.kf_shared.proofs.Refusals.{refusal_of, root_alone_invalid}
use Rattle.kf_shared.proofs.Removed.{removed_in}
use Rattle.kf_shared.proofs.tree.SharedTree.remove.Goals as goal

pub returns-clause-removed : goal.returns-clause-removed
returns-clause-removed g c = removed_in g.N.Naming.table c.edit-editor.result c.args.hold _ c.remove.result c.edit-editor.ensures.whole c.edit-editor.ensures.taken c.remove.ensures.alone c.remove.ensures.listed

pub returns-clause-refused : goal.returns-clause-refused
returns-clause-refused g c = refusal_of g.N.Naming.table c.edit-editor.result c.args.hold.key c.edit-editor.ensures.whole (λ (r : Handle × Refusal). r.1) c.remove.result c.remove.ensures.refused

pub returns-clause-root : goal.returns-clause-root
returns-clause-root g c = root_alone_invalid g.N.Naming.table c.edit-editor.result c.args.hold.key c.edit-editor.ensures.whole (λ (r : Handle × Refusal). r.1) c.remove.result c.remove.ensures.refused
