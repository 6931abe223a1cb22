use Rattle.kf_core.specs.declared.refusal.Refusal.{Refusal}
use Rattle.kf_shared.proofs.Refusals.{self_refusal_of, root_alone_self_invalid}
use Rattle.kf_shared.proofs.Alone.{self_removed_in}
use Rattle.kf_shared.proofs.tree.SharedTree.remove_self.Goals as goal

pub returns-clause-refused : goal.returns-clause-refused
returns-clause-refused g c = self_refusal_of g.N.Naming.table c.edit.result c.args.call.now.key c.edit.ensures.whole (λ (why : Refusal). why) c.remove_self.result c.remove_self.ensures.refused

pub returns-clause-root : goal.returns-clause-root
returns-clause-root g c = root_alone_self_invalid g.N.Naming.table c.edit.result c.args.call.now.key c.edit.ensures.whole (λ (why : Refusal). why) c.remove_self.result c.remove_self.ensures.refused

pub returns-clause-removed : goal.returns-clause-removed
returns-clause-removed g c =
    self_removed_in g.N.Naming.table c.edit.result c.edit.ensures.whole c.edit.ensures.taken _ _ c.remove_self.result c.args.call.now c.remove_self.new.call
    c.remove_self.ensures.alone c.remove_self.ensures.first c.remove_self.ensures.listed
