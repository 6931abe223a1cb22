use Rattle.std.proofs.Common.{List, subst}
use Rattle.kf_core.specs.declared.key.Key.{Key}
use Rattle.kf_core.specs.PostOrder.{IsPostOrder}
use Rattle.kf_shared.specs.Removal.{keys_of}
use Rattle.kf_tree.specs.TreeLogs.{TreeLog}
use Rattle.kf_handles.specs.Removing.{Ends}
use Rattle.kf_handles.proofs.Ends.{begun, went_on}
use Rattle.kf_handles.proofs.removal.take_up.Goals as goal

-- the node was marked before
pub returns-then-marked-clause-removes : goal.returns-then-marked-clause-removes
returns-then-marked-clause-removes g c =
    let keys = c.in_ok-keys.keys.items in
    rw c.if-marked.true (went_on c.args.locked.now c.take_all.new.locked c.args.key keys
    (subst (λ (s : TreeLog). IsPostOrder s.tree c.args.key keys) c.state.ensures.same c.in_ok-keys.ensures.ordered)
    (subst (λ (ks : List Key). Ends ks c.args.locked.now c.take_all.new.locked) c.as_slice.ensures.value c.take_all.ensures.ends))

-- the node is marked now
pub returns-clause-removes : goal.returns-clause-removes
returns-clause-removes g c = rw c.if-marked.false (begun c.args.locked.now c.mark.new.locked c.take_each.new.locked
    c.args.key (keys_of c.in_ok-holds.holds.items) c.in_ok-holds.ensures.ordered c.in_ok-holds.ensures.stored c.mark.ensures.claims c.take_each.ensures.ends)
