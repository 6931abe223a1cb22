use Rattle.std.proofs.Common.{[], ◌∷◌, subst}
use Rattle.kf_core.specs.declared.key.Key.{Key}
use Rattle.kf_handles.specs.Removing.{Ends}
use Rattle.kf_handles.proofs.Ends.{both_ends}
use Rattle.kf_handles.proofs.removal.take_out.Goals as goal

-- the node is shown first, and is then taken out
pub returns-clause-ends : goal.returns-clause-ends
returns-clause-ends g c =
    let keys = c.args.hold.key ∷ [] in
    both_ends keys c.args.locked.now c.unhide_first.new.locked c.unlink.new.locked
    (subst (λ (k : Key). Ends (k ∷ []) c.args.locked.now c.unhide_first.new.locked) c.key.ensures.value c.unhide_first.ensures.ends)
    c.unlink.ensures
