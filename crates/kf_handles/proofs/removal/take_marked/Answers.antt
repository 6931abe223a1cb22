use Rattle.std.proofs.Common.{[], ◌∷◌, subst}
use Rattle.kf_core.specs.declared.key.Key.{Key}
use Rattle.kf_handles.specs.Removing.{Ends}
use Rattle.kf_handles.proofs.Ends.{both_ends, no_end}
use Rattle.kf_handles.proofs.removal.take_marked.Goals as goal

-- the node is shown first, and taking a hold of it changes nothing
pub returns-in-Ok-clause-ends : goal.returns-in-Ok-clause-ends
returns-in-Ok-clause-ends g c =
    let keys = c.args.key ∷ [] in
    both_ends keys c.args.locked.now c.unhide_first.new.locked c.unlink.new.locked c.unhide_first.ensures.ends
    (both_ends keys c.unhide_first.new.locked c.hold.new.self c.unlink.new.locked
    (no_end keys c.unhide_first.new.locked c.hold.new.self c.hold.ensures.state c.hold.ensures.claims)
    (subst (λ (k : Key). Ends (k ∷ []) c.hold.new.self c.unlink.new.locked) c.in-Ok.ensures.hold.key_is c.unlink.ensures))
