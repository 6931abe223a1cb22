-- What a create finds after the new node has passed all tests.
use Rattle.std.proofs.Common.{◌≡◌, ap, subst, List, ℕ, [], ◌∷◌}
use Rattle.std.specs.Prelude.{Option, None, Some, IfSome, is_some, slice_get}
use Rattle.kf_core.specs.declared.key.Key.{Key}
use Rattle.kf_core.specs.declared.key.Node.{Node}
use Rattle.kf_core.specs.declared.refusal.Refusal.TheVariants.{NoSpace}
use Rattle.kf_core.specs.Refusals.{first_cause, unless}
use Rattle.kf_core.specs.Tree.{Tree}
use Rattle.kf_tree.specs.Causes.{create_fault, create_cause}
use Rattle.kf_tree.specs.TreeLogs.{TreeLog}

pub none_with_key : (t : Tree) (root parent : Key) (name : List ℕ) (node : Node) (key : Key) → create_fault t root parent name node ≡ None → create_cause t root parent name node (Some key) ≡ None
none_with_key t root parent name node key e = ap (λ f. first_cause (f ∷ unless (is_some (Some key)) NoSpace ∷ [])) e

pub no_space : (t : Tree) (root parent : Key) (name : List ℕ) (node : Node) → create_fault t root parent name node ≡ None → create_cause t root parent name node None ≡ Some NoSpace
no_space t root parent name node e = ap (λ f. first_cause (f ∷ unless (is_some (let n : Option Key = None in n)) NoSpace ∷ [])) e

-- the slot of the key that was found is vacant
pub vacant_at : (s : TreeLog) (next : Option Key) (key : Key) → next ≡ Some key → IfSome next (λ k. slice_get s.tree k.slot ≡ Some None) → slice_get s.tree key.slot ≡ Some None
vacant_at s next key given h = subst (λ n. IfSome n (λ k. slice_get s.tree k.slot ≡ Some None)) given h
