-- A listing of at most one name.
use Rattle.std.proofs.Common.{◌≡◌, ℕ, List, [], ◌∷◌, ◌++◌, length, ap, subst, length-append, arith, Option}
use Rattle.kf_core.specs.declared.key.Key.{Key}
use Rattle.kf_core.specs.Tree.{Tree}
use Rattle.kf_tree.specs.Listing.{IsListing}

-- if at most one name is listed, the last name is the only one
pub only_one : (t : Tree) (dir : Key) (bound : Option (List ℕ)) (names front : List (List ℕ)) (name : List ℕ)
    → IsListing t dir bound 1 names → names ≡ front ++ name ∷ [] → IsListing t dir bound 1 (name ∷ [])
only_one t dir bound names [] name listing is = subst (λ (l : List (List ℕ)). IsListing t dir bound 1 l) is listing
only_one t dir bound names (x ∷ front) name listing is =
    absurd (omega (arith, listing.few, ap length is, length-append front (name ∷ [])))
