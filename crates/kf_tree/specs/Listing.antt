-- What a directory shows.
use Rattle.std.specs.Prelude.{◌≡◌, ◌⊎◌, ℕ, ◌≤◌, List, [], ◌∷◌, length, Option, All, AllPairs, Contains, IsSomeAnd, IsTrue, if◌then◌else◌}
use Rattle.kf_core.specs.declared.key.Key.{Key}
use Rattle.kf_core.specs.Names.{IsBefore}
use Rattle.kf_core.specs.Tree.{Tree}
use Rattle.kf_index.specs.Entries.{IsAbove}
use Rattle.kf_table.specs.Children.{child}
use Rattle.kf_table.specs.Live.{lives, live_in}

-- the directory has a live child of this name, above the bound
pub record IsListed (t : Tree) (dir : Key) (bound : Option (List ℕ)) (name : List ℕ) : Type 0 where
  pub live_child : IsSomeAnd (child t dir name) (λ r. IsTrue (lives r))
  pub above : IsAbove bound name

-- the first names of live children above the bound, in byte order
pub record IsListing (t : Tree) (dir : Key) (bound : Option (List ℕ)) (limit : ℕ)
    (names : List (List ℕ)) : Type 0 where
  pub listed : All (IsListed t dir bound) names
  pub in_order : AllPairs IsBefore names
  pub few : length names ≤ limit
  -- such a name is left out only if the limit is reached by names before it
  pub first : (name : List ℕ) → IsListed t dir bound name → Contains names name
      ⊎ ((length names ≡ limit) × All (λ shown. IsBefore shown name) names)

-- the names of those children whose nodes are live
unfoldable pub live_names : Tree → List (List ℕ × Key) → List (List ℕ)
live_names t [] = []
live_names t (child ∷ later) = if live_in t child.1 then child.0 ∷ live_names t later else live_names t later
