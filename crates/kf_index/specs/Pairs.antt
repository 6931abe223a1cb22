-- The entries of an index as a list: pairs of a name and its key.
use Rattle.std.specs.Prelude.{◌≡◌, ℕ, ◌<◌, ◌≤◌, List, length, slice_index_or, Option, AllPairs}
use Rattle.kf_core.specs.declared.key.Key.{Key}
use Rattle.kf_core.specs.Names.{IsBefore}
use Rattle.kf_index.specs.Entries.{IsAbove}

-- the names of an index, each with its key, one after another
abbrev pub Pairs : Type 0
Pairs = List (List ℕ × Key)

-- each name comes before all later ones in byte order
abbrev pub IsRising : Pairs → Type 0
IsRising pairs = AllPairs (λ a b. IsBefore a.0 b.0) pairs

-- the pair at this place has the name
pub record IsPlaceOf (pairs : Pairs) (name : List ℕ) (at : ℕ) : Type 0 where
  pub within : at < length pairs
  pub named : (d : List ℕ × Key) → (slice_index_or pairs at d).0 ≡ name

-- the name would go to this place: the names before it are lower, and those from it on are higher
pub record IsGapFor (pairs : Pairs) (name : List ℕ) (at : ℕ) : Type 0 where
  pub within : at ≤ length pairs
  pub lower : (i : ℕ) (d : List ℕ × Key) → i < at → IsBefore (slice_index_or pairs i d).0 name
  pub higher : (i : ℕ) (d : List ℕ × Key) → at ≤ i → i < length pairs
      → IsBefore name (slice_index_or pairs i d).0

-- the names before this place are not above the bound, and those from it on are
pub record IsFirstAbove (pairs : Pairs) (bound : Option (List ℕ)) (at : ℕ) : Type 0 where
  pub within : at ≤ length pairs
  pub not_above : (i : ℕ) (d : List ℕ × Key) → i < at → ¬ IsAbove bound (slice_index_or pairs i d).0
  pub above : (i : ℕ) (d : List ℕ × Key) → at ≤ i → i < length pairs
      → IsAbove bound (slice_index_or pairs i d).0
