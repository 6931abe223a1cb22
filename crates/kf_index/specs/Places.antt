-- Entries at places that they keep, and an order of these places.
use Rattle.std.specs.Prelude.{◌≡◌, ◌≢◌, ℕ, ◌+◌, ◌*◌, ◌<◌, ◌≤◌, List, [], length, map, take, slice_index_or, unwrap_or, Option, None, IsSome, All, AllPairs}
use Rattle.kf_core.specs.declared.key.Key.{Key}
use Rattle.kf_index.specs.Pairs.{Pairs}

-- an entry at each place, or None if the place is free
abbrev pub Places : Type 0
Places = List (Option (List ℕ × Key))

-- what is read at a free place
abbrev pub no_entry : List ℕ × Key
no_entry = ([], record { slot = 0; generation = 0 })

-- the entry at a place
abbrev pub entry_at : Places → ℕ → List ℕ × Key
entry_at entries place = unwrap_or (slice_index_or entries place None) no_entry

-- the entries at these places, one after another
abbrev pub pairs_at : Places → List ℕ → Pairs
pairs_at entries order = map (entry_at entries) order

-- there is an entry at this place
abbrev pub IsTaken : Places → ℕ → Type 0
IsTaken entries place = IsSome (slice_index_or entries place None)

-- there is an entry at each of these places
abbrev pub AreTaken : Places → List ℕ → Type 0
AreTaken entries order = All (IsTaken entries) order

-- the order has each place of the entries, none of them twice, and there are entries at its first `len`
-- places
pub record AreInOrder (entries : Places) (order : List ℕ) (len : ℕ) : Type 0 where
  pub within : All (λ place. place < length entries) order
  pub apart : AllPairs (λ a b. a ≢ b) order
  -- so each place is in the order once
  pub as_many : length entries ≡ length order
  pub few : len ≤ length order
  pub taken : AreTaken entries (take len order)

-- `len` entries may keep memory for `capacity`: at most four times as many, and three more
abbrev pub IsFitting : ℕ → ℕ → Type 0
IsFitting len capacity = capacity ≤ 4 * len + 3
