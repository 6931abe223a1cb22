-- Names along a way up or down.
use Rattle.std.specs.Prelude.{◌≡◌, ℕ, ◌<◌, ◌-◌, List, [], ◌∷◌, ◌++◌, length, slice_index_or, Some, Ok}
use Rattle.std.specs.List.{join_with_byte}
use Rattle.std.specs.Option.{option_map_or}
use Rattle.kf_core.specs.declared.key.Key.{Key}
use Rattle.kf_core.specs.Tree.{Tree, record_at, ancestor}
use Rattle.kf_tree.specs.Paths.{walk}
use Rattle.kf_tree.specs.Links.{IsOver, ups}

-- the name of a key's record
abbrev pub name_at : Tree → Key → List ℕ
name_at t key = option_map_or (λ r. r.name) (record_at t key) []

-- the base is the first over the target on the way up from the directory, and the text grew by `../` for each
-- step
pub record HasUps (t : Tree) (root dir target base : Key) (old new : List ℕ) : Type 0 where
  pub up : ℕ
  pub is_base : ancestor t up dir ≡ Some base
  pub over : IsOver t root target base
  pub first : (n : ℕ) (lower : Key) → n < up → ancestor t n dir ≡ Some lower → ¬ IsOver t root target lower
  pub pushed : new ≡ old ++ ups up

-- the keys from this one up to the root
pub record IsWayUp (t : Tree) (root key : Key) (way : List Key) : Type 0 where
  pub some : 0 < length way
  pub each : (i : ℕ) (d : Key) → i < length way → ancestor t i key ≡ Some (slice_index_or way i d)
  pub ends : ancestor t (length way - 1) key ≡ Some root

-- the path of a key: a slash, and the names that lead to it from the root, joined by slashes
abbrev pub IsPathOf : Tree → Key → Key → List ℕ → Type 0
IsPathOf t root key path =
    (names : List (List ℕ)) × (walk t root names ≡ Ok key) × (path ≡ 47 ∷ join_with_byte 47 names)
