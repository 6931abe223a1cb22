-- An index as a map from names to keys, its names in byte order.
use Rattle.std.specs.Prelude.{◌≡◌, ◌⊎◌, ℕ, List, [], ◌∷◌, Option, None, Some, IsSome, refl}
use Rattle.std.specs.Ordering.{nat_cmp}
use Rattle.std.specs.Cmp.Lexicographic.{slice_cmp}
use Rattle.std.specs.Coded.{Coded, code_by, coded×, coded_ℕ, coded_list}
use Rattle.std.specs.FinMap as map_of
use Rattle.kf_core.specs.declared.key.Key.{Key}
use Rattle.kf_core.specs.Names.{IsBefore}

-- a finite map from names, in byte order, to keys
abbrev pub Entries : Type 0
Entries = map_of.FinMap (slice_cmp nat_cmp) Key

-- a key is stored as the pair of its fields
abbrev pub key_code : Coded Key
key_code = code_by (ℕ × ℕ) (coded× coded_ℕ coded_ℕ)
    (λ key. (key.slot, key.generation)) (λ p. record { slot = p.0; generation = p.1 }) (λ _. refl)

-- entries are stored as a map is, each name as a list of bytes, each key as the pair of its fields
abbrev pub entries_code : Coded Entries
entries_code = map_of.code (coded_list coded_ℕ) key_code

-- the name is above the bound, if there is one
abbrev pub IsAbove : Option (List ℕ) → List ℕ → Type 0
IsAbove None name = Unit {0}
IsAbove (Some bound) name = IsBefore bound name

-- the entry with the least name above the bound
pub record IsLeastAbove (entries : Entries) (bound : Option (List ℕ)) (name : List ℕ)
    (key : Key) : Type 0 where
  pub found : map_of.get entries name ≡ Some key
  pub above : IsAbove bound name
  pub least : (other : List ℕ) → IsSome (map_of.get entries other) → IsAbove bound other
      → (other ≡ name) ⊎ IsBefore name other

-- no name is above the bound
abbrev pub NoneAbove : Entries → Option (List ℕ) → Type 0
NoneAbove entries bound = (name : List ℕ) → IsAbove bound name → map_of.get entries name ≡ None

-- the entries above the bound, one after another: the first has the least name above the bound, each later
-- one the least name above the one before it, and no name is above the last
unfoldable pub AreAbove : Entries → Option (List ℕ) → List (List ℕ × Key) → Type 0
AreAbove entries bound [] = NoneAbove entries bound
AreAbove entries bound (entry ∷ later) =
    IsLeastAbove entries bound entry.0 entry.1 × AreAbove entries (Some entry.0) later
