-- An index in chunks: each chunk has its entries one after another, and the chunks follow one another.
use Rattle.std.specs.Prelude.{◌≡◌, ◌≢◌, ◌⊎◌, ℕ, ◌-◌, ◌<◌, ◌≤◌, List, [], ◌∷◌, ◌++◌, length, slice_index_or, insert, remove, All}
use Rattle.kf_core.specs.declared.key.Key.{Key}
use Rattle.kf_core.specs.declared.refusal.Refusal.{Refusal}
use Rattle.kf_core.specs.declared.refusal.Refusal.TheVariants.{Exists, NoMemory}
use Rattle.kf_core.specs.Names.{IsBefore}
use Rattle.kf_index.specs.Pairs.{Pairs, IsPlaceOf, IsGapFor}
use Rattle.kf_index.specs.Places.{no_entry}

-- the entries of all chunks, one after another
abbrev pub joined : List Pairs → Pairs
joined [] = []
joined (chunk ∷ chunks) = chunk ++ joined chunks

-- no chunk is empty
abbrev pub HaveSome : List Pairs → Type 0
HaveSome chunks = All (λ chunk. chunk ≢ []) chunks

-- the lowest name of a chunk
abbrev pub first_name : Pairs → List ℕ
first_name chunk = (slice_index_or chunk 0 no_entry).0

-- the last of the first `count` chunks begins at or below the name, and the next chunk begins above it
pub record ReachTo (chunks : List Pairs) (name : List ℕ) (count : ℕ) : Type 0 where
  pub within : count ≤ length chunks
  pub last : 0 < count → ¬ IsBefore name (first_name (slice_index_or chunks (count - 1) []))
  pub next : count < length chunks → IsBefore name (first_name (slice_index_or chunks count []))

-- the name belongs to this part of all pairs: the names before the part are lower, and those after it are
-- higher
pub record IsPartFor (all : Pairs) (name : List ℕ) (part after : Pairs) : Type 0 where
  pub before : Pairs
  pub parts : all ≡ before ++ (part ++ after)
  pub lower : All (λ entry. IsBefore entry.0 name) before
  pub higher : All (λ entry. IsBefore name entry.0) after

-- the pairs have the name, and this is its key
pub record HasKey (pairs : Pairs) (name : List ℕ) (key : Key) : Type 0 where
  pub at : ℕ
  pub place : IsPlaceOf pairs name at
  pub read : key ≡ (slice_index_or pairs at no_entry).1

-- the pairs do not have the name
pub record LacksName (pairs : Pairs) (name : List ℕ) : Type 0 where
  pub at : ℕ
  pub gap : IsGapFor pairs name at

-- an entry was put into the gap for its name
pub record IsPut (old : Pairs) (name : List ℕ) (key : Key) (new : Pairs) : Type 0 where
  pub at : ℕ
  pub gap : IsGapFor old name at
  pub put : new ≡ insert old at (name, key)

-- why an entry was not put among the pairs: its name is there; or it is not, and there was no memory
abbrev pub WasRefused : Pairs → List ℕ → Refusal → Type 0
WasRefused pairs name refusal = ((refusal ≡ Exists) × ((at : ℕ) × IsPlaceOf pairs name at))
    ⊎ ((refusal ≡ NoMemory) × LacksName pairs name)

-- the entry of this name was taken out, and had this key
pub record IsTakenOut (old : Pairs) (name : List ℕ) (key : Key) (new : Pairs) : Type 0 where
  pub at : ℕ
  pub place : IsPlaceOf old name at
  pub read : key ≡ (slice_index_or old at no_entry).1
  pub taken : new ≡ remove old at
