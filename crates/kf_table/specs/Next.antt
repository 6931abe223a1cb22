-- The children of a directory one after another, in byte order of names.
use Rattle.std.specs.Prelude.{◌≡◌, ℕ, Bool, true, false, List, [], ◌∷◌, Option, None, Some}
use Rattle.std.specs.Ordering.{nat_cmp, is_lt}
use Rattle.std.specs.Cmp.Lexicographic.{slice_cmp}
use Rattle.kf_core.specs.declared.key.Key.{Key}
use Rattle.kf_core.specs.declared.records.Record.{Record}
use Rattle.kf_core.specs.Tree.{Tree, IsIn}

-- whether one name comes before another in byte order
abbrev pub before : List ℕ → List ℕ → Bool
before a b = is_lt (slice_cmp nat_cmp a b)

-- whether the name is above the bound, if there is one
abbrev pub above : Option (List ℕ) → List ℕ → Bool
above None name = true
above (Some bound) name = before bound name

-- a child of the directory above the bound, and no child above the bound comes before it
pub record IsNext (t : Tree) (dir : Key) (bound : Option (List ℕ)) (c : Record) : Type 0 where
  pub is_in : IsIn t c
  pub parent : c.parent ≡ Some dir
  pub is_above : above bound c.name ≡ true
  pub least : (s : Record) → IsIn t s → s.parent ≡ Some dir → above bound s.name ≡ true
      → before s.name c.name ≡ false

-- no child is above the bound
abbrev pub NoneAbove : Tree → Key → Option (List ℕ) → Type 0
NoneAbove t dir bound = (s : Record) → IsIn t s → s.parent ≡ Some dir → above bound s.name ≡ false

-- the children above the bound one after another, each by its name and key, and none is above the last
unfoldable pub AreNext : Tree → Key → Option (List ℕ) → List (List ℕ × Key) → Type 0
AreNext t dir bound [] = NoneAbove t dir bound
AreNext t dir bound (entry ∷ later) =
    ((c : Record) × IsNext t dir bound c × (c.name ≡ entry.0) × (c.key ≡ entry.1))
    × AreNext t dir (Some entry.0) later
