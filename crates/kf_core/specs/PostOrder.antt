-- The post-order of a subtree: each node after all nodes below it, siblings in byte order of their names.
use Rattle.std.specs.Prelude.{◌≡◌, ◌≢◌, ◌⊎◌, List, IsTrue, Contains, AllPairs, ◌↔◌}
use Rattle.kf_core.specs.declared.key.Key.{Key}
use Rattle.kf_core.specs.declared.records.Record.{Record}
use Rattle.kf_core.specs.Names.{IsBefore}
use Rattle.kf_core.specs.Tree.{Tree, is_linked, IsIn, in_subtree}

-- a is in the subtree of one record, and b in the subtree of a sibling whose name comes later
pub record AreApart (t : Tree) (a b : Key) : Type 0 where
  pub first : Record
  pub second : Record
  pub first_in : IsIn t first
  pub second_in : IsIn t second
  pub siblings : first.parent ≡ second.parent
  pub order : IsBefore first.name second.name
  pub over_a : IsTrue (in_subtree t first.key a)
  pub over_b : IsTrue (in_subtree t second.key b)

-- a comes before b in post-order: a is below b, or they are apart in this order
abbrev pub StandsBefore : Tree → Key → Key → Type 0
StandsBefore t a b = (IsTrue (in_subtree t b a) × (a ≢ b)) ⊎ AreApart t a b

-- the keys of the subtree of the top, in post-order
pub record IsPostOrder (t : Tree) (top : Key) (keys : List Key) : Type 0 where
  pub members : (key : Key) → Contains keys key ↔ (IsTrue (is_linked t key) × IsTrue (in_subtree t top key))
  pub ordered : AllPairs (StandsBefore t) keys
