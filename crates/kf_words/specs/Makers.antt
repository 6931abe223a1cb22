-- What contracts see of a maker of holds, and of its spare owners of the table.
use Rattle.std.specs.Prelude.{◌≡◌, ℕ, List, All}
use Rattle.std.specs.Arc.{arc_value}
use Rattle.kf_words.specs.declared.seat.Owner.{Owner}
use Rattle.kf_words.specs.Callers.{Handle, TableId}

-- a maker of holds
pub record Maker : Type 0 where
  pub by : Handle  -- the hold by which it makes holds
  pub spare : ℕ  -- how many spare owners of the table it has

-- the greatest number of owners that a maker keeps
abbrev pub most_spare : ℕ
most_spare = 16

-- the table of an owner
abbrev pub owned_table : Owner → TableId
owned_table owner = (arc_value owner.table).shared.table_id

-- each of these owners is of this table
abbrev pub AreOwnersOf : TableId → List Owner → Type 0
AreOwnersOf table owners = All (λ owner. owned_table owner ≡ table) owners
