-- How many slots a tree may have.
use Rattle.std.specs.Prelude.{ℕ}

-- the greatest number of slots, including the root's
abbrev pub most_slots : ℕ
most_slots = 1048576
