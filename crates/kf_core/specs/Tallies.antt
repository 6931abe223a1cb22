-- Counts of items that pass a test.
use Rattle.std.specs.Prelude.{ℕ, Bool, if◌then◌else◌}

-- what one item adds to the count: 1 if it passes, else 0
abbrev pub tally : Bool → ℕ
tally b = if b then 1 else 0
