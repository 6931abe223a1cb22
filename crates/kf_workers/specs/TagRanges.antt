-- The tags of the files that scripts make: each seat has its own range.
use Rattle.std.specs.Prelude.{ℕ, ◌+◌, ◌*◌, ◌^◌, ◌≤◌, ◌<◌}

-- the lowest tag of a seat
abbrev pub first_tag : ℕ → ℕ
first_tag seat = seat * 2 ^ 58

-- the tag is one of this seat's tags
abbrev pub IsTagOf : ℕ → ℕ → Type 0
IsTagOf seat tag = (first_tag seat ≤ tag) × (tag < first_tag (seat + 1))
