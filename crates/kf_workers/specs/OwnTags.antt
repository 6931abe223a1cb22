-- The tags of a seat.
use Rattle.std.specs.Prelude.{ℕ, List, [], ◌∷◌, ◌++◌, ◌≡◌, ◌+◌}
use Rattle.kf_rounds.specs.declared.runner.Runner.{Runner}
use Rattle.kf_rounds.specs.Seats.{board_of}
use Rattle.kf_workers.specs.declared.tags.Tags.{Tags}
use Rattle.kf_workers.specs.TagRanges.{first_tag}

-- all tags of this seat: none was handed out
abbrev pub AreAllOf : ℕ → Tags → Type 0
AreAllOf seat tags = (tags.next ≡ first_tag seat) × (tags.end ≡ first_tag (seat + 1))

-- a seat was added at the end, and it has all tags of the seat of this number
abbrev pub AddsOwn : {B : Type 0} → List (Runner B) → List (Runner B) → ℕ → (B → Tags) → Type 0
AddsOwn {B} old new number tags_of =
    (seat : Runner B) × (new ≡ old ++ seat ∷ []) × AreAllOf number (tags_of (board_of seat))
