-- The line and the file to which a tag belongs.
use Rattle.std.specs.Prelude.{ℕ, nat_le, ◌-◌, ◌/◌, ◌%◌, List, Option, None, Some, slice_get, if◌then◌else◌}
use Rattle.std.specs.Option.{option_and_then, option_map}
use Rattle.kf_driver.specs.declared.line_tags.LineTags.{LineTags}

-- the line and the file of a tag, each counted from 0, unless the tag is below the first
abbrev pub place_of : LineTags → ℕ → Option (ℕ × ℕ)
place_of tags tag = if nat_le tags.first tag
    then Some ((tag - tags.first) / tags.files, (tag - tags.first) % tags.files)
    else None

-- the line that has the file with this tag, if there is one, and the place of the file in that line
abbrev pub row_of : {A : Type 0} → LineTags → List A → ℕ → Option (A × ℕ)
row_of tags lines tag = option_and_then
    (λ place. option_map (λ line. (line, place.1)) (slice_get lines place.0)) (place_of tags tag)
