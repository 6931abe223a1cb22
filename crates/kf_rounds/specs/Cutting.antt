-- What is left of a script while it is cut into lines.
use Rattle.std.specs.Prelude.{ℕ, ◌+◌, List, [], length, Option, Some, None}
use Rattle.std.specs.List.{slice_split}
use Rattle.kf_script.specs.Lines.{is_newline}

-- the lines of what follows a newline, if there is a newline
abbrev pub later_lines : Option (List ℕ) → List (List ℕ)
later_lines None = []
later_lines (Some text) = slice_split is_newline text

-- how many bytes are left, and one more if a line is left
abbrev pub bytes_left : Option (List ℕ) → ℕ
bytes_left None = 0
bytes_left (Some text) = length text + 1
