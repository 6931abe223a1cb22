-- How a script is cut into lines.
use Rattle.std.specs.Prelude.{ℕ, Bool, true, false, List, [], ◌∷◌, nat_le, ◌==◌, filter, length, Option, Some, None, if◌then◌else◌}
use Rattle.std.specs.List.{slice_split}

-- the byte that ends a line
abbrev pub is_newline : ℕ → Bool
is_newline byte = byte == 10

-- the line has bytes; a line without bytes gets no reply
abbrev pub has_bytes : List ℕ → Bool
has_bytes [] = false
has_bytes (byte ∷ line) = true

-- the lines of a script: the pieces into which its newlines split it, except empty ones
abbrev pub lines_of : List ℕ → List (List ℕ)
lines_of script = filter has_bytes (slice_split is_newline script)

-- all lines of the list except the last
abbrev pub front : List (List ℕ) → List (List ℕ)
front [] = []
front (line ∷ []) = []
front (line ∷ next ∷ lines) = line ∷ front (next ∷ lines)

-- the lines that have ended: the pieces that a newline ends, except empty ones
abbrev pub ended_lines_of : List ℕ → List (List ℕ)
ended_lines_of script = filter has_bytes (front (slice_split is_newline script))

-- the length of the longest line that is read as a command, in bytes and without its newline
abbrev pub line_limit : ℕ
line_limit = 8192

-- what the line buffer keeps of a line: its bytes, or nothing if they are more than the limit
abbrev pub kept_line : List ℕ → Option (List ℕ)
kept_line line = if nat_le (length line) line_limit then Some line else None
