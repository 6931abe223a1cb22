-- The names of a path, between its slashes.
use Rattle.std.specs.Prelude.{ℕ, Bool, true, false, ◌==◌, List, [], ◌∷◌, Option, None, Some, if◌then◌else◌}
use Rattle.std.specs.List.{list_any, slice_split}
use Rattle.std.specs.Option.{option_and_then}

-- whether the byte is a slash
abbrev pub is_slash : ℕ → Bool
is_slash byte = byte == 47

-- whether a name has no byte
abbrev pub is_empty : List ℕ → Bool
is_empty [] = true
is_empty (byte ∷ bytes) = false

-- the parts of a text, between its slashes; an empty text has no parts
abbrev pub parts : List ℕ → List (List ℕ)
parts [] = []
parts (byte ∷ bytes) = slice_split is_slash (byte ∷ bytes)

-- the parts of what follows a slash, if there was a slash
abbrev pub later_parts : Option (List ℕ) → List (List ℕ)
later_parts None = []
later_parts (Some text) = slice_split is_slash text

-- the bytes after the slash with which a path begins, or None if it begins with no slash
abbrev pub after_slash : List ℕ → Option (List ℕ)
after_slash [] = None
after_slash (byte ∷ bytes) = if is_slash byte then Some bytes else None

-- the names, or None if one of them is empty
abbrev pub all_named : List (List ℕ) → Option (List (List ℕ))
all_named names = if list_any is_empty names then None else Some names

-- the names of a path, or None if it does not have the right form
abbrev pub names_of : List ℕ → Option (List (List ℕ))
names_of path = option_and_then (λ bytes. all_named (parts bytes)) (after_slash path)
