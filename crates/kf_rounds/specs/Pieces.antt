-- The pieces of which a text is made.
use Rattle.std.specs.Prelude.{ℕ, ◌+◌, List, [], ◌∷◌, take, drop}

-- the pieces of the bytes that have these lengths, one after the other
abbrev pub pieces : List ℕ → List ℕ → List (List ℕ)
pieces bytes [] = []
pieces bytes (count ∷ counts) = take count bytes ∷ pieces (drop count bytes) counts

-- the length of all pieces together, if these are their lengths
abbrev pub total : List ℕ → ℕ
total [] = 0
total (count ∷ counts) = count + total counts
