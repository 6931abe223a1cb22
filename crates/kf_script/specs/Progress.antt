-- How far a run of a script has come.
use Rattle.std.specs.Prelude.{ℕ, List, [], ◌+◌, ◌++◌, ◌≡◌, length, map, nat_le, Option, Result, MatchResult, if◌then◌else◌}
use Rattle.std.specs.Io.KnownBytes.{Appends}
use Rattle.kf_script.specs.Answers.{Step, Turn, line_of, Answers, text}

-- the part is a prefix of the whole
abbrev pub IsPrefix : List ℕ → List ℕ → Type 0
IsPrefix part whole = (rest : List ℕ) × (whole ≡ part ++ rest)

-- all of the bytes were written or, after a fault, a prefix of them
abbrev pub WrittenOrCut : {T E : Type 0} → Option (List ℕ) → Option (List ℕ) → Result T E → List ℕ → Type 0
WrittenOrCut old new result bytes =
    MatchResult result (λ _. Appends old new bytes)
    (λ _. (part : List ℕ) × IsPrefix part bytes × Appends old new part)

-- bytes were written, or none
abbrev pub Grows : Option (List ℕ) → Option (List ℕ) → Type 0
Grows old new = (part : List ℕ) × Appends old new part

-- `given`, a prefix of the bytes that were kept, was written, and the rest, `left`, is still kept
pub record GivesOut (old new : Option (List ℕ)) (kept left : List ℕ) : Type 0 where
  pub given : List ℕ
  pub front : kept ≡ given ++ left
  pub written : Appends old new given

-- the greatest number of bytes that are kept
abbrev pub kept_limit : ℕ
kept_limit = 4096

-- what is kept once these bytes have come. If there is room for them, they follow what was kept. Otherwise
-- only they are kept, or nothing if they are more than the limit
abbrev pub kept_with : List ℕ → List ℕ → List ℕ
kept_with kept bytes =
    if nat_le (length kept + length bytes) kept_limit then kept ++ bytes
    else (if nat_le (length bytes) kept_limit then bytes else [])

-- the lines got their replies, and these replies are what was written
pub record Answered {Board : Type 0} (step : Step Board) (first now : Board) (lines : List (List ℕ))
    (old new : Option (List ℕ)) : Type 0 where
  pub turns : List Turn
  pub lines_are : map line_of turns ≡ lines
  pub answers : Answers step first turns now
  pub written : Appends old new (text turns)

-- a write failed. The first lines, those of `turns`, got their replies, and what was written is a prefix of
-- these replies
pub record CutShort {Board : Type 0} (step : Step Board) (first now : Board) (lines : List (List ℕ))
    (old new : Option (List ℕ)) : Type 0 where
  pub turns : List Turn
  pub lines_are : (later : List (List ℕ)) × (lines ≡ map line_of turns ++ later)
  pub answers : Answers step first turns now
  pub part : List ℕ
  pub written : Appends old new part
  pub prefix : IsPrefix part (text turns)
