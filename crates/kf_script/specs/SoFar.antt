-- How far a run has come between two bytes of its script.
use Rattle.std.specs.Prelude.{ℕ, false, List, [], ◌∷◌, ◌++◌, ◌≡◌, filter, All, Option, Result, MatchResult}
use Rattle.std.specs.List.{slice_split}
use Rattle.kf_script.specs.Lines.{is_newline, has_bytes, lines_of, kept_line}
use Rattle.kf_script.specs.Answers.{Step}
use Rattle.kf_script.specs.Progress.{Answered, CutShort}

-- the bytes `read` have come so far. The lines that have ended have their replies, and the line buffer keeps
-- the line that has not ended, `pending`, unless this line is too long
pub record AnsweredSoFar {Board : Type 0} (step : Step Board) (first now : Board) (read : List ℕ)
    (line old new : Option (List ℕ)) : Type 0 where
  pub ended : List (List ℕ)
  pub pending : List ℕ
  pub cut : (more : List ℕ)
      → slice_split is_newline (read ++ more) ≡ ended ++ slice_split is_newline (pending ++ more)
  pub unended : All (λ byte. is_newline byte ≡ false) pending
  pub buffered : line ≡ kept_line pending
  pub answered : Answered step first now (filter has_bytes ended) old new

-- a write failed after the bytes `read`. Whatever bytes follow, the replies to the lines of the whole script
-- are cut short
abbrev pub Stopped : {Board : Type 0} → Step Board → Board → Board → List ℕ → Option (List ℕ)
    → Option (List ℕ) → Type 0
Stopped step first now read old new =
    (more : List ℕ) → CutShort step first now (lines_of (read ++ more)) old new

-- if the result is `Ok`, the lines got their replies; otherwise a write failed, and their replies are cut
-- short
abbrev pub AnsweredOrCut : {Board T E : Type 0} → Step Board → Board → Board → List (List ℕ) → Option (List ℕ)
    → Option (List ℕ) → Result T E → Type 0
AnsweredOrCut step first now lines old new result =
    MatchResult result (λ _. Answered step first now lines old new)
    (λ _. CutShort step first now lines old new)

-- the lines that get a reply when this line ends: the line itself, or none if it is empty
abbrev pub ended_line : List ℕ → List (List ℕ)
ended_line line = filter has_bytes (line ∷ [])
