-- The history: the notes of what was done while one thread had the Master, taken from the one run of all
-- steps.
use Rattle.std.specs.Prelude.{List, [], ◌∷◌, ◌++◌}
use Rattle.kf_words.specs.declared.note.Note.{Note}
use Rattle.kf_words.specs.declared.sight.StepKind.{StepKind}
use Rattle.kf_words.specs.declared.sight.StepKind.TheVariants as step
use Rattle.kf_words.specs.declared.sight.Seen.{Seen}

-- the note that a step adds, if it adds one
abbrev pub note_of : StepKind → List Note
note_of (step.Tries j) = []
note_of (step.Undoes j) = []
note_of (step.Leaves j) = []
note_of (step.Breaks j) = []
note_of (step.Restores j) = []
note_of (step.Looks j) = []
note_of (step.Parts j) = []
note_of (step.Hides j) = []
note_of (step.LooksHidden j) = []
note_of (step.Shows j) = []
note_of (step.Releases j) = []
note_of (step.SeesHolds j) = []
note_of (step.CountsHold j) = []
note_of (step.Shares j) = []
note_of (step.Sleeps slot j) = []
note_of (step.Awakes slot j) = []
note_of (step.LoadsSleepers slot j) = []
note_of (step.LoadsHold slot) = []
note_of (step.PinsHold slot) = []
note_of (step.UnpinsHold slot) = []
note_of (step.Splits slot) = []
note_of (step.StoresFresh slot) = []
note_of (step.Births slot) = []
note_of (step.TakesBias slot) = []
note_of (step.MarksNode slot) = []
note_of (step.LooksOver slot) = []
note_of (step.Unlinks slot) = []
note_of (step.Notes note) = note ∷ []
note_of (step.Reports j) = []
note_of step.Answers = []
note_of step.Compares = []
note_of (step.SeesHoldsAt slot j) = []
note_of (step.CountsHoldAt slot j) = []
note_of (step.HandsOn j) = []
note_of (step.StoresNode slot place n) = []
note_of (step.ReadsNode slot place j) = []

-- the notes that these steps add, in their order
abbrev pub notes_of : List StepKind → List Note
notes_of [] = []
notes_of (kind ∷ kinds) = note_of kind ++ notes_of kinds

-- the history that was seen
abbrev pub history_of : Seen → List Note
history_of seen = notes_of seen.steps
