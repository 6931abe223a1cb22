-- What an open file keeps, and what it means to open, read, write and poll one.
use Rattle.std.specs.Prelude.{◌≡◌, ℕ, ◌<◌, ◌⊎◌, ◌++◌, ◌==◌, ◌&&◌, ◌||◌, Bool, true, not, List, [], ◌∷◌, length, take, drop, bit_and, is_some, Option, None, Some, Result, Ok, Err, IsTrue, IsFalse}
use Rattle.std.specs.Option.{option_map, unwrap_or}
use Rattle.std.specs.Result.{result_ok, result_map_both}
use Rattle.kf_core.specs.declared.key.Key.{Key}
use Rattle.kf_core.specs.declared.key.Node.{Node}
use Rattle.kf_core.specs.declared.key.Node.TheVariants.{Dir, File, Link}
use Rattle.kf_core.specs.declared.refusal.Refusal.{Refusal}
use Rattle.kf_core.specs.declared.refusal.Refusal.TheVariants.{Access, NoDevice, IsDir, Invalid}
use Rattle.kf_core.specs.Refusals.{unless, first_cause}
use Rattle.kf_core.specs.Calls.{Visit, unvisited, tried}
use Rattle.kf_pages.specs.declared.contents.Want.{Want}
use Rattle.kf_pages.specs.declared.ops.Fault.{Fault}
use Rattle.kf_pages.specs.declared.ops.FileError.{FileError}
use Rattle.kf_pages.specs.declared.ops.FileError.TheVariants.{Refused, Callback}

-- what the file was opened for, the text that is buffered, and the event number that was taken for its last
-- show, or for its last read of a binary attribute
pub record FileState : Type 0 where
  pub want : Want
  pub text : Option (List ℕ)
  pub number : ℕ

-- a file that was just opened
abbrev pub new_file : Want → FileState
new_file want = record { want = want; text = None; number = 0 }

-- the text of a page; a full page loses its last byte
abbrev pub text_of : List ℕ → List ℕ
text_of page = take 4095 page

-- at most `count` bytes of the text from the offset on, and none past its end
abbrev pub slice : List ℕ → ℕ → ℕ → List ℕ
slice text offset count = take count (drop offset text)

-- the outcome of a show that returned this and left this on the page: the page, or its fault
abbrev pub filled_by : Result (Unit {0}) Fault → List ℕ → Result (List ℕ) Fault
filled_by (Ok _) page = Ok page
filled_by (Err fault) page = Err fault

-- the buffered text, or an empty one if there is none
abbrev pub text_in_file : FileState → List ℕ
text_in_file state = unwrap_or state.text []

-- what a read of at most `count` bytes at the offset returns of the text that was made ready, or why there is
-- no text
abbrev pub text_told : FileState → ℕ → ℕ → Result (Unit {0}) FileError → Result (List ℕ) FileError
text_told state offset count (Ok _) = Ok (slice (text_in_file state) offset count)
text_told state offset count (Err error) = Err error

-- a show: the event number that was taken before it, and the page that it filled or its fault
pub record ShowResult : Type 0 where
  pub number : ℕ
  pub filled : Result (List ℕ) Fault

-- the file after a show; after a fault it has no text. None: there was no call, so no show
abbrev pub file_after : FileState → Option ShowResult → FileState
file_after state None = state
file_after state (Some shown) =
    record state { text = option_map text_of (result_ok shown.filled); number = shown.number }

-- what an operation on a file returns for this result of its callback. None: there was no call, so no
-- callback
abbrev pub told_of : {Answer Told : Type 0}
    → (Answer → Told) → Option (Result Answer Fault) → Result Told FileError
told_of tell None = Err (Refused NoDevice)
told_of tell (Some answer) = result_map_both tell Callback answer

-- what a show filled, if there was one
abbrev pub filled_in : Option ShowResult → Option (Result (List ℕ) Fault)
filled_in came = option_map (λ shown. shown.filled) came

-- a try for a call, and a show under it: what came of the try, what is returned, and the file after it
pub record TriesShow (Visits : Visit ShowResult → Type 0)
    (state : FileState) (told : Result (Unit {0}) FileError) (state' : FileState) : Type 0 where
  pub came : Option ShowResult
  pub visit : Visits (tried came)
  pub answer : told ≡ told_of (λ _. tt) (filled_in came)
  pub keeps : state' ≡ file_after state came

-- a read of at most `count` bytes at the offset. `Visits` says what came of the visit to the node, and
-- `Answers` what is returned
pub record Reads (Visits : Visit ShowResult → Type 0) (Answers : Result (List ℕ) FileError → Type 0)
    (state : FileState) (offset count : ℕ) (state' : FileState) : Type 0 where
  pub denied : IsFalse state.want.read → Visits unvisited × Answers (Err (Refused Access)) × (state' ≡ state)
  pub buffered : (text : List ℕ) → IsTrue state.want.read → 0 < offset → state.text ≡ Some text
      → Visits unvisited × Answers (Ok (slice text offset count)) × (state' ≡ state)
  pub shown : IsTrue state.want.read → (offset ≡ 0) ⊎ (state.text ≡ None)
      → (came : Option ShowResult) × Visits (tried came)
      × Answers (told_of (λ page. slice (text_of page) offset count) (filled_in came))
      × (state' ≡ file_after state came)

-- the result is the number of these bytes, which are now at the front of the buffer; the rest of the buffer
-- stays, and all of it does after an error
abbrev pub Gives : List ℕ → Result ℕ FileError → List ℕ → Result (List ℕ) FileError → Type 0
Gives out told out' (Ok bytes) = (told ≡ Ok (length bytes)) × (out' ≡ bytes ++ drop (length bytes) out)
Gives out told out' (Err error) = (told ≡ Err error) × (out' ≡ out)

-- a store of the first 4,096 bytes. If there are no bytes, no store is made, and the result is 0
abbrev pub Stored : {Ops : Type 0} → (Ops → ℕ → List ℕ → Result ℕ Fault → Ops → Type 0)
    → Ops → ℕ → List ℕ → Ops → Result ℕ Fault → Type 0
Stored stores ops tag [] ops' answer = (answer ≡ Ok 0) × (ops' ≡ ops)
Stored stores ops tag (byte ∷ bytes) ops' answer = stores ops tag (take 4096 (byte ∷ bytes)) answer ops'

-- a write. It leaves the file as it was
pub record Writes (Visits : Visit (Result ℕ Fault) → Type 0)
    (state : FileState) (told : Result ℕ FileError) : Type 0 where
  pub denied : IsFalse state.want.write → Visits unvisited × (told ≡ Err (Refused Access))
  pub stored : IsTrue state.want.write
      → (came : Option (Result ℕ Fault)) × Visits (tried came) × (told ≡ told_of (λ count. count) came)

-- a poll reports a change if there was no call, or if the event number now differs from the one that the file
-- keeps
abbrev pub is_changed : FileState → Option ℕ → Bool
is_changed state None = true
is_changed state (Some now) = not (now == state.number)

-- a poll. It leaves the file as it was
abbrev pub Polls : (Visit ℕ → Type 0) → FileState → Bool → Type 0
Polls Visits state changed = (came : Option ℕ) × Visits (tried came) × (changed ≡ is_changed state came)

-- whether the mode lets somebody read; the bits are 444 in octal
abbrev pub is_readable : ℕ → Bool
is_readable mode = not (bit_and mode 292 == 0)

-- whether the mode lets somebody write; the bits are 222 in octal
abbrev pub is_writable : ℕ → Bool
is_writable mode = not (bit_and mode 146 == 0)

-- whether the mode lets the file be read and written as wanted
abbrev pub allows : ℕ → Want → Bool
allows mode want = (not want.read || is_readable mode) && (not want.write || is_writable mode)

-- why an open of a file is refused, given whether its try got a call. None: it is not refused
abbrev pub open_cause : ℕ → Want → Bool → Option Refusal
open_cause mode want active = first_cause (unless active NoDevice ∷ unless (allows mode want) Access ∷ [])

-- an open of this node
pub record Opens (Visits : Visit (Unit {0}) → Type 0)
    (node : Node) (want : Want) (refused : Option Refusal) : Type 0 where
  pub dir : node ≡ Dir → Visits unvisited × (refused ≡ Some IsDir)
  pub link : (target : Key) → node ≡ Link target → Visits unvisited × (refused ≡ Some Invalid)
  pub file : (mode tag : ℕ) → node ≡ File mode tag
      → (came : Option (Unit {0})) × Visits (tried came) × (refused ≡ open_cause mode want (is_some came))

-- the tag of a file's node, or 0 for another node
abbrev pub tag_of : Node → ℕ
tag_of Dir = 0
tag_of (File mode tag) = tag
tag_of (Link target) = 0

-- the fault of a call for a tag that no file has
abbrev pub unknown_tag : Fault
unknown_tag = record { number = 22 }
