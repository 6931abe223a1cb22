-- What it means to read and to write a binary attribute.
use Rattle.std.specs.Prelude.{◌≡◌, ℕ, List, [], ◌∷◌, length, take, Option, None, Some, Result, Ok, Err, IsTrue, IsFalse}
use Rattle.std.specs.Option.{option_map}
use Rattle.kf_core.specs.declared.refusal.Refusal.TheVariants.{Access}
use Rattle.kf_core.specs.Calls.{Visit, unvisited, tried}
use Rattle.kf_pages.specs.declared.ops.Fault.{Fault}
use Rattle.kf_pages.specs.declared.ops.FileError.{FileError}
use Rattle.kf_pages.specs.declared.ops.FileError.TheVariants.{Refused}
use Rattle.kf_pages.specs.Files.{FileState, told_of}

-- what a read that returned this made of the buffer: the bytes at its front, or its fault
abbrev pub front_of : Result ℕ Fault → List ℕ → Result (List ℕ) Fault
front_of (Ok count) out = Ok (take count out)
front_of (Err fault) out = Err fault

-- a read at an offset, after which the buffer is this. If the buffer has no room, no read is made, and the
-- result is 0
abbrev pub ReadAt : {Ops : Type 0} → (Ops → ℕ → ℕ → ℕ → Result (List ℕ) Fault → Ops → Type 0)
    → Ops → ℕ → ℕ → List ℕ → List ℕ → Ops → Result ℕ Fault → Type 0
ReadAt reads_at ops tag offset [] out' ops' answer = (answer ≡ Ok 0) × (ops' ≡ ops)
ReadAt reads_at ops tag offset (byte ∷ out) out' ops' answer =
    reads_at ops tag offset (length (byte ∷ out)) (front_of answer out') ops'

-- a write of these bytes at an offset. If there are no bytes, no write is made, and the result is 0
abbrev pub WrittenAt : {Ops : Type 0} → (Ops → ℕ → ℕ → List ℕ → Result ℕ Fault → Ops → Type 0)
    → Ops → ℕ → ℕ → List ℕ → Ops → Result ℕ Fault → Type 0
WrittenAt writes_at ops tag offset [] ops' answer = (answer ≡ Ok 0) × (ops' ≡ ops)
WrittenAt writes_at ops tag offset (byte ∷ bytes) ops' answer =
    writes_at ops tag offset (byte ∷ bytes) answer ops'

-- a read at an offset: the event number that was taken before it, and what it returned
pub record NumberedRead : Type 0 where
  pub number : ℕ
  pub answer : Result ℕ Fault

-- what a read returned, if there was one
abbrev pub answer_in : Option NumberedRead → Option (Result ℕ Fault)
answer_in came = option_map (λ read. read.answer) came

-- the file after a read at an offset: it keeps the event number that was taken. None: there was no call, so
-- no read
abbrev pub after_read : FileState → Option NumberedRead → FileState
after_read state None = state
after_read state (Some read) = record state { number = read.number }

-- a read of an open file at an offset. `Visits` says what came of the visit to the node
pub record ReadsAt (Visits : Visit NumberedRead → Type 0)
    (state : FileState) (told : Result ℕ FileError) (state' : FileState) : Type 0 where
  pub denied : IsFalse state.want.read → Visits unvisited × (told ≡ Err (Refused Access)) × (state' ≡ state)
  pub read : IsTrue state.want.read
      → (came : Option NumberedRead) × Visits (tried came)
      × (told ≡ told_of (λ count. count) (answer_in came)) × (state' ≡ after_read state came)
