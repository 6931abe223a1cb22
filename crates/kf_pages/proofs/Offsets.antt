-- Reads and writes at an offset, stated in terms of what a callback returned and of a visit.
use Rattle.std.proofs.Common.{◌≡◌, ◌≢◌, ℕ, true, List, [], ◌∷◌, length, Option, Result, refl}
use Rattle.kf_core.specs.Calls.{Visit, tried}
use Rattle.kf_pages.specs.declared.ops.Fault.{Fault}
use Rattle.kf_pages.specs.declared.ops.FileError.{FileError}
use Rattle.kf_pages.specs.Files.{FileState, told_of}
use Rattle.kf_pages.specs.Binary.{front_of, ReadAt, WrittenAt, ReadsAt, NumberedRead, answer_in, after_read}

-- if there is room, there was a read
pub read-some : {Ops : Type 0} (reads_at : Ops → ℕ → ℕ → ℕ → Result (List ℕ) Fault → Ops → Type 0) (ops : Ops) (tag offset : ℕ) (out out' : List ℕ) (ops' : Ops) (answer : Result ℕ Fault)
    → length out ≢ 0 → reads_at ops tag offset (length out) (front_of answer out') ops' → ReadAt reads_at ops tag offset out out' ops' answer
read-some reads_at ops tag offset [] out' ops' answer some done = absurd (some refl)
read-some reads_at ops tag offset (byte ∷ out) out' ops' answer some done = done

-- if there are bytes, there was a write
pub written-some : {Ops : Type 0} (writes_at : Ops → ℕ → ℕ → List ℕ → Result ℕ Fault → Ops → Type 0) (ops : Ops) (tag offset : ℕ) (bytes : List ℕ) (ops' : Ops) (answer : Result ℕ Fault)
    → length bytes ≢ 0 → writes_at ops tag offset bytes answer ops' → WrittenAt writes_at ops tag offset bytes ops' answer
written-some writes_at ops tag offset [] ops' answer some done = absurd (some refl)
written-some writes_at ops tag offset (byte ∷ bytes) ops' answer some done = done

-- a read of a file that was opened for reading returns what came of its visit
pub reads-visit : (Visits : Visit NumberedRead → Type 0) (state : FileState) (told : Result ℕ FileError) (state' : FileState) (came : Option NumberedRead)
    → state.want.read ≡ true → Visits (tried came) → told ≡ told_of (λ count. count) (answer_in came) → state' ≡ after_read state came → ReadsAt Visits state told state'
reads-visit Visits state told state' came can visit answer keeps = record {
  denied = λ no. absurd cc;
  read = λ _. (came, visit, answer, keeps);
}
