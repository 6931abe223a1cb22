-- What a write does with a visit.
use Rattle.std.proofs.Common.{◌≡◌, ◌≢◌, ℕ, true, List, [], ◌∷◌, length, min, take, Option, Result, refl}
use Rattle.std.proofs.lemmas.List.{take_min}
use Rattle.std.proofs.Math.Nat.{min_comm}
use Rattle.kf_core.specs.Calls.{Visit, tried}
use Rattle.kf_pages.specs.declared.ops.Fault.{Fault}
use Rattle.kf_pages.specs.declared.ops.FileError.{FileError}
use Rattle.kf_pages.specs.Files.{FileState, Stored, Writes, told_of}

-- if there are bytes, at most a page of them is stored
pub Stored-some : {Ops : Type 0} (stores : Ops → ℕ → List ℕ → Result ℕ Fault → Ops → Type 0) (ops : Ops) (tag : ℕ) (bytes : List ℕ) (ops' : Ops) (stored : Result ℕ Fault)
    → length bytes ≢ 0 → stores ops tag (take (min (length bytes) 4096) bytes) stored ops' → Stored stores ops tag bytes ops' stored
Stored-some stores ops tag [] ops' stored some done = absurd (some refl)
Stored-some stores ops tag (byte ∷ bytes) ops' stored some done = rw (min_comm (length (byte ∷ bytes)) 4096, take_min) at done

-- a write to a file that was opened for writing returns what came of its visit
pub Writes-visit : (Visits : Visit (Result ℕ Fault) → Type 0) (state : FileState) (told : Result ℕ FileError) (came : Option (Result ℕ Fault))
    → state.want.write ≡ true → Visits (tried came) → told ≡ told_of (λ count. count) came → Writes Visits state told
Writes-visit Visits state told came can visit answer = record {
  denied = λ no. absurd cc;
  stored = λ _. (came, visit, answer);
}
