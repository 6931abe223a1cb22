-- A write on the board: what its store returned decides which step of the board it is.
use Rattle.std.proofs.Common.{◌≡◌, ℕ, Bool, true, false, List, [], ◌∷◌, Option, None, Some, Result, Ok, IsTrue, inl, inr, refl, sym, ap, subst, ◌∙◌}
use Rattle.kf_core.specs.declared.refusal.Refusal.{Refusal}
use Rattle.kf_core.specs.declared.refusal.Refusal.TheVariants.{Access, NoDevice}
use Rattle.kf_core.specs.Refusals.{unless, first_cause}
use Rattle.kf_core.specs.Calls.{Visit, tried}
use Rattle.kf_table.specs.Live.{live_in}
use Rattle.kf_tree.specs.Paths.{and_then}
use Rattle.kf_pages.specs.declared.ops.Fault.{Fault}
use Rattle.kf_pages.specs.declared.ops.FileError.{FileError}
use Rattle.kf_pages.specs.Files.{Writes, Stored, told_of}
use Rattle.kf_script.specs.Requests.{write_file}
use Rattle.kf_plain.specs.Plain.{Plain, OpenPlainFile}
use Rattle.kf_plain.specs.PlainFiles.{known_file, stored_file, VisitsNode, StoresText, StoresOnBoard}
use Rattle.kf_replies.specs.ReplyParts.{count_text}
use Rattle.kf_plain.specs.Settled.{Settled, ok_unless}
use Rattle.kf_plain.specs.PlainStep.{PlainStep}

-- the visit of a write that stores by this relation
abbrev visits : (Plain → ℕ → List ℕ → Result ℕ Fault → Plain → Type 0) → Plain → OpenPlainFile → List ℕ → Plain → Visit (Result ℕ Fault) → Type 0
visits stores b opened text now visit = VisitsNode b opened.key (now ≡ b) (λ stored. Stored stores b opened.key.slot text now stored) visit

answered : (b : Plain) (file : ℕ) (text reply : List ℕ) (now : Plain) (opened : OpenPlainFile) (answer : Result ℕ FileError)
    → known_file b file ≡ Ok opened → reply ≡ count_text answer → Writes (visits StoresText b opened text now) opened.kept answer
    → (starved : Bool) × PlainStep b (write_file file text) starved reply now
answered b file text reply now opened answer leads told writes =
    (false, subst (λ l. Settled l (λ opened. (answer : Result ℕ FileError) × Writes (visits StoresText b opened text now) opened.kept answer × (reply ≡ count_text answer)) b reply now) (sym leads) (answer, writes, told))

-- the file was not opened for writing
denied : (b : Plain) (text : List ℕ) (now : Plain) (opened : OpenPlainFile) (answer : Result ℕ FileError) → opened.kept.want.write ≡ false
    → Writes (visits StoresOnBoard b opened text now) opened.kept answer → Writes (visits StoresText b opened text now) opened.kept answer
denied b text now opened answer e writes = record {
  denied = λ no. writes.denied no;
  stored = λ yes. absurd (let bad : false ≡ true = sym e ∙ yes in cc);
}

-- the file was opened for writing, and this is the result of its visit
stored : (b : Plain) (text : List ℕ) (now : Plain) (opened : OpenPlainFile) (answer : Result ℕ FileError) (came : Option (Result ℕ Fault)) → opened.kept.want.write ≡ true
    → visits StoresText b opened text now (tried came) → answer ≡ told_of (λ count. count) came → Writes (visits StoresText b opened text now) opened.kept answer
stored b text now opened answer came e visited told = record {
  denied = λ no. absurd (let bad : true ≡ false = sym e ∙ no in cc);
  stored = λ yes. (came, visited, told);
}

-- nothing refuses the store if the file was opened for writing and its node is live
may_store : (b : Plain) (file : ℕ) (opened : OpenPlainFile) → known_file b file ≡ Ok opened → opened.kept.want.write ≡ true → live_in b.log.tree opened.key ≡ true → stored_file b file ≡ Ok opened
may_store b file opened leads may live =
    ap (λ (r : Result OpenPlainFile Refusal). and_then r (λ f. ok_unless (first_cause (unless f.kept.want.write Access ∷ unless (live_in b.log.tree f.key) NoDevice ∷ [])) f)) leads
    ∙ ap (λ w. ok_unless (first_cause (unless w Access ∷ unless (live_in b.log.tree opened.key) NoDevice ∷ [])) opened) may
    ∙ ap (λ l. ok_unless (first_cause (unless true Access ∷ unless l NoDevice ∷ [])) opened) live

written_under : (b : Plain) (file : ℕ) (text reply : List ℕ) (now : Plain) (opened : OpenPlainFile) (answer : Result ℕ FileError) (came : Option (Result ℕ Fault))
    → known_file b file ≡ Ok opened → reply ≡ count_text answer → opened.kept.want.write ≡ true
    → visits StoresOnBoard b opened text now (tried came) → answer ≡ told_of (λ count. count) came → (starved : Bool) × PlainStep b (write_file file text) starved reply now
written_under b file text reply now opened answer None leads told e visited came = answered b file text reply now opened answer leads told (stored b text now opened answer None e visited came)
written_under b file [] reply now opened answer (Some result) leads told e visited came = answered b file [] reply now opened answer leads told (stored b [] now opened answer (Some result) e visited came)
written_under b file (byte ∷ text) reply now opened answer (Some result) leads told e (live, inl kept) came =
    answered b file (byte ∷ text) reply now opened answer leads told (stored b (byte ∷ text) now opened answer (Some result) e (live, kept) came)
written_under b file (byte ∷ text) reply now opened answer (Some result) leads told e (live, inr (wanting, same)) came =
    (true, (((opened, may_store b file opened leads e live), refl), told ∙ ap count_text (came ∙ ap (λ r. told_of (λ count. count) (Some r)) wanting), same))

written_by : (b : Plain) (file : ℕ) (text reply : List ℕ) (now : Plain) (opened : OpenPlainFile) (answer : Result ℕ FileError) (writes : Bool) → opened.kept.want.write ≡ writes
    → known_file b file ≡ Ok opened → reply ≡ count_text answer → Writes (visits StoresOnBoard b opened text now) opened.kept answer → (starved : Bool) × PlainStep b (write_file file text) starved reply now
written_by b file text reply now opened answer false e leads told writes = answered b file text reply now opened answer leads told (denied b text now opened answer e writes)
written_by b file text reply now opened answer true e leads told writes =
    let may : IsTrue opened.kept.want.write = e in
    let (came, visited, from) = writes.stored may in
    written_under b file text reply now opened answer came leads told e visited from

-- a write is a step of the board, whatever its store returned
pub written : (b : Plain) (file : ℕ) (text reply : List ℕ) (now : Plain) (opened : OpenPlainFile) (answer : Result ℕ FileError)
    → known_file b file ≡ Ok opened → reply ≡ count_text answer → Writes (visits StoresOnBoard b opened text now) opened.kept answer → (starved : Bool) × PlainStep b (write_file file text) starved reply now
written b file text reply now opened answer leads told writes = written_by b file text reply now opened answer opened.kept.want.write refl leads told writes
