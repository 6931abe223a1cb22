use Rattle.kf_words.specs.declared.note.Note.TheVariants.{LockTaken}
use Rattle.kf_shared.proofs.noting.note_taken.Given as goal

abbrev pub ghosts-note : goal.ghosts-note
ghosts-note a = record { note = LockTaken }
