use Rattle.kf_words.specs.declared.note.Note.TheVariants.{LockReleased}
use Rattle.kf_shared.proofs.noting.note_released.Given as goal

abbrev pub ghosts-note : goal.ghosts-note
ghosts-note a = record { note = LockReleased }
