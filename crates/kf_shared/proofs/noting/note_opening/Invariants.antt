use Rattle.std.specs.Prelude.{length}
use Rattle.kf_words.specs.declared.note.Note.TheVariants.{Began}
use Rattle.kf_shared.proofs.noting.note_opening.Given as goal

-- the note has the number of slots and the root of the tree that the call is given
abbrev pub ghosts-note : goal.ghosts-note
ghosts-note a = record { note = Began (length a.told.now.log.tree) a.told.now.log.root }
