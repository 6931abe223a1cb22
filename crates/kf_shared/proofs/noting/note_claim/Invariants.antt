use Rattle.kf_words.specs.declared.note.Note.TheVariants.{Claimed}
use Rattle.kf_shared.proofs.noting.note_claim.Given as goal

-- the note is a claim of the key that the call is given
abbrev pub ghosts-note : goal.ghosts-note
ghosts-note a = record { note = Claimed a.told.now }
