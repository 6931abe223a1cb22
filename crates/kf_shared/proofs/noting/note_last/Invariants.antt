use Rattle.kf_shared.specs.Noted.{last_stored}
use Rattle.kf_shared.proofs.noting.note_last.Given as goal

-- the note is the command that was stored last
abbrev pub ghosts-note : goal.ghosts-note
ghosts-note a = record { note = last_stored a.told.now.log.commands }
