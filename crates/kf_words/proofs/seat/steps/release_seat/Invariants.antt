use Rattle.kf_words.proofs.seat.steps.release_seat.Given as goal

-- the greatest number of holds of a slot is the one that the seat knows
abbrev pub ghosts-release_of : goal.ghosts-release_of
ghosts-release_of a = record { most = a.seat.now.most }
