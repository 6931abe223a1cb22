use Rattle.kf_words.proofs.master.Master.meet_seat.Given as goal

-- each seat that ends has the sight that it had
abbrev pub ghosts-hear : goal.ghosts-hear
ghosts-hear a = record { sight = a.other.me.0 }

abbrev pub ghosts-take_over : goal.ghosts-take_over
ghosts-take_over a = record { sight = a.other.me.0 }
