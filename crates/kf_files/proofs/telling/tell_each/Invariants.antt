use Rattle.std.proofs.Common.{take}
use Rattle.kf_shared.specs.Removal.{keys_of}
use Rattle.kf_files.specs.Telling.{WereTold}
use Rattle.kf_files.proofs.telling.tell_each.Given as goal

abbrev pub invariant-loop-hold : goal.invariant-loop-hold
invariant-loop-hold l = WereTold l.initial.posts (keys_of (take l.hold-index l.holds)) l.posts
