use Rattle.std.proofs.Common.{◌≡◌}
use Rattle.kf_notify.specs.PostStates.{IsSamePost}
use Rattle.kf_words.specs.Callers.{IsSameSeat}
use Rattle.kf_files.proofs.waiting_file.WaitingFile.wait_changed.Given as goal

abbrev pub invariant-loop : goal.invariant-loop
invariant-loop g l = record {
  post : IsSamePost l.initial.self.post l.self.post;
  hold : IsSameSeat l.initial.self.hold l.self.hold;
  same : l.self ≡ record l.initial.self { hold = l.self.hold; post = l.self.post };
}
