use Rattle.std.proofs.Common.{◌≡◌, ◌≤◌, ℕ}
use Rattle.kf_notify.specs.PostStates.{IsSamePost, seat_view}
use Rattle.kf_notify.specs.Next.{WereLoads}
use Rattle.kf_notify.proofs.post.Post.wait_past.Given as goal

abbrev pub invariant-loop : goal.invariant-loop
invariant-loop g l = record {
  same : IsSamePost l.initial.self l.self;
  seen : l.initial.self.known ≤ l.self.known;
  made : l.self.made ≡ l.initial.self.made;
  steps : l.initial.self.steps ≤ l.self.steps;
  loads : (count : ℕ) × WereLoads l.initial.self.slot l.seen count (seat_view l.initial.self) (seat_view l.self);
}
