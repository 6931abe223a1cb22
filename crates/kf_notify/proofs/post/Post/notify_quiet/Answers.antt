use Rattle.std.proofs.Common.{rules, ℕ, subst}
use Rattle.kf_notify.specs.PostStates.{seat_view}
use Rattle.kf_notify.specs.Next.{WasLoad}
use Rattle.kf_notify.proofs.post.Post.notify_quiet.Goals as goal

pub returns-then-found-clause-kept : goal.returns-then-found-clause-kept
returns-then-found-clause-kept c = subst (λ (n : ℕ). WasLoad c.args.self.now.slot n (seat_view c.args.self.now) (seat_view c.now-found.new.self)) (search rules) c.now-found.ensures.next
