use Rattle.std.proofs.Common.{rules, ℕ, refl, subst}
use Rattle.kf_notify.specs.Next.{WasLoad}
use Rattle.kf_notify.proofs.posts.Posts.notify.Goals as goal

pub returns-then-found-clause-full : goal.returns-then-found-clause-full
returns-then-found-clause-full c = record {
  before = c.self.inside.seat.token.me.0;
  after = c.load-found.new.self.token.me.0;
  had = search rules;
  load = subst (λ (n : ℕ). WasLoad c.args.slot n c.self.inside.seat.token.me.0 c.load-found.new.self.token.me.0) (search rules) c.load-found.ensures.next;
  has = refl;
}
