use Rattle.std.proofs.Common.{ℕ, sym, subst}
use Rattle.kf_notify.specs.PostStates.{PostState, post_of, seat_view}
use Rattle.kf_notify.specs.Next.{WasLoad}
use Rattle.kf_notify.proofs.post.Post.now.Goals as goal

pub returns-clause-next : goal.returns-clause-next
returns-clause-next c = subst (λ (p : PostState). WasLoad p.slot c.load.result (seat_view p) (seat_view (post_of c.load.new.self))) c.self.view_is
    (subst (λ (k : ℕ). WasLoad k c.load.result c.self.inside.seat.token.me.0 c.load.new.self.token.me.0) (sym c.self.invariant.own) c.load.ensures.next)
