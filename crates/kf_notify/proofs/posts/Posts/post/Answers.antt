use Rattle.std.proofs.Common.{rules, ℕ, sym, ap, subst}
use Rattle.kf_notify.specs.declared.view.NumberView.{NumberView}
use Rattle.kf_notify.specs.PostStates.{PostState, seat_view}
use Rattle.kf_notify.specs.Next.{WasLoad}
use Rattle.kf_notify.proofs.posts.Posts.post.Goals as goal

pub returns-clause-made : goal.returns-clause-made
returns-clause-made c = record {
  numbers_are = search rules;
  slot_is = search rules;
  seen = search rules;
  none_made = search rules;
  no_less = search rules;
  one_step = search rules;
  next = (
    c.in_ok-seat.seat.token.me.0,
    search rules,
    subst (λ (p : PostState). WasLoad c.args.slot p.found c.in_ok-seat.seat.token.me.0 (seat_view p)) (sym c.new.ensures.made)
        (subst (λ (n : ℕ). WasLoad c.args.slot n c.in_ok-seat.seat.token.me.0 c.load.new.self.token.me.0) (sym (ap (λ (v : NumberView). v.found) c.load.ensures.view)) c.load.ensures.next),
  );
}
