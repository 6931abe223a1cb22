use Rattle.std.proofs.Common.{◌≡◌, ◌+◌, ◌++◌, ◌∙◌, List, ℕ, [], map, take, length, subst, sym, ap}
use mathlib.Core.List.{map-append}
use Rattle.kf_rounds.specs.KindViews.{kind_view}
use Rattle.kf_rounds.specs.Seats.{boards}
use Rattle.kf_rounds.specs.Turns.{Replied}
use Rattle.kf_rounds.specs.declared.kind.LineKind.{LineKind}
use Rattle.kf_rounds.proofs.Turning.{replied_round, replied_more}
use Rattle.kf_rounds.proofs.rounds.run_rounds.Goals as goal

pub loop-from-preserved : goal.loop-from-preserved
loop-from-preserved g c =
    let step = g.B.Board.step in
    let kinds : List LineKind = c.in_ok-kinds.kinds.items in
    let from : ℕ = c.loop-from.from in
    let round : List LineKind = c.round_at-round.result.now in
    let there : take (from + length round) kinds ≡ take from kinds ++ round =
    subst (λ l. take (from + length round) l ≡ take from l ++ round) c.as_slice.ensures.value c.round_at-round.ensures.there in
    let more : map kind_view (take (from + length round) kinds) ≡ map kind_view (take from kinds) ++ map kind_view round =
    ap (map kind_view) there ∙ map-append kind_view (take from kinds) round in
    let this = subst (λ bs. Replied step (map kind_view round) (boards c.loop-from.seats) bs c.loop-from.out.items c.put_replies.new.out.items) (sym c.put_replies.ensures.boards)
    (replied_round step (map kind_view round) (boards c.loop-from.seats) (boards c.run_round.new.seats) _ _ c.loop-from.out.items c.put_replies.new.out.items c.run_round.ensures.told c.in_ok-put_replies.ensures.put) in
    subst (λ ks. Replied step ks (boards c.args.seats.now) (boards c.put_replies.new.seats) [] c.put_replies.new.out.items) (sym more)
    (replied_more step (map kind_view (take from kinds)) (map kind_view round) (boards c.args.seats.now) (boards c.loop-from.seats) (boards c.put_replies.new.seats) [] c.loop-from.out.items c.put_replies.new.out.items c.loop-from.invariant this)
