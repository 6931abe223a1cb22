use Rattle.std.proofs.Common.{◌≡◌, map, take}
use Rattle.kf_rounds.specs.KindViews.{kind_view}
use Rattle.kf_rounds.specs.Turns.{PutOut}
use Rattle.kf_rounds.specs.Seats.{boards, untakens}
use Rattle.kf_rounds.proofs.replies.put_replies.Given as goal

-- the lines so far have their replies
abbrev pub invariant-loop-kind : goal.invariant-loop-kind
invariant-loop-kind g l = record {
  put : PutOut (map kind_view (take l.kind-index l.kinds)) (untakens l.fn.seats) (untakens l.seats) l.fn.out.items l.out.items;
  boards : boards l.seats ≡ boards l.fn.seats;
}
