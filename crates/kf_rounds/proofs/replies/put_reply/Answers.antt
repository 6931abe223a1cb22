use Rattle.std.proofs.Common.{◌≡◌, ◌<◌, ◌∙◌, [], ℕ, set, get_or, length, rules, subst, sym, ap}
use Rattle.std.proofs.lemmas.Result.{on_ok_weaker}
use Rattle.std.proofs.lemmas.List.{get_or-map, map-set, set-get_or}
use Rattle.kf_rounds.specs.Kinds.{of_seat}
use Rattle.kf_rounds.specs.KindViews.{kind_view}
use Rattle.kf_rounds.specs.Turns.{Puts}
use Rattle.kf_rounds.specs.Seats.{board_of, boards, untaken, untakens}
use Rattle.kf_rounds.proofs.replies.put_reply.Goals as goal

pub returns-else-at-seats-clause-put : goal.returns-else-at-seats-clause-put
returns-else-at-seats-clause-put g c =
    let seats = c.args.seats.now in
    let who : ℕ = c.from-at.result in
    let item = c.index-seats-at.result in
    let near : who < length seats = search rules in
    let here : get_or (untakens seats) who [] ≡ untaken (get_or seats who item) = get_or-map untaken seats who item [] near in
    on_ok_weaker c.put_next.result (λ put. subst (λ k. Puts (kind_view k) (untakens seats) (untakens (set seats who c.put_next.new.self)) c.args.out.now.items c.put_next.new.out.items) (sym c.in-Command.is)
    (subst (λ seat. Puts (of_seat seat c.in-Command.text.bytes.now) (untakens seats) (untakens (set seats who c.put_next.new.self)) c.args.out.now.items c.put_next.new.out.items) c.from-at.ensures
    (put.0, untaken c.put_next.new.self, here ∙ put.1, map-set untaken seats who c.put_next.new.self, put.2))) c.put_next.ensures.put

pub returns-else-at-seats-clause-boards : goal.returns-else-at-seats-clause-boards
returns-else-at-seats-clause-boards g c =
    let seats = c.args.seats.now in
    let who : ℕ = c.from-at.result in
    let item = c.index-seats-at.result in
    let near : who < length seats = search rules in
    let same : board_of c.put_next.new.self ≡ get_or (boards seats) who (board_of item) =
    c.put_next.ensures.board ∙ sym (get_or-map board_of seats who item (board_of item) near) in
    map-set board_of seats who c.put_next.new.self ∙ ap (set (boards seats) who) same ∙ set-get_or (boards seats) who (board_of item)
