use Rattle.std.proofs.Common.{◌<◌, ◌∙◌, ap, sym, subst, rules}
use Rattle.kf_core.specs.declared.key.Node.{Node}
use Rattle.kf_words.specs.declared.sight.Seen.{Seen}
use Rattle.kf_words.specs.Callers.{Handle, TableId, handle_of, sight_of, seat_view}
use Rattle.kf_words.specs.Layout.{hold_index}
use Rattle.kf_words.specs.Makers.{AreOwnersOf}
use Rattle.kf_words.specs.Pins.{WasHeldFor, WasPinnedAndRead}
use Rattle.kf_words.proofs.Owners.{popped}
use Rattle.kf_words.proofs.holds.Holds.pin.Goals as goal

pub returns-then-is_empty-clause-made : goal.returns-then-is_empty-clause-made
returns-then-is_empty-clause-made c =
    subst (λ (h : Handle). WasHeldFor c.args.key (seat_view h) (sight_of c.pin.new.self) (handle_of c.in_ok-seat.seat)) (ap (λ m. m.by) c.self.view_is) c.in_ok-seat.ensures.made

pub seat-seat-requires-clause-table : goal.seat-seat-requires-clause-table
seat-seat-requires-clause-table c =
    let owners = popped c.self.inside.by.token.table_id _ c.pop.new.self.items c.in-Some.owner c.in-Some.ensures.items c.self.invariant.1 in
    c.in_ok-node.ensures.token.0 ∙ c.pin_token.ensures.same.table ∙ sym owners.1

pub seat-seat-requires-clause-slot : goal.seat-seat-requires-clause-slot
seat-seat-requires-clause-slot c =
    let owners = popped c.self.inside.by.token.table_id _ c.pop.new.self.items c.in-Some.owner c.in-Some.ensures.items c.self.invariant.1 in
    subst (λ (t : TableId). hold_index c.args.key.slot < t.words) (sym owners.1) (search rules)

pub invariant_of-self-2 : goal.invariant_of-self-2
invariant_of-self-2 c =
    let owners = popped c.self.inside.by.token.table_id _ c.pop.new.self.items c.in-Some.owner c.in-Some.ensures.items c.self.invariant.1 in
    (search rules, subst (λ (t : TableId). AreOwnersOf t c.pop.new.self.items) (sym c.pin_token.ensures.same.table) owners.0, search rules)

pub returns-clause-made : goal.returns-clause-made
returns-clause-made c =
    let made = c.seat-seat.result in
    let after = sight_of c.pin_token.new.self in
    let seen = ap (λ t. t.me.0.seen) (sym c.seat-seat.ensures.token) in
    subst (λ (h : Handle). WasPinnedAndRead c.args.key (handle_of made).node (seat_view h) after made.token.me.0.seen) (ap (λ m. m.by) c.self.view_is)
    (subst (λ (s : Seen). WasPinnedAndRead c.args.key (handle_of made).node (sight_of c.self.inside.by) after s) seen
    (subst (λ (n : Node). WasPinnedAndRead c.args.key n (sight_of c.self.inside.by) after c.in_ok-node.token.me.0.seen) (sym c.seat-seat.ensures.node) c.in_ok-node.ensures.made))
