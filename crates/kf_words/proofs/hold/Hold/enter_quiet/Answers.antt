use Rattle.std.proofs.Common.{◌≡◌, rules, sym, ap, ◌∙◌, subst}
use Rattle.kf_words.specs.Callers.{Handle, CallerSight, handle_of, sight_of, seat_view}
use Rattle.kf_words.specs.Layout.{active_index}
use Rattle.kf_words.specs.TableSteps.{undoes}
use Rattle.kf_words.specs.Made.{WasATry, WasLetInLive, FoundThere}
use Rattle.kf_words.specs.declared.seat.CallerSeat.{CallerSeat}
use Rattle.kf_words.specs.declared.view.CallerView.{CallerView}
use Rattle.kf_words.proofs.Made.{was_live, try_found, found_later}
use Rattle.kf_words.proofs.hold.Hold.enter_quiet.Goals as goal

pub returns-then-not-keeps_out-clause-live : goal.returns-then-not-keeps_out-clause-live
returns-then-not-keeps_out-clause-live c =
    subst (λ (s : CallerSeat). WasLetInLive (seat_view c.args.self) (sight_of s)) (sym c.moved.ensures.same)
    (subst (λ (h : Handle). WasLetInLive (seat_view h) (sight_of c.try_reference.new.self)) c.self.view_is
    (was_live _ _ c.try_reference.ensures.made (search rules)))

pub returns-then-not-keeps_out-clause-found : goal.returns-then-not-keeps_out-clause-found
returns-then-not-keeps_out-clause-found c =
    subst (λ (s : CallerSeat). FoundThere c.args.self (handle_of s)) (sym c.moved.ensures.same)
    (subst (λ (h : Handle). FoundThere h (handle_of c.try_reference.new.self)) c.self.view_is
    (try_found _ _ c.try_reference.ensures.made))

pub returns-clause-found : goal.returns-clause-found
returns-clause-found c =
    let own : CallerSight = sight_of c.self.inside.seat in
    let undone : (sight_of c.undo-due.new.self).view.found ≡ (sight_of c.try_reference.new.self).view.found = ap (λ (v : CallerView). v.found) c.undo-due.ensures.view in
    subst (λ (h : Handle). FoundThere h (handle_of c.undo-due.new.self)) c.self.view_is
    (found_later own (sight_of c.try_reference.new.self) (sight_of c.undo-due.new.self) undoes (active_index own.view.key.slot)
    (try_found _ _ c.try_reference.ensures.made) c.undo-due.ensures.made.0 undone)

pub returns-clause-due : goal.returns-clause-due
returns-clause-due c =
    let tried : CallerSight = sight_of c.try_reference.new.self in (
      c.undo-due.ensures.slot ∙ sym (ap (λ k. k.slot) c.undo-due.new.self.same_key),
      tried,
      subst (λ (h : Handle). WasATry (seat_view h) tried) c.self.view_is c.try_reference.ensures.made,
      c.undo-due.ensures.made,
    )

pub returns-clause-made : goal.returns-clause-made
returns-clause-made c =
    let tried : CallerSight = sight_of c.try_reference.new.self in
    (tried, subst (λ (h : Handle). WasATry (seat_view h) tried) c.self.view_is c.try_reference.ensures.made, c.undo-due.ensures.made.0)
