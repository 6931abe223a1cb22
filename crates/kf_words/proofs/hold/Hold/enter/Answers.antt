use Rattle.std.proofs.Common.{◌-◌, ap, ◌∙◌, subst}
use Rattle.kf_words.specs.Callers.{Handle, CallerSight, sight_of, seat_view}
use Rattle.kf_words.specs.Layout.{wants_wake}
use Rattle.kf_words.specs.Made.{WakeSpent}
use Rattle.kf_words.specs.declared.view.CallerView.{CallerView}
use Rattle.kf_words.proofs.Made.{found_spent}
use Rattle.kf_words.proofs.hold.Hold.enter.Goals as goal

pub returns-in-Err-clause-found : goal.returns-in-Err-clause-found
returns-in-Err-clause-found c =
    let after : CallerSight = sight_of c.spend.new.seat in
    found_spent (seat_view c.args.self) (seat_view c.in-Err.hold) after _ (wants_wake (c.in-Err.due.found - 1)) c.in-Err.ensures.found
    (subst (λ (h : Handle). WakeSpent (wants_wake (c.in-Err.due.found - 1)) (seat_view h) after) c.hold.view_is c.spend.ensures.spent)
    (ap (λ (v : CallerView). v.found) c.spend.ensures.view ∙ ap (λ (h : Handle). h.found) c.hold.view_is)

pub returns-in-Err-clause-made : goal.returns-in-Err-clause-made
returns-in-Err-clause-made c =
    let after : CallerSight = sight_of c.spend.new.seat in
    let due = c.in-Err.ensures.due in (
      due.1,
      seat_view c.in-Err.hold,
      c.in-Err.due.found,
      due.2,
      due.3,
      subst (λ (h : Handle). WakeSpent (wants_wake (c.in-Err.due.found - 1)) (seat_view h) after) c.hold.view_is c.spend.ensures.spent,
    )
