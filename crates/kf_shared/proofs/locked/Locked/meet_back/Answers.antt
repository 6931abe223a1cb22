use Rattle.std.proofs.Common.{◌-◌, [], ◌∷◌, ◌++◌, inr, ap, ◌∙◌, subst, arith}
use Rattle.std.specs.VecDeque.{deque_len}
use mathlib.Core.List.{IsPrefix}
use Rattle.kf_words.specs.Callers.{Handle}
use Rattle.kf_words.specs.Notes.{history_of}
use Rattle.kf_shared.specs.Locked.{Locked, history}
use Rattle.kf_shared.proofs.Turns.{last_set}
use Rattle.kf_shared.proofs.locked.Locked.meet_back.Goals as goal

pub returns-in-Some-clause-met : goal.returns-in-Some-clause-met
returns-in-Some-clause-met g c =
    let some = c.in-Some.ensures.item.3.0 in
    let len = c.args.holds.now.ok.0 in
    let set = last_set (deque_len c.args.holds.now - 1) c.args.holds.now.items c.in-Some.last.now c.meet.new.hold (omega (arith, some, len)) c.in-Some.ensures.value in
    inr (
      set.0,
      c.in-Some.last.now,
      set.1,
      set.2 ∙ ap (λ (h : Handle). set.0 ++ h ∷ []) c.meet.ensures.hold,
      subst (λ (l : Locked). IsPrefix (history_of c.in-Some.last.now.seen) (history l)) c.self.view_is c.meet.ensures.after,
    )
