use Rattle.std.proofs.Common.{◌+◌, ◌∙◌, ◌++◌, [], ◌∷◌, List, ap, arith, sym}
use Rattle.std.specs.Vec.Iter.{into_iter_items}
use Rattle.std.proofs.lemmas.List.{append_assoc, length_push}
use Rattle.kf_uevents.proofs.Logs.{more_told}
use Rattle.kf_uevents.proofs.log.UeventLog.push_all.Goals as goal

pub loop-event-preserved : goal.loop-event-preserved
loop-event-preserved c =
    let i = c.loop-event.invariant in
    let long = length_push i.0 c.in-Some.event in
    let pushed = c.push.ensures.counted in
    let before = i.3 in (
      i.0 ++ c.in-Some.event ∷ [],
      i.1 ∙ ap (λ xs. i.0 ++ xs) c.in-Some.ensures.items ∙ sym (append_assoc i.0 (c.in-Some.event ∷ []) (into_iter_items c.next.new.self)),
      more_told _ _ _ i.0 (c.in-Some.event ∷ []) i.2 c.push.ensures.told,
      omega arith,
    )
