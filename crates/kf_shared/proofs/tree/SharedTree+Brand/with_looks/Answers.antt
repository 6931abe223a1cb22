use Rattle.std.proofs.Common.{[], ◌∷◌, ◌++◌, length, ap, sym, subst, replicate, ◌∙◌}
use Rattle.kf_words.specs.declared.note.Note.TheVariants.{Began}
use Rattle.kf_words.specs.Notes.{history_of}
use Rattle.kf_shared.specs.Locked.{IsTied}
use Rattle.kf_shared.specs.Noted.{IsNoted}
use Rattle.kf_shared.proofs.Notes.{noted_opening}
use Rattle.kf_shared.proofs.Opening.{slots_of, tied_opening}
use Rattle.kf_shared.proofs.OfRun.{run_opening}
use Rattle.kf_shared.proofs.Told.{tied_words}
use Rattle.kf_shared.proofs.tree.SharedTree+Brand.with_looks.Goals as goal

pub invariant_of-result : goal.invariant_of-result
invariant_of-result c =
    let live = c.in_ok-state.state in
    let s = live.log in
    let m = c.in_ok-_words.master in
    let m1 = c.note_opening.new.master in
    let claims = c.in_ok-claims.claims.items in
    let made = c.in_ok-state.ensures.made in
    let none = c.in_ok-claims.ensures ∙ ap (λ n. replicate n 0) c.slots.ensures.value in
    let long = slots_of c.args.limits.slots c.args.limits.holds c.args.start s m claims c.args.limits.some_slot made c.in_ok-_words.ensures.view c.in_ok-_words.ensures.nodes none in
    let noted : IsNoted s claims (history_of m1.seen) =
    subst (IsNoted s claims) (sym (c.note_opening.ensures.history ∙ ap (λ l. l ++ Began (length s.tree) s.root ∷ []) c.in_ok-_words.ensures.history)) (noted_opening c.args.limits.slots _ s claims made long none) in (
      subst (λ t. IsTied t s m1 claims) (sym c.note_opening.ensures.words.table)
          (tied_words m.table s m m1 claims (tied_opening c.args.limits.slots c.args.limits.holds c.args.start s m claims c.args.limits.some_slot
          made c.in_ok-_words.ensures.view c.in_ok-_words.ensures.nodes none) c.note_opening.ensures.words),
      (noted, run_opening s claims (history_of m1.seen) noted live.links made.kept.lawful c.in_ok-state.ensures.untold),
    )
