use Rattle.std.proofs.Common.{[], ◌∷◌, ◌++◌, refl, ap, ◌∙◌}
use Rattle.kf_core.specs.declared.key.Key.{Key}
use Rattle.kf_core.specs.declared.command.Command.TheVariants.{Hide}
use Rattle.kf_words.specs.declared.note.Note.TheVariants.{Did}
use Rattle.kf_words.specs.Notes.{history_of}
use Rattle.kf_shared.specs.Locked.{Locked}
use Rattle.kf_shared.proofs.Ties.{tied_hidden}
use Rattle.kf_shared.proofs.Told.{tied_words, held_same, adds_last, noted_last}
use Rattle.kf_shared.proofs.locked.Locked.hide.Goals as goal

pub invariant_of-self-in-Ok : goal.invariant_of-self-in-Ok
invariant_of-self-in-Ok g c =
    let ready = c.in_default-may_hide.ensures.readied in
    let s0 = c.self.inside.state in
    let s = c.may_hide.new.self in
    let s' = c.hide-in-Ok.new.self in
    let m = c.self.inside.master in
    let m1 = c.note_last.new.master in
    let claims = c.self.inside.claims.items in
    let held = held_same g.N.Naming.table s0 s m claims c.self.invariant ready.same_root ready.same_tree ready.same_commands c.may_hide.ensures.untold in
    let accepted = c.hide-in-Ok.ensures.accepted in (
      tied_hidden g.N.Naming.table s.log s'.log m1 claims c.key-key.result _
          (tied_words g.N.Naming.table s.log m m1 claims held.0 c.note_last.ensures.words) accepted,
      noted_last s s' m m1 m1 _ _ accepted c.note_last.ensures refl claims held.1 c.hide-in-Ok.ensures.told,
    )

pub invariant_of-self-in-Err-hide : goal.invariant_of-self-in-Err-hide
invariant_of-self-in-Err-hide g c =
    let ready = c.in_default-may_hide.ensures.readied in
    held_same g.N.Naming.table c.self.inside.state c.may_hide.new.self c.self.inside.master c.self.inside.claims.items c.self.invariant ready.same_root ready.same_tree ready.same_commands c.may_hide.ensures.untold

pub returns-in-Ok-clause-noted : goal.returns-in-Ok-clause-noted
returns-in-Ok-clause-noted g c =
    adds_last c.may_hide.new.self c.hide-in-Ok.new.self c.self.inside.master c.note_last.new.master c.note_last.new.master _ _ c.hide-in-Ok.ensures.accepted c.note_last.ensures refl
    ∙ ap (λ (l : Locked). history_of l.master.seen ++ Did (Hide c.key-key.result) ∷ []) c.self.view_is
    ∙ ap (λ (k : Key). history_of c.args.self.now.master.seen ++ Did (Hide k) ∷ []) c.key-key.ensures.value
