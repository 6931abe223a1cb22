use Rattle.std.proofs.Common.{◌≡◌, Bool, true, [], ◌∷◌, ◌++◌, refl, sym, ap, ◌∙◌, subst}
use Rattle.std.specs.Prelude.{None, MatchBool}
use Rattle.kf_core.specs.declared.key.Key.{Key}
use Rattle.kf_core.specs.declared.command.Command.TheVariants.{Show}
use Rattle.kf_tree.specs.Causes.{hidden_in}
use Rattle.kf_words.specs.declared.note.Note.TheVariants.{Did}
use Rattle.kf_words.specs.Notes.{history_of}
use Rattle.kf_shared.specs.Locked.{Locked}
use Rattle.std.proofs.lemmas.Bool.{MatchBool-at_true, MatchBool-at_false}
use Rattle.kf_shared.proofs.Ties.{tied_shown}
use Rattle.kf_shared.proofs.Told.{tied_words, held_state, adds_last, noted_last}
use Rattle.kf_shared.proofs.locked.Locked.show.Goals as goal

pub invariant_of-self : goal.invariant_of-self
invariant_of-self g c =
    let s = c.self.inside.state in
    let s' = c.show.new.self in
    let m = c.self.inside.master in
    let m1 = c.note_last.new.master in
    let claims = c.self.inside.claims.items in (
      tied_shown g.N.Naming.table s.log s'.log m1 claims c.key-key.result None true (tied_words g.N.Naming.table s.log m m1 claims c.self.invariant.0 c.note_last.ensures.words) (MatchBool-at_true _ _ c.if-show.true c.show.ensures.accepted),
      noted_last s s' m m1 m1 None _ (MatchBool-at_true _ _ c.if-show.true c.show.ensures.accepted) c.note_last.ensures refl claims c.self.invariant.1 c.show.ensures.told,
    )

pub invariant_of-self-else-show : goal.invariant_of-self-else-show
invariant_of-self-else-show g c =
    held_state g.N.Naming.table c.self.inside.state c.show.new.self c.self.inside.master c.self.inside.claims.items c.self.invariant (MatchBool-at_false _ _ c.if-show.false c.show.ensures.accepted)

pub returns-then-show-clause-noted : goal.returns-then-show-clause-noted
returns-then-show-clause-noted g c =
    let s = c.self.inside.state in
    let old = c.args.self.now in
    let key : Key = c.args.hidden.key in
    let m1 = c.note_last.new.master in
    let hidden : true ≡ hidden_in old.state.tree key =
    sym c.if-show.true ∙ c.show.ensures.was_hidden ∙ ap (λ (l : Locked). hidden_in l.state.tree c.key-key.result) c.self.view_is ∙ ap (hidden_in old.state.tree) c.key-key.ensures.value in
    let added : history_of m1.seen ≡ history_of old.master.seen ++ Did (Show key) ∷ [] =
    adds_last s c.show.new.self c.self.inside.master m1 m1 None _ (MatchBool-at_true _ _ c.if-show.true c.show.ensures.accepted) c.note_last.ensures refl
    ∙ ap (λ (l : Locked). history_of l.master.seen ++ Did (Show c.key-key.result) ∷ []) c.self.view_is
    ∙ ap (λ (k : Key). history_of old.master.seen ++ Did (Show k) ∷ []) c.key-key.ensures.value in
    subst (λ (b : Bool). MatchBool b (history_of m1.seen ≡ history_of old.master.seen ++ Did (Show key) ∷ []) (history_of m1.seen ≡ history_of old.master.seen)) hidden added
