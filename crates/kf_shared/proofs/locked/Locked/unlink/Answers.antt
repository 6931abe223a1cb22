use Rattle.std.proofs.Common.{rules, [], ◌∷◌, ◌++◌, refl, sym, ap, ◌∙◌, subst}
use Rattle.std.proofs.lemmas.Bool.{MatchBool-at_true}
use Rattle.kf_core.specs.declared.command.Command.TheVariants.{Unlink}
use Rattle.kf_words.specs.declared.note.Note.TheVariants.{Did}
use Rattle.kf_words.specs.Notes.{history_of}
use Rattle.kf_shared.proofs.Told.{AreTold, tied_words, adds_last, noted_last}
use Rattle.kf_shared.specs.Locked.{Locked, UnlinkRefused}
use Rattle.kf_shared.proofs.Unlinked.{refused_by_tree, refused_by_word, tied_taken}
use Rattle.kf_shared.proofs.locked.Locked.unlink.Goals as goal

pub returns-in_err-may_unlink-clause-refused : goal.returns-in_err-may_unlink-clause-refused
returns-in_err-may_unlink-clause-refused g c =
    let cause : UnlinkRefused c.args.self.now c.args.self.now c.args.drained.now.key c.in_err-may_unlink.field-0.0 =
    refused_by_tree c.self.inside.state.log c.args.self.now c.args.drained.now.key c.key-key.result c.in_err-may_unlink.field-0.0 (ap (λ (l : Locked). l.state) c.self.view_is) c.key-key.ensures.value c.in_err-may_unlink.ensures.refused.1 in
    search (rules, cause)

pub returns-then-not-unlink-clause-refused : goal.returns-then-not-unlink-clause-refused
returns-then-not-unlink-clause-refused g c =
    refused_by_word c.self.inside.state.log c.self.inside.state.links c.self.inside.master c.unlink.new.self c.self.inside.claims.items c.args.self.now c.args.drained.now.key c.key-key.result c.unlink.result
    c.self.view_is c.key-key.ensures.value (c.in_ok-may_unlink.ensures.no_cause c.if-not-branch.false) c.if-not-unlink.true c.unlink.ensures.table c.unlink.ensures.nodes c.unlink.ensures.history c.unlink.ensures.answer

pub invariant_of-self-2 : goal.invariant_of-self-2
invariant_of-self-2 g c =
    let s = c.self.inside.state in
    let s' = c.unlink-2.new.self in
    let m = c.unlink.new.self in
    let m1 = c.note_last.new.master in
    let claims = c.self.inside.claims.items in
    let linked = c.in_ok-may_unlink.ensures.linked ∙ c.if-not-branch.false in
    let accepted = MatchBool-at_true _ _ (sym c.in_ok-unlink.ensures.linked ∙ linked) c.in_ok-unlink.ensures.accepted in (
      tied_words g.N.Naming.table s'.log m m1 claims (tied_taken g.N.Naming.table s.log s'.log c.self.inside.master m claims c.args.drained.now.key c.key-key.result _ c.unlink.result
          c.self.invariant.0 c.key-key.ensures.value linked accepted c.unlink.ensures.table c.unlink.ensures.nodes c.unlink.ensures.slots c.if-not-unlink.false) c.note_last.ensures.words,
      noted_last s s' m m1 m1 _ _ accepted c.note_last.ensures refl claims (subst (AreTold s claims) (sym c.unlink.ensures.history) c.self.invariant.1) c.in_ok-unlink.ensures.told,
    )

pub returns-clause-noted : goal.returns-clause-noted
returns-clause-noted g c _ =
    let linked = c.in_ok-may_unlink.ensures.linked ∙ c.if-not-branch.false in
    let accepted = MatchBool-at_true _ _ (sym c.in_ok-unlink.ensures.linked ∙ linked) c.in_ok-unlink.ensures.accepted in
    adds_last c.self.inside.state c.unlink-2.new.self c.unlink.new.self c.note_last.new.master c.note_last.new.master _ _ accepted c.note_last.ensures refl
    ∙ ap (λ l. l ++ Did (Unlink c.key-key.result) ∷ []) (c.unlink.ensures.history ∙ ap (λ (l : Locked). history_of l.master.seen) c.self.view_is)
    ∙ ap (λ k. history_of c.args.self.now.master.seen ++ Did (Unlink k) ∷ []) c.key-key.ensures.value
