use Rattle.std.proofs.Common.{◌≡◌, [], ◌∷◌, ◌++◌, ap, sym, subst, ◌∙◌}
use Rattle.std.specs.Prelude.{Option, IfSome}
use Rattle.kf_core.specs.declared.key.Key.{Key}
use Rattle.kf_core.specs.declared.command.Command.TheVariants.{Create}
use Rattle.kf_words.specs.declared.note.Note.TheVariants.{Did}
use Rattle.kf_words.specs.Notes.{history_of}
use Rattle.kf_words.specs.Nodes.{MasterState, MayBear}
use Rattle.kf_words.specs.declared.view.MasterView.{MasterView}
use Rattle.kf_shared.specs.Locked.{Locked, BornLowest}
use Rattle.kf_shared.proofs.Ties.{vacant_next, born_marks, born_lowest, tied_born, tied_born_live, tied_master}
use Rattle.kf_shared.proofs.Told.{AreTold, keeps_all, tied_words, held_master, held_state, adds_last, noted_last}
use Rattle.kf_shared.proofs.Creating.{vacant_at}
use Rattle.kf_shared.proofs.locked.Locked.create.Goals as goal

pub create_under-requires-clause-vacant : goal.create_under-requires-clause-vacant
create_under-requires-clause-vacant g c =
    vacant_at c.self.inside.state.log c.free_key-next.result c.in-Some-next.key c.in-Some-next.is
    (vacant_next g.N.Naming.table c.self.inside.state.log c.self.inside.master c.free_key-next.new.self c.self.inside.claims.items c.free_key-next.result
    c.self.invariant.0 c.root.ensures.kept c.free_key-next.ensures.kept c.free_key-next.ensures.may_bear)

-- what the search found is still so after the command was noted
bears : (old noted : MasterState) (next : Option Key) → IfSome next (λ k. MayBear old.view k) → noted.view ≡ old.view → IfSome next (λ k. MayBear noted.view k)
bears old noted next found same = subst (λ (v : MasterView). IfSome next (λ k. MayBear v k)) (sym same) found

pub activate-requires : goal.activate-requires
activate-requires g c =
    born_marks c.note_last.new.master c.born.new.self c.free_key-next.result c.in-Some-next.key
    (bears c.free_key-next.new.self c.note_last.new.master c.free_key-next.result c.free_key-next.ensures.may_bear c.note_last.ensures.words.view) c.in-Some-next.is c.born.ensures.slots

pub invariant_of-self-then-live : goal.invariant_of-self-then-live
invariant_of-self-then-live g c =
    let s = c.self.inside.state in
    let m = c.self.inside.master in
    let m0 = c.free_key-next.new.self in
    let m1 = c.note_last.new.master in
    let claims = c.self.inside.claims.items in
    let kept = c.free_key-next.ensures.kept in
    let accepted = c.in_ok-create_under.ensures.accepted in (
      tied_born_live g.N.Naming.table s.log c.create_under.new.self.log m1 m1 c.born.new.self claims
          c.free_key-next.result c.in-Some-next.key c.args.parent c.args.name.now c.args.node c.args.live _
          (tied_words g.N.Naming.table s.log m0 m1 claims (tied_master g.N.Naming.table s.log m m0 claims c.self.invariant.0 kept) c.note_last.ensures.words) c.root.ensures.kept (keeps_all m1)
          (bears m0 m1 c.free_key-next.result c.free_key-next.ensures.may_bear c.note_last.ensures.words.view) c.in-Some-next.is accepted c.born.ensures.table c.born.ensures.nodes c.born.ensures.slots
          c.activate.new.self c.if-live.true c.activate.ensures.table c.activate.ensures.nodes c.activate.ensures.slots,
      noted_last s c.create_under.new.self m0 m1 c.activate.new.self _ _ accepted c.note_last.ensures (c.activate.ensures.history ∙ c.born.ensures.history) claims (subst (AreTold s claims) (sym kept.history) c.self.invariant.1) c.in_ok-create_under.ensures.told,
    )

pub invariant_of-self-else-live : goal.invariant_of-self-else-live
invariant_of-self-else-live g c =
    let s = c.self.inside.state in
    let m = c.self.inside.master in
    let m0 = c.free_key-next.new.self in
    let m1 = c.note_last.new.master in
    let claims = c.self.inside.claims.items in
    let kept = c.free_key-next.ensures.kept in
    let accepted = c.in_ok-create_under.ensures.accepted in (
      tied_born g.N.Naming.table s.log c.create_under.new.self.log m1 m1 c.born.new.self claims
          c.free_key-next.result c.in-Some-next.key c.args.parent c.args.name.now c.args.node c.args.live _
          (tied_words g.N.Naming.table s.log m0 m1 claims (tied_master g.N.Naming.table s.log m m0 claims c.self.invariant.0 kept) c.note_last.ensures.words) c.root.ensures.kept (keeps_all m1)
          (bears m0 m1 c.free_key-next.result c.free_key-next.ensures.may_bear c.note_last.ensures.words.view) c.in-Some-next.is accepted c.born.ensures.table c.born.ensures.nodes c.born.ensures.slots
          c.if-live.false,
      noted_last s c.create_under.new.self m0 m1 c.born.new.self _ _ accepted c.note_last.ensures (c.born.ensures.history) claims (subst (AreTold s claims) (sym kept.history) c.self.invariant.1) c.in_ok-create_under.ensures.told,
    )

pub returns-else-live-clause-lowest : goal.returns-else-live-clause-lowest
returns-else-live-clause-lowest g c =
    subst (λ (l : Locked). BornLowest l.master.view c.born.new.self.view c.in-Some-next.key.slot) c.self.view_is
    (born_lowest c.self.inside.master c.free_key-next.new.self c.born.new.self c.free_key-next.result c.in-Some-next.key c.free_key-next.ensures.searched c.in-Some-next.is
    (ap (λ (v : MasterView). v.at_birth) c.born.ensures.view ∙ ap (λ (v : MasterView). v.loads) c.note_last.ensures.words.view))

pub returns-then-live-clause-lowest : goal.returns-then-live-clause-lowest
returns-then-live-clause-lowest g c =
    subst (λ (l : Locked). BornLowest l.master.view c.activate.new.self.view c.in-Some-next.key.slot) c.self.view_is
    (born_lowest c.self.inside.master c.free_key-next.new.self c.activate.new.self c.free_key-next.result c.in-Some-next.key c.free_key-next.ensures.searched c.in-Some-next.is
    (ap (λ (v : MasterView). v.at_birth) c.activate.ensures.view ∙ ap (λ (v : MasterView). v.at_birth) c.born.ensures.view ∙ ap (λ (v : MasterView). v.loads) c.note_last.ensures.words.view))

pub invariant_of-self-in_err-create_under : goal.invariant_of-self-in_err-create_under
invariant_of-self-in_err-create_under g c =
    held_state g.N.Naming.table c.self.inside.state c.create_under.new.self c.free_key-next.new.self c.self.inside.claims.items
    (held_master g.N.Naming.table c.self.inside.state c.self.inside.master c.free_key-next.new.self c.self.inside.claims.items c.self.invariant c.free_key-next.ensures.kept) c.in_err-create_under.ensures.refused.1

pub returns-then-live-clause-noted : goal.returns-then-live-clause-noted
returns-then-live-clause-noted g c =
    adds_last c.self.inside.state c.create_under.new.self c.free_key-next.new.self c.note_last.new.master c.activate.new.self _ _ c.in_ok-create_under.ensures.accepted c.note_last.ensures (c.activate.ensures.history ∙ c.born.ensures.history)
    ∙ ap (λ l. l ++ Did (Create c.in-Some-next.key c.args.parent c.args.name.now c.args.node c.args.live) ∷ []) (c.free_key-next.ensures.kept.history ∙ ap (λ (l : Locked). history_of l.master.seen) c.self.view_is)

pub returns-else-live-clause-noted : goal.returns-else-live-clause-noted
returns-else-live-clause-noted g c =
    adds_last c.self.inside.state c.create_under.new.self c.free_key-next.new.self c.note_last.new.master c.born.new.self _ _ c.in_ok-create_under.ensures.accepted c.note_last.ensures c.born.ensures.history
    ∙ ap (λ l. l ++ Did (Create c.in-Some-next.key c.args.parent c.args.name.now c.args.node c.args.live) ∷ []) (c.free_key-next.ensures.kept.history ∙ ap (λ (l : Locked). history_of l.master.seen) c.self.view_is)
