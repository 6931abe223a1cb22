use Rattle.std.proofs.Common.{refl, sym, ap, ◌∙◌, Some}
use Rattle.std.proofs.lemmas.Option.{slice_get_read}
use Rattle.kf_plain.specs.declared.nodes.visits.BoardFile.{BoardFile}
use Rattle.kf_plain.proofs.BoardVisits.{writes_by, writes_visit}
use Rattle.kf_plain.proofs.BoardOpens.{unknown_shown, its_waits, known_shown}
use Rattle.kf_plain.proofs.LetterVisits.{kept_form, kept_short, same_now, its_store, written_length, emptied_shown, not_a_file, visited_whole, visits_to, its_live}
use Rattle.kf_plain.proofs.board.PlainBoard.write.Goals as goal

pub returns-in_default-clause-refused : goal.returns-in_default-clause-refused
returns-in_default-clause-refused c =
    let none = not_a_file c.index_mut.result.now c.in_default.not-Some in
    let at = slice_get_read c.self.inside.files.items 26 c.args.file c.index_mut.result.now (sym c.self.invariant.a_file_each) c.requires.letter c.index_mut.ensures.value ∙ ap (λ o. Some o) none in (
      unknown_shown c.args.self.now c.self.inside.nodes c.self.inside.nodes c.self.inside.events c.self.inside.events c.self.inside.texts c.self.inside.files.items c.self.inside.tokens c.self.view_is c.self.invariant c.args.file at,
      emptied_shown c.args.self.now c.self.inside.nodes c.self.inside.events c.self.inside.texts c.self.inside.files.items c.self.inside.tokens c.args.file c.index_mut.result.now c.self.view_is at none,
    )

pub write-told-requires : goal.write-told-requires
write-told-requires c = record { waits = its_waits c.args.self.now c.self.inside.nodes c.self.inside.nodes c.self.inside.events c.self.inside.events c.self.inside.texts c.self.inside.files.items c.self.inside.tokens c.self.view_is c.self.invariant c.args.file c.in-Some.opened (slice_get_read c.self.inside.files.items 26 c.args.file c.index_mut.result.now (sym c.self.invariant.a_file_each) c.requires.letter c.index_mut.ensures.value ∙ ap (λ o. Some o) c.in-Some.is) }

pub invariant_of-self-2 : goal.invariant_of-self-2
invariant_of-self-2 c = visited_whole c.args.self.now c.self.inside.nodes c.write-told.new.self c.self.inside.events c.self.inside.events c.self.inside.texts c.write-told.new.texts c.self.inside.files.items c.self.inside.tokens c.self.view_is c.self.invariant c.args.file c.in-Some.opened c.write-told.new.file (slice_get_read c.self.inside.files.items 26 c.args.file c.index_mut.result.now (sym c.self.invariant.a_file_each) c.requires.letter c.index_mut.ensures.value ∙ ap (λ o. Some o) c.in-Some.is) c.write-told.ensures.same c.write-told.ensures.waiting refl (let v = writes_visit _ _ (λ v h. h) c.in-Some.opened.file.state c.write-told.result c.write-told.ensures.writes in written_length _ c.self.inside.texts c.write-told.new.texts c.in-Some.opened.file.tag c.args.text.now v.0 v.1) (kept_form c.in-Some.opened c.write-told.new.file c.write-told.ensures.same_file) (kept_short c.self.inside.nodes c.self.inside.events c.self.inside.texts c.self.inside.files.items c.self.inside.tokens c.self.invariant c.args.file c.in-Some.opened c.write-told.new.file (slice_get_read c.self.inside.files.items 26 c.args.file c.index_mut.result.now (sym c.self.invariant.a_file_each) c.requires.letter c.index_mut.ensures.value ∙ ap (λ o. Some o) c.in-Some.is) c.write-told.ensures.same_file)

pub returns-clause-written : goal.returns-clause-written
returns-clause-written c = (
  _,
  known_shown c.args.self.now c.self.inside.nodes c.self.inside.nodes c.self.inside.events c.self.inside.events c.self.inside.texts c.self.inside.files.items c.self.inside.tokens c.self.view_is c.self.invariant c.args.file c.in-Some.opened (slice_get_read c.self.inside.files.items 26 c.args.file c.index_mut.result.now (sym c.self.invariant.a_file_each) c.requires.letter c.index_mut.ensures.value ∙ ap (λ o. Some o) c.in-Some.is),
  (
    c.write-told.result,
    c.tell_count.ensures.told,
    writes_by _ _ (λ v h. visits_to _ _ _ _ _ _ v (its_live c.args.self.now c.self.inside.nodes c.write-told.new.self c.self.inside.events c.self.inside.events c.self.inside.texts c.write-told.new.texts c.self.inside.files.items c.self.inside.tokens c.self.view_is c.self.invariant c.args.file c.in-Some.opened c.write-told.new.file (slice_get_read c.self.inside.files.items 26 c.args.file c.index_mut.result.now (sym c.self.invariant.a_file_each) c.requires.letter c.index_mut.ensures.value ∙ ap (λ o. Some o) c.in-Some.is) c.write-told.ensures.same c.write-told.ensures.waiting refl (let v = writes_visit _ _ (λ v h. h) c.in-Some.opened.file.state c.write-told.result c.write-told.ensures.writes in written_length _ c.self.inside.texts c.write-told.new.texts c.in-Some.opened.file.tag c.args.text.now v.0 v.1) (kept_form c.in-Some.opened c.write-told.new.file c.write-told.ensures.same_file)) (λ i. same_now c.args.self.now c.self.inside.nodes c.write-told.new.self c.self.inside.events c.self.inside.events c.self.inside.texts c.write-told.new.texts c.self.inside.files.items c.self.inside.tokens c.self.view_is c.self.invariant c.args.file c.in-Some.opened c.write-told.new.file (slice_get_read c.self.inside.files.items 26 c.args.file c.index_mut.result.now (sym c.self.invariant.a_file_each) c.requires.letter c.index_mut.ensures.value ∙ ap (λ o. Some o) c.in-Some.is) c.write-told.ensures.same c.write-told.ensures.waiting refl (let v = writes_visit _ _ (λ v h. h) c.in-Some.opened.file.state c.write-told.result c.write-told.ensures.writes in written_length _ c.self.inside.texts c.write-told.new.texts c.in-Some.opened.file.tag c.args.text.now v.0 v.1) (kept_form c.in-Some.opened c.write-told.new.file c.write-told.ensures.same_file) (ap (λ (g : BoardFile). g.file.state) c.write-told.ensures.same_file) i) (λ d x. its_store c.args.self.now c.self.inside.nodes c.write-told.new.self c.self.inside.events c.self.inside.events c.self.inside.texts c.write-told.new.texts c.self.inside.files.items c.self.inside.tokens c.self.view_is c.self.invariant c.args.file c.in-Some.opened c.write-told.new.file (slice_get_read c.self.inside.files.items 26 c.args.file c.index_mut.result.now (sym c.self.invariant.a_file_each) c.requires.letter c.index_mut.ensures.value ∙ ap (λ o. Some o) c.in-Some.is) c.write-told.ensures.same c.write-told.ensures.waiting refl (let v = writes_visit _ _ (λ v h. h) c.in-Some.opened.file.state c.write-told.result c.write-told.ensures.writes in written_length _ c.self.inside.texts c.write-told.new.texts c.in-Some.opened.file.tag c.args.text.now v.0 v.1) (kept_form c.in-Some.opened c.write-told.new.file c.write-told.ensures.same_file) (ap (λ (g : BoardFile). g.file.state) c.write-told.ensures.same_file) c.args.text.now d x) h) c.in-Some.opened.file.state c.write-told.result c.write-told.ensures.writes,
  ),
)
