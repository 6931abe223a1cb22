use Rattle.std.proofs.Common.{refl, sym, ap, ◌∙◌, Some}
use Rattle.std.proofs.lemmas.Option.{slice_get_read}
use Rattle.std.proofs.Common.{length}
use Rattle.kf_replies.specs.ReplyParts.{bytes_text}
use Rattle.kf_plain.proofs.Reading.{reads_short, reads_as}
use Rattle.kf_plain.proofs.BoardOpens.{unknown_shown, its_waits, known_shown}
use Rattle.kf_plain.proofs.LetterVisits.{read_shown, emptied_shown, not_a_file, visited_whole, visits_to, its_live, its_show}
use Rattle.kf_plain.proofs.board.PlainBoard.read.Goals as goal

pub returns-in_default-clause-refused : goal.returns-in_default-clause-refused
returns-in_default-clause-refused c =
    let none = not_a_file c.index_mut.result.now c.in_default.not-Some in
    let at = slice_get_read c.self.inside.files.items 26 c.args.file c.index_mut.result.now (sym c.self.invariant.a_file_each) c.requires.letter c.index_mut.ensures.value ∙ ap (λ o. Some o) none in (
      unknown_shown c.args.self.now c.self.inside.nodes c.self.inside.nodes c.self.inside.events c.self.inside.events c.self.inside.texts c.self.inside.files.items c.self.inside.tokens c.self.view_is c.self.invariant c.args.file at,
      emptied_shown c.args.self.now c.self.inside.nodes c.self.inside.events c.self.inside.texts c.self.inside.files.items c.self.inside.tokens c.args.file c.index_mut.result.now c.self.view_is at none,
    )

pub read-told-requires : goal.read-told-requires
read-told-requires c = record { waits = its_waits c.args.self.now c.self.inside.nodes c.self.inside.nodes c.self.inside.events c.self.inside.events c.self.inside.texts c.self.inside.files.items c.self.inside.tokens c.self.view_is c.self.invariant c.args.file c.in-Some.opened (slice_get_read c.self.inside.files.items 26 c.args.file c.index_mut.result.now (sym c.self.invariant.a_file_each) c.requires.letter c.index_mut.ensures.value ∙ ap (λ o. Some o) c.in-Some.is) }

pub tell_text-requires-clause-short : goal.tell_text-requires-clause-short
tell_text-requires-clause-short c = (reads_short _ _ c.in-Some.opened.file.state 0 c.read-told.new.file.file.state c.args.offset (c.read-told.ensures.reads 0) (c.self.invariant.held c.args.file c.in-Some.opened (slice_get_read c.self.inside.files.items 26 c.args.file c.index_mut.result.now (sym c.self.invariant.a_file_each) c.requires.letter c.index_mut.ensures.value ∙ ap (λ o. Some o) c.in-Some.is)).short)

pub invariant_of-self-2 : goal.invariant_of-self-2
invariant_of-self-2 c = visited_whole c.args.self.now c.self.inside.nodes c.read-told.new.self c.self.inside.events c.self.inside.events c.self.inside.texts c.read-told.new.texts c.self.inside.files.items c.self.inside.tokens c.self.view_is c.self.invariant c.args.file c.in-Some.opened c.read-told.new.file (slice_get_read c.self.inside.files.items 26 c.args.file c.index_mut.result.now (sym c.self.invariant.a_file_each) c.requires.letter c.index_mut.ensures.value ∙ ap (λ o. Some o) c.in-Some.is) c.read-told.ensures.same c.read-told.ensures.waiting refl (ap length c.read-told.ensures.same_texts) c.read-told.ensures.same_file (reads_short _ _ c.in-Some.opened.file.state 0 c.read-told.new.file.file.state c.args.offset (c.read-told.ensures.reads 0) (c.self.invariant.held c.args.file c.in-Some.opened (slice_get_read c.self.inside.files.items 26 c.args.file c.index_mut.result.now (sym c.self.invariant.a_file_each) c.requires.letter c.index_mut.ensures.value ∙ ap (λ o. Some o) c.in-Some.is)).short)

pub returns-clause-read : goal.returns-clause-read
returns-clause-read c = (
  _,
  known_shown c.args.self.now c.self.inside.nodes c.self.inside.nodes c.self.inside.events c.self.inside.events c.self.inside.texts c.self.inside.files.items c.self.inside.tokens c.self.view_is c.self.invariant c.args.file c.in-Some.opened (slice_get_read c.self.inside.files.items 26 c.args.file c.index_mut.result.now (sym c.self.invariant.a_file_each) c.requires.letter c.index_mut.ensures.value ∙ ap (λ o. Some o) c.in-Some.is),
  (
    c.read-told.new.file.file.state,
    reads_as _ _ (λ v h. visits_to _ _ _ _ _ _ v (its_live c.args.self.now c.self.inside.nodes c.read-told.new.self c.self.inside.events c.self.inside.events c.self.inside.texts c.read-told.new.texts c.self.inside.files.items c.self.inside.tokens c.self.view_is c.self.invariant c.args.file c.in-Some.opened c.read-told.new.file (slice_get_read c.self.inside.files.items 26 c.args.file c.index_mut.result.now (sym c.self.invariant.a_file_each) c.requires.letter c.index_mut.ensures.value ∙ ap (λ o. Some o) c.in-Some.is) c.read-told.ensures.same c.read-told.ensures.waiting refl (ap length c.read-told.ensures.same_texts) c.read-told.ensures.same_file) (λ i. i) (λ d x. its_show c.args.self.now c.self.inside.nodes c.read-told.new.self c.self.inside.events c.self.inside.events c.self.inside.texts c.read-told.new.texts c.self.inside.files.items c.self.inside.tokens c.self.view_is c.self.invariant c.args.file c.in-Some.opened c.read-told.new.file (slice_get_read c.self.inside.files.items 26 c.args.file c.index_mut.result.now (sym c.self.invariant.a_file_each) c.requires.letter c.index_mut.ensures.value ∙ ap (λ o. Some o) c.in-Some.is) c.read-told.ensures.same c.read-told.ensures.waiting refl (ap length c.read-told.ensures.same_texts) c.read-told.ensures.same_file d x) h) _ _
        (λ answer is. c.tell_text.ensures.told ∙ sym (ap bytes_text is))
        c.in-Some.opened.file.state c.args.offset c.args.most c.read-told.new.file.file.state (c.read-told.ensures.reads c.args.most),
    read_shown c.args.self.now c.self.inside.nodes c.read-told.new.self c.self.inside.events c.self.inside.events c.self.inside.texts c.read-told.new.texts c.self.inside.files.items c.self.inside.tokens c.self.view_is c.self.invariant c.args.file c.in-Some.opened c.read-told.new.file (slice_get_read c.self.inside.files.items 26 c.args.file c.index_mut.result.now (sym c.self.invariant.a_file_each) c.requires.letter c.index_mut.ensures.value ∙ ap (λ o. Some o) c.in-Some.is) c.read-told.ensures.same c.read-told.ensures.waiting refl (ap length c.read-told.ensures.same_texts) c.read-told.ensures.same_file c.read-told.ensures.same_texts,
  ),
)
