use Rattle.std.proofs.Common.{refl, sym, ap, ◌∙◌, Some}
use Rattle.std.proofs.lemmas.Option.{slice_get_read}
use Rattle.kf_core.specs.Calls.{tried}
use Rattle.kf_plain.specs.declared.nodes.visits.BoardFile.{BoardFile}
use Rattle.kf_plain.proofs.BoardOpens.{unknown_shown, its_waits, known_shown}
use Rattle.kf_plain.proofs.LetterVisits.{emptied_shown, not_a_file, visited_whole, same_now, visits_to, its_live, its_number, kept_form, kept_short}
use Rattle.kf_plain.proofs.board.PlainBoard.poll.Goals as goal

pub returns-in_default-clause-refused : goal.returns-in_default-clause-refused
returns-in_default-clause-refused c =
    let none = not_a_file c.index_mut.result.now c.in_default.not-Some in
    let at = slice_get_read c.self.inside.files.items 26 c.args.file c.index_mut.result.now (sym c.self.invariant.a_file_each) c.requires.letter c.index_mut.ensures.value ∙ ap (λ o. Some o) none in (
      unknown_shown c.args.self.now c.self.inside.nodes c.self.inside.nodes c.self.inside.events c.self.inside.events c.self.inside.texts c.self.inside.files.items c.self.inside.tokens c.self.view_is c.self.invariant c.args.file at,
      emptied_shown c.args.self.now c.self.inside.nodes c.self.inside.events c.self.inside.texts c.self.inside.files.items c.self.inside.tokens c.args.file c.index_mut.result.now c.self.view_is at none,
    )

pub poll-requires : goal.poll-requires
poll-requires c = record { waits = its_waits c.args.self.now c.self.inside.nodes c.self.inside.nodes c.self.inside.events c.self.inside.events c.self.inside.texts c.self.inside.files.items c.self.inside.tokens c.self.view_is c.self.invariant c.args.file c.in-Some.opened (slice_get_read c.self.inside.files.items 26 c.args.file c.index_mut.result.now (sym c.self.invariant.a_file_each) c.requires.letter c.index_mut.ensures.value ∙ ap (λ o. Some o) c.in-Some.is) }

pub invariant_of-self-2 : goal.invariant_of-self-2
invariant_of-self-2 c = visited_whole c.args.self.now c.self.inside.nodes c.poll.new.self c.self.inside.events c.self.inside.events c.self.inside.texts c.self.inside.texts c.self.inside.files.items c.self.inside.tokens c.self.view_is c.self.invariant c.args.file c.in-Some.opened c.poll.new.file (slice_get_read c.self.inside.files.items 26 c.args.file c.index_mut.result.now (sym c.self.invariant.a_file_each) c.requires.letter c.index_mut.ensures.value ∙ ap (λ o. Some o) c.in-Some.is) c.poll.ensures.same c.poll.ensures.waiting refl refl (kept_form c.in-Some.opened c.poll.new.file c.poll.ensures.same_file) (kept_short c.self.inside.nodes c.self.inside.events c.self.inside.texts c.self.inside.files.items c.self.inside.tokens c.self.invariant c.args.file c.in-Some.opened c.poll.new.file (slice_get_read c.self.inside.files.items 26 c.args.file c.index_mut.result.now (sym c.self.invariant.a_file_each) c.requires.letter c.index_mut.ensures.value ∙ ap (λ o. Some o) c.in-Some.is) c.poll.ensures.same_file)

pub returns-clause-polled : goal.returns-clause-polled
returns-clause-polled c =
    let polls = c.poll.ensures.polls in (
      _,
      known_shown c.args.self.now c.self.inside.nodes c.self.inside.nodes c.self.inside.events c.self.inside.events c.self.inside.texts c.self.inside.files.items c.self.inside.tokens c.self.view_is c.self.invariant c.args.file c.in-Some.opened (slice_get_read c.self.inside.files.items 26 c.args.file c.index_mut.result.now (sym c.self.invariant.a_file_each) c.requires.letter c.index_mut.ensures.value ∙ ap (λ o. Some o) c.in-Some.is),
      (polls.0, visits_to _ _ _ _ _ _ (tried polls.0) (its_live c.args.self.now c.self.inside.nodes c.poll.new.self c.self.inside.events c.self.inside.events c.self.inside.texts c.self.inside.texts c.self.inside.files.items c.self.inside.tokens c.self.view_is c.self.invariant c.args.file c.in-Some.opened c.poll.new.file (slice_get_read c.self.inside.files.items 26 c.args.file c.index_mut.result.now (sym c.self.invariant.a_file_each) c.requires.letter c.index_mut.ensures.value ∙ ap (λ o. Some o) c.in-Some.is) c.poll.ensures.same c.poll.ensures.waiting refl refl (kept_form c.in-Some.opened c.poll.new.file c.poll.ensures.same_file)) (λ i. i) (λ d h. its_number c.args.self.now c.self.inside.nodes c.poll.new.self c.self.inside.events c.self.inside.events c.self.inside.texts c.self.inside.texts c.self.inside.files.items c.self.inside.tokens c.self.view_is c.self.invariant c.args.file c.in-Some.opened c.poll.new.file (slice_get_read c.self.inside.files.items 26 c.args.file c.index_mut.result.now (sym c.self.invariant.a_file_each) c.requires.letter c.index_mut.ensures.value ∙ ap (λ o. Some o) c.in-Some.is) c.poll.ensures.same c.poll.ensures.waiting refl refl (kept_form c.in-Some.opened c.poll.new.file c.poll.ensures.same_file) d h) polls.1, polls.2),
      same_now c.args.self.now c.self.inside.nodes c.poll.new.self c.self.inside.events c.self.inside.events c.self.inside.texts c.self.inside.texts c.self.inside.files.items c.self.inside.tokens c.self.view_is c.self.invariant c.args.file c.in-Some.opened c.poll.new.file (slice_get_read c.self.inside.files.items 26 c.args.file c.index_mut.result.now (sym c.self.invariant.a_file_each) c.requires.letter c.index_mut.ensures.value ∙ ap (λ o. Some o) c.in-Some.is) c.poll.ensures.same c.poll.ensures.waiting refl refl (kept_form c.in-Some.opened c.poll.new.file c.poll.ensures.same_file) (ap (λ (g : BoardFile). g.file.state) c.poll.ensures.same_file) refl,
    )
