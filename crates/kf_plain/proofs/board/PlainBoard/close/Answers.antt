use Rattle.std.proofs.Common.{sym, ap, ◌∙◌, Some}
use Rattle.std.proofs.lemmas.Option.{slice_get_read}
use Rattle.kf_plain.proofs.BoardOpens.{known_shown, closed_whole, closed_shown, unknown_shown}
use Rattle.kf_plain.proofs.LetterVisits.{emptied_shown}
use Rattle.kf_plain.proofs.board.PlainBoard.close.Goals as goal

pub invariant_of-self : goal.invariant_of-self
invariant_of-self c =
    let read = slice_get_read c.self.inside.files.items 26 c.args.file c.index_mut.result.now (sym c.self.invariant.a_file_each) c.requires.letter c.index_mut.ensures.value in
    rw c.take.ensures.after (closed_whole c.args.self.now c.self.inside.nodes c.close.new.self c.self.inside.events c.self.inside.events c.self.inside.texts c.self.inside.files.items c.self.inside.tokens c.self.view_is c.self.invariant c.args.file c.in-Some.opened
    (read ∙ ap (λ o. Some o) (sym c.take.ensures.value ∙ c.in-Some.is)) c.close.ensures.spent)

pub returns-in-Some-clause-closed : goal.returns-in-Some-clause-closed
returns-in-Some-clause-closed c =
    let read = slice_get_read c.self.inside.files.items 26 c.args.file c.index_mut.result.now (sym c.self.invariant.a_file_each) c.requires.letter c.index_mut.ensures.value in
    rw c.take.ensures.after (
      _,
      known_shown c.args.self.now c.self.inside.nodes c.close.new.self c.self.inside.events c.self.inside.events c.self.inside.texts c.self.inside.files.items c.self.inside.tokens c.self.view_is c.self.invariant c.args.file c.in-Some.opened (read ∙ ap (λ o. Some o) (sym c.take.ensures.value ∙ c.in-Some.is)),
      closed_shown c.args.self.now c.self.inside.nodes c.close.new.self c.self.inside.events c.self.inside.events c.self.inside.texts c.self.inside.files.items c.self.inside.tokens c.self.view_is c.self.invariant c.args.file c.in-Some.opened
          (read ∙ ap (λ o. Some o) (sym c.take.ensures.value ∙ c.in-Some.is)) c.close.ensures.spent,
    )

pub returns-in-None-clause-refused : goal.returns-in-None-clause-refused
returns-in-None-clause-refused c =
    let none = sym c.take.ensures.value ∙ c.in-None.is in
    let at = slice_get_read c.self.inside.files.items 26 c.args.file c.index_mut.result.now (sym c.self.invariant.a_file_each) c.requires.letter c.index_mut.ensures.value ∙ ap (λ o. Some o) none in (
      unknown_shown c.args.self.now c.self.inside.nodes c.self.inside.nodes c.self.inside.events c.self.inside.events c.self.inside.texts c.self.inside.files.items c.self.inside.tokens c.self.view_is c.self.invariant c.args.file at,
      emptied_shown c.args.self.now c.self.inside.nodes c.self.inside.events c.self.inside.texts c.self.inside.files.items c.self.inside.tokens c.args.file c.take.new.self c.self.view_is at c.take.ensures.after,
    )
