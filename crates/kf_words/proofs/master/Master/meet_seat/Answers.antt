use Rattle.std.proofs.Common.{List, ap, ◌∙◌, subst}
use mathlib.Core.List.{IsPrefix}
use Rattle.kf_words.specs.declared.note.Note.{Note}
use Rattle.kf_words.specs.declared.sight.Seen.{Seen}
use Rattle.kf_words.specs.Nodes.{MasterState}
use Rattle.kf_words.specs.TableSteps.{StepKind}
use Rattle.kf_words.specs.Notes.{history_of}
use Rattle.kf_words.proofs.Noted.{notes_begin}
use Rattle.kf_words.proofs.master.Master.meet_seat.Goals as goal

pub returns-clause-after : goal.returns-clause-after
returns-clause-after c =
    let old : Seen = c.args.seat.now.token.me.0.seen in
    let new : Seen = c.compare.new.self.token.me.0.seen in
    let met : IsPrefix old.steps new.steps = subst (λ (l : List StepKind). IsPrefix l new.steps) (c.hear.ensures.told ∙ ap (λ (s : Seen). s.steps) c.report-report.ensures.seen) c.compare.ensures.told in
    subst (λ (l : List Note). IsPrefix (history_of old) l)
    (c.compare.ensures.history ∙ ap history_of c.hear.ensures.seen ∙ ap (λ (s : MasterState). history_of s.seen) c.self.view_is)
    (notes_begin old.steps new.steps met)
