use Rattle.kf_words.specs.declared.note.Note.TheVariants.{Did}
use Rattle.kf_core.specs.declared.command.Command.TheVariants.{Doom}
use Rattle.kf_shared.specs.Locked.{Adds, Locked}
use Rattle.kf_registry.proofs.Backs.{keys_back, last_key, saw_back}
use Rattle.kf_registry.proofs.registry.Registry.cool.Goals as goal

pub returns-clause-saw : goal.returns-clause-saw
returns-clause-saw g c = λ (mid : Locked) (noted : Adds mid c.args.editor (Did (Doom c.args.hot.key))).
    let l = c.in-Some.ensures.last in
    let ended = c.end_removal-draining.result in
    let receipts = c.finish-receipts.result.items in
    let done = c.finish-receipts.ensures in
    saw_back mid c.args.editor c.args.hot.key c.args.removing ended receipts l.0 c.in-Some.receipt noted c.requires.last c.end_removal-draining.ensures.ended done.finished done.owners l.1
    (last_key c.args.removing receipts l.0 c.in-Some.receipt c.args.hot.key (keys_back c.args.editor c.args.removing ended receipts c.end_removal-draining.ensures.ended done.keys) c.requires.last l.1)
