use Rattle.kf_words.specs.declared.note.Note.TheVariants.{Did}
use Rattle.kf_core.specs.declared.command.Command.TheVariants.{Doom}
use Rattle.kf_shared.specs.Locked.{Adds, Locked}
use Rattle.kf_registry.proofs.Backs.{keys_back, last_key, saw_back}
use Rattle.kf_registry.proofs.registry.Registry.take_back.Goals as goal

pub returns-clause-saw : goal.returns-clause-saw
returns-clause-saw g c = λ (mid : Locked) (noted : Adds mid c.args.editor (Did (Doom c.args.key))).
    let l = c.in-Some.ensures.last in
    saw_back mid c.args.editor c.args.key c.args.removing c.end_removal.result c.finish-receipts.result.items l.0 c.in-Some.receipt noted c.requires.last c.end_removal.ensures.ended c.finish-receipts.ensures.finished
    c.finish-receipts.ensures.owners l.1
    (last_key c.args.removing c.finish-receipts.result.items l.0 c.in-Some.receipt c.args.key
    (keys_back c.args.editor c.args.removing c.end_removal.result c.finish-receipts.result.items c.end_removal.ensures.ended c.finish-receipts.ensures.keys) c.requires.last l.1)
