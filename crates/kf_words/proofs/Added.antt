-- A step of the Master appends its own note to the history, and leaves the history as it was if it has none.
use Rattle.std.proofs.Common.{◌≡◌, [], ◌++◌, ap, ◌∙◌}
use Rattle.std.proofs.lemmas.List.{append-nil}
use Rattle.kf_words.specs.TableSteps.{StepKind}
use Rattle.kf_words.specs.Nodes.{MasterSight}
use Rattle.kf_words.specs.Made.{WasMadeByMaster}
use Rattle.kf_words.specs.Notes.{note_of, history_of}
use Rattle.kf_words.proofs.Noted.{notes_more, note_more}

pub noted : (kind : StepKind) (before after : MasterSight) → WasMadeByMaster kind before after → history_of after.seen ≡ history_of before.seen ++ note_of kind
noted kind before after m =
    ap history_of m.seen
    ∙ note_more (before.seen.steps ++ m.between) kind
    ∙ ap (λ l. l ++ note_of kind)
    (notes_more before.seen.steps m.between ∙ ap (λ l. history_of before.seen ++ l) m.alone ∙ append-nil (history_of before.seen))

pub no_note : (kind : StepKind) → note_of kind ≡ [] → (before after : MasterSight) → WasMadeByMaster kind before after → history_of after.seen ≡ history_of before.seen
no_note kind quiet before after m =
    noted kind before after m ∙ ap (λ l. history_of before.seen ++ l) quiet ∙ append-nil (history_of before.seen)
