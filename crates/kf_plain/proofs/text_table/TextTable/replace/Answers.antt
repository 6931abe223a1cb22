use Rattle.std.proofs.Common.{◌≡◌, ap, ◌∙◌, [], map, slice_set, get_or, List, ℕ, Some, None}
use Rattle.std.specs.Option.{option_map_or}
use Rattle.std.proofs.lemmas.List.{map-set, set-get_or}
use Rattle.std.proofs.lemmas.Result.{on_ok_weaker, on_err_weaker}
use Rattle.kf_plain.proofs.SlotItems.{set_twice, text_read}
use Rattle.kf_plain.proofs.text_table.TextTable.replace.Goals as goal

-- the texts after the text was put back
stored : (c : goal.After-put) → map (λ text. option_map_or (λ bytes. bytes.items) text []) c.put.new.self ≡ slice_set c.args.self.now c.args.slot c.replace-replaced.new.text.items
stored c =
    ap (λ texts. map (λ text. option_map_or (λ bytes. bytes.items) text []) texts) (c.put.ensures.put ∙ ap (λ texts. slice_set texts c.args.slot (Some c.replace-replaced.new.text)) c.text_in-text.ensures.taken ∙ set_twice _ c.args.slot None (Some c.replace-replaced.new.text))
    ∙ map-set _ c.self.inside.texts c.args.slot (Some c.replace-replaced.new.text) ∙ ap (λ (xs : List (List ℕ)). slice_set xs c.args.slot c.replace-replaced.new.text.items) c.self.view_is

pub returns-clause-replaced : goal.returns-clause-replaced
returns-clause-replaced c = on_ok_weaker c.replace-replaced.result (λ made. stored c ∙ ap (slice_set c.args.self.now c.args.slot) made) c.replace-replaced.ensures.replaced

pub returns-clause-unchanged : goal.returns-clause-unchanged
returns-clause-unchanged c =
    on_err_weaker c.replace-replaced.result (λ same. stored c ∙ ap (slice_set c.args.self.now c.args.slot) (same ∙ c.text_in-text.ensures.text ∙ text_read _ c.self.inside.texts c.args.slot ∙ ap (λ (xs : List (List ℕ)). get_or xs c.args.slot []) c.self.view_is)
    ∙ set-get_or c.args.self.now c.args.slot []) c.replace-replaced.ensures.unchanged
