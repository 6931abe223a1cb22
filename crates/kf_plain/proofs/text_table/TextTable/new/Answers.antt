use Rattle.std.proofs.Common.{[], ◌∙◌, ap, map}
use Rattle.std.specs.Option.{option_map_or}
use Rattle.kf_plain.proofs.SlotItems.{map_replicate}
use Rattle.kf_plain.proofs.text_table.TextTable.new.Goals as goal

pub returns-clause-empty : goal.returns-clause-empty
returns-clause-empty c = ap (λ texts. map (λ text. option_map_or (λ bytes. bytes.items) text []) texts) c.in_ok-texts.ensures.made ∙ map_replicate _ c.args.slots _
