use Rattle.std.proofs.Common.{ap, ◌∙◌, [], map, slice_set, List, ℕ, Some}
use Rattle.std.specs.Option.{option_map_or}
use Rattle.std.proofs.lemmas.List.{map-set}
use Rattle.kf_plain.proofs.text_table.TextTable.put.Goals as goal

pub returns : goal.returns
returns c = record {
  text = ap (λ texts. map (λ text. option_map_or (λ bytes. bytes.items) text []) texts) c.put.ensures.put
      ∙ map-set _ c.self.inside.texts c.args.slot (Some c.args.text) ∙ ap (λ (xs : List (List ℕ)). slice_set xs c.args.slot c.args.text.items) c.self.view_is;
}
