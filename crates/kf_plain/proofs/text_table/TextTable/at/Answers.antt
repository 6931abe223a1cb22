use Rattle.std.proofs.Common.{[], ◌∙◌, ap, sym, get_or, List, ℕ}
use Rattle.std.specs.Option.{option_copied, option_map_or}
use Rattle.kf_plain.proofs.SlotItems.{text_read}
use Rattle.kf_plain.proofs.text_table.TextTable.at.Goals as goal

pub returns-in-Some : goal.returns-in-Some
returns-in-Some c = record {
  text = c.as_slice.ensures.value ∙ ap (λ text. option_map_or (λ bytes. bytes.items) text []) (sym (ap option_copied c.in-Some.is) ∙ c.get.ensures.known)
      ∙ text_read (λ bytes. bytes.items) c.self.inside.texts c.args.slot ∙ ap (λ (xs : List (List ℕ)). get_or xs c.args.slot []) c.self.view_is;
}

pub returns-in-None : goal.returns-in-None
returns-in-None c = record {
  text = ap (λ text. option_map_or (λ bytes. bytes.items) text []) (sym (ap option_copied c.in-None.is) ∙ c.get.ensures.known)
      ∙ text_read (λ bytes. bytes.items) c.self.inside.texts c.args.slot ∙ ap (λ (xs : List (List ℕ)). get_or xs c.args.slot []) c.self.view_is;
}
