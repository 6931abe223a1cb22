use Rattle.std.proofs.Common.{ap, sym, ◌∙◌, ℕ, List}
use Rattle.std.specs.Prelude.{slice_index}
use Rattle.std.proofs.lemmas.Option.{get_or_from_slice_get}
use Rattle.kf_plain.proofs.SlotItems.{none_read}
use Rattle.kf_plain.proofs.events.EventTable.at.Goals as goal

pub returns-in-Some : goal.returns-in-Some
returns-in-Some c = record {
  number = sym (ap (λ (xs : List ℕ). slice_index xs c.args.slot) (sym c.self.view_is)
      ∙ get_or_from_slice_get c.self.inside.numbers c.args.slot c.in-Some.number 0 (sym c.get.ensures.known ∙ c.in-Some.is));
}

pub returns-in-None : goal.returns-in-None
returns-in-None c = record {
  number = sym (ap (λ (xs : List ℕ). slice_index xs c.args.slot) (sym c.self.view_is)
      ∙ none_read c.self.inside.numbers c.args.slot 0 (sym c.get.ensures.known ∙ c.in-None.is));
}
