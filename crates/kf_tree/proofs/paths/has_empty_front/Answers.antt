use Rattle.std.proofs.Common.{◌≡◌, ℕ, List, ◌∷◌, true, ap, sym, ◌∙◌, refl}
use Rattle.std.specs.Option.{option_map}
use Rattle.std.specs.List.{list_any, slice_split}
use Rattle.kf_core.specs.Paths.{is_slash, is_empty, later_parts}
use Rattle.kf_tree.specs.Paths.{front}
use Rattle.kf_tree.proofs.Parts.{front_is, is_empty-length}
use Rattle.kf_tree.proofs.paths.has_empty_front.Goals as goal

first_empty : (text name rest : List ℕ) → slice_split is_slash text ≡ name ∷ slice_split is_slash rest → is_empty name ≡ true → true ≡ list_any is_empty (front (slice_split is_slash text))
first_empty text name rest parts empty = rw (front_is text name rest parts, empty) refl

pub returns-then-is_empty : goal.returns-then-is_empty
returns-then-is_empty c = record {
  known = (let name = c.first_part.result.0.now in
      let parts = c.first_part.ensures.parts ∙ ap (λ o. name ∷ later_parts (option_map (λ r. r.now) o)) c.in_default-Some.is-1 in
      first_empty c.loop-name.text.now name c.in_default-Some.rest.now parts (is_empty-length name (sym c.is_empty.ensures ∙ c.if-is_empty.true)) ∙ c.loop-name.invariant);
}
