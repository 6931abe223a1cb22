use Rattle.std.proofs.Common.{◌≡◌, ℕ, List, ◌∷◌, Result, false, ap, sym, ◌∙◌}
use Rattle.std.specs.Option.{option_map}
use Rattle.std.specs.List.{slice_split}
use Rattle.kf_core.specs.Tree.{Tree}
use Rattle.kf_core.specs.declared.key.Key.{Key}
use Rattle.kf_core.specs.declared.refusal.Refusal.{Refusal}
use Rattle.kf_core.specs.Paths.{is_slash, later_parts}
use Rattle.kf_tree.specs.Paths.{front, final, walk, and_then, found}
use Rattle.kf_tree.proofs.Parts.{front_is, final_more}
use Rattle.kf_tree.proofs.Unnamed.{walked_named}
use Rattle.kf_tree.proofs.paths.walk_front.Goals as goal

-- a walk over all names except the last takes the first name, and then walks over the rest
along_first : (t : Tree) (dir : Key) (text name rest : List ℕ) (r : Result Key Refusal) → slice_split is_slash text ≡ name ∷ slice_split is_slash rest → r ≡ found t dir name
    → walk t dir (front (slice_split is_slash text)) ≡ and_then r (λ next. walk t next (front (slice_split is_slash rest)))
along_first t dir text name rest r parts e = ap (walk t dir) (front_is text name rest parts) ∙ ap (λ r. and_then r (λ next. walk t next (front (slice_split is_slash rest)))) (sym e)

pub returns-in-Err : goal.returns-in-Err
returns-in-Err c = record {
  named = tt;
  walked = (let name = c.first_part.result.0.now in
      let parts = c.first_part.ensures.parts ∙ ap (λ o. name ∷ later_parts (option_map (λ r. r.now) o)) c.in-Some.is in
      sym c.loop-rest.invariant.0 ∙ along_first c.args.table.now c.loop-rest.dir c.loop-rest.text.now name c.in-Some.rest.now _ parts (sym c.in-Err.ensures.found));
}

pub returns-in_default-clause-named : goal.returns-in_default-clause-named
returns-in_default-clause-named c =
    let name = c.first_part.result.0.now in
    let alone = c.first_part.ensures.parts ∙ ap (λ o. name ∷ later_parts (option_map (λ r. r.now) o)) c.in_default.is in
    walked_named c.args.table.now c.requires.lawful.0 c.requires.lawful.1 false _ c.args.start c.loop-rest.dir
    (sym c.loop-rest.invariant.0 ∙ ap (λ l. walk c.args.table.now c.loop-rest.dir (front l)) alone)

pub loop-rest-preserved : goal.loop-rest-preserved
loop-rest-preserved c =
    let name = c.first_part.result.0.now in
    let parts = c.first_part.ensures.parts ∙ ap (λ o. name ∷ later_parts (option_map (λ r. r.now) o)) c.in-Some.is in (
      sym (along_first c.args.table.now c.loop-rest.dir c.loop-rest.text.now name c.in-Some.rest.now _ parts (sym c.in-Ok.ensures.found)) ∙ c.loop-rest.invariant.0,
      sym (ap final parts ∙ final_more is_slash name c.in-Some.rest.now) ∙ c.loop-rest.invariant.1,
      c.in-Ok.ensures.inside,
      c.in-Ok.ensures.keyed,
    )
