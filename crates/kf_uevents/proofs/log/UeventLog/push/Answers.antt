use Rattle.std.proofs.Common.{◌≡◌, [], ◌∷◌, ◌++◌, arith, refl, ap, ◌∙◌, List, rules, length, drop}
use Rattle.std.proofs.lemmas.List.{length-drop, length_push}
use Rattle.kf_uevents.specs.Logs.{told_count}
use Rattle.kf_uevents.proofs.Logs.{few, none_kept, one_more}
use Rattle.kf_uevents.proofs.log.UeventLog.push.Goals as goal

pub make_place-requires : goal.make_place-requires
make_place-requires c = record {
  some = omega arith;
  few = few _ _ c.self.invariant.some.1;
}

pub invariant_of-self : goal.invariant_of-self
invariant_of-self c =
    let same = ap told_count c.self.view_is in record {
      some = (_, none_kept c.self.invariant.some.0 c.args.event _ _ c.self.invariant.some.1 c.if-self-eq0.true refl refl refl);
      numbered = omega (arith, same);
      places = omega arith;
    }

pub invariant_of-self-2 : goal.invariant_of-self-2
invariant_of-self-2 c =
    let same = ap told_count c.self.view_is in
    let few_kept = few _ _ c.self.invariant.some.1 in
    let pushed : c.push_back.new.self.items ≡ c.make_place.new.kept.items ++ c.args.event ∷ [] = search rules in
    let kept = pushed ∙ ap (λ xs. xs ++ c.args.event ∷ []) c.make_place.ensures.rest in record {
      some = (_, one_more c.self.invariant.some.0 c.args.event c.make_place.result _ _ c.self.invariant.some.1 (omega arith) refl c.make_place.ensures.gone refl kept);
      numbered = omega (arith, same, ap length kept, length_push (drop c.make_place.result c.self.inside.kept.items) c.args.event, length-drop c.make_place.result c.self.inside.kept.items, c.make_place.ensures.gone);
      places = search rules;
    }
