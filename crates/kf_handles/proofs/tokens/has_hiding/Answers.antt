use Rattle.std.proofs.Common.{◌≤◌, refl, sym, subst, ap, ◌∙◌, None, Some, length, Option, arith}
use Rattle.std.specs.Prelude.{IfSome}
use Rattle.std.proofs.lemmas.List.{take_all}
use Rattle.std.proofs.lemmas.List.Elements.{All-more, at_read}
use Rattle.std.proofs.lemmas.Option.{slice_get_read}
use Rattle.kf_words.specs.Callers.{Handle}
use Rattle.kf_handles.specs.Hiding.{HasNoHiding, SawNobody}
use Rattle.kf_handles.proofs.tokens.has_hiding.Goals as goal
use Rattle.kf_handles.proofs.tokens.has_hiding.Goals.{in-Some+else-is_hiding, in-None}

-- the token at this place shows that somebody may be inside a hidden file
pub returns-then-is_hiding-clause-hiding : goal.returns-then-is_hiding-clause-hiding
returns-then-is_hiding-clause-hiding c = λ _. (
  c.loop-place.place-index,
  c.in-Some.token,
  slice_get_read c.args.tokens.now (length c.args.tokens.now) c.loop-place.place-index c.place-item.result refl c.loop-place-test.true c.place-item.is
      ∙ ap (λ (place : Option Handle). Some place) c.in-Some.is,
  c.is_hiding.ensures.hiding c.if-is_hiding.true,
)

-- one more place
pub loop-place-preserved : goal.loop-place-preserved
loop-place-preserved c =
    let xs = c.args.tokens.now in
    let i = c.loop-place.place-index in
    let Fits : Option Handle → Type 0 = λ place. IfSome place SawNobody in
    let fits : Fits c.place-item.result = elim c.match-place.branch [
      | in-Some+else-is_hiding w ↦ subst Fits (sym w.in-Some.is) (w.is_hiding.ensures.hidden w.if-is_hiding.false)
      | in-None w ↦ subst Fits (sym w.in-None.is) tt
    ] in
    All-more Fits xs i None c.loop-place-test.true c.loop-place.invariant
    (at_read xs Fits i c.place-item.result c.loop-place-test.true c.place-item.is fits None)

-- no place is left
pub returns-clause-none : goal.returns-clause-none
returns-clause-none c = λ _.
    let all : length c.args.tokens.now ≤ c.loop-place.place-index = omega (arith, c.loop-place-test.false) in
    subst HasNoHiding (take_all c.loop-place.place-index c.args.tokens.now all) c.loop-place.invariant
