-- No slot of a marked group is free, and no slot below the hint's lowest one.
use Rattle.std.proofs.Common.{◌≡◌, ◌*◌, ◌+◌, ◌/◌, ◌≤◌, inl, inr, true, length, arith, refl, ap, sym, ◌∙◌, subst}
use Rattle.std.specs.Prelude.{slice_get, Some}
use Rattle.std.proofs.lemmas.Option.{slice_get_read}
use Rattle.std.proofs.lemmas.Bool.Decides.{leb_tells}
use Rattle.kf_world.specs.Bounded.{BoundedWorld}
use Rattle.kf_world.specs.Counts.{NoneFree}
use Rattle.kf_world.proofs.Kept.{none_free, none_skipped}
use Rattle.kf_world.proofs.world.World.free_in_group.Goals as goal

pub returns-then-index-clause-none : goal.returns-then-index-clause-none
returns-then-index-clause-none c =
    let passed = subst (λ (b : BoundedWorld). NoneFree b.world (4096 * c.args.group)) (sym c.self.view_is) c.requires.passed in
    let within = subst (λ (b : BoundedWorld). c.args.group ≤ length b.world.slots / 4096) (sym c.self.view_is) c.requires.within in
    let is = slice_get_read _ (length c.self.inside.hint.taken.groups.items) c.args.group c.index.result.now refl (omega (arith, within, c.self.invariant.covered.1)) c.index.ensures ∙ ap Some c.if-index.true in
    subst (λ (b : BoundedWorld). NoneFree b.world (4096 * c.args.group + 4096)) c.self.view_is
    (none_skipped _ _ _ (4096 * c.args.group) _ c.self.invariant passed (λ slot a b. inr (inr (let e : c.args.group ≡ slot / 4096 = omega arith in subst (λ k. slice_get c.self.inside.hint.taken.groups.items k ≡ Some true) e is))))

pub loop-block-init : goal.loop-block-init
loop-block-init c =
    let passed = subst (λ (b : BoundedWorld). NoneFree b.world (4096 * c.args.group)) (sym c.self.view_is) c.requires.passed in
    subst (λ (b : BoundedWorld). NoneFree b.world (64 * c.max-first.result)) c.self.view_is
    (none_skipped _ _ _ (4096 * c.args.group) _ c.self.invariant passed (λ slot a b. inl (omega (arith, c.max-first.ensures, c.block_of.ensures, a, b))))

pub returns-clause-none : goal.returns-clause-none
returns-clause-none c = λ slot one below. elim (leb_tells (64 * c.loop-block.block) slot) [
  | inl m ↦ (let len : length c.self.inside.slots ≡ length c.args.self.now.world.slots = ap (λ (b : BoundedWorld). length b.world.slots) c.self.view_is in
      none_free c.args.self.now.world slot (omega (arith, m.1, below, c.loop-block-test.false, c.min-end.ensures, c.block_of-2.ensures, c.len.ensures.known, len)))
  | inr l ↦ c.loop-block.invariant slot one l.1
]
