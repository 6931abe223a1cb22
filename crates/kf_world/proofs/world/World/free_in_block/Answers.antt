-- A slot whose bit is clear in `left` is not free: its mark is set, or the search has looked at the slot.
use Rattle.std.proofs.Common.{rules, ◌≡◌, ℕ, ◌*◌, ◌+◌, ◌-◌, ◌/◌, ◌%◌, ◌≤◌, ◌<◌, List, inl, inr, false, length, arith, refl, ap, sym, ◌∙◌, subst, get_or, IsTrue}
use Rattle.std.specs.Prelude.{slice_get, Some}
use Rattle.std.specs.Int.{bit_at}
use Rattle.std.proofs.lemmas.Nat.Bits.{bit_at-zero}
use Rattle.std.proofs.lemmas.Option.{slice_get_read, get_or_from_slice_get}
use Rattle.std.proofs.lemmas.Bool.Decides.{eqb_tells, leb_tells}
use Rattle.kf_world.specs.Bounded.{BoundedWorld, IsFree}
use Rattle.kf_world.proofs.world.World.free_in_block.Goals.{else-slot-self-via-then-slot-self+else-is_free, else-slot-self-via-else-slot-self}
use Rattle.kf_world.proofs.world.World.free_in_block.Goals as goal

untrue : IsTrue false → ⊥
untrue f = cc

-- the mark of a slot is a bit of the word of its block
bit_in : (words : List ℕ) (block bit word : ℕ) → bit < 64 → get_or words block 0 ≡ word → bit_at word bit ≡ 1
    → bit_at (get_or words ((64 * block + bit) / 64) 0) ((64 * block + bit) % 64) ≡ 1
bit_in words block bit word few is set =
    let at : (64 * block + bit) / 64 ≡ block = omega (arith, few) in
    let place : (64 * block + bit) % 64 ≡ bit = omega (arith, few) in
    ap (λ (k : ℕ). bit_at (get_or words k 0) ((64 * block + bit) % 64)) at ∙ (ap (λ (k : ℕ). bit_at (get_or words block 0) k) place ∙ (ap (λ (x : ℕ). bit_at x bit) is ∙ set))

pub loop-left-init : goal.loop-left-init
loop-left-init c = λ bit few zero one free.
    let words : List ℕ = c.self.inside.hint.taken.blocks.items in
    let block : ℕ = c.args.block in
    let within : block ≤ length c.self.inside.slots / 64 = subst (λ (b : BoundedWorld). block ≤ length b.world.slots / 64) (sym c.self.view_is) c.requires.within in
    let there : slice_get words block ≡ Some c.index.result.now = slice_get_read words (length words) block c.index.result.now refl (omega (arith, within, c.self.invariant.covered.0)) c.index.ensures in
    let read : get_or words block 0 ≡ c.index.result.now = get_or_from_slice_get words block c.index.result.now 0 there in
    c.self.invariant.skipped (64 * block + bit) one
    (inr (inl (bit_in words block bit c.index.result.now few read (omega (arith, c.other_bits-left.ensures.flipped bit few, zero)))))
    (subst (λ (b : BoundedWorld). IsFree b.world (64 * block + bit)) (sym c.self.view_is) free)

pub returns-then-is_free-clause-lowest : goal.returns-then-is_free-clause-lowest
returns-then-is_free-clause-lowest c = λ slot one below free. elim (leb_tells (64 * c.args.block) slot) [
  | inl m ↦ (let e : slot ≡ 64 * c.args.block + (slot - 64 * c.args.block) = omega (arith, m.1) in
      let low : slot - 64 * c.args.block < c.lowest_bit-place.result = omega (arith, m.1, below) in
      c.loop-left.invariant (slot - 64 * c.args.block) (omega (arith, low, c.lowest_bit-place.ensures.bound)) (c.lowest_bit-place.ensures.below (slot - 64 * c.args.block) low) (omega (arith, one, e)) (subst (IsFree c.args.self.now.world) e free))
  | inr l ↦ c.requires.passed slot one (omega (arith, l.1)) free
]

pub loop-left-preserved : goal.loop-left-preserved
loop-left-preserved c = λ bit few zero one free. elim (eqb_tells bit c.lowest_bit-place.result) [
  | inl e ↦ (let same : 64 * c.args.block + bit ≡ c.args.block * 64 + c.lowest_bit-place.result = omega (arith, e.1) in
      let its : IsFree c.args.self.now.world (c.args.block * 64 + c.lowest_bit-place.result) = subst (IsFree c.args.self.now.world) same free in
      elim c.else-slot-self.branch [
        | else-slot-self-via-then-slot-self+else-is_free w ↦ untrue (subst IsTrue w.if-is_free.false (w.is_free.ensures.1 its))
        | else-slot-self-via-else-slot-self w ↦ c.self.invariant.skipped (c.args.block * 64 + c.lowest_bit-place.result) (omega (arith, one, same)) (inl w.if-slot-self.false)
            (subst (λ (b : BoundedWorld). IsFree b.world (c.args.block * 64 + c.lowest_bit-place.result)) (sym c.self.view_is) its)
      ])
  | inr n ↦ c.loop-left.invariant bit few (sym (c.without_bit-left.ensures.kept bit few n.1) ∙ zero) one free
]

pub returns-clause-none : goal.returns-clause-none
returns-clause-none c = λ slot one below free. elim (leb_tells (64 * c.args.block) slot) [
  | inl m ↦ (let e : slot ≡ 64 * c.args.block + (slot - 64 * c.args.block) = omega (arith, m.1) in
      let bit : ℕ = slot - 64 * c.args.block in
      let none : c.loop-left.left ≡ 0 = search rules in
      c.loop-left.invariant bit (omega (arith, m.1, below)) (ap (λ (x : ℕ). bit_at x bit) none ∙ bit_at-zero bit) (omega (arith, one, e)) (subst (IsFree c.args.self.now.world) e free))
  | inr l ↦ c.requires.passed slot one (omega (arith, l.1)) free
]
