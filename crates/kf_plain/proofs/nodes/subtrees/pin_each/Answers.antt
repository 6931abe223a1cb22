-- Each node of a list is pinned in turn: what is held so far.
use Rattle.std.proofs.Common.{rules, ◌≡◌, ◌∙◌, ℕ, ◌+◌, ◌-◌, ◌<◌, ◌≤◌, ap, arith, subst, length, take, drop, List, slice_index_or}
use Rattle.std.specs.Prelude.{All}
use Rattle.std.proofs.lemmas.List.{length-drop, get_or-drop, take_all}
use Rattle.kf_core.specs.declared.key.Key.{Key}
use Rattle.kf_core.specs.declared.event.Event.TheVariants.{Pin}
use Rattle.kf_world.specs.Bounded.{Happens, PinRefused, hold_count, holds}
use Rattle.kf_plain.proofs.Pins.{pin_refused, one_pinned, given_back}
use Rattle.kf_plain.proofs.nodes.subtrees.pin_each.Goals as goal

abbrev none : Key
none = record { slot = 0; generation = 0 }

-- an item of the rest is the next item of the keys
next_item : (keys rest : List Key) (i : ℕ) → rest ≡ drop 1 keys → slice_index_or rest i none ≡ slice_index_or keys (i + 1) none
next_item keys rest i e = (let n : 1 + i ≡ i + 1 = omega arith in ap (λ ks. slice_index_or ks i none) e ∙ get_or-drop 1 keys i none ∙ ap (λ m. slice_index_or keys m none) n)

next_within : (keys rest : List Key) (i : ℕ) → rest ≡ drop 1 keys → i < length rest → i + 1 < length keys
next_within keys rest i e h = (let a = ap length e in let b = length-drop 1 keys in omega (arith, a, b, h))

none_left : (keys rest : List Key) (i : ℕ) → rest ≡ drop 1 keys → length rest ≤ i → length keys ≤ i + 1
none_left keys rest i e h = (let a = ap length e in let b = length-drop 1 keys in omega (arith, a, b, h))

pub returns-in-Err-clause-refused : goal.returns-in-Err-clause-refused
returns-in-Err-clause-refused c =
    let keys = c.args.keys.now in
    let rest = take (length keys - 1) (drop 1 keys) in
    let i = c.loop-done.done in
    let pinned = c.loop-done.invariant.0 in
    let same = c.loop-done.invariant.1 in (
      pin_refused c.args.world.now c.loop-done.world keys (i + 1) none (next_within keys rest i same c.loop-done-test.true) c.requires.linked c.requires.different pinned.held c.in-Err.refusal
          (subst (λ k. PinRefused c.loop-done.world k c.in-Err.refusal) (next_item keys rest i same) c.in-Err.ensures.refused),
      (take (i + 1) keys, given_back c.args.world.now c.pin-in-loop-done.new.self (take (i + 1) keys) c.in_ok-first.first (c.in-Err.ensures.err ∙ pinned.held) pinned.number c.release_from.new.world c.release_from.ensures.released),
    )

pub loop-done-preserved : goal.loop-done-preserved
loop-done-preserved c =
    let keys = c.args.keys.now in
    let rest = take (length keys - 1) (drop 1 keys) in
    let i = c.loop-done.done in
    let pinned = c.loop-done.invariant.0 in
    let same = c.loop-done.invariant.1 in (
      one_pinned c.args.world.now c.loop-done.world keys (i + 1) none (next_within keys rest i same c.loop-done-test.true) c.requires.linked c.requires.different pinned.held
          c.pin-in-loop-done.new.self c.in_ok-first.first c.in_default-pin.field-0 pinned
          (subst (λ k. Happens c.loop-done.world (Pin c.in_default-pin.field-0 k) c.pin-in-loop-done.new.self) (next_item keys rest i same) c.in_default-pin.ensures.step)
          (search rules)
          (subst (λ (k : Key). holds c.loop-done.world.world k.slot < c.loop-done.world.limit) (next_item keys rest i same) c.in_default-pin.ensures.room),
      same,
    )

pub returns-clause-room : goal.returns-clause-room
returns-clause-room c =
    let keys = c.args.keys.now in
    let rest = take (length keys - 1) (drop 1 keys) in
    subst (λ ks. All (λ key. hold_count c.args.world.now.world.callers key.slot < c.args.world.now.limit) ks)
    (take_all (c.loop-done.done + 1) keys (none_left keys rest c.loop-done.done c.loop-done.invariant.1 c.loop-done-test.false)) c.loop-done.invariant.0.room
