use Rattle.std.proofs.Common.{arith}
use Rattle.std.proofs.lemmas.List.Elements.{Contains-get_or}
use Rattle.kf_core.specs.declared.key.Key.{Key}
use Rattle.kf_shared.proofs.Pins.{why_refused}
use Rattle.kf_shared.proofs.Pinned.{kept_after, keys_pinned, new_pinned}
use Rattle.kf_shared.proofs.pinning.pin_each.Goals as goal

abbrev none : Key
none = record { slot = 0; generation = 0 }

pub loop-key-preserved : goal.loop-key-preserved
loop-key-preserved c =
    let i = c.loop-key.invariant in
    let long = c.push_reserved.ensures.len in
    let room = c.push_reserved.ensures.capacity in
    let same = i.3 in
    let wide = i.4 in (
      kept_after c.args.master.now c.loop-key.master c.pin.new.self i.0 c.in-Ok-pin.ensures.kept,
      keys_pinned c.args.keys.now c.loop-key.key-index none c.loop-key.holds.items c.push_reserved.new.self.items c.in-Ok-pin.hold c.push_reserved.ensures.items i.1 c.in-Ok-pin.ensures.hold.key_is c.loop-key-test.true,
      new_pinned c.args.master.now c.loop-key.master c.loop-key.holds.items c.push_reserved.new.self.items c.in-Ok-pin.hold _ c.push_reserved.ensures.items i.0 i.2 c.in-Ok-pin.ensures.hold,
      omega (arith, same, long),
      omega (arith, wide, room),
    )

pub returns-in-Err-clause-refused : goal.returns-in-Err-clause-refused
returns-in-Err-clause-refused c = why_refused c.loop-key.master.view c.pin.new.self.view c.args.keys.now _ c.in-Err.refusal (Contains-get_or c.args.keys.now c.loop-key.key-index none c.loop-key-test.true) c.in-Err.ensures.refused c.in-Err.ensures.full
