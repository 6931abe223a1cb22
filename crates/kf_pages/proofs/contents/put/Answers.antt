use Rattle.std.proofs.Common.{◌≤◌, ◌+◌, length, take, arith, refl, ◌∙◌}
use Rattle.std.specs.Prelude.{Result, Ok, Err, IsOk, OnOk}
use Rattle.std.proofs.lemmas.List.{take_min, length-take}
use Rattle.std.proofs.Math.Nat.{min_comm}
use Rattle.kf_pages.proofs.contents.put.Goals as goal

on_ok : {A E : Type 0} (r : Result A E) (P : Type 0) → IsOk r → OnOk r P → P
on_ok (Ok a) P i p = p
on_ok (Err e) P i p = absurd cc

-- what was cut to 4,095 bytes fits on the empty page
pub returns : goal.returns
returns c =
    let fits : length c.clear.new.self.items + length (take c.min-end.result c.args.bytes.now) ≤ 4096 =
    grind (arith, length-take, c.clear.ensures, c.min-end.ensures) in
    let all = on_ok _ _ (c.try_extend_from_slice.ensures.variant.1 fits) c.try_extend_from_slice.ensures.ok in
    all ∙ rw (c.clear.ensures, c.min-end.ensures, min_comm (length c.args.bytes.now) 4095, take_min) refl
