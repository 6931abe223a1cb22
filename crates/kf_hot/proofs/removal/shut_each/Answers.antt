use Rattle.std.proofs.Common.{◌∙◌, ◌<◌, get_or, length, arith}
use Rattle.kf_gates.specs.States.{opening_of}
use Rattle.kf_hot.proofs.Gating.{next_shut, same_images, same_opening}
use Rattle.kf_hot.proofs.removal.shut_each.Goals as goal

pub loop-gate-preserved : goal.loop-gate-preserved
loop-gate-preserved c =
    let i = c.loop-gate.invariant in
    let inside : c.loop-gate.gate-index < length c.loop-gate.gates = omega arith in
    let same = c.shut.ensures.same in (
      next_shut c.loop-gate.gates c.loop-gate.gate-index c.shut.new.self inside c.shut.ensures.shut i.0,
      same_images opening_of c.loop-gate.gates c.loop-gate.gate-index c.gate-item.result c.shut.new.self inside (same_opening (get_or c.loop-gate.gates c.loop-gate.gate-index c.gate-item.result) c.shut.new.self same) ∙ i.1,
      same_images (λ gate. gate.kept) c.loop-gate.gates c.loop-gate.gate-index c.gate-item.result c.shut.new.self inside same.kept ∙ i.2,
    )
