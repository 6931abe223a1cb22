use Rattle.std.proofs.Common.{◌≤◌, ◌∙◌, length, arith}
use Rattle.std.proofs.lemmas.List.{take_all}
use Rattle.kf_device.proofs.bus.Bus.show_serial.Goals as goal

pub returns : goal.returns
returns g c =
    let short : length c.as_bytes.result.now ≤ 4096 = grind (arith, c.as_bytes.ensures.value, c.format.ensures.short) in
    record { shown = c.put.ensures.filled ∙ take_all 4096 c.as_bytes.result.now short ∙ c.as_bytes.ensures.value ∙ c.format.ensures.text }
