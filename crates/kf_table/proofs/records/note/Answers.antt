use Rattle.std.proofs.Common.{◌∙◌, ap, arith}
use Rattle.kf_table.specs.Live.{live_key}
use Rattle.kf_table.proofs.LiveKeys.{noted}
use Rattle.kf_table.proofs.records.note.Goals as goal

pub returns-then-at-len : goal.returns-then-at-len
returns-then-at-len c = record {
  kept = λ before entry kept is. c.set.ensures.set ∙ noted _ before _ c.args.slot entry _ (omega (arith, c.if-at-len.true)) kept is (c.live_key-key.ensures.known ∙ ap live_key c.get.ensures.known);
}
