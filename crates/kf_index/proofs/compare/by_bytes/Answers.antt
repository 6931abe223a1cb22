use Rattle.std.proofs.Common.{sym, ◌∙◌, arith}
use Rattle.kf_index.proofs.Compared.{lengths_tell}
use Rattle.kf_index.proofs.compare.by_bytes.Goals as goal

pub returns : goal.returns
returns c = record { known = c.cmp-2.ensures ∙ sym (c.loop-at.invariant ∙ lengths_tell c.args.a.now c.args.b.now c.loop-at.at (omega arith)) }
