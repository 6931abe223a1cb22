use Rattle.std.proofs.Common.{take, eqb, w8, arith}
use Rattle.std.proofs.lemmas.List.{length-take-le}
use Rattle.std.proofs.lemmas.Simd.{bitmask_splat}
use Rattle.kf_looks.proofs.path.slashes_of_eight.Goals as goal

pub returns : goal.returns
returns c = record { told = bitmask_splat w8 eqb (take 8 c.args.text.now) 8 47 (length-take-le 8 c.args.text.now c.requires) (omega arith) }
