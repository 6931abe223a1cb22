use Rattle.std.proofs.Common.{take, eqb, w8, arith}
use Rattle.std.proofs.lemmas.List.{length-take-le}
use Rattle.std.proofs.lemmas.Simd.{bitmask_splat}
use Rattle.kf_looks.proofs.path.slashes_of_sixteen.Goals as goal

pub returns : goal.returns
returns c = record { told = bitmask_splat w8 eqb (take 16 c.args.text.now) 16 47 (length-take-le 16 c.args.text.now c.requires) (omega arith) }
