use Rattle.std.proofs.Common.{refl}
use Rattle.kf_registry.proofs.lanes.Lanes.lend.Goals as goal

pub returns-then-is_of-clause-ran : goal.returns-then-is_of-clause-ran
returns-then-is_of-clause-ran g c = (c.deref-hot.result.now.value, c.is_of.ensures.suits c.if-is_of.true, (_, c.f.ensures, refl))
