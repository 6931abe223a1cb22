use Rattle.std.proofs.Common.{refl}
use Rattle.kf_registry.proofs.registry.Registry.lend.Goals as goal

pub returns-in-Some-Plain-clause-ran : goal.returns-in-Some-Plain-clause-ran
returns-in-Some-Plain-clause-ran g c = (c.in-Some-Plain.entry.value, c.is_of.ensures.suits c.if-is_of.true, (_, c.f.ensures, refl))
