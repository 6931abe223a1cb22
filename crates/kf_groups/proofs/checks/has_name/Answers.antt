use Rattle.std.proofs.Common.{◌∙◌}
use Rattle.kf_groups.proofs.Names.{any_shown}
use Rattle.kf_groups.proofs.checks.has_name.Goals as goal

pub returns : goal.returns
returns c = record { known = c.any_named.ensures.known ∙ any_shown c.args.attributes.now c.args.name.now }
