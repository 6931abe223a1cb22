use Rattle.kf_core.specs.Paths.{is_slash}
use Rattle.kf_looks.proofs.Parts.{split_found, split_none}
use Rattle.kf_looks.proofs.path.first_part.Goals as goal

pub returns-in-Some-clause-parts : goal.returns-in-Some-clause-parts
returns-in-Some-clause-parts c = split_found is_slash c.args.text.now c.in-Some.at c.in-Some.ensures.first

pub returns-in-None-clause-parts : goal.returns-in-None-clause-parts
returns-in-None-clause-parts c = split_none is_slash c.args.text.now c.in-None.ensures.first
