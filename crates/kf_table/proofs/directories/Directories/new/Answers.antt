use Rattle.std.proofs.Common.{◌∙◌, ap, map}
use Rattle.kf_table.specs.Directories.{directory_in}
use Rattle.kf_table.proofs.Boxes.{none_held}
use Rattle.kf_table.proofs.directories.Directories.new.Goals as goal

pub returns-clause-made : goal.returns-clause-made
returns-clause-made c = ap (map directory_in) c.in_ok-new.ensures.made ∙ none_held c.args.slots
