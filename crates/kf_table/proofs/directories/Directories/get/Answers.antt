use Rattle.std.proofs.Common.{◌∙◌, ap, sym, List, get_or}
use Rattle.kf_table.specs.declared.directory.Directory.{Directory}
use Rattle.kf_table.specs.Directories.{empty_directory, directory_in}
use Rattle.kf_table.proofs.Boxes.{directory_read}
use Rattle.kf_table.proofs.directories.Directories.get.Goals as goal

pub returns-in-None-clause-none : goal.returns-in-None-clause-none
returns-in-None-clause-none c =
    ap (λ (ds : List Directory). get_or ds c.args.slot empty_directory) (sym c.self.view_is)
    ∙ directory_read c.self.inside.boxes c.args.slot ∙ ap directory_in (sym c.in-None.ensures.known)
