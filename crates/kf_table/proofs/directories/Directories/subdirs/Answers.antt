use Rattle.std.proofs.Common.{◌∙◌, ap, sym}
use Rattle.kf_table.specs.declared.directory.Directory.{Directory}
use Rattle.kf_table.proofs.Boxes.{subdirs_told}
use Rattle.kf_table.proofs.directories.Directories.subdirs.Goals as goal

pub returns-in-Some : goal.returns-in-Some
returns-in-Some c = record { known = c.subdirs.ensures.known ∙ ap (λ (d : Directory). d.subdirs) c.in-Some.ensures.kept ∙ sym (subdirs_told c.args.self.now c.args.slot) }

pub returns-in-None : goal.returns-in-None
returns-in-None c = record { known = sym (subdirs_told c.args.self.now c.args.slot ∙ ap (λ (d : Directory). d.subdirs) c.in-None.ensures.none) }
