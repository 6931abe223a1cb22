use Rattle.std.proofs.Common.{◌∙◌, sym}
use Rattle.kf_table.proofs.directories.Directories.remove_record.Goals as goal

pub remove-requires : goal.remove-requires
remove-requires c =
    let may = rw c.in-Some.is at c.requires.counted in
    let facts = may c.in-Some-parent.parent c.in-Some-parent.is in
    record { counted = λ subdir. facts.1 (sym c.is_directory-is_subdir.ensures.known ∙ subdir) }
