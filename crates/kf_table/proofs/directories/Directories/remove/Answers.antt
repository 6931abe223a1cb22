use Rattle.std.proofs.Common.{◌∙◌, sym, ap}
use Rattle.kf_table.specs.declared.directory.Directory.{Directory}
use Rattle.kf_table.specs.Directories.{directory_in, without_child}
use Rattle.kf_table.proofs.Boxes.{directory_read, put_back, removed_none}
use Rattle.kf_table.proofs.directories.Directories.remove.Goals as goal

pub returns-in-Some : goal.returns-in-Some
returns-in-Some c = rw (← c.self.view_is) (record {
  removed = put_back c.self.inside.boxes _ _ c.args.slot _ _ c.take.ensures.none c.put.ensures.put
      (c.remove.ensures.removed ∙ ap (λ (d : Directory). without_child c.args.name.now c.args.is_subdir d)
      (c.deref_mut.ensures.value ∙ ap directory_in c.in-Some.ensures.taken ∙ sym (directory_read c.self.inside.boxes c.args.slot)));
})

pub returns-in_default : goal.returns-in_default
returns-in_default c =
    let counted = rw (← c.self.view_is) at c.requires.counted in
    rw (← c.self.view_is) (record {
      removed = removed_none c.self.inside.boxes _ c.args.slot c.args.name.now c.args.is_subdir c.take.ensures.none (sym c.take.ensures.taken ∙ c.in_default.is) counted;
    })
