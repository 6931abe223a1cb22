use Rattle.std.proofs.Common.{◌≡◌, ◌∙◌, sym, ap, List, None, get_or, map, slice_set}
use Rattle.std.specs.FinMap.{get}
use Rattle.std.proofs.lemmas.Result.{on_ok_weaker, on_err_weaker}
use Rattle.kf_table.specs.declared.directory.Directory.{Directory}
use Rattle.kf_table.specs.Directories.{empty_directory, directory_in, with_child}
use Rattle.kf_table.proofs.Boxes.{directory_read, put_back, put_back_same, taken_away, always_err, room_few, room_few_names, room_absent}
use Rattle.kf_table.proofs.directories.Directories.insert.Goals as goal

pub returns-in_err-kept-clause-unchanged : goal.returns-in_err-kept-clause-unchanged
returns-in_err-kept-clause-unchanged c =
    always_err c.from_residual.result (ap (map directory_in) c.box_of.ensures.none
    ∙ taken_away c.self.inside.boxes c.args.slot (ap directory_in c.in_err-kept.ensures.absent) ∙ c.self.view_is)

pub insert-inserted-requires-clause-few : goal.insert-inserted-requires-clause-few
insert-inserted-requires-clause-few c =
    let is = c.deref_mut.ensures.value ∙ c.in_ok-kept.ensures.taken ∙ sym (directory_read c.self.inside.boxes c.args.slot)
    ∙ ap (λ (ds : List Directory). get_or ds c.args.slot empty_directory) c.self.view_is in
    room_few c.args.self.now c.args.slot c.args.name.now c.requires.room _ is

pub insert-inserted-requires-clause-few_names : goal.insert-inserted-requires-clause-few_names
insert-inserted-requires-clause-few_names c =
    let is = c.deref_mut.ensures.value ∙ c.in_ok-kept.ensures.taken ∙ sym (directory_read c.self.inside.boxes c.args.slot)
    ∙ ap (λ (ds : List Directory). get_or ds c.args.slot empty_directory) c.self.view_is in
    room_few_names c.args.self.now c.args.slot c.args.name.now c.requires.room _ is

pub returns-clause-inserted : goal.returns-clause-inserted
returns-clause-inserted c = on_ok_weaker c.insert-inserted.result
    (λ inserted. put_back c.self.inside.boxes _ _ c.args.slot _ (with_child c.args.name.now c.args.key c.args.is_subdir (get_or c.args.self.now c.args.slot empty_directory))
    c.box_of.ensures.none c.put.ensures.put
    (inserted ∙ ap (λ (d : Directory). with_child c.in-Ok.name c.args.key c.args.is_subdir d) (c.deref_mut.ensures.value ∙ c.in_ok-kept.ensures.taken ∙ sym (directory_read c.self.inside.boxes c.args.slot)
    ∙ ap (λ (ds : List Directory). get_or ds c.args.slot empty_directory) c.self.view_is)
    ∙ ap (λ name. with_child name c.args.key c.args.is_subdir (get_or c.args.self.now c.args.slot empty_directory)) c.in-Ok.ensures.made)
    ∙ ap (λ (ds : List Directory). slice_set ds c.args.slot (with_child c.args.name.now c.args.key c.args.is_subdir (get_or c.args.self.now c.args.slot empty_directory))) c.self.view_is)
    c.insert-inserted.ensures.inserted

pub returns-clause-unchanged : goal.returns-clause-unchanged
returns-clause-unchanged c = on_err_weaker c.insert-inserted.result
    (λ same. put_back_same c.self.inside.boxes _ _ c.args.slot _ c.box_of.ensures.none c.put.ensures.put
    (same ∙ c.deref_mut.ensures.value ∙ c.in_ok-kept.ensures.taken) ∙ c.self.view_is)
    c.insert-inserted.ensures.unchanged

pub returns-clause-refused : goal.returns-clause-refused
returns-clause-refused c =
    let is = c.deref_mut.ensures.value ∙ c.in_ok-kept.ensures.taken ∙ sym (directory_read c.self.inside.boxes c.args.slot)
    ∙ ap (λ (ds : List Directory). get_or ds c.args.slot empty_directory) c.self.view_is in
    let absent = room_absent c.args.self.now c.args.slot c.args.name.now c.requires.room _ is in
    let none : get c.deref_mut.result.now.index c.in-Ok.name ≡ None = rw c.in-Ok.ensures.made absent in
    rw none at c.insert-inserted.ensures.refused
