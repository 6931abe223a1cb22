use Rattle.std.proofs.Common.{◌<◌, [], length, ap, sym, ◌∙◌}
use Rattle.std.proofs.lemmas.List.{get_or_default}
use Rattle.kf_index.specs.Chunks.{joined}
use Rattle.kf_index.proofs.Joined.{joined_split}
use Rattle.kf_index.proofs.chunks.split_later.Goals as goal

pub returns-in-Ok-insert-clause-same : goal.returns-in-Ok-insert-clause-same
returns-in-Ok-insert-clause-same c =
    let within : c.args.chunk < length c.room_for_one.new.later.items = rw c.room_for_one.ensures.same c.requires.within in
    let read = get_or_default c.room_for_one.new.later.items c.args.chunk [] c.index_mut.result.now within ∙ sym c.index_mut.ensures.value ∙ c.in-Ok.ensures.split in
    ap joined c.in-Ok-insert.ensures.items ∙ joined_split _ _ _ _ within read ∙ ap joined c.room_for_one.ensures.same
