use Rattle.kf_core.proofs.FoundRecords.{linked_here}
use Rattle.kf_table.proofs.KeptMoves.{IsLawfulMove, has_room, may_move_out, kept_by_move}
use Rattle.kf_table.proofs.table.Table.move_to.Goals as goal

pub insert-requires : goal.insert-requires
insert-requires c =
    let m : IsLawfulMove c.self.inside.records c.args.key c.args.dir c.args.name = rw c.self.view_is (record {
      linked = c.requires.linked;
      lawful = c.requires.lawful;
      lawful_after = c.requires.lawful_after;
      elsewhere = c.requires.elsewhere;
    }) in
    let h = linked_here _ c.args.key m.linked in
    rw c.bytes.ensures.same (record { room = has_room _ _ c.self.invariant c.args.key c.args.dir c.args.name m h.0 h.1 h.2 })

pub remove_record-requires : goal.remove_record-requires
remove_record-requires c =
    let m : IsLawfulMove c.self.inside.records c.args.key c.args.dir c.args.name = rw c.self.view_is (record {
      linked = c.requires.linked;
      lawful = c.requires.lawful;
      lawful_after = c.requires.lawful_after;
      elsewhere = c.requires.elsewhere;
    }) in
    let tells = rw (c.record.ensures.known, ← c.self.view_is) at c.is_directory_record-is_subdir.ensures.known in
    let entered = rw c.bytes.ensures.same at c.in_ok-insert.ensures.inserted in
    record { counted = may_move_out _ _ c.self.invariant c.args.key c.args.dir c.args.name m _ _ _ tells entered c.get.ensures.known }

pub invariant_of-self-2 : goal.invariant_of-self-2
invariant_of-self-2 c =
    let m : IsLawfulMove c.self.inside.records c.args.key c.args.dir c.args.name = rw c.self.view_is (record {
      linked = c.requires.linked;
      lawful = c.requires.lawful;
      lawful_after = c.requires.lawful_after;
      elsewhere = c.requires.elsewhere;
    }) in
    let tells = rw (c.record.ensures.known, ← c.self.view_is) at c.is_directory_record-is_subdir.ensures.known in
    let entered = rw c.bytes.ensures.same at c.in_ok-insert.ensures.inserted in
    rw (c.move_to.ensures.changed, c.remove_record.ensures.removed) (kept_by_move _ _ c.self.invariant c.args.key c.args.dir c.args.name m _ _ _ tells entered c.get.ensures.known)
