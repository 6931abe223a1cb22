use Rattle.kf_table.proofs.directories.Directories.insert_record.Goals as goal

pub insert-requires : goal.insert-requires
insert-requires c = rw c.bytes.ensures.same (record { room = c.requires.lawful c.in-Some.parent c.in-Some.is })
