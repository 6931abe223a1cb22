use Rattle.kf_table.proofs.KeptRecords.{may_take, kept_taken}
use Rattle.kf_table.proofs.table.Table.take_out.Goals as goal

pub remove_record-requires : goal.remove_record-requires
remove_record-requires c =
    let linked = rw (← c.self.view_is) at c.requires.linked in
    record { counted = may_take _ _ c.self.invariant c.args.key _ linked c.get.ensures.known }

pub invariant_of-self : goal.invariant_of-self
invariant_of-self c =
    let linked = rw (← c.self.view_is) at c.requires.linked in
    rw (c.clear.ensures.cleared, c.forget.ensures.unchanged, c.remove_record.ensures.removed) (kept_taken _ _ c.self.invariant c.args.key _ linked c.get.ensures.known)
