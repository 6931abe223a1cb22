use Rattle.std.proofs.Common.{◌≡◌, ◌-◌, length}
use Rattle.std.specs.Prelude.{Some}
use Rattle.kf_core.specs.Tree.{parent_of, meets}
use Rattle.kf_table.proofs.table.Table.is_below.Given as goal

abbrev pub invariant-up : goal.invariant-up
invariant-up l = meets (parent_of l.self) (length l.self - l.counter) l.top (Some l.current) ≡ meets (parent_of l.self) (length l.self) l.top (Some l.fn.key)
