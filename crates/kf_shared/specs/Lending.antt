-- What a tree without a name lends.
use Rattle.std.specs.Borrow.{Fml, Lends, MutBor, RattleType}
use Rattle.kf_shared.specs.declared.naming.Naming.{Ghosts}
use Rattle.kf_shared.specs.Locked.{Locked}
use Rattle.kf_shared.specs.contracts.locked.Locked as named
use Rattle.kf_shared.specs.contracts.tree.NewTree.{the_row}

-- when the borrow r, which has a name, ends, the value behind s is the last value behind r
abbrev pub LendsNamed : (N : RattleType) → Ghosts N.Denot → MutBor Locked → MutBor Locked → Fml
LendsNamed N name s r = Lends the_row (named.the_row N name) s r (λ w. w)
