-- A caller inside a gate is covered by the call that the gate keeps.
use Rattle.std.proofs.Common.{⊎_elim}
use Rattle.kf_core.specs.declared.caller.Phase.TheVariants.{Running}
use Rattle.kf_core.specs.Bare.{IsCaller}
use Rattle.kf_gates.proofs.Allowed.{closed_is_empty}
use Rattle.kf_hot.specs.Laws.{IsClosed, InsideIsCovered}

pub inside_is_covered : InsideIsCovered
inside_is_covered lanes t r w safe c key keeps seat lane number inside d phase is saw = ⊎_elim
    (λ (closed : IsClosed lanes t). closed_is_empty lanes t r closed.0 closed.1.0 closed.1.1 closed.2 seat lane number inside)
    (λ (runs : IsCaller w c key Running). safe.none_running d key phase is saw c runs)
    keeps
