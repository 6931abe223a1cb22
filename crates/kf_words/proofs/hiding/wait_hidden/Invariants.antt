use Rattle.std.proofs.Common.{true}
use Rattle.kf_core.specs.declared.caller.Phase.TheVariants.{Hiding}
use Rattle.kf_words.specs.Callers.{IsSameSeat, IsInPhase, handle_of, sight_of, view_of}
use Rattle.kf_words.specs.TableSteps.{looks_hidden}
use Rattle.kf_words.proofs.Waits.{SoFar}
use Rattle.kf_words.proofs.hiding.wait_hidden.Given as goal

abbrev pub invariant-loop : goal.invariant-loop
invariant-loop g l = record {
  same : IsSameSeat (handle_of l.initial.seat) (handle_of l.seat);
  hiding : IsInPhase Hiding (view_of l.seat);
  waited : SoFar looks_hidden (λ _. true) (sight_of l.initial.seat) (sight_of l.seat);
}
