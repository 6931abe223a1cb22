use Rattle.std.proofs.Common.{subst}
use Rattle.kf_words.specs.Callers.{Handle}
use Rattle.kf_handles.specs.Steps.{HasReleased}
use Rattle.kf_handles.proofs.holds.Held.end.Goals as goal

pub returns : goal.returns
returns c = subst (λ (h : Handle). HasReleased h c.release_place.result) c.into_hold.ensures c.release_place.ensures
