-- How a file loads an event number.
use Rattle.std.specs.Prelude.{ℕ}
use Rattle.kf_notify.specs.PostStates.{PostState, IsSamePost, FoundNumber}

-- the post found this event number by one load of its slot's number
pub record NumberTaken (old : PostState) (number : ℕ) (new : PostState) : Type 0 where
  pub same : IsSamePost old new
  pub found : FoundNumber old number new
