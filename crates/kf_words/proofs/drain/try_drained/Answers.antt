use Rattle.std.proofs.Common.{refl, ap}
use Rattle.kf_words.specs.Callers.{seat_view}
use Rattle.kf_words.specs.TableSteps.{looks}
use Rattle.kf_words.specs.Layout.{last_user_wakes}
use Rattle.kf_words.proofs.Waits.{since}
use Rattle.kf_words.proofs.drain.try_drained.Goals as goal

pub returns-then-is_drained-clause-waited : goal.returns-then-is_drained-clause-waited
returns-then-is_drained-clause-waited c = since looks last_user_wakes _ _ _ _ _ (ap seat_view c.hold.view_is) refl (0, refl) c.load.ensures.made
