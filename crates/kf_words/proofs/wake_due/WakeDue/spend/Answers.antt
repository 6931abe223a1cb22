-- Short searches: if such a goal fails, they end at once.
use Rattle.std.proofs.Common.{rules}
use Rattle.kf_words.proofs.wake_due.WakeDue.spend.Goals as goal

pub none-requires : goal.none-requires
none-requires c = search rules
