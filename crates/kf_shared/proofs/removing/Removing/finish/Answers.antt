use Rattle.std.proofs.Common.{rules, List, subst}
use Rattle.kf_words.specs.Callers.{Handle}
use Rattle.kf_shared.specs.Sections.{AllFinished}
use Rattle.kf_shared.proofs.Receipts.{same_owner_keys}
use Rattle.kf_shared.proofs.Finished.{all_made}
use Rattle.kf_shared.proofs.removing.Removing.finish.Goals as goal

pub returns-clause-keys : goal.returns-clause-keys
returns-clause-keys g c = same_owner_keys _ _ (search rules)

pub returns-clause-finished : goal.returns-clause-finished
returns-clause-finished g c =
    subst (λ (holds : List Handle). AllFinished holds c.finish_each.result.items) c.into_parts-holds.ensures.holds
    (all_made c.into_parts-holds.result.1.items c.into_parts-holds.result.0.items c.finish_each.result.items c.into_parts-holds.ensures.none c.finish_each.ensures.finished)
