use Rattle.std.proofs.Common.{List, ◌++◌, ap, sym, ◌∙◌, subst}
use Rattle.std.specs.Option.{option_to_list}
use Rattle.kf_words.specs.Callers.{Handle}
use Rattle.kf_shared.specs.Receipts.{owners_of}
use Rattle.kf_shared.specs.Sections.{AllEnded}
use Rattle.kf_shared.proofs.Finished.{ended_rest}
use Rattle.kf_shared.proofs.Receipts.{owners_more, same_owner_keys}
use Rattle.kf_shared.proofs.draining.Draining.finish.Goals as goal

pub returns-clause-finished : goal.returns-clause-finished
returns-clause-finished g c =
    let r = c.rest.inside in
    subst (λ (l : List Handle). AllEnded l c.finish_rest.result.items) (c.rest.view_is ∙ c.self.view_is)
    (ended_rest r.receipts.items (option_to_list r.drained ++ r.holds.items) c.finish_rest.result.items c.finish_rest.ensures.finished)

pub returns-clause-owners : goal.returns-clause-owners
returns-clause-owners g c =
    let r = c.rest.inside in
    c.finish_rest.ensures.owners ∙ sym (owners_more r.receipts.items (option_to_list r.drained ++ r.holds.items)) ∙ ap owners_of (c.rest.view_is ∙ c.self.view_is)

pub returns-clause-keys : goal.returns-clause-keys
returns-clause-keys g c = same_owner_keys _ _ (returns-clause-owners g c)
