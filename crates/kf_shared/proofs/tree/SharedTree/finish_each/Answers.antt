use Rattle.std.proofs.Common.{List, ◌++◌, ap, ◌∙◌, subst}
use Rattle.kf_words.specs.Callers.{Handle}
use Rattle.kf_shared.specs.Receipts.{owners_of}
use Rattle.kf_shared.specs.Sections.{AreFinished}
use Rattle.kf_shared.proofs.tree.SharedTree.finish_each.Goals as goal

pub returns-clause-owners : goal.returns-clause-owners
returns-clause-owners g c = c.finish_rest.ensures.owners ∙ ap (λ (l : List Handle). owners_of c.args.receipts.items ++ owners_of l) c.from_vec.ensures.items

pub returns-clause-finished : goal.returns-clause-finished
returns-clause-finished g c =
    subst (λ (l : List Handle). AreFinished c.args.receipts.items l c.finish_rest.result.items) c.from_vec.ensures.items c.finish_rest.ensures.finished
