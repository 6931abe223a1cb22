use Rattle.std.proofs.Common.{ℕ, List, rules, subst}
use Rattle.std.proofs.Common.{Option}
use Rattle.kf_tree.specs.Listing.{IsListing}
use Rattle.kf_handles.specs.LookUps.{bound_of}
use Rattle.kf_handles.proofs.Listed.{only_one}
use Rattle.kf_handles.proofs.texts.next_after.Goals as goal

-- the name that was taken from the list is the only one
pub returns-in-Some-clause-name : goal.returns-in-Some-clause-name
returns-in-Some-clause-name c =
    let t = c.args.state.now.tree in
    let Listed : Option (List ℕ) → Type 0 = λ b. IsListing t c.args.dir b 1 c.in-Ok.names.items in
    only_one t c.args.dir (bound_of c.args.after.now) c.in-Ok.names.items c.pop.new.self.items c.in-Some.name
    (subst Listed c.bound.ensures c.in-Ok.ensures.listed) (search rules)
