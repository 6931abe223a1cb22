-- The opening tree and the opening words are tied.
use Rattle.std.proofs.Common.{◌≡◌, ℕ, zero, suc, ◌+◌, ◌≤◌, refl, ap, sym, ◌∙◌, subst, List, [], length, replicate}
use Rattle.std.specs.Prelude.{Option, None, Some, slice_get}
use Rattle.std.proofs.lemmas.Option.{none-some, same_Some}
use Rattle.std.proofs.lemmas.List.{length-replicate}
use Rattle.kf_core.specs.declared.key.Key.{Key}
use Rattle.kf_core.specs.declared.key.Node.{Node}
use Rattle.kf_core.specs.declared.key.Node.TheVariants.{Dir}
use Rattle.kf_core.specs.declared.records.Record.{Record}
use Rattle.kf_core.specs.Commands.{root_alone}
use Rattle.kf_core.specs.Tree.{record_at, marks_of}
use Rattle.kf_core.proofs.Opened.{same_opening, length_opening}
use Rattle.kf_core.proofs.FoundRecords.{found_in}
use Rattle.kf_core.proofs.Lists.{length_set}
use Rattle.kf_tree.specs.TreeLogs.{TreeLog, IsNew}
use Rattle.kf_words.specs.declared.view.MasterView.{MasterView}
use Rattle.kf_words.specs.Steps.{opened}
use Rattle.kf_words.specs.Nodes.{MasterState}
use Rattle.kf_tree.specs.SlotMarks.{marks_at}
use Rattle.kf_tree.proofs.Opening.{none_there}
use Rattle.kf_shared.specs.Agreement.{HasNodes}
use Rattle.kf_shared.specs.Locked.{IsTied}

nodes_opening : (count start : ℕ) → HasNodes (replicate count (let d : Node = Dir in d)) (root_alone count (record { slot = 0; generation = start + 1 }))
nodes_opening zero start key r h = absurd (none-some _ (found_in [] key r h).0)
nodes_opening (suc n) start key r h =
    let f = found_in (root_alone (suc n) (record { slot = 0; generation = start + 1 })) key r h in
    go key.slot (subst (λ (k : Key). slice_get (root_alone (suc n) (record { slot = 0; generation = start + 1 })) k.slot ≡ Some (Some r)) f.1 f.0)
  where
    go : (slot : ℕ) → slice_get (root_alone (suc n) (record { slot = 0; generation = start + 1 })) slot ≡ Some (Some r) → slice_get (replicate (suc n) (let d : Node = Dir in d)) slot ≡ Some r.node
    go zero e = ap (λ (x : Record). Some x.node) (same_Some _ _ (same_Some _ _ e))
    go (suc slot) e = absurd (none_there n slot r e)

module _ (count limit start : ℕ) (log : TreeLog) (m : MasterState) (claims : List ℕ) (some : 1 ≤ count) (new : IsNew count (record { slot = 0; generation = start + 1 }) log)
    (view : m.view ≡ opened limit count start) (nodes : m.nodes ≡ replicate count (let d : Node = Dir in d)) (none : claims ≡ replicate count 0) where
  pub slots_of : length log.tree ≡ count
  slots_of = ap length new.tree ∙ length_set (replicate count (let o : Option Record = None in o)) 0 _ ∙ length-replicate count _

  pub tied_opening : IsTied m.table log m claims
  tied_opening = record {
    same_table = refl;
    root = ap (λ (k : Key). k.slot) new.root;
    marks = λ key. ap (λ (v : MasterView). marks_at v.slots key) view ∙ same_opening count start key some ∙ ap (λ t. marks_of t key) (sym new.tree);
    nodes = λ key r h. ap (λ ns. slice_get ns key.slot) nodes ∙ nodes_opening count start key r (ap (λ t. record_at t key) (sym new.tree) ∙ h);
    slots = ap (λ (v : MasterView). length v.slots) view ∙ length_opening count start ∙ ap length (sym new.tree);
    all_nodes = ap length nodes ∙ length-replicate count _ ∙ sym slots_of;
    claims = ap length none ∙ length-replicate count _ ∙ sym slots_of;
  }
