-- The opening tree and the opening world are tied.
use Rattle.std.proofs.Common.{◌≡◌, ℕ, zero, suc, ◌+◌, ◌≤◌, refl, ap, sym, ◌∙◌, subst, Bool, true, false, cond, List, [], ◌∷◌, length, slice_set, replicate}
use Rattle.std.specs.Prelude.{Option, None, Some, slice_get, map}
use Rattle.std.specs.Option.{option_map, option_and_then}
use Rattle.std.proofs.lemmas.Option.{same_Some, none-some}
use Rattle.std.proofs.lemmas.List.{map-set}
use Rattle.kf_core.specs.declared.key.Key.{Key}
use Rattle.kf_core.specs.declared.slot.NodeFlags.{NodeFlags}
use Rattle.kf_core.specs.declared.slot.SlotState.{SlotState}
use Rattle.kf_core.specs.declared.records.Record.{Record}
use Rattle.kf_core.specs.declared.command.Command.{Command}
use Rattle.kf_core.specs.Marks.{live_marks}
use Rattle.kf_core.specs.Bare.{opening}
use Rattle.kf_world.specs.Bounded.{BoundedWorld, bounded}
use Rattle.kf_core.specs.Keys.{same_key}
use Rattle.kf_core.specs.Tree.{Tree, with_key, marks_of}
use Rattle.kf_core.specs.Lawful.{root_record}
use Rattle.kf_core.specs.Commands.{root_alone}
use Rattle.kf_tree.specs.TreeLogs.{TreeLog, IsNew}
use Rattle.kf_plain.specs.Nodes.{Nodes, nodes_of, last_of, AreTied, new_nodes, root_key}
use Rattle.kf_core.proofs.Opened.{same_opening, length_opening}

live_only : (start : ℕ) (key : Key) (m : NodeFlags) → option_map (λ (r : Record). r.marks) (with_key key (Some (root_record (root_key start)))) ≡ Some m → m.doomed ≡ false
live_only start key m h = go (same_key (root_key start) key) h
  where
    go : (b : Bool) → option_map (λ (r : Record). r.marks) (cond b (Some (root_record (root_key start))) None) ≡ Some m → m.doomed ≡ false
    go true e = ap (λ (x : NodeFlags). x.doomed) (sym (same_Some live_marks m e))
    go false e = absurd (none-some m e)

empty_tree : (slot n : ℕ) (key : Key) → option_map (λ (r : Record). r.marks) (option_and_then (with_key key) (slice_get (replicate n (let o : Option Record = None in o)) slot)) ≡ None
empty_tree slot zero key = refl
empty_tree zero (suc n) key = refl
empty_tree (suc slot) (suc n) key = empty_tree slot n key

undoomed_opening : (count start : ℕ) (key : Key) (m : NodeFlags) → marks_of (root_alone count (root_key start)) key ≡ Some m → m.doomed ≡ false
undoomed_opening zero start key m h = absurd (none-some m h)
undoomed_opening (suc n) start key m h = elim key.slot as (λ s. option_map (λ (r : Record). r.marks) (option_and_then (with_key key) (slice_get (root_alone (suc n) (root_key start)) s)) ≡ Some m → m.doomed ≡ false) [
  | zero ↦ λ e. live_only start key m e
  | suc s ↦ λ e. absurd (none-some m (sym (empty_tree s n key) ∙ e))
] h

last_opening : (count start : ℕ) → last_of (opening count start).slots ≡ slice_set (replicate count start) 0 (start + 1)
last_opening count start = map-set (λ (s : SlotState). s.generation) (replicate count (let s : SlotState = record { generation = start; marks = None } in s)) 0 (let s : SlotState = record { generation = start + 1; marks = Some live_marks } in s) ∙ ap (λ xs. slice_set xs 0 (start + 1)) (same count)
  where
    same : (n : ℕ) → map (λ (s : SlotState). s.generation) (replicate n (let s : SlotState = record { generation = start; marks = None } in s)) ≡ replicate n start
    same zero = refl
    same (suc n) = ap (λ xs. start ∷ xs) (same n)

module _ (count start limit : ℕ) (log : TreeLog) (w : BoundedWorld) (some : 1 ≤ count) (new : IsNew count (root_key start) log) (opens : w ≡ bounded (opening count start) limit) where
  pub tied_opening : AreTied log w.world
  tied_opening = subst (λ (v : BoundedWorld). AreTied log v.world) (sym opens) (record {
    kept = new.kept;
    undoomed = λ key m h. undoomed_opening count start key m (sym (same_opening count start key some) ∙ h);
    marks = λ key. same_opening count start key some ∙ ap (λ t. marks_of t key) (sym new.tree);
    slots = length_opening count start ∙ ap length (sym new.tree);
  })

  pub seen_opening : nodes_of log w ≡ new_nodes count limit start
  seen_opening =
      let made : TreeLog → List ℕ → Nodes = λ l g. record { log = l; last = g; limit = limit; callers = [] } in
      let logged : Key → Tree → List Command → Option Key → TreeLog = λ r t cs k. record { root = r; tree = t; commands = cs; ready = k } in
      ap (λ v. nodes_of log v) opens
      ∙ ap (λ l. made l (last_of (opening count start).slots)) (ap (λ r. logged r log.tree log.commands log.ready) new.root ∙ ap (λ t. logged (root_key start) t log.commands log.ready) new.tree
      ∙ ap (λ cs. logged (root_key start) (root_alone count (root_key start)) cs log.ready) new.commands ∙ ap (logged (root_key start) (root_alone count (root_key start)) []) new.not_ready)
      ∙ ap (made (record { root = root_key start; tree = root_alone count (root_key start); commands = []; ready = None })) (last_opening count start)
