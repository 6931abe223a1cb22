-- The trees of a node's life: only the root, and the root with one directory. Each is lawful, and agrees with
-- the slots of the words.
use Rattle.std.proofs.Common.{◌≡◌, ◌⊎◌, inl, inr, ℕ, zero, suc, Bool, true, false, cond, List, [], ◌∷◌, refl, sym, ap, ◌∙◌, subst, ⊎_elim, arith, eqb}
use Rattle.std.specs.Prelude.{Option, None, Some, slice_get, count_by, is_some}
use Rattle.std.specs.Option.{option_map, option_and_then}
use Rattle.std.proofs.lemmas.Option.{none-some, same_Some}
use mathlib.Core.Bool.{false≢true}
use Rattle.kf_core.specs.declared.key.Key.{Key}
use Rattle.kf_core.specs.declared.key.Node.{Node}
use Rattle.kf_core.specs.declared.key.Node.TheVariants.{Dir}
use Rattle.kf_core.specs.declared.records.Record.{Record}
use Rattle.kf_core.specs.declared.slot.NodeFlags.{NodeFlags}
use Rattle.kf_core.specs.declared.slot.SlotState.{SlotState}
use Rattle.kf_core.specs.Marks.{live_marks}
use Rattle.kf_core.specs.Tree.{Tree, parent_of, climb, ancestor, marks_of}
use Rattle.kf_core.specs.Lawful.{root_record, HasDirectory, Lawful}
use Rattle.kf_core.proofs.FoundRecords.{found_in, parent_known}
use Rattle.kf_core.proofs.Names.{lawful_without_fault}
use Rattle.kf_tree.specs.SlotMarks.{marks_at, SameMarks}
use Rattle.kf_shared.specs.Agreement.{HasNodes}
use Rattle.kf_shared_tests.specs.Life.{root_key}

abbrev pub root : Record
root = root_record root_key

-- the directory in slot 1, with this generation and these marks
abbrev pub dir_of : ℕ → NodeFlags → Record
dir_of generation marks = record {
  key = record { slot = 1; generation = generation };
  parent = Some root_key;
  name = 97 ∷ [];
  node = Dir;
  marks = marks;
  hidden = false;
}

-- the tree of two slots, with this record in the second
abbrev pub tree_with : Option Record → Tree
tree_with o = Some root ∷ o ∷ []

-- the slots of the words, with this last generation of the second and these marks of its node
abbrev pub slots_with : ℕ → Option NodeFlags → List SlotState
slots_with generation marks =
    record { generation = 1; marks = Some live_marks } ∷ record { generation = generation; marks = marks } ∷ []

abbrev pub two_nodes : List Node
two_nodes = Dir ∷ Dir ∷ []

-- a record of the tree is one of the two
which : (o : Option Record) (slot : ℕ) (r : Record) → slice_get (tree_with o) slot ≡ Some (Some r) → ((slot ≡ 0) × (root ≡ r)) ⊎ ((slot ≡ 1) × (o ≡ Some r))
which o zero r e = inl (refl, same_Some root r (same_Some (Some root) (Some r) e))
which o (suc zero) r e = inr (refl, same_Some o (Some r) e)
which o (suc (suc slot)) r e = absurd (none-some (Some r) e)

pub lawful_alone : Lawful (tree_with None) root_key
lawful_alone = record {
  in_place = λ slot r h. let a = its slot r h in ap (λ (x : Record). x.key.slot) (sym a.1) ∙ sym a.0;
  rooted = refl;
  one_root = λ r h none. ap (λ (x : Record). x.key) (sym (its r.key.slot r h).1);
  in_directory = λ r p h q. absurd (none-some p (ap (λ (x : Record). x.parent) (its r.key.slot r h).1 ∙ q));
  siblings = λ r s h i p n. ap (λ (x : Record). x.key) (sym (its r.key.slot r h).1 ∙ (its s.key.slot s i).1);
  reaches = λ r h. (0, omega arith, ap (λ (x : Record). Some x.key) (sym (its r.key.slot r h).1));
}
  where
    its : (slot : ℕ) (r : Record) → slice_get (tree_with None) slot ≡ Some (Some r) → (slot ≡ 0) × (root ≡ r)
    its slot r h = ⊎_elim
        (λ (a : (slot ≡ 0) × (root ≡ r)). a)
        (λ (b : (slot ≡ 1) × (None ≡ Some r)). absurd (none-some r b.1))
        (which None slot r h)

module _ (generation : ℕ) (marks : NodeFlags) where
  abbrev dir : Record
  dir = dir_of generation marks

  abbrev t : Tree
  t = tree_with (Some dir)

  its : (slot : ℕ) (r : Record) → slice_get t slot ≡ Some (Some r) → ((slot ≡ 0) × (root ≡ r)) ⊎ ((slot ≡ 1) × (dir ≡ r))
  its slot r h = ⊎_elim
      (λ (a : (slot ≡ 0) × (root ≡ r)). inl a)
      (λ (b : (slot ≡ 1) × (Some dir ≡ Some r)). inr (b.0, same_Some dir r b.1))
      (which (Some dir) slot r h)

  -- the root has no parent, so it does not have the directory's parent
  no_parent : (r s : Record) → root ≡ r → dir ≡ s → r.parent ≡ s.parent → ⊥
  no_parent r s a b p = none-some root_key (ap (λ (x : Record). x.parent) a ∙ p ∙ ap (λ (x : Record). x.parent) (sym b))

  in_root : HasDirectory t dir root_key
  in_root = record {
    dir = root;
    known = refl;
    is_dir = refl;
    doomed = λ e. absurd (false≢true e);
    lawful_name = lawful_without_fault (97 ∷ []) refl;
  }

  reaches_root : ancestor t 1 dir.key ≡ Some root_key
  reaches_root = ap (λ o. option_and_then (climb (parent_of t) 0) o) (parent_known t dir refl)

  pub lawful_with : Lawful t root_key
  lawful_with = record {
    in_place = λ slot r h. ⊎_elim
        (λ (a : (slot ≡ 0) × (root ≡ r)). ap (λ (x : Record). x.key.slot) (sym a.1) ∙ sym a.0)
        (λ (b : (slot ≡ 1) × (dir ≡ r)). ap (λ (x : Record). x.key.slot) (sym b.1) ∙ sym b.0)
        (its slot r h);
    rooted = refl;
    one_root = λ r h none. ⊎_elim
        (λ (a : (r.key.slot ≡ 0) × (root ≡ r)). ap (λ (x : Record). x.key) (sym a.1))
        (λ (b : (r.key.slot ≡ 1) × (dir ≡ r)). absurd (none-some root_key (sym none ∙ ap (λ (x : Record). x.parent) (sym b.1))))
        (its r.key.slot r h);
    in_directory = λ r p h q. ⊎_elim
        (λ (a : (r.key.slot ≡ 0) × (root ≡ r)). absurd (none-some p (ap (λ (x : Record). x.parent) a.1 ∙ q)))
        (λ (b : (r.key.slot ≡ 1) × (dir ≡ r)).
        let up : root_key ≡ p = same_Some root_key p (ap (λ (x : Record). x.parent) b.1 ∙ q) in
        subst (λ (x : Record). HasDirectory t x p) b.1 (subst (λ (k : Key). HasDirectory t dir k) up in_root))
        (its r.key.slot r h);
    siblings = λ r s h i p n. ⊎_elim
        (λ (a : (r.key.slot ≡ 0) × (root ≡ r)). ⊎_elim
        (λ (c : (s.key.slot ≡ 0) × (root ≡ s)). ap (λ (x : Record). x.key) (sym a.1 ∙ c.1))
        (λ (d : (s.key.slot ≡ 1) × (dir ≡ s)). absurd (no_parent r s a.1 d.1 p))
        (its s.key.slot s i))
        (λ (b : (r.key.slot ≡ 1) × (dir ≡ r)). ⊎_elim
        (λ (c : (s.key.slot ≡ 0) × (root ≡ s)). absurd (no_parent s r c.1 b.1 (sym p)))
        (λ (d : (s.key.slot ≡ 1) × (dir ≡ s)). ap (λ (x : Record). x.key) (sym b.1 ∙ d.1))
        (its s.key.slot s i))
        (its r.key.slot r h);
    reaches = λ r h. ⊎_elim
        (λ (a : (r.key.slot ≡ 0) × (root ≡ r)). (0, omega arith, ap (λ (x : Record). Some x.key) (sym a.1)))
        (λ (b : (r.key.slot ≡ 1) × (dir ≡ r)).
        let two : count_by is_some t ≡ 2 = refl in
        (1, omega (arith, two), subst (λ (x : Record). ancestor t 1 x.key ≡ Some root_key) b.1 reaches_root))
        (its r.key.slot r h);
  }

-- the marks of a record, if it is chosen
chosen : (b : Bool) (r : Record) → cond b (Some r.marks) None ≡ option_map (λ (x : Record). x.marks) (cond b (Some r) None)
chosen true r = refl
chosen false r = refl

none_chosen : (b : Bool) → cond b (let o : Option NodeFlags = None in o) None ≡ None
none_chosen true = refl
none_chosen false = refl

abbrev the_key : ℕ → ℕ → Key
the_key slot generation = record { slot = slot; generation = generation }

pub same_alone : (generation : ℕ) → SameMarks (slots_with generation None) (tree_with None)
same_alone generation key = go key.slot key.generation
  where
    go : (slot g : ℕ) → marks_at (slots_with generation None) (the_key slot g) ≡ marks_of (tree_with None) (the_key slot g)
    go zero g = chosen (eqb 1 g) root
    go (suc zero) g = none_chosen (eqb generation g)
    go (suc (suc slot)) g = refl

pub same_with : (generation : ℕ) (marks : NodeFlags) → SameMarks (slots_with generation (Some marks)) (tree_with (Some (dir_of generation marks)))
same_with generation marks key = go key.slot key.generation
  where
    go : (slot g : ℕ) → marks_at (slots_with generation (Some marks)) (the_key slot g) ≡ marks_of (tree_with (Some (dir_of generation marks))) (the_key slot g)
    go zero g = chosen (eqb 1 g) root
    go (suc zero) g = chosen (eqb generation g) (dir_of generation marks)
    go (suc (suc slot)) g = refl

-- all nodes are directories
pub has_nodes : (o : Option Record) → ((r : Record) → o ≡ Some r → r.node ≡ Dir) → HasNodes two_nodes (tree_with o)
has_nodes o dirs key r h =
    let f = found_in (tree_with o) key r h in ⊎_elim
    (λ (a : (r.key.slot ≡ 0) × (root ≡ r)). ap (slice_get two_nodes) (ap (λ (k : Key). k.slot) (sym f.1) ∙ a.0) ∙ ap (λ (x : Record). Some x.node) a.1)
    (λ (b : (r.key.slot ≡ 1) × (o ≡ Some r)). ap (slice_get two_nodes) (ap (λ (k : Key). k.slot) (sym f.1) ∙ b.0) ∙ ap (λ (n : Node). Some n) (sym (dirs r b.1)))
    (which o r.key.slot r f.0)
