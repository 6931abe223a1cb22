-- A tree with only a root is lawful, and a lawful tree with one more command is the replay of its commands.
use Rattle.std.proofs.Common.{◌≡◌, inl, inr, ℕ, zero, suc, ◌<◌, ◌≤◌, refl, ap, arith, sym, ◌∙◌, subst, true, false, cond, List, [], ◌∷◌, ◌++◌, length, slice_set, replicate}
use Rattle.std.specs.Prelude.{Option, None, Some, slice_get}
use Rattle.std.proofs.lemmas.Option.{same_Some, none-some}
use Rattle.std.proofs.lemmas.List.{length-map}
use Rattle.std.proofs.lemmas.Bool.Decides.{eqb_tells}
use Rattle.kf_core.specs.Limits.{most_slots}
use Rattle.kf_core.specs.declared.key.Key.{Key}
use Rattle.kf_core.specs.declared.records.Record.{Record}
use Rattle.kf_core.specs.declared.command.Command.{Command}
use Rattle.kf_core.specs.declared.command.Command.TheVariants.{Create, Activate, Doom, Unlink, Rename, Hide, Show}
use Rattle.kf_core.specs.Tree.{Tree, is_linked, IsIn}
use Rattle.kf_core.specs.Lawful.{root_record, Lawful}
use Rattle.kf_core.specs.Commands.{after, replay, root_alone}
use Rattle.kf_tree.specs.TreeLogs.{TreeLog, IsKept}
use Rattle.kf_tree.specs.Subtrees.{is_doomed_record, is_hidden_record, doomed_count, hidden_count}
use Rattle.kf_tree.specs.Sound.{IsSound}
use Rattle.kf_core.proofs.Lists.{length_set, slice_get-set_same, slice_get-set_other}
use Rattle.kf_table.proofs.Kept.{count_written}
use Rattle.kf_tree.proofs.Doomed.{empty_undoomed, empty_shown}

abbrev empty_slots : ℕ → Tree
empty_slots n = replicate n None

-- there is no record in empty slots
pub none_there : (m slot : ℕ) (r : Record) → slice_get (empty_slots m) slot ≡ Some (Some r) → ⊥
none_there zero slot r h = none-some (Some r) h
none_there (suc m) zero r h = none-some r (same_Some None (Some r) h)
none_there (suc m) (suc slot) r h = none_there m slot r h

pub empty_there : (m slot : ℕ) → slot < m → slice_get (empty_slots m) slot ≡ Some None
empty_there zero slot h = absurd (omega arith)
empty_there (suc m) zero h = refl
empty_there (suc m) (suc slot) h = empty_there m slot (omega arith)

pub length_empty : (m : ℕ) → length (empty_slots m) ≡ m
length_empty zero = refl
length_empty (suc m) = ap (λ j. suc j) (length_empty m)

module _ (n : ℕ) (root : Key) (within : root.slot < n) where
  root_there : IsIn (root_alone n root) (root_record root)
  root_there = slice_get-set_same (empty_slots n) root.slot (Some (root_record root)) (let e = length_empty n in omega (arith, within))

  only_root : (slot : ℕ) (r : Record) → slice_get (root_alone n root) slot ≡ Some (Some r) → (slot ≡ root.slot) × (root_record root ≡ r)
  only_root slot r h = elim (eqb_tells slot root.slot) [
    | inl e ↦ (e.1, same_Some (root_record root) r (same_Some (Some (root_record root)) (Some r) (sym root_there ∙ ap (slice_get (root_alone n root)) (sym e.1) ∙ h)))
    | inr e ↦ absurd (none_there n slot r (sym (slice_get-set_other (empty_slots n) root.slot slot (Some (root_record root)) e.1) ∙ h))
  ]

  is_root : (r : Record) → IsIn (root_alone n root) r → root_record root ≡ r
  is_root r i = (only_root r.key.slot r i).1

  lawful_alone : Lawful (root_alone n root) root
  lawful_alone = record {
    in_place = λ slot r i. (let o = only_root slot r i in ap (λ (x : Record). x.key.slot) (sym o.1) ∙ sym o.0);
    rooted = root_there;
    one_root = λ r i p. ap (λ (x : Record). x.key) (sym (is_root r i));
    in_directory = λ r p i q. absurd (none-some p (ap (λ (x : Record). x.parent) (is_root r i) ∙ q));
    siblings = λ r s i j p q. ap (λ (x : Record). x.key) (sym (is_root r i) ∙ is_root s j);
    reaches = λ r i. (0, omega arith, ap (λ (x : Record). Some x.key) (sym (is_root r i)));
  }

  length_alone : length (root_alone n root) ≡ n
  length_alone = length_set (empty_slots n) root.slot (Some (root_record root)) ∙ length_empty n

  alone_undoomed : doomed_count (root_alone n root) ≡ 0
  alone_undoomed = (let d = count_written is_doomed_record (empty_slots n) root.slot None (Some (root_record root)) (empty_there n root.slot within) in
      let none = empty_undoomed n in omega (arith, d, none))

  alone_shown : hidden_count (root_alone n root) ≡ 0
  alone_shown = (let d = count_written is_hidden_record (empty_slots n) root.slot None (Some (root_record root)) (empty_there n root.slot within) in
      let none = empty_shown n in omega (arith, d, none))

  alone_kept : IsKept (record { root = root; tree = root_alone n root; commands = []; ready = None })
  alone_kept = record { lawful = lawful_alone; replayed = ap (λ m. root_alone m root) (sym length_alone) }

  pub new_kept : (tree : Tree) (commands : List Command) → tree ≡ root_alone n root → commands ≡ [] → IsKept (record { root = root; tree = tree; commands = commands; ready = None })
  new_kept tree commands is none =
      subst (λ (t : List (Option Record)). IsKept (record { root = root; tree = t; commands = commands; ready = None })) (sym is)
      (subst (λ (cs : List Command). IsKept (record { root = root; tree = root_alone n root; commands = cs; ready = None })) (sym none) alone_kept)

  pub new_sound : (tree : Tree) (commands : List Command) (capacity : ℕ) → n ≤ most_slots → tree ≡ root_alone n root → commands ≡ [] → IsSound (record { root = root; tree = tree; commands = commands; ready = None }) capacity 0
  new_sound tree commands capacity few is none = record {
    kept = new_kept tree commands is none;
    few = (let e : length tree ≡ n = ap (λ (t : Tree). length t) is ∙ length_alone in omega (arith, few));
    counted = (let d = ap (λ (t : Tree). doomed_count t) is ∙ alone_undoomed in let h = ap (λ (t : Tree). hidden_count t) is ∙ alone_shown in omega (arith, d, h));
    room = (let e : length commands ≡ 0 = ap (λ (cs : List Command). length cs) none in omega (arith, e));
    ready = λ key h. absurd (none-some key h);
  }

  -- the root's record, written into one of this many empty slots, makes the tree with only the root
  pub root_written : (empty : Tree) (entry : Record) → empty ≡ replicate n None → entry ≡ root_record root → slice_set empty root.slot (Some entry) ≡ root_alone n root
  root_written empty entry all is = ap (λ (t : Tree). slice_set t root.slot (Some entry)) all ∙ ap (λ (r : Record). slice_set (empty_slots n) root.slot (Some r)) is

-- no command changes the number of slots
pub length_after : (t : Tree) (c : Command) → length (after t c) ≡ length t
length_after t (Create key parent name node is_live) = length_set t key.slot _
length_after t (Activate key) = length-map t _
length_after t (Doom key) = length-map t _
length_after t (Unlink key) = elim (is_linked t key) as (λ b. length (cond b (slice_set t key.slot None) t) ≡ length t) [ true ↦ length_set t key.slot None | false ↦ refl ]
length_after t (Rename key dir name) = length-map t _
length_after t (Hide key) = length-map t _
length_after t (Show key) = length-map t _

pub length_replay : (t : Tree) (cs : List Command) → length (replay t cs) ≡ length t
length_replay t [] = refl
length_replay t (c ∷ cs) = length_replay (after t c) cs ∙ length_after t c

-- the replay of one more command
pub replay_push : (t : Tree) (cs : List Command) (c : Command) → replay t (cs ++ c ∷ []) ≡ after (replay t cs) c
replay_push t [] c = refl
replay_push t (d ∷ cs) c = replay_push (after t d) cs c

-- a kept state stays kept when a command that leaves the tree lawful is stored
pub kept_after : (s : TreeLog) (c : Command) → IsKept s → Lawful (after s.tree c) s.root → IsKept (record { root = s.root; tree = after s.tree c; commands = s.commands ++ c ∷ []; ready = None })
kept_after s c k l = record {
  lawful = l;
  replayed = (let same : root_alone (length (after s.tree c)) s.root ≡ root_alone (length s.tree) s.root = ap (λ m. root_alone m s.root) (length_after s.tree c) in
      ap (λ x. after x c) k.replayed ∙ sym (replay_push (root_alone (length s.tree) s.root) s.commands c) ∙ ap (λ x. replay x (s.commands ++ c ∷ [])) (sym same));
}
