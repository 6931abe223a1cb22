-- What the path of a node is after a move.
use Rattle.std.proofs.Common.{◌≡◌, ◌≢◌, inl, inr, ℕ, suc, ◌≤◌, refl, ap, arith, sym, ◌∙◌, subst, Bool, true, false, cond, List, [], ◌∷◌, ◌++◌, length}
use Rattle.std.specs.Prelude.{Option, None, Some, Result, Ok, Err, nat_le}
use Rattle.std.specs.List.{join_with_byte}
use Rattle.std.specs.Option.{option_map, option_and_then, option_map_or, ok_or}
use Rattle.std.proofs.lemmas.Bool.Decides.{nat_tests}
use Rattle.std.proofs.lemmas.List.{append_assoc, length-append}
use Rattle.kf_core.specs.declared.key.Key.{Key}
use Rattle.kf_core.specs.declared.records.Record.{Record}
use Rattle.kf_core.specs.declared.refusal.Refusal.{Refusal}
use Rattle.kf_core.specs.declared.refusal.Refusal.TheVariants.{NoEntry, NotDir}
use Rattle.kf_core.specs.declared.command.Command.TheVariants.{Rename}
use Rattle.kf_core.specs.Commands.{after, moved_record}
use Rattle.kf_core.specs.Keys.{same_key}
use Rattle.kf_core.specs.Lawful.{Lawful}
use Rattle.kf_core.specs.Tree.{Tree, record_at, is_dir, in_subtree, parent_of, ancestor, IsIn}
use Rattle.kf_core.specs.Worlds.{MayMove}
use Rattle.kf_core.proofs.Climbs.{keys_tell}
use Rattle.kf_core.proofs.FoundRecords.{found_in, in_found, parent_known, subtree_from}
use Rattle.kf_core.proofs.Mapped.{mapped, find_mapped}
use Rattle.kf_table.specs.Children.{child, is_there_already}
use Rattle.kf_tree.specs.Causes.{rename_cause}
use Rattle.kf_tree.specs.Paths.{and_then, entry_key, found, walk}
use Rattle.kf_tree.specs.TreeLogs.{TreeLog, IsAccepted}
use Rattle.kf_tree.specs.Ways.{IsPathOf, name_at}
use Rattle.kf_tree.proofs.Down.{found_child}
use Rattle.kf_tree.proofs.Listed.{child_is}
use Rattle.kf_tree.proofs.Over.{one_more}
use Rattle.kf_tree.proofs.RenameRule.{may_move_from}
use Rattle.kf_uevents.specs.declared.uevent.Uevent.{Uevent}
use Rattle.kf_uevents.specs.Moves.{path_in, IsMoveOf, IsToMove}

same_Ok : (a b : Key) → ◌≡◌ {A = Result Key Refusal} (Ok a) (Ok b) → a ≡ b
same_Ok a b h = cc

err-ok : (e : Refusal) (a : Key) → ◌≡◌ {A = Result Key Refusal} (Err e) (Ok a) → ⊥
err-ok e a h = cc

module _ (t : Tree) (root : Key) (l : Lawful t root) where
  -- what is found in a directory under a name is a record there with that name
  found_is : (dir : Key) (name : List ℕ) (key : Key) → found t dir name ≡ Ok key → (r : Record) × (IsIn t r) × (r.key ≡ key) × (r.parent ≡ Some dir) × (r.name ≡ name)
  found_is dir name key h = in_dir (record_at t dir) h
    where
      of_child : (o : Option Record) → child t dir name ≡ o → ok_or (option_and_then (λ (r : Record). Some r.key) o) NoEntry ≡ Ok key → (r : Record) × (IsIn t r) × (r.key ≡ key) × (r.parent ≡ Some dir) × (r.name ≡ name)
      of_child None e g = absurd (err-ok NoEntry key g)
      of_child (Some r) e g = (let c = child_is t root dir name r l e in (r, c.0, same_Ok r.key key g, c.1, c.2))

      in_dir : (o : Option Record) → entry_key o (child t dir name) ≡ Ok key → (r : Record) × (IsIn t r) × (r.key ≡ key) × (r.parent ≡ Some dir) × (r.name ≡ name)
      in_dir None g = absurd (err-ok NoEntry key g)
      in_dir (Some d) g = elim (is_dir d.node) as (λ b. cond b (ok_or (option_and_then (λ (r : Record). Some r.key) (child t dir name)) NoEntry) (Err NotDir) ≡ Ok key → (r : Record) × (IsIn t r) × (r.key ≡ key) × (r.parent ≡ Some dir) × (r.name ≡ name)) [
        | true ↦ λ e. of_child (child t dir name) refl e
        | false ↦ λ e. absurd (err-ok NotDir key e)
      ] g

  -- the first step of a walk that arrives
  first_found : (base : Key) (name : List ℕ) (names : List (List ℕ)) (target : Key) → walk t base (name ∷ names) ≡ Ok target → (next : Key) × (found t base name ≡ Ok next) × (walk t next names ≡ Ok target)
  first_found base name names target h = elim (found t base name) as (λ r. found t base name ≡ r → and_then r (λ next. walk t next names) ≡ Ok target → (next : Key) × (found t base name ≡ Ok next) × (walk t next names ≡ Ok target)) [
    | Ok next ↦ λ e g. (next, e, g)
    | Err refusal ↦ λ e g. absurd (err-ok refusal target g)
  ] refl h

  -- a walk leads down, so some number of steps up leads back
  walked_down : (names : List (List ℕ)) (base target : Key) → walk t base names ≡ Ok target → (n : ℕ) × (ancestor t n target ≡ Some base)
  walked_down [] base target h = (0, ap Some (sym (same_Ok base target h)))
  walked_down (name ∷ names) base target h =
      (let f = first_found base name names target h in
      let r = found_is base name f.0 f.1 in
      let w = walked_down names f.0 target f.2 in
      (suc w.0, one_more t w.0 target f.0 base w.1 (ap (parent_of t) (sym r.2) ∙ parent_known t r.0 r.1 ∙ r.3)))

  -- the first name of a walk that arrives is not empty
  first_named : (base : Key) (name : List ℕ) (names : List (List ℕ)) (target : Key) → walk t base (name ∷ names) ≡ Ok target → 1 ≤ length name
  first_named base name names target h =
      (let f = first_found base name names target h in
      let r = found_is base name f.0 f.1 in
      let d = l.in_directory r.0 base r.1 r.3 in
      subst (λ n. 1 ≤ length n) r.4 d.lawful_name.some)

  -- one more name leads on from the node that the walk has reached
  walk_on : (names : List (List ℕ)) (base dir key : Key) (name : List ℕ) → walk t base names ≡ Ok dir → found t dir name ≡ Ok key → walk t base (names ++ name ∷ []) ≡ Ok key
  walk_on [] base dir key name h f = ap (λ k. and_then (found t k name) (λ next. Ok next)) (same_Ok base dir h) ∙ ap (λ r. and_then r (λ next. Ok next)) f
  walk_on (first ∷ names) base dir key name h f =
      (let s = first_found base first names dir h in
      ap (λ r. and_then r (λ next. walk t next (names ++ name ∷ []))) s.1 ∙ walk_on names s.0 dir key name s.2 f)

-- joining one more name adds a slash and that name
joined_more : (first : List ℕ) (names : List (List ℕ)) (name : List ℕ) → join_with_byte 47 ((first ∷ names) ++ name ∷ []) ≡ join_with_byte 47 (first ∷ names) ++ 47 ∷ name
joined_more first [] name = refl
joined_more first (second ∷ names) name = ap (λ xs. first ++ 47 ∷ xs) (joined_more second names name) ∙ sym (append_assoc first (47 ∷ join_with_byte 47 (second ∷ names)) (47 ∷ name))

-- if these names lead to a directory and spell this path, then they and one more name spell the path of that
-- name in the directory
spelled_in : (t : Tree) (root dir : Key) (l : Lawful t root) (names : List (List ℕ)) (name path : List ℕ) → walk t root names ≡ Ok dir → path ≡ 47 ∷ join_with_byte 47 names
    → path_in path name ≡ 47 ∷ join_with_byte 47 (names ++ name ∷ [])
spelled_in t root dir l [] name path h e = rw e refl
spelled_in t root dir l (first ∷ names) name path h e =
    (let named = first_named t root l root first names dir h in
    let long : 1 ≤ length (join_with_byte 47 (first ∷ names)) = joined_long first names named in
    let more : nat_le (length path) 1 ≡ false = rw e (not_short (join_with_byte 47 (first ∷ names)) long) in
    ap (λ b. path ++ (cond b [] (47 ∷ []) ++ name)) more ∙ ap (λ xs. xs ++ 47 ∷ name) e ∙ ap (λ xs. 47 ∷ xs) (sym (joined_more first names name)))
  where
    joined_long : (first : List ℕ) (names : List (List ℕ)) → 1 ≤ length first → 1 ≤ length (join_with_byte 47 (first ∷ names))
    joined_long first [] h = h
    joined_long first (second ∷ names) h = omega (arith, length-append first (47 ∷ join_with_byte 47 (second ∷ names)))

    not_short : (xs : List ℕ) → 1 ≤ length xs → nat_le (length (47 ∷ xs)) 1 ≡ false
    not_short xs h = grind (arith, nat_tests)

module _ (t : Tree) (root key dir : Key) (name : List ℕ) (l : Lawful t root) (m : MayMove t key dir name) (l' : Lawful (after t (Rename key dir name)) root) where
  abbrev move : Record → Record
  move r = cond (same_key r.key key) (moved_record dir name r) r

  same : (r : Record) → (move r).key ≡ r.key
  same r = elim (same_key r.key key) as (λ b. (cond b (moved_record dir name r) r).key ≡ r.key) [ true ↦ refl | false ↦ refl ]

  abbrev moved : Tree
  moved = mapped t move same

  -- another key still has its record
  other_kept : (k : Key) (r : Record) → record_at t k ≡ Some r → k ≢ key → record_at moved k ≡ Some r
  other_kept k r e other = find_mapped t move same k ∙ ap (option_map move) e ∙ ap Some (elim (keys_tell r.key key) [
    | inl h ↦ absurd (other (sym (found_in t k r e).1 ∙ h.1))
    | inr h ↦ ap (λ b. cond b (moved_record dir name r) r) h.0
  ])

  -- the key has the moved record
  this_moved : record_at moved key ≡ Some (moved_record dir name m.moving)
  this_moved = find_mapped t move same key ∙ ap (option_map move) m.found ∙ ap Some (elim (keys_tell m.moving.key key) [
    | inl h ↦ ap (λ b. cond b (moved_record dir name m.moving) m.moving) h.0
    | inr h ↦ absurd (h.1 (found_in t key m.moving m.found).1)
  ])

  not_over : (n : ℕ) → ancestor t n dir ≡ Some key → ⊥
  not_over n c =
      (let at = found_in t dir m.into m.into_found in
      let i = subtree_from t root l m.into n key at.0 (ap (ancestor t n) at.1 ∙ c) in
      let no : false ≡ true = sym m.not_below ∙ ap (in_subtree t key) (sym at.1) ∙ i in
      cc)

  -- in the new tree, a record is found under its name in its directory
  found_there : (k d : Key) (r : Record) → record_at moved k ≡ Some r → r.parent ≡ Some d → found moved d r.name ≡ Ok k
  found_there k d r e p =
      (let named : name_at moved k ≡ r.name = ap (λ o. option_map_or (λ (x : Record). x.name) o []) e in
      ap (found moved d) (sym named) ∙ found_child moved root l' k d (ap (λ o. option_and_then (λ (x : Record). x.parent) o) e ∙ p))

  -- the names that led to the directory still lead to it
  way_kept : (names : List (List ℕ)) (base : Key) → walk t base names ≡ Ok dir → walk moved base names ≡ Ok dir
  way_kept [] base h = h
  way_kept (first ∷ names) base h =
      (let f = first_found t root l base first names dir h in
      let r = found_is t root l base first f.0 f.1 in
      let w = walked_down t root l names f.0 dir f.2 in
      let at : record_at t f.0 ≡ Some r.0 = ap (record_at t) (sym r.2) ∙ in_found t r.0 r.1 in
      let there : found moved base r.0.name ≡ Ok f.0 = found_there f.0 base r.0 (other_kept f.0 r.0 at (λ e. not_over w.0 (w.1 ∙ ap Some e))) r.3 in
      ap (λ n. and_then (found moved base n) (λ next. walk moved next names)) (sym r.4) ∙ ap (λ r. and_then r (λ next. walk moved next names)) there ∙ way_kept names f.0 f.2)

  -- the moved node has the path of its name in the directory
  pub moved_path : (path new : List ℕ) → IsPathOf t root dir path → new ≡ path_in path name → IsPathOf (after t (Rename key dir name)) root key new
  moved_path path new (names, leads, spelled) e =
      (names ++ name ∷ [], walk_on moved root l' names root dir key name (way_kept names root leads) (found_there key dir (moved_record dir name m.moving) this_moved refl), e ∙ spelled_in t root dir l names name path leads spelled)

-- a move without a cause against it reports the path that the node had before, and the path that it has now
pub told_move : (old new : TreeLog) (key dir : Key) (name : List ℕ) (event : Uevent) (cause : Option Refusal) → Lawful old.tree old.root → rename_cause old.tree old.root key dir name ≡ None
    → is_there_already old.tree key dir name ≡ false → IsAccepted old new cause (Rename key dir name) → IsToMove old.tree old.root key dir name event
    → IsMoveOf old.tree new.tree old.root key event
told_move old new key dir name event cause l no_cause elsewhere accepted tells = record {
  acts = tells.acts;
  keyed = tells.keyed;
  path = subst (λ t. IsPathOf t old.root key event.path.items) (sym accepted.changed)
      (moved_path old.tree old.root key dir name l (may_move_from old.tree old.root key dir name l (no_cause, elsewhere))
      (subst (λ t. Lawful t old.root) accepted.changed (subst (λ r. Lawful new.tree r) accepted.same_root accepted.kept.lawful))
      tells.above event.path.items tells.directory tells.path);
  from = tells.from;
}
