-- The two forms of the rule for renames agree: what must hold, and the first cause to refuse.
use Rattle.std.proofs.Common.{◌≡◌, inl, inr, ℕ, refl, ap, sym, ◌∙◌, Bool, true, false, cond, not, ◌&&◌, List, [], ◌∷◌}
use Rattle.std.specs.Prelude.{Option, None, Some, slice_get, is_some, ◌↔◌}
use Rattle.std.specs.Option.{option_map_or}
use Rattle.std.specs.Str.{bytes_eq}
use Rattle.std.proofs.lemmas.Option.{same_Some}
use Rattle.std.proofs.lemmas.Slice.Eq.{bytes_eq-Decides}
use Rattle.kf_core.specs.declared.key.Key.{Key}
use Rattle.kf_core.specs.declared.records.Record.{Record}
use Rattle.kf_core.specs.declared.slot.NodeFlags.{NodeFlags}
use Rattle.kf_core.specs.declared.refusal.Refusal.{Refusal}
use Rattle.kf_core.specs.declared.refusal.Refusal.TheVariants.{NoEntry, NotDir, Exists, Invalid}
use Rattle.kf_core.specs.Refusals.{unless, first_cause}
use Rattle.kf_core.specs.Names.{name_fault}
use Rattle.kf_core.specs.Keys.{same_key}
use Rattle.kf_core.specs.Marks.{live_marks, are_live}
use Rattle.kf_core.specs.Tree.{Tree, record_at, is_linked, is_dir, in_subtree, IsIn}
use Rattle.kf_core.specs.Lawful.{Lawful}
use Rattle.kf_core.specs.Worlds.{MayMove}
use Rattle.kf_core.proofs.Names.{lawful_without_fault, no_fault_of_lawful}
use Rattle.kf_tree.specs.Causes.{is_directory, has_entry, early_rename_cause, late_rename_cause, rename_cause}
use Rattle.kf_table.specs.Live.{lives, lives_in, live_in}
use Rattle.kf_table.specs.Children.{is_there_already, is_key, child}
use Rattle.kf_core.proofs.Climbs.{keys_tell, same_key_self}
use Rattle.kf_core.proofs.FoundRecords.{found_in, root_found}
use Rattle.kf_table.proofs.ChildTests.{both, key_is}
use Rattle.kf_tree.proofs.Allowed.{no_first, passed, not_passed, linked_record, dir_node, name_free}
use Rattle.kf_tree.proofs.Listed.{child_is}

marks_of_live : (m : NodeFlags) → are_live (Some m) ≡ true → m ≡ live_marks
marks_of_live m h = go (m.activated) (m.doomed) refl refl h
  where
    made : Bool → Bool → NodeFlags
    made a d = record { activated = a; doomed = d }

    go : (a d : Bool) → m.activated ≡ a → m.doomed ≡ d → (m.activated && not m.doomed) ≡ true → m ≡ live_marks
    go true false e f g = ap (λ b. made b (m.doomed)) e ∙ ap (made true) f
    go true true e f g = (let x : false ≡ true = sym (ap (λ b. b && not m.doomed) e ∙ ap (λ d. not d) f) ∙ g in absurd cc)
    go false d e f g = (let x : false ≡ true = sym (ap (λ b. b && not m.doomed) e) ∙ g in absurd cc)

module _ (t : Tree) (root key dir : Key) (name : List ℕ) (l : Lawful t root) where
  abbrev HasNoCause : Type 0
  HasNoCause = (rename_cause t root key dir name ≡ None) × (is_there_already t key dir name ≡ false)

  live_record : (k : Key) (r : Record) → record_at t k ≡ Some r → live_in t k ≡ true → (r.marks ≡ live_marks) × (r.hidden ≡ false)
  live_record k r e h = let b = both (are_live (Some r.marks)) (not r.hidden) (ap lives_in (sym e) ∙ h) in (marks_of_live r.marks b.0, shown_if r.hidden b.1)
    where
      shown_if : (b : Bool) → not b ≡ true → b ≡ false
      shown_if true x = absurd (let y : false ≡ true = x in cc)
      shown_if false x = refl

  live_now : (r : Record) → r.marks ≡ live_marks → r.hidden ≡ false → lives r ≡ true
  live_now r m h = ap (λ x. are_live (Some x) && not r.hidden) m ∙ ap not h

  pub may_move_from : HasNoCause → MayMove t key dir name
  may_move_from (h, away) =
      (let choice : Option Refusal = cond (is_there_already t key dir name) None (late_rename_cause t key dir name) in
      let top = no_first (early_rename_cause t root key dir name) (choice ∷ []) h in
      let late : late_rename_cause t key dir name ≡ None = ap (λ b. cond b None (late_rename_cause t key dir name)) (sym away) ∙ (no_first choice [] top.1).0 in
      let l7 : List (Option Refusal) = unless (live_in t dir) NoEntry ∷ [] in
      let l6 : List (Option Refusal) = unless (live_in t key) NoEntry ∷ l7 in
      let l5 : List (Option Refusal) = unless (is_directory t dir) NotDir ∷ l6 in
      let l4 : List (Option Refusal) = name_fault name ∷ l5 in
      let l3 : List (Option Refusal) = unless (is_linked t dir) NoEntry ∷ l4 in
      let l2 : List (Option Refusal) = unless (is_linked t key) NoEntry ∷ l3 in
      let c1 = no_first (unless (not (same_key key root)) Invalid) l2 top.0 in
      let c2 = no_first (unless (is_linked t key) NoEntry) l3 c1.1 in
      let c3 = no_first (unless (is_linked t dir) NoEntry) l4 c2.1 in
      let c4 = no_first (name_fault name) l5 c3.1 in
      let c5 = no_first (unless (is_directory t dir) NotDir) l6 c4.1 in
      let c6 = no_first (unless (live_in t key) NoEntry) l7 c5.1 in
      let c7 = no_first (unless (live_in t dir) NoEntry) [] c6.1 in
      let p1 = no_first (unless (not (in_subtree t key dir)) Invalid) (unless (not (has_entry t dir name)) Exists ∷ []) late in
      let p2 = no_first (unless (not (has_entry t dir name)) Exists) [] p1.1 in
      let r = linked_record t key (passed (is_linked t key) NoEntry c2.0) in
      let d = linked_record t dir (passed (is_linked t dir) NoEntry c3.0) in
      let i = found_in t key r.0 r.1 in
      let other : same_key key root ≡ false = not_passed (same_key key root) Invalid c1.0 in
      record {
        moving = r.0;
        found = r.1;
        no_root = λ none. (let at = l.one_root r.0 i.0 none in
            let no : true ≡ false = sym (ap (same_key key) (sym at ∙ i.1) ∙ same_key_self key) ∙ other in cc);
        is_live = (live_record key r.0 r.1 (passed (live_in t key) NoEntry c6.0)).0;
        is_shown = (live_record key r.0 r.1 (passed (live_in t key) NoEntry c6.0)).1;
        into = d.0;
        into_found = d.1;
        into_dir = dir_node d.0.node (ap (λ o. option_map_or (λ (x : Record). is_dir x.node) o false) (sym d.1) ∙ passed (is_directory t dir) NotDir c5.0);
        into_is_live = (live_record dir d.0 d.1 (passed (live_in t dir) NoEntry c7.0)).0;
        into_is_shown = (live_record dir d.0 d.1 (passed (live_in t dir) NoEntry c7.0)).1;
        lawful = lawful_without_fault name c4.0;
        not_below = not_passed (in_subtree t key dir) Invalid p1.0;
        free = λ slot s at p n. name_free t dir name (not_passed (has_entry t dir name) Exists p2.0) s (ap (slice_get t) (l.in_place slot s at) ∙ at) p n;
      })

  pub may_move_to : MayMove t key dir name → HasNoCause
  may_move_to m =
      (let i = found_in t key m.moving m.found in
      let other : same_key key root ≡ false = elim (keys_tell key root) [
        | inl e ↦ absurd (m.no_root (let same = same_Some m.moving _ (sym m.found ∙ ap (record_at t) e.1 ∙ root_found t root l) in ap (λ (x : Record). x.parent) same))
        | inr e ↦ e.0
      ] in
      let here : is_linked t key ≡ true = ap is_some m.found in
      let there : is_linked t dir ≡ true = ap is_some m.into_found in
      let directory : is_directory t dir ≡ true = ap (λ o. option_map_or (λ (x : Record). is_dir x.node) o false) m.into_found ∙ ap is_dir m.into_dir in
      let live : live_in t key ≡ true = ap lives_in m.found ∙ live_now m.moving m.is_live m.is_shown in
      let into_live : live_in t dir ≡ true = ap lives_in m.into_found ∙ live_now m.into m.into_is_live m.into_is_shown in
      let named : name_fault name ≡ None = no_fault_of_lawful name m.lawful in
      let apart : in_subtree t key dir ≡ false = m.not_below in
      let unused : has_entry t dir name ≡ false = no_entry (child t dir name) refl in
      let away : is_there_already t key dir name ≡ false = ap (λ o. option_map_or (λ (x : Record). is_key dir x.parent && bytes_eq x.name name) o false) m.found ∙ elsewhere m.moving i.0 in (
        all_pass (same_key key root) (is_linked t key) (is_linked t dir) (is_directory t dir) (live_in t key) (live_in t dir) (name_fault name) (is_there_already t key dir name) (in_subtree t key dir) (has_entry t dir name)
            other here there directory live into_live named away apart unused,
        away,
      ))
    where
      taken : (r : Record) → IsIn t r → r.parent ≡ Some dir → r.name ≡ name → ⊥
      taken r i p n = m.free r.key.slot r i p n

      no_entry : (o : Option Record) → child t dir name ≡ o → is_some o ≡ false
      no_entry None e = refl
      no_entry (Some r) e = (let c = child_is t root dir name r l e in absurd (taken r c.0 c.1 c.2))

      elsewhere : (r : Record) → IsIn t r → (is_key dir r.parent && bytes_eq r.name name) ≡ false
      elsewhere r i = elim (is_key dir r.parent && bytes_eq r.name name) as (λ b. (is_key dir r.parent && bytes_eq r.name name) ≡ b → b ≡ false) [
        | true ↦ λ e. (let parts = both (is_key dir r.parent) (bytes_eq r.name name) e in absurd (taken r i (key_is dir r.parent parts.0) ((bytes_eq-Decides r.name name).0 parts.1)))
        | false ↦ λ e. refl
      ] refl

      all_pass : (b1 b2 b3 b5 b6 b7 : Bool) (fault : Option Refusal) (b8 b9 b10 : Bool) → b1 ≡ false → b2 ≡ true → b3 ≡ true → b5 ≡ true → b6 ≡ true → b7 ≡ true → fault ≡ None → b8 ≡ false → b9 ≡ false → b10 ≡ false →
          first_cause (first_cause (unless (not b1) Invalid ∷ unless b2 NoEntry ∷ unless b3 NoEntry ∷ fault ∷ unless b5 NotDir ∷ unless b6 NoEntry ∷ unless b7 NoEntry ∷ [])
          ∷ cond b8 None (first_cause (unless (not b9) Invalid ∷ unless (not b10) Exists ∷ [])) ∷ []) ≡ None
      all_pass b1 b2 b3 b5 b6 b7 fault b8 b9 b10 e1 e2 e3 e5 e6 e7 ef e8 e9 e10 = rw (e1, e2, e3, e5, e6, e7, ef, e8, e9, e10) refl

  pub may_move_exactly : MayMove t key dir name ↔ HasNoCause
  may_move_exactly = (may_move_to, may_move_from)
