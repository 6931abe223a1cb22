-- A tree stays lawful when a record moves, unless it moves below itself.
use Rattle.std.proofs.Common.{◌≡◌, ◌≢◌, ◌⊎◌, inl, inr, ℕ, suc, ◌+◌, ◌-◌, ◌<◌, refl, ap, arith, subst, sym, ◌∙◌, true, false, cond, List}
use Rattle.std.specs.Prelude.{Option, None, Some}
use Rattle.std.specs.Option.{option_map, option_and_then}
use Rattle.std.proofs.lemmas.Option.{same_Some, none-some}
use Rattle.kf_core.specs.declared.key.Key.{Key}
use Rattle.kf_core.specs.declared.records.Record.{Record}
use Rattle.kf_core.specs.declared.slot.NodeFlags.{NodeFlags}
use Rattle.kf_core.specs.declared.command.Command.TheVariants.{Rename}
use Rattle.kf_core.specs.Names.{IsLawfulName}
use Rattle.kf_core.specs.Keys.{same_key}
use Rattle.kf_core.specs.Tree.{Tree, record_at, parent_of, ancestor, IsIn, in_subtree}
use Rattle.kf_core.specs.Lawful.{root_record, Lawful}
use Rattle.kf_core.specs.Commands.{after}
use Rattle.kf_core.specs.Worlds.{MayMove}
use Rattle.kf_core.proofs.Climbs.{keys_tell, climb_rest, climb_same, after_step, no_return}
use Rattle.kf_core.proofs.FoundRecords.{found_in, root_found, root_parent, root_met, subtree_to, subtree_from, way_short}
use Rattle.kf_core.proofs.Mapped.{mapped, from_slot, mapped_from, find_mapped}

module _ (t : Tree) (root key dir : Key) (name : List ℕ) (l : Lawful t root) (m : MayMove t key dir name) where
  not_root : key ≢ root
  not_root e = m.no_root (let same = same_Some m.moving _ (sym m.found ∙ ap (record_at t) e ∙ root_found t root l) in ap (λ (x : Record). x.parent) same)

  unused : (s : Record) → IsIn t s → s.parent ≡ Some dir → s.name ≡ name → ⊥
  unused s i p n = m.free s.key.slot s i p n

  abbrev put : Record → Record
  put r = record r { parent = Some dir; name = name }

  abbrev move : Record → Record
  move r = cond (same_key r.key key) (put r) r

  same : (r : Record) → (move r).key ≡ r.key
  same r = elim (same_key r.key key) as (λ b. (cond b (put r) r).key ≡ r.key) [ true ↦ refl | false ↦ refl ]

  same_node : (r : Record) → (move r).node ≡ r.node
  same_node r = elim (same_key r.key key) as (λ b. (cond b (put r) r).node ≡ r.node) [ true ↦ refl | false ↦ refl ]

  same_marks : (r : Record) → (move r).marks ≡ r.marks
  same_marks r = elim (same_key r.key key) as (λ b. (cond b (put r) r).marks ≡ r.marks) [ true ↦ refl | false ↦ refl ]

  moves : (r : Record) → ((r.key ≡ key) × (move r ≡ put r)) ⊎ ((r.key ≢ key) × (move r ≡ r))
  moves r = elim (keys_tell r.key key) [ inl e ↦ inl (e.1, ap (λ b. cond b (put r) r) e.0) | inr e ↦ inr (e.1, ap (λ b. cond b (put r) r) e.0) ]

  abbrev moved : Tree
  moved = mapped t move same

  target_in : IsIn t m.into
  target_in = (found_in t dir m.into m.into_found).0

  target_key : m.into.key ≡ dir
  target_key = (found_in t dir m.into m.into_found).1

  not_below : (n : ℕ) → ancestor t n dir ≡ Some key → ⊥
  not_below n c = (let i = subtree_from t root l m.into n key target_in (ap (ancestor t n) target_key ∙ c) in
      absurd (let no : false ≡ true = sym m.not_below ∙ ap (in_subtree t key) (sym target_key) ∙ i in cc))

  dir_other : dir ≢ key
  dir_other e = not_below 0 (ap Some e)

  -- every other key keeps its parent
  parent_other : (k : Key) → k ≢ key → parent_of t k ≡ parent_of moved k
  parent_other k n = go (record_at t k) refl ∙ ap (λ o. option_and_then (λ (r : Record). r.parent) o) (sym (find_mapped t move same k))
    where
      go : (o : Option Record) → record_at t k ≡ o → option_and_then (λ (r : Record). r.parent) o ≡ option_and_then (λ (r : Record). r.parent) (option_map move o)
      go None e = refl
      go (Some r) e = elim (moves r) [
        | inl h ↦ absurd (n (sym (found_in t k r e).1 ∙ h.0))
        | inr h ↦ ap (λ (x : Record). x.parent) (sym h.1)
      ]

  parent_this : parent_of moved key ≡ Some dir
  parent_this = ap (λ o. option_and_then (λ (r : Record). r.parent) o) (find_mapped t move same key ∙ ap (option_map move) m.found) ∙
      elim (moves m.moving) [ inl h ↦ ap (λ (x : Record). x.parent) h.1 | inr h ↦ absurd (h.0 (found_in t key m.moving m.found).1) ]

  -- a way up that does not pass the key stays the same
  way_apart : (n : ℕ) (k : Key) → ((i : ℕ) → i < n → ancestor t i k ≡ Some key → ⊥) → ancestor t n k ≡ ancestor moved n k
  way_apart n k h = climb_same (parent_of t) (parent_of moved) n k (λ i x g c. parent_other x (λ e. h i g (c ∙ ap Some e)))

  root_kept : record_at moved root ≡ Some (root_record root)
  root_kept = find_mapped t move same root ∙ ap (option_map move) (root_found t root l) ∙
      elim (moves (root_record root)) [
        | inl h ↦ absurd (not_root (sym h.0 ∙ (found_in t root (root_record root) (root_found t root l)).1))
        | inr h ↦ ap Some h.1
      ]

  root_top : parent_of moved root ≡ None
  root_top = ap (λ o. option_and_then (λ (r : Record). r.parent) o) root_kept

  -- the way up from the key goes through its new directory to the root
  way_here : (n : ℕ) × (ancestor moved n key ≡ Some root)
  way_here = (let w = root_met t root l m.into target_in in
      let up : ancestor t w.0 dir ≡ Some root = ap (ancestor t w.0) (sym target_key) ∙ w.1 in
      (suc w.0, after_step (parent_of moved) w.0 key dir parent_this ∙ sym (way_apart w.0 dir (λ i g. not_below i)) ∙ up))

  way : (r : Record) → IsIn t r → (n : ℕ) × (ancestor moved n r.key ≡ Some root)
  way r h = elim (in_subtree t key r.key) as (λ b. in_subtree t key r.key ≡ b → (n : ℕ) × (ancestor moved n r.key ≡ Some root)) [
    | true ↦ λ e. (let s = subtree_to t root l key r.key e in
        let to : ancestor moved s.0 r.key ≡ Some key = sym (way_apart s.0 r.key (first s.0 s.1)) ∙ s.1 in
        (s.0 + way_here.0, climb_rest (parent_of moved) s.0 way_here.0 r.key key to ∙ way_here.1))
    | false ↦ λ e. (let w = root_met t root l r h in
        (w.0, sym (way_apart w.0 r.key (λ i g c. (let no : false ≡ true = sym e ∙ subtree_from t root l r i key h c in cc))) ∙ w.1))
  ] refl
    where
      -- the way up does not meet the key twice
      first : (n : ℕ) → ancestor t n r.key ≡ Some key → (i : ℕ) → i < n → ancestor t i r.key ≡ Some key → ⊥
      first n c i g d =
          (let parts : n ≡ i + suc (n - (i + 1)) = omega arith in
          let again : ancestor t (suc (n - (i + 1))) key ≡ Some key = sym (climb_rest (parent_of t) i (suc (n - (i + 1))) r.key key d) ∙ ap (λ j. ancestor t j r.key) (sym parts) ∙ c in
          let f = found_in t key m.moving m.found in
          let w = root_met t root l m.moving f.0 in
          no_return (parent_of t) root (root_parent t root l) w.0 (n - (i + 1)) key (ap (ancestor t w.0) (sym f.1) ∙ w.1) again)

  pub lawful_renamed : Lawful (after t (Rename key dir name)) root
  lawful_renamed = record {
    in_place = λ slot r' h. (let f = from_slot t move same slot r' h in ap (λ (x : Record). x.key.slot) f.2 ∙ ap (λ (x : Key). x.slot) (same f.0) ∙ l.in_place slot f.0 f.1);
    rooted = (found_in moved root (root_record root) root_kept).0;
    one_root = λ r' h e. (let f = mapped_from t move same r' h in elim (moves f.0) [
      | inl g ↦ absurd (none-some dir (sym e ∙ ap (λ (x : Record). x.parent) (f.2 ∙ g.1)))
      | inr g ↦ ap (λ (x : Record). x.key) (f.2 ∙ g.1) ∙ l.one_root f.0 f.1 (ap (λ (x : Record). x.parent) (sym (f.2 ∙ g.1)) ∙ e)
    ]);
    in_directory = λ r' p h e. (let f = mapped_from t move same r' h in elim (moves f.0) [
      | inl g ↦ (let at : dir ≡ p = same_Some dir p (ap (λ (x : Record). x.parent) (sym (f.2 ∙ g.1)) ∙ e) in record {
        dir = move m.into;
        known = ap (record_at moved) (sym at) ∙ find_mapped t move same dir ∙ ap (option_map move) m.into_found;
        is_dir = same_node m.into ∙ m.into_dir;
        doomed = λ d. absurd (let x : false ≡ true = sym (ap (λ (y : NodeFlags). y.doomed) m.into_is_live) ∙ ap (λ (y : NodeFlags). y.doomed) (sym (same_marks m.into)) ∙ d in cc);
        lawful_name = subst (λ (x : Record). IsLawfulName x.name) (sym (f.2 ∙ g.1)) m.lawful;
      })
      | inr g ↦ (let is = f.2 ∙ g.1 in let o = l.in_directory f.0 p f.1 (ap (λ (x : Record). x.parent) (sym is) ∙ e) in record {
        dir = move o.dir;
        known = find_mapped t move same p ∙ ap (option_map move) o.known;
        is_dir = same_node o.dir ∙ o.is_dir;
        doomed = λ d. ap (λ (x : Record). x.marks.doomed) is ∙ o.doomed (ap (λ (y : NodeFlags). y.doomed) (sym (same_marks o.dir)) ∙ d);
        lawful_name = subst (λ (x : Record). IsLawfulName x.name) (sym is) o.lawful_name;
      })
    ]);
    siblings = λ r' s' h h' e e'. (let f = mapped_from t move same r' h in let f' = mapped_from t move same s' h' in
        ap (λ (x : Record). x.key) f.2 ∙ same f.0 ∙ apart f.0 f'.0 f.1 f'.1
        (ap (λ (x : Record). x.parent) (sym f.2) ∙ e ∙ ap (λ (x : Record). x.parent) f'.2)
        (ap (λ (x : Record). x.name) (sym f.2) ∙ e' ∙ ap (λ (x : Record). x.name) f'.2)
        ∙ sym (same f'.0) ∙ ap (λ (x : Record). x.key) (sym f'.2));
    reaches = λ r' h. (let f = mapped_from t move same r' h in
        let w = way f.0 f.1 in
        let up : ancestor moved w.0 r'.key ≡ Some root = ap (λ (x : Record). ancestor moved w.0 x.key) f.2 ∙ ap (ancestor moved w.0) (same f.0) ∙ w.1 in
        let short = way_short moved w.0 r'.key root (root_record root) root_kept root_top up in
        (w.0, omega (arith, short), up));
  }
    where
      apart : (r s : Record) → IsIn t r → IsIn t s → (move r).parent ≡ (move s).parent → (move r).name ≡ (move s).name → r.key ≡ s.key
      apart r s h h' e e' = elim (moves r) [
        | inl g ↦ elim (moves s) [
          | inl g' ↦ g.0 ∙ sym g'.0
          | inr g' ↦ absurd (unused s h' (ap (λ (x : Record). x.parent) (sym g'.1) ∙ sym e ∙ ap (λ (x : Record). x.parent) g.1) (ap (λ (x : Record). x.name) (sym g'.1) ∙ sym e' ∙ ap (λ (x : Record). x.name) g.1))
        ]
        | inr g ↦ elim (moves s) [
          | inl g' ↦ absurd (unused r h (ap (λ (x : Record). x.parent) (sym g.1) ∙ e ∙ ap (λ (x : Record). x.parent) g'.1) (ap (λ (x : Record). x.name) (sym g.1) ∙ e' ∙ ap (λ (x : Record). x.name) g'.1))
          | inr g' ↦ l.siblings r s h h' (ap (λ (x : Record). x.parent) (sym g.1) ∙ e ∙ ap (λ (x : Record). x.parent) g'.1) (ap (λ (x : Record). x.name) (sym g.1) ∙ e' ∙ ap (λ (x : Record). x.name) g'.1)
        ]
      ]
