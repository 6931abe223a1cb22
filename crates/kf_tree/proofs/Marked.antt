-- A tree stays lawful when marks change, as long as everything in a doomed directory is doomed.
use Rattle.std.proofs.Common.{◌≡◌, ◌≢◌, ℕ, zero, suc, refl, ap, arith, subst, sym, ◌∙◌, Bool, true, false, cond}
use Rattle.std.specs.Prelude.{Option, None, Some, slice_get, ◌&&◌, not}
use Rattle.std.specs.Option.{option_map, option_and_then}
use Rattle.std.proofs.lemmas.Option.{same_Some, none-some}
use Rattle.kf_core.specs.declared.key.Key.{Key}
use Rattle.kf_core.specs.declared.records.Record.{Record}
use Rattle.kf_core.specs.declared.command.Command.TheVariants.{Activate, Doom}
use Rattle.kf_core.specs.Names.{IsLawfulName}
use Rattle.kf_core.specs.Tree.{Tree, record_at, parent_of, ancestor, IsIn, in_subtree}
use Rattle.kf_core.specs.Lawful.{root_record, Lawful}
use Rattle.kf_core.specs.Commands.{after, change, activated_record, doomed_record, hidden_record}
use Rattle.kf_core.specs.Keys.{same_key}
use Rattle.kf_core.proofs.Climbs.{climb_same, after_step, first_step}
use Rattle.kf_core.proofs.Lists.{count_mapped}
use Rattle.kf_core.proofs.FoundRecords.{found_in, parent_known, subtree_to, subtree_from}
use Rattle.kf_core.proofs.Mapped.{mapped, from_slot, mapped_from, mapped_to, find_mapped}

-- a change to a record that keeps its key, parent, name and node
pub record KeepsPlace (g : Record → Record) : Type 0 where
  pub key : (r : Record) → (g r).key ≡ r.key
  pub parent : (r : Record) → (g r).parent ≡ r.parent
  pub name : (r : Record) → (g r).name ≡ r.name
  pub node : (r : Record) → (g r).node ≡ r.node

module _ (t : Tree) (g : Record → Record) (k : KeepsPlace g) where
  pub parent_mapped : (key : Key) → parent_of t key ≡ parent_of (mapped t g k.key) key
  parent_mapped key = go (record_at t key) ∙ ap (λ o. option_and_then (λ (r : Record). r.parent) o) (sym (find_mapped t g k.key key))
    where
      go : (o : Option Record) → option_and_then (λ (r : Record). r.parent) o ≡ option_and_then (λ (r : Record). r.parent) (option_map g o)
      go None = refl
      go (Some r) = sym (k.parent r)

  pub way_mapped : (n : ℕ) (key : Key) → ancestor t n key ≡ ancestor (mapped t g k.key) n key
  way_mapped n key = climb_same (parent_of t) (parent_of (mapped t g k.key)) n key (λ i m l c. parent_mapped m)

  module _ (root : Key) (l : Lawful t root) (root_same : g (root_record root) ≡ root_record root)
      (closed : (r dir : Record) → IsIn t r → IsIn t dir → r.parent ≡ Some dir.key → (dir.marks.doomed ≡ true → r.marks.doomed ≡ true) → (g dir).marks.doomed ≡ true → (g r).marks.doomed ≡ true) where
    pub lawful_mapped : Lawful (mapped t g k.key) root
    lawful_mapped = record {
      in_place = λ slot r' h. (let f = from_slot t g k.key slot r' h in ap (λ (x : Record). x.key.slot) f.2 ∙ ap (λ (x : Key). x.slot) (k.key f.0) ∙ l.in_place slot f.0 f.1);
      rooted = ap (λ (x : Record). slice_get (mapped t g k.key) x.key.slot) (sym root_same) ∙ mapped_to t g k.key (root_record root) l.rooted ∙ ap (λ x. Some (Some x)) root_same;
      one_root = λ r' h e. (let f = mapped_from t g k.key r' h in
          ap (λ (x : Record). x.key) f.2 ∙ k.key f.0 ∙ l.one_root f.0 f.1 (sym (k.parent f.0) ∙ ap (λ (x : Record). x.parent) (sym f.2) ∙ e));
      in_directory = λ r' p h e. (let f = mapped_from t g k.key r' h in
          let up : f.0.parent ≡ Some p = sym (k.parent f.0) ∙ ap (λ (x : Record). x.parent) (sym f.2) ∙ e in
          let o = l.in_directory f.0 p f.1 up in
          let d = found_in t p o.dir o.known in record {
            dir = g o.dir;
            known = find_mapped t g k.key p ∙ ap (option_map g) o.known;
            is_dir = k.node o.dir ∙ o.is_dir;
            doomed = λ x. ap (λ (y : Record). y.marks.doomed) f.2 ∙ closed f.0 o.dir f.1 d.0 (up ∙ ap Some (sym d.1)) o.doomed x;
            lawful_name = subst IsLawfulName (sym (ap (λ (y : Record). y.name) f.2 ∙ k.name f.0)) o.lawful_name;
          });
      siblings = λ r' s' h h' e e'. (let f = mapped_from t g k.key r' h in let f' = mapped_from t g k.key s' h' in
          ap (λ (x : Record). x.key) f.2 ∙ k.key f.0 ∙ l.siblings f.0 f'.0 f.1 f'.1
          (sym (k.parent f.0) ∙ ap (λ (x : Record). x.parent) (sym f.2) ∙ e ∙ ap (λ (x : Record). x.parent) f'.2 ∙ k.parent f'.0)
          (sym (k.name f.0) ∙ ap (λ (x : Record). x.name) (sym f.2) ∙ e' ∙ ap (λ (x : Record). x.name) f'.2 ∙ k.name f'.0)
          ∙ sym (k.key f'.0) ∙ ap (λ (x : Record). x.key) (sym f'.2));
      reaches = λ r' h. (let f = mapped_from t g k.key r' h in
          let w = l.reaches f.0 f.1 in (
            w.0,
            (let c = count_mapped g t in omega (arith, w.1, c)),
            ap (λ (x : Record). ancestor (mapped t g k.key) w.0 x.key) f.2 ∙ ap (ancestor (mapped t g k.key) w.0) (k.key f.0) ∙ sym (way_mapped w.0 f.0.key) ∙ w.2,
          ));
    }

-- the record, changed if it is chosen
abbrev where_chosen : (Record → Bool) → (Record → Record) → Record → Record
where_chosen chosen f r = cond (chosen r) (f r) r

keeps_where : (chosen : Record → Bool) (f : Record → Record) → KeepsPlace f → KeepsPlace (where_chosen chosen f)
keeps_where chosen f k = record {
  key = λ r. elim (chosen r) as (λ b. (cond b (f r) r).key ≡ r.key) [ true ↦ k.key r | false ↦ refl ];
  parent = λ r. elim (chosen r) as (λ b. (cond b (f r) r).parent ≡ r.parent) [ true ↦ k.parent r | false ↦ refl ];
  name = λ r. elim (chosen r) as (λ b. (cond b (f r) r).name ≡ r.name) [ true ↦ k.name r | false ↦ refl ];
  node = λ r. elim (chosen r) as (λ b. (cond b (f r) r).node ≡ r.node) [ true ↦ k.node r | false ↦ refl ];
}

keeps_activated : KeepsPlace activated_record
keeps_activated = record { key = λ r. refl; parent = λ r. refl; name = λ r. refl; node = λ r. refl }

keeps_hidden : (b : Bool) → KeepsPlace (hidden_record b)
keeps_hidden b = record { key = λ r. refl; parent = λ r. refl; name = λ r. refl; node = λ r. refl }

keeps_doomed : KeepsPlace doomed_record
keeps_doomed = record { key = λ r. refl; parent = λ r. refl; name = λ r. refl; node = λ r. refl }

module _ (t : Tree) (root : Key) (l : Lawful t root) (key : Key) where
  abbrev rises : Record → Bool
  rises r = in_subtree t key r.key && not r.marks.doomed

  same_doomed : (r : Record) → (where_chosen rises activated_record r).marks.doomed ≡ r.marks.doomed
  same_doomed r = elim (rises r) as (λ b. (cond b (activated_record r) r).marks.doomed ≡ r.marks.doomed) [ true ↦ refl | false ↦ refl ]

  pub lawful_activated : Lawful (after t (Activate key)) root
  lawful_activated = lawful_mapped t (where_chosen rises activated_record) (keeps_where rises activated_record keeps_activated) root l
      (elim (rises (root_record root)) as (λ b. cond b (activated_record (root_record root)) (root_record root) ≡ root_record root) [ true ↦ refl | false ↦ refl ])
      (λ r dir h d up same e. same_doomed r ∙ same (sym (same_doomed dir) ∙ e))

  abbrev sinks : Record → Bool
  sinks r = in_subtree t key r.key

  pub lawful_doomed : key ≢ root → Lawful (after t (Doom key)) root
  lawful_doomed other = lawful_mapped t (where_chosen sinks doomed_record) (keeps_where sinks doomed_record keeps_doomed) root l
      (elim (in_subtree t key (root_record root).key) as (λ b. in_subtree t key (root_record root).key ≡ b → cond b (doomed_record (root_record root)) (root_record root) ≡ root_record root) [
        | true ↦ λ e. absurd (above e)
        | false ↦ λ e. refl
      ] refl)
      below
    where
      above : in_subtree t key (root_record root).key ≡ true → ⊥
      above e = (let s = subtree_to t root l key (root_record root).key e in go s.0 s.1)
        where
          at_root : root ≡ root
          at_root = l.one_root (root_record root) l.rooted refl

          go : (n : ℕ) → ancestor t n (root_record root).key ≡ Some key → ⊥
          go zero c = other (sym (same_Some (root_record root).key key c) ∙ at_root)
          go (suc n) c = (let f = first_step (parent_of t) n (root_record root).key key c in none-some f.0 (sym (parent_known t (root_record root) l.rooted) ∙ f.1))

      below : (r dir : Record) → IsIn t r → IsIn t dir → r.parent ≡ Some dir.key → (dir.marks.doomed ≡ true → r.marks.doomed ≡ true) → (where_chosen sinks doomed_record dir).marks.doomed ≡ true → (where_chosen sinks doomed_record r).marks.doomed ≡ true
      below r dir h d up same e = elim (sinks r) as (λ b. sinks r ≡ b → (cond b (doomed_record r) r).marks.doomed ≡ true) [
        | true ↦ λ x. refl
        | false ↦ λ x. same (elim (sinks dir) as (λ b. sinks dir ≡ b → (cond b (doomed_record dir) dir).marks.doomed ≡ true → dir.marks.doomed ≡ true) [
          | true ↦ λ y z. (let s = subtree_to t root l key dir.key y in
              let i = subtree_from t root l r (suc s.0) key h (after_step (parent_of t) s.0 r.key dir.key (parent_known t r h ∙ up) ∙ s.1) in
              absurd (let no : false ≡ true = sym x ∙ i in cc))
          | false ↦ λ y z. z
        ] refl e)
      ] refl

  -- the tree stays lawful when one record is hidden or shown, if that leaves the root's record as it was
  pub lawful_hidden : (b : Bool) → cond (same_key root key) (hidden_record b (root_record root)) (root_record root) ≡ root_record root →
      Lawful (change (λ r. same_key r.key key) (hidden_record b) t) root
  lawful_hidden b root_same = lawful_mapped t (where_chosen (λ r. same_key r.key key) (hidden_record b)) (keeps_where (λ r. same_key r.key key) (hidden_record b) (keeps_hidden b)) root l
      root_same
      (λ r dir h d up same e. doomed_as r ∙ same (sym (doomed_as dir) ∙ e))
    where
      doomed_as : (r : Record) → (where_chosen (λ r. same_key r.key key) (hidden_record b) r).marks.doomed ≡ r.marks.doomed
      doomed_as r = elim (same_key r.key key) as (λ v. (cond v (hidden_record b r) r).marks.doomed ≡ r.marks.doomed) [ true ↦ refl | false ↦ refl ]
