-- A tree stays lawful when a record is added.
use Rattle.std.proofs.Common.{◌≡◌, ◌≢◌, ◌⊎◌, inl, inr, ℕ, suc, ap, arith, subst, sym, ◌∙◌, Bool, true, false, List, slice_set}
use Rattle.std.specs.Prelude.{None, Some, slice_get}
use Rattle.std.proofs.lemmas.Option.{same_Some, none-some, slice_get_within}
use Rattle.std.proofs.lemmas.Bool.Decides.{eqb_tells}
use Rattle.kf_core.specs.declared.key.Key.{Key}
use Rattle.kf_core.specs.declared.key.Node.{Node}
use Rattle.kf_core.specs.declared.key.Node.TheVariants.{Dir}
use Rattle.kf_core.specs.declared.records.Record.{Record}
use Rattle.kf_core.specs.Names.{IsLawfulName}
use Rattle.kf_core.specs.Tree.{Tree, record_at, parent_of, ancestor, IsIn}
use Rattle.kf_core.specs.Lawful.{root_record, Lawful}
use Rattle.kf_core.specs.Commands.{new_record}
use Rattle.kf_core.proofs.Climbs.{after_step}
use Rattle.kf_core.proofs.Lists.{slice_get-set_same, slice_get-set_other, count_filled}
use Rattle.kf_core.proofs.FoundRecords.{in_found, found_in, parent_known, way_kept}

pub record MayCreate (t : Tree) (key parent : Key) (name : List ℕ) : Type 0 where
  pub vacant : slice_get t key.slot ≡ Some None
  pub dir : Record
  pub known : record_at t parent ≡ Some dir
  pub is_dir : dir.node ≡ Dir
  pub undoomed : dir.marks.doomed ≡ false
  pub lawful_name : IsLawfulName name
  pub unused : (s : Record) → IsIn t s → s.parent ≡ Some parent → s.name ≡ name → ⊥

module _ (t : Tree) (root key parent : Key) (name : List ℕ) (node : Node) (is_live : Bool) (l : Lawful t root) (m : MayCreate t key parent name) where
  abbrev new : Record
  new = new_record key parent name node is_live

  abbrev grown : Tree
  grown = slice_set t key.slot (Some new)

  new_in : IsIn grown new
  new_in = slice_get-set_same t key.slot (Some new) (slice_get_within t key.slot None m.vacant)

  apart : (slot : ℕ) (r : Record) → slice_get t slot ≡ Some (Some r) → slot ≢ key.slot
  apart slot r h e = none-some r (same_Some None (Some r) (sym m.vacant ∙ ap (slice_get t) (sym e) ∙ h))

  kept : (r : Record) → IsIn t r → IsIn grown r
  kept r h = slice_get-set_other t key.slot r.key.slot (Some new) (apart r.key.slot r h) ∙ h

  in_slot : (slot : ℕ) (r : Record) → slice_get grown slot ≡ Some (Some r) → ((slot ≡ key.slot) × (new ≡ r)) ⊎ (slice_get t slot ≡ Some (Some r))
  in_slot slot r h = elim (eqb_tells slot key.slot) [
    | inl e ↦ inl (e.1, same_Some new r (same_Some (Some new) (Some r) (sym new_in ∙ ap (slice_get grown) (sym e.1) ∙ h)))
    | inr e ↦ inr (sym (slice_get-set_other t key.slot slot (Some new) e.1) ∙ h)
  ]

  which : (r : Record) → IsIn grown r → (new ≡ r) ⊎ IsIn t r
  which r h = elim (in_slot r.key.slot r h) [ inl e ↦ inl e.1 | inr e ↦ inr e ]

  find_grows : (k : Key) (r : Record) → record_at t k ≡ Some r → record_at grown k ≡ Some r
  find_grows k r h = (let f = found_in t k r h in ap (record_at grown) (sym f.1) ∙ in_found grown r (kept r f.0))

  way_grows : (n : ℕ) (r : Record) → IsIn t r → ancestor t n r.key ≡ ancestor grown n r.key
  way_grows n r h = way_kept t root l grown n r h (λ s i b g c. parent_known t s g ∙ sym (parent_known grown s (kept s g)))

  pub lawful_created : Lawful grown root
  lawful_created = record {
    in_place = λ slot r h. elim (in_slot slot r h) [ inl e ↦ ap (λ (x : Record). x.key.slot) (sym e.1) ∙ sym e.0 | inr g ↦ l.in_place slot r g ];
    rooted = kept (root_record root) l.rooted;
    one_root = λ r h e. elim (which r h) [ inl n ↦ absurd (none-some parent (sym e ∙ ap (λ (x : Record). x.parent) (sym n))) | inr g ↦ l.one_root r g e ];
    in_directory = λ r p h e. elim (which r h) [
      | inl n ↦ (let at : parent ≡ p = same_Some parent p (ap (λ (x : Record). x.parent) n ∙ e) in record {
        dir = m.dir;
        known = ap (record_at grown) (sym at) ∙ find_grows parent m.dir m.known;
        is_dir = m.is_dir;
        doomed = λ d. absurd (let x : false ≡ true = sym m.undoomed ∙ d in cc);
        lawful_name = subst (λ (x : Record). IsLawfulName x.name) n m.lawful_name;
      })
      | inr g ↦ (let o = l.in_directory r p g e in record {
        dir = o.dir;
        known = find_grows p o.dir o.known;
        is_dir = o.is_dir;
        doomed = o.doomed;
        lawful_name = o.lawful_name;
      })
    ];
    siblings = λ r s h g e f. elim (which r h) [
      | inl n ↦ elim (which s g) [
        | inl n' ↦ ap (λ (x : Record). x.key) (sym n ∙ n')
        | inr g' ↦ absurd (m.unused s g' (sym e ∙ ap (λ (x : Record). x.parent) (sym n)) (sym f ∙ ap (λ (x : Record). x.name) (sym n)))
      ]
      | inr h' ↦ elim (which s g) [
        | inl n' ↦ absurd (m.unused r h' (e ∙ ap (λ (x : Record). x.parent) (sym n')) (f ∙ ap (λ (x : Record). x.name) (sym n')))
        | inr g' ↦ l.siblings r s h' g' e f
      ]
    ];
    reaches = λ r h. elim (which r h) [
      | inl n ↦ (let d = found_in t parent m.dir m.known in
          let w = l.reaches m.dir d.0 in
          let up : parent_of grown r.key ≡ Some m.dir.key = ap (λ (x : Record). parent_of grown x.key) (sym n) ∙ parent_known grown new new_in ∙ ap Some (sym d.1) in
          (suc w.0, (let c = count_filled t key.slot new m.vacant in omega (arith, w.1, c)), after_step (parent_of grown) w.0 r.key m.dir.key up ∙ sym (way_grows w.0 m.dir d.0) ∙ w.2))
      | inr g ↦ (let w = l.reaches r g in (w.0, (let c = count_filled t key.slot new m.vacant in omega (arith, w.1, c)), sym (way_grows w.0 r g) ∙ w.2))
    ];
  }
