-- A tree stays lawful when a record without children is removed.
use Rattle.std.proofs.Common.{◌≡◌, ◌≢◌, inl, inr, ℕ, zero, suc, ap, arith, sym, ◌∙◌, slice_set}
use Rattle.std.specs.Prelude.{None, Some, slice_get}
use Rattle.std.proofs.lemmas.Option.{same_Some, none-some, slice_get_within}
use Rattle.std.proofs.lemmas.Bool.Decides.{eqb_tells}
use Rattle.kf_core.specs.declared.key.Key.{Key}
use Rattle.kf_core.specs.declared.records.Record.{Record}
use Rattle.kf_core.specs.Tree.{Tree, record_at, ancestor, IsIn}
use Rattle.kf_core.specs.Lawful.{root_record, Lawful}
use Rattle.kf_core.proofs.Lists.{slice_get-set_same, slice_get-set_other}
use Rattle.kf_core.proofs.FoundRecords.{found_in, find_cleared, same_find, way_kept, way_short, met_parent, root_found, root_parent}

module _ (t : Tree) (root : Key) (l : Lawful t root) (gone : Record) (is_in : IsIn t gone) (other : gone.key ≢ root)
    (leaf : (s : Record) → IsIn t s → s.parent ≡ Some gone.key → ⊥) where
  abbrev cut : Tree
  cut = slice_set t gone.key.slot None

  left : (slot : ℕ) (r : Record) → slice_get cut slot ≡ Some (Some r) → (slot ≢ gone.key.slot) × (slice_get t slot ≡ Some (Some r))
  left slot r h = elim (eqb_tells slot gone.key.slot) [
    | inl e ↦ absurd (none-some r (same_Some None (Some r) (sym (slice_get-set_same t gone.key.slot None (slice_get_within t gone.key.slot (Some gone) is_in)) ∙ ap (slice_get cut) (sym e.1) ∙ h)))
    | inr e ↦ (e.1, sym (slice_get-set_other t gone.key.slot slot None e.1) ∙ h)
  ]

  was_in : (r : Record) → IsIn cut r → IsIn t r
  was_in r h = (left r.key.slot r h).1

  not_gone : (r : Record) → IsIn cut r → r.key ≢ gone.key
  not_gone r h e = (left r.key.slot r h).0 (ap (λ (k : Key). k.slot) e)

  kept : (k : Key) → k ≢ gone.key → record_at cut k ≡ record_at t k
  kept k n = find_cleared t gone k is_in n

  root_kept : record_at cut root ≡ record_at t root
  root_kept = kept root (λ e. other (sym e))

  way : (n : ℕ) (r : Record) → IsIn cut r → ancestor t n r.key ≡ ancestor cut n r.key
  way n r h = way_kept t root l cut n r (was_in r h) (λ s i b g c. same_find t cut s.key (sym (kept s.key (unmet s i c))))
    where
      unmet : (s : Record) (i : ℕ) → ancestor t i r.key ≡ Some s.key → s.key ≢ gone.key
      unmet s zero c e = not_gone r h (same_Some r.key s.key c ∙ e)
      unmet s (suc i) c e = (let m = met_parent t i r.key s.key c in leaf m.0 m.1 (m.3 ∙ ap Some e))

  pub lawful_unlinked : Lawful cut root
  lawful_unlinked = record {
    in_place = λ slot r h. l.in_place slot r (left slot r h).1;
    rooted = (found_in cut root (root_record root) (root_kept ∙ root_found t root l)).0;
    one_root = λ r h. l.one_root r (was_in r h);
    in_directory = λ r p h e. (let o = l.in_directory r p (was_in r h) e in record {
      dir = o.dir;
      known = kept p (λ same. leaf r (was_in r h) (e ∙ ap Some same)) ∙ o.known;
      is_dir = o.is_dir;
      doomed = o.doomed;
      lawful_name = o.lawful_name;
    });
    siblings = λ r s h g. l.siblings r s (was_in r h) (was_in s g);
    reaches = λ r h. (let w = l.reaches r (was_in r h) in
        let up : ancestor cut w.0 r.key ≡ Some root = sym (way w.0 r h) ∙ w.2 in
        let short = way_short cut w.0 r.key root _ (root_kept ∙ root_found t root l) (sym (same_find t cut root (sym root_kept)) ∙ root_parent t root l) up in
        (w.0, omega (arith, short), up));
  }
