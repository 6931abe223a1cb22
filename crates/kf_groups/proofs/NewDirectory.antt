-- Nothing is wrong with a file in a new directory if its name is lawful.
use Rattle.std.proofs.Common.{◌≡◌, ℕ, refl, ap, sym, ◌∙◌, true, false, List, [], ◌∷◌}
use Rattle.std.specs.Prelude.{Option, None, Some, slice_get, is_some, not, ◌&&◌}
use Rattle.std.specs.List.{find as first}
use Rattle.std.specs.Option.{option_and_then, option_map_or, option_map}
use Rattle.std.specs.Str.{bytes_eq}
use Rattle.kf_core.specs.declared.command.Command.TheVariants.{Create}
use Rattle.kf_core.specs.declared.key.Key.{Key}
use Rattle.kf_core.specs.declared.key.Node.TheVariants.{Dir}
use Rattle.kf_core.specs.declared.records.Record.{Record}
use Rattle.kf_core.specs.declared.refusal.Refusal.TheVariants.{NoEntry, NotDir, Exists}
use Rattle.kf_core.specs.Commands.{after, new_record}
use Rattle.kf_core.specs.Keys.{same_key}
use Rattle.kf_core.specs.Lawful.{Lawful}
use Rattle.kf_core.specs.Marks.{are_doomed}
use Rattle.kf_core.specs.Names.{name_fault}
use Rattle.kf_core.specs.Refusals.{unless}
use Rattle.kf_core.specs.Tree.{Tree, record_at, IsIn, is_dir, is_linked}
use Rattle.kf_core.proofs.Climbs.{same_key_is}
use Rattle.kf_table.proofs.ChildTests.{both, key_is}
use Rattle.kf_tree.specs.Causes.{create_fault, is_directory, doomed_in, has_entry}
use Rattle.kf_groups.specs.declared.attribute.Attribute.{Attribute}
use Rattle.kf_groups.specs.Attributes.{file_of, file_fault, files_cause, has_name}
use Rattle.kf_groups.proofs.Free.{all_pass, first_set, joined, parted, passes, test}
use Rattle.kf_groups.proofs.Linked.{itself_at, not_linked}
use Rattle.kf_groups.proofs.Named.{place_of}

module _ (t : Tree) (root key dir : Key) (name : List ℕ) (l : Lawful t root) (vacant : slice_get t key.slot ≡ Some None) (linked : is_linked t dir ≡ true) where
  abbrev new : Record
  new = new_record key dir name Dir false

  abbrev grown : Tree
  grown = after t (Create key dir name Dir false)

  at : record_at grown key ≡ Some new
  at = itself_at t key dir name Dir false vacant

  unlinked : is_linked t key ≡ false
  unlinked = not_linked t key dir name Dir false vacant

  -- no record of the old tree is in the new directory
  nobody : (n : List ℕ) → first (test key n) t ≡ None
  nobody n = go (first (test key n) t) refl
    where
      go : (o : Option (Option Record)) → first (test key n) t ≡ o → first (test key n) t ≡ None
      go None e = e
      go (Some None) e = absurd (let x : false ≡ true = passes (test key n) t None e in cc)
      go (Some (Some r)) e = absurd (
          let p = place_of (test key n) t (Some r) e in
          let parent = key_is key r.parent (both _ _ (passes (test key n) t (Some r) e)).0 in
          let inside : IsIn t r = ap (slice_get t) (l.in_place p.0 r p.1) ∙ p.1 in
          let d = l.in_directory r key inside parent in
          let x : is_linked t key ≡ true = ap (λ (o : Option Record). is_some o) d.known in
          let y = unlinked in
          cc (x, y))

  -- the new directory is not in itself
  outside : (n : List ℕ) → test key n (Some new) ≡ false
  outside n = elim (same_key dir key) as (λ b. same_key dir key ≡ b → (b && bytes_eq name n) ≡ false) [
    | true ↦ λ e. absurd (let x : is_linked t key ≡ true = ap (is_linked t) (sym (same_key_is dir key e)) ∙ linked in let y = unlinked in cc (x, y))
    | false ↦ λ e. refl
  ] refl

  free : (a : Attribute) → name_fault a.name.now ≡ None → create_fault grown root key a.name.now (file_of a) ≡ None
  free a h =
      let there : is_linked grown key ≡ true = ap (λ (o : Option Record). is_some o) at in
      let directory : is_directory grown key ≡ true = ap (λ o. option_map_or (λ (r : Record). is_dir r.node) o false) at in
      let living : doomed_in grown key ≡ false = ap (λ o. are_doomed (option_map (λ (r : Record). r.marks) o)) at in
      let empty : has_entry grown key a.name.now ≡ false =
      ap (λ o. is_some (option_and_then (λ (slot : Option Record). slot) o))
      (first_set (test key a.name.now) t key.slot (Some new) (nobody a.name.now) (outside a.name.now)) in
      all_pass (unless (is_linked grown key) NoEntry) (name_fault a.name.now) (unless (is_directory grown key) NotDir)
      (unless (not (doomed_in grown key)) NoEntry) (unless (not (has_entry grown key a.name.now)) Exists) (ap (λ b. unless b NoEntry) there) h (ap (λ b. unless b NotDir) directory)
      (ap (λ b. unless (not b) NoEntry) living) (ap (λ b. unless (not b) Exists) empty)

  pub all_free : (attributes : List Attribute) → files_cause (file_fault t root None) attributes ≡ None
      → files_cause (file_fault grown root (Some key)) attributes ≡ None
  all_free [] h = refl
  all_free (a ∷ attributes) h =
      let taken = unless (not (has_name attributes a.name.now)) Exists in
      let c = parted (file_fault t root None a) taken (files_cause (file_fault t root None) attributes) h in
      joined (file_fault grown root (Some key) a) taken (files_cause (file_fault grown root (Some key)) attributes)
      (free a c.0) c.1 (all_free attributes c.2)
