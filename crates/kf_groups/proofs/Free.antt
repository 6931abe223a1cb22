-- Once a file is made, nothing is wrong with later files that have other names.
use Rattle.std.proofs.Common.{◌≡◌, ℕ, zero, suc, refl, ap, sym, ◌∙◌, subst, Bool, true, false, cond, List, [], ◌∷◌, slice_set}
use Rattle.std.specs.Prelude.{Option, None, Some, slice_get, is_some, not, ◌&&◌, ◌||◌}
use Rattle.std.specs.List.{find as first}
use Rattle.std.specs.Option.{option_and_then, option_map_or, option_map}
use Rattle.std.specs.Str.{bytes_eq}
use Rattle.std.proofs.lemmas.Option.{same_Some, none-some, slice_get_within}
use Rattle.std.proofs.lemmas.Slice.Eq.{bytes_eq-Decides}
use Rattle.kf_core.specs.declared.command.Command.TheVariants.{Create}
use Rattle.kf_core.specs.declared.key.Key.{Key}
use Rattle.kf_core.specs.declared.key.Node.{Node}
use Rattle.kf_core.specs.declared.records.Record.{Record}
use Rattle.kf_core.specs.declared.refusal.Refusal.{Refusal}
use Rattle.kf_core.specs.declared.refusal.Refusal.TheVariants.{NoEntry, NotDir, Exists}
use Rattle.kf_core.specs.Commands.{after, new_record}
use Rattle.kf_core.specs.Lawful.{Lawful}
use Rattle.kf_core.specs.Marks.{are_doomed}
use Rattle.kf_core.specs.Names.{name_fault}
use Rattle.kf_core.specs.Refusals.{unless, first_cause}
use Rattle.kf_core.specs.Tree.{Tree, IsIn, is_dir, is_linked}
use Rattle.kf_core.proofs.Lists.{slice_get-set_same}
use Rattle.kf_table.specs.Children.{is_under}
use Rattle.kf_table.proofs.ChildTests.{is_key_self}
use Rattle.kf_tree.specs.Causes.{create_fault, is_directory, doomed_in, has_entry}
use Rattle.kf_tree.proofs.Allowed.{no_first, not_passed}
use Rattle.kf_groups.specs.declared.attribute.Attribute.{Attribute}
use Rattle.kf_groups.specs.Attributes.{file_of, file_fault, files_cause, has_name}

skipped : {X : Type 0} (p : X → Bool) (x : X) (xs : List X) → first p (x ∷ xs) ≡ None → (p x ≡ false) × (first p xs ≡ None)
skipped p x xs h = elim (p x) as (λ b. cond b (Some x) (first p xs) ≡ None → (b ≡ false) × (first p xs ≡ None)) [
  | true ↦ λ e. absurd (none-some x (sym e))
  | false ↦ λ e. (refl, e)
] h

pub first_set : {X : Type 0} (p : X → Bool) (xs : List X) (i : ℕ) (v : X) → first p xs ≡ None → p v ≡ false → first p (slice_set xs i v) ≡ None
first_set p [] i v none away = none
first_set p (x ∷ xs) zero v none away = ap (λ b. cond b (Some v) (first p xs)) away ∙ (skipped p x xs none).1
first_set p (x ∷ xs) (suc i) v none away =
    let s = skipped p x xs none in
    ap (λ b. cond b (Some x) (first p (slice_set xs i v))) s.0 ∙ first_set p xs i v s.1 away

pub passes : {X : Type 0} (p : X → Bool) (xs : List X) (y : X) → first p xs ≡ Some y → p y ≡ true
passes p [] y h = absurd (none-some y h)
passes p (x ∷ xs) y h = elim (p x) as (λ b. p x ≡ b → cond b (Some x) (first p xs) ≡ Some y → p y ≡ true) [
  | true ↦ λ is e. ap p (sym (same_Some x y e)) ∙ is
  | false ↦ λ is e. passes p xs y e
] refl h

past : {X : Type 0} (xs : List X) (i : ℕ) (v : X) → slice_get xs i ≡ None → slice_set xs i v ≡ xs
past [] i v h = refl
past (x ∷ xs) zero v h = absurd (none-some x (sym h))
past (x ∷ xs) (suc i) v h = ap (λ r. x ∷ r) (past xs i v h)

-- whether a slot has a record with this name in this directory
abbrev pub test : Key → List ℕ → Option Record → Bool
test dir name = is_under dir (λ (r : Record). bytes_eq r.name name)

none_there : (t : Tree) (dir : Key) (name : List ℕ) → has_entry t dir name ≡ false → first (test dir name) t ≡ None
none_there t dir name h = go (first (test dir name) t) refl
  where
    go : (o : Option (Option Record)) → first (test dir name) t ≡ o → first (test dir name) t ≡ None
    go None e = e
    go (Some None) e = absurd (let x : false ≡ true = passes (test dir name) t None e in cc)
    go (Some (Some r)) e = absurd (let x : true ≡ false = sym (ap (λ o. is_some (option_and_then (λ (slot : Option Record). slot) o)) e) ∙ h in cc)

pub all_pass : (a b c d e : Option Refusal) → a ≡ None → b ≡ None → c ≡ None → d ≡ None → e ≡ None → first_cause (a ∷ b ∷ c ∷ d ∷ None ∷ e ∷ []) ≡ None
all_pass a b c d e ha hb hc hd he = rw ha (rw hb (rw hc (rw hd (rw he refl))))

pub of_six : (a b c d e : Option Refusal) → first_cause (a ∷ b ∷ c ∷ d ∷ None ∷ e ∷ []) ≡ None → (b ≡ None) × (e ≡ None)
of_six a b c d e h =
    let last : List (Option Refusal) = [] in
    let nothing : Option Refusal = None in
    let h1 = no_first a (b ∷ c ∷ d ∷ nothing ∷ e ∷ last) h in
    let h2 = no_first b (c ∷ d ∷ nothing ∷ e ∷ last) h1.1 in
    let h3 = no_first c (d ∷ nothing ∷ e ∷ last) h2.1 in
    let h4 = no_first d (nothing ∷ e ∷ last) h3.1 in
    let h5 = no_first nothing (e ∷ last) h4.1 in
    let h6 = no_first e last h5.1 in (h2.0, h6.0)

pub first_of_six : (a b c d e : Option Refusal) → first_cause (a ∷ b ∷ c ∷ d ∷ None ∷ e ∷ []) ≡ None → a ≡ None
first_of_six a b c d e h =
    let last : List (Option Refusal) = [] in
    let nothing : Option Refusal = None in (no_first a (b ∷ c ∷ d ∷ nothing ∷ e ∷ last) h).0

pub parted : (a b c : Option Refusal) → first_cause (a ∷ b ∷ c ∷ []) ≡ None → (a ≡ None) × (b ≡ None) × (c ≡ None)
parted a b c h =
    let last : List (Option Refusal) = [] in
    let h1 = no_first a (b ∷ c ∷ last) h in
    let h2 = no_first b (c ∷ last) h1.1 in
    let h3 = no_first c last h2.1 in (h1.0, h2.0, h3.0)

not_same : (a b : List ℕ) → bytes_eq a b ≡ false → bytes_eq b a ≡ false
not_same a b h = elim (bytes_eq b a) as (λ c. bytes_eq b a ≡ c → c ≡ false) [
  | true ↦ λ e. absurd (let x : bytes_eq a b ≡ true = (bytes_eq-Decides a b).1 (sym ((bytes_eq-Decides b a).0 e)) in cc (x, h))
  | false ↦ λ e. refl
] refl

pub neither : (a b : Bool) → (a || b) ≡ false → (a ≡ false) × (b ≡ false)
neither true b h = absurd (let x : true ≡ false = h in cc)
neither false b h = (refl, h)

pub joined : (a b c : Option Refusal) → a ≡ None → b ≡ None → c ≡ None → first_cause (a ∷ b ∷ c ∷ []) ≡ None
joined a b c ha hb hc = rw ha (rw hb (rw hc refl))

module _ (t : Tree) (root key dir : Key) (name : List ℕ) (node : Node) where
  abbrev new : Record
  new = new_record key dir name node false

  abbrev grown : Tree
  grown = after t (Create key dir name node false)

  free_in : (a : Attribute) → Lawful grown root → IsIn grown new → bytes_eq a.name.now name ≡ false
      → create_fault t root dir a.name.now (file_of a) ≡ None → create_fault grown root dir a.name.now (file_of a) ≡ None
  free_in a l inside other h =
      let d = l.in_directory new dir inside refl in
      let c = of_six (unless (is_linked t dir) NoEntry) (name_fault a.name.now) (unless (is_directory t dir) NotDir)
      (unless (not (doomed_in t dir)) NoEntry) (unless (not (has_entry t dir a.name.now)) Exists) h in
      let none = none_there t dir a.name.now (not_passed (has_entry t dir a.name.now) Exists c.1) in
      let away : test dir a.name.now (Some new) ≡ false =
      ap (λ b. b && bytes_eq name a.name.now) (is_key_self dir (Some dir) refl) ∙ not_same a.name.now name other in
      let still : has_entry grown dir a.name.now ≡ false =
      ap (λ o. is_some (option_and_then (λ (slot : Option Record). slot) o)) (first_set (test dir a.name.now) t key.slot (Some new) none away) in
      let undoomed : d.dir.marks.doomed ≡ false = elim d.dir.marks.doomed as (λ b. (b ≡ true → false ≡ true) → b ≡ false) [
        | true ↦ λ f. absurd (let x : false ≡ true = f refl in cc)
        | false ↦ λ f. refl
      ] d.doomed in
      let linked : is_linked grown dir ≡ true = ap (λ (o : Option Record). is_some o) d.known in
      let directory : is_directory grown dir ≡ true =
      ap (λ o. option_map_or (λ (r : Record). is_dir r.node) o false) d.known ∙ ap is_dir d.is_dir in
      let living : doomed_in grown dir ≡ false =
      ap (λ o. are_doomed (option_map (λ (r : Record). r.marks) o)) d.known ∙ undoomed in
      all_pass (unless (is_linked grown dir) NoEntry) (name_fault a.name.now) (unless (is_directory grown dir) NotDir)
      (unless (not (doomed_in grown dir)) NoEntry) (unless (not (has_entry grown dir a.name.now)) Exists) (ap (λ b. unless b NoEntry) linked) c.0 (ap (λ b. unless b NotDir) directory)
      (ap (λ b. unless (not b) NoEntry) living) (ap (λ b. unless (not b) Exists) still)

  pub still_free : (a : Attribute) → Lawful grown root → bytes_eq a.name.now name ≡ false
      → create_fault t root dir a.name.now (file_of a) ≡ None → create_fault grown root dir a.name.now (file_of a) ≡ None
  still_free a l other h = go (slice_get t key.slot) refl
    where
      go : (o : Option (Option Record)) → slice_get t key.slot ≡ o → create_fault grown root dir a.name.now (file_of a) ≡ None
      go None e = subst (λ x. create_fault x root dir a.name.now (file_of a) ≡ None) (sym (past t key.slot (Some new) e)) h
      go (Some place) e = free_in a l (slice_get-set_same t key.slot (Some new) (slice_get_within t key.slot place e)) other h

  pub all_still_free : (attributes : List Attribute) → Lawful grown root → has_name attributes name ≡ false
      → files_cause (file_fault t root (Some dir)) attributes ≡ None → files_cause (file_fault grown root (Some dir)) attributes ≡ None
  all_still_free [] l other h = refl
  all_still_free (a ∷ attributes) l other h =
      let o = neither (bytes_eq a.name.now name) (has_name attributes name) other in
      let c = parted (file_fault t root (Some dir) a) (unless (not (has_name attributes a.name.now)) Exists)
      (files_cause (file_fault t root (Some dir)) attributes) h in
      joined (file_fault grown root (Some dir) a) (unless (not (has_name attributes a.name.now)) Exists)
      (files_cause (file_fault grown root (Some dir)) attributes) (still_free a l o.0 c.0) c.1 (all_still_free attributes l o.1 c.2)
