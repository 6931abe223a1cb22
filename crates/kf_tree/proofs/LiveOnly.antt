-- What keys and names find in a tree if all its records are shown, or only the live ones.
use Rattle.std.proofs.Common.{◌≡◌, ℕ, zero, suc, refl, ap, arith, sym, ◌∙◌, Bool, true, false, cond, List, [], ◌∷◌, Bor}
use Rattle.std.specs.Prelude.{Option, None, Some, IfSome, Result, Ok, Err, slice_get, map}
use Rattle.std.specs.List.{find as first}
use Rattle.std.specs.Str.{bytes_eq}
use Rattle.std.specs.Option.{option_copied, option_map, option_and_then}
use Rattle.std.proofs.lemmas.Option.{slice_get-map, same_Some, none-some}
use Rattle.std.proofs.lemmas.Slice.Eq.{bytes_eq-Decides}
use Rattle.kf_core.specs.declared.key.Key.{Key}
use Rattle.kf_core.specs.declared.records.Record.{Record}
use Rattle.kf_core.specs.declared.refusal.Refusal.{Refusal}
use Rattle.kf_core.specs.declared.refusal.Refusal.TheVariants.{NoEntry, NotDir}
use Rattle.kf_core.specs.Keys.{same_key}
use Rattle.kf_core.specs.Tree.{Tree, IsIn, with_key, record_at, is_dir}
use Rattle.kf_core.specs.Lawful.{root_record, Lawful}
use Rattle.kf_table.specs.Children.{is_key, is_under, child}
use Rattle.kf_tree.specs.Paths.{entry_key, found, only_live}
use Rattle.kf_table.specs.Live.{lives}
use Rattle.kf_tree.specs.Shown.{shown, shown_record}
use Rattle.kf_core.proofs.FoundRecords.{in_found, found_in}
use Rattle.kf_table.proofs.ChildTests.{both, key_is}

-- if a record is shown, what is shown is the record itself
pub shown_same : (live_only : Bool) (r s : Record) → Some s ≡ shown_record live_only (Some r) → s ≡ r
shown_same false r s h = same_Some s r h
shown_same true r s h = elim (lives r) as (λ b. Some s ≡ cond b (Some r) None → s ≡ r) [
  | true ↦ λ e. same_Some s r e
  | false ↦ λ e. absurd (none-some s (sym e))
] h

shown_at : (live_only : Bool) (t : Tree) (r : Record) → IsIn t r → slice_get (shown live_only t) r.key.slot ≡ Some (shown_record live_only (Some r))
shown_at false t r is = is
shown_at true t r is = slice_get-map only_live t r.key.slot ∙ ap (option_map only_live) is

-- a record in the shown tree is a record of the tree
pub shown_in : (live_only : Bool) (t : Tree) (r : Record) → IsIn (shown live_only t) r → IsIn t r
shown_in false t r is = is
shown_in true t r is = go (slice_get t r.key.slot) (sym (slice_get-map only_live t r.key.slot) ∙ is)
  where
    go : (o : Option (Option Record)) → option_map only_live o ≡ Some (Some r) → o ≡ Some (Some r)
    go None h = absurd (none-some (Some r) h)
    go (Some None) h = absurd (none-some r (same_Some None (Some r) h))
    go (Some (Some s)) h = ap (λ x. Some (Some x)) (sym (shown_same true s r (sym (same_Some (only_live (Some s)) (Some r) h))))

-- if a record of the tree is shown, it is in the shown tree
pub in_shown : (live_only : Bool) (t : Tree) (r s : Record) → IsIn t r → Some s ≡ shown_record live_only (Some r) → IsIn (shown live_only t) s
in_shown live_only t r s is e =
    let same = shown_same live_only r s e in
    ap (λ (x : Record). slice_get (shown live_only t) x.key.slot) same ∙ shown_at live_only t r is ∙ ap Some (sym e)

-- if a record that was found is shown, it is in the shown tree
pub met_in : (live_only : Bool) (t : Tree) (o : Option (Bor Record)) (s : Record) → IfSome o (λ r. IsIn t r.now) → Some s ≡ shown_record live_only (option_copied o) → IsIn (shown live_only t) s
met_in live_only t (Some r) s is e = in_shown live_only t r.now s is e
met_in true t None s is e = absurd (none-some s (sym e))
met_in false t None s is e = absurd (none-some s (sym e))

-- the root is shown
pub root_in : (live_only : Bool) (t : Tree) (root : Key) → Lawful t root → IsIn (shown live_only t) (root_record root)
root_in false t root l = l.rooted
root_in true t root l = in_shown true t (root_record root) (root_record root) l.rooted refl

-- what a key finds in the shown tree is the key's record, if that is shown
pub record_shown : (live_only : Bool) (t : Tree) (k : Key) → record_at (shown live_only t) k ≡ shown_record live_only (record_at t k)
record_shown false t k = refl
record_shown true t k = ap (λ o. option_and_then (with_key k) o) (slice_get-map only_live t k.slot) ∙ go (slice_get t k.slot)
  where
    live : (r : Record) → with_key k (only_live (Some r)) ≡ only_live (with_key k (Some r))
    live r = elim (lives r) as (λ b. lives r ≡ b → with_key k (cond b (Some r) None) ≡ only_live (with_key k (Some r))) [
      | true ↦ λ e. elim (same_key r.key k) as (λ s. cond s (Some r) None ≡ only_live (cond s (Some r) None)) [ true ↦ sym (ap (λ b. cond b (Some r) None) e) | false ↦ refl ]
      | false ↦ λ e. elim (same_key r.key k) as (λ s. None ≡ only_live (cond s (Some r) None)) [ true ↦ sym (ap (λ b. cond b (Some r) None) e) | false ↦ refl ]
    ] refl

    go : (o : Option (Option Record)) → option_and_then (with_key k) (option_map only_live o) ≡ only_live (option_and_then (with_key k) o)
    go None = refl
    go (Some None) = refl
    go (Some (Some r)) = live r

-- the record that a key finds has that key
pub shown_key : (live_only : Bool) (t : Tree) (dir : Key) (r : Record) → Some r ≡ shown_record live_only (record_at t dir) → r.key ≡ dir
shown_key live_only t dir r e = (found_in (shown live_only t) dir r (record_shown live_only t dir ∙ sym e)).1

module _ (dir : Key) (test : Record → Bool) where
  abbrev passes : Option Record → Bool
  passes slot = is_under dir test slot

  abbrev NonePasses : Tree → Type 0
  NonePasses t = (j : ℕ) (s : Record) → slice_get t j ≡ Some (Some s) → passes (Some s) ≡ true → ⊥

  -- no two slots have records that pass the test
  abbrev OnePasses : Tree → Type 0
  OnePasses t = (i j : ℕ) (r s : Record) → slice_get t i ≡ Some (Some r) → slice_get t j ≡ Some (Some s) → passes (Some r) ≡ true → passes (Some s) ≡ true → i ≡ j

  none_live : (t : Tree) → NonePasses t → first passes (map only_live t) ≡ None
  none_live [] h = refl
  none_live (None ∷ t) h = none_live t (λ j s e. h (suc j) s e)
  none_live (Some r ∷ t) h = elim (lives r) as (λ b. first passes (cond b (Some r) None ∷ map only_live t) ≡ None) [
    | true ↦ elim (passes (Some r)) as (λ b. passes (Some r) ≡ b → cond b (Some (Some r)) (first passes (map only_live t)) ≡ None) [
      | true ↦ λ e. absurd (h zero r refl e)
      | false ↦ λ e. none_live t (λ j s e. h (suc j) s e)
    ] refl
    | false ↦ none_live t (λ j s e. h (suc j) s e)
  ]

  abbrev the_record : Option (Option Record) → Option Record
  the_record o = option_and_then (λ slot. slot) o

  pub first_live : (t : Tree) → OnePasses t → the_record (first passes (map only_live t)) ≡ only_live (the_record (first passes t))
  first_live [] h = refl
  first_live (None ∷ t) h = first_live t (λ i j r s e f p q. suc_same i j (h (suc i) (suc j) r s e f p q))
    where
      suc_same : (i j : ℕ) → suc i ≡ suc j → i ≡ j
      suc_same i j e = omega (arith, e)
  first_live (Some r ∷ t) h = (let rest = first_live t (λ i j r s e f p q. suc_same i j (h (suc i) (suc j) r s e f p q)) in elim (passes (Some r)) as (λ b. passes (Some r) ≡ b → the_record (first passes (map only_live (Some r ∷ t))) ≡ only_live (the_record (cond b (Some (Some r)) (first passes t)))) [
    | true ↦ λ p. elim (lives r) as (λ b. lives r ≡ b → the_record (first passes (cond b (Some r) None ∷ map only_live t)) ≡ cond b (Some r) None) [
      | true ↦ λ e. ap (λ b. the_record (cond b (Some (Some r)) (first passes (map only_live t)))) p
      | false ↦ λ e. ap the_record (none_live t (λ j s g q. zero_suc j (h zero (suc j) r s refl g p q)))
    ] refl
    | false ↦ λ p. elim (lives r) as (λ b. the_record (first passes (cond b (Some r) None ∷ map only_live t)) ≡ only_live (the_record (first passes t))) [
      | true ↦ ap (λ b. the_record (cond b (Some (Some r)) (first passes (map only_live t)))) p ∙ rest
      | false ↦ rest
    ]
  ] refl)
    where
      suc_same : (i j : ℕ) → suc i ≡ suc j → i ≡ j
      suc_same i j e = omega (arith, e)

      zero_suc : (j : ℕ) → zero ≡ suc j → ⊥
      zero_suc j e = omega (arith, e)

-- what a name finds in the shown tree is the child of that name, if it is shown
pub child_shown : (live_only : Bool) (t : Tree) (root dir : Key) (name : List ℕ) → Lawful t root → child (shown live_only t) dir name ≡ shown_record live_only (child t dir name)
child_shown false t root dir name l = refl
child_shown true t root dir name l = first_live dir (λ (r : Record). bytes_eq r.name name) t (λ i j r s e f p q.
    (let pr = both (is_key dir r.parent) (bytes_eq r.name name) p in
    let ps = both (is_key dir s.parent) (bytes_eq s.name name) q in
    let at_r = l.in_place i r e in
    let at_s = l.in_place j s f in
    let key = l.siblings r s (ap (slice_get t) at_r ∙ e) (ap (slice_get t) at_s ∙ f)
    (key_is dir r.parent pr.0 ∙ sym (key_is dir s.parent ps.0))
    ((bytes_eq-Decides r.name name).0 pr.1 ∙ sym ((bytes_eq-Decides s.name name).0 ps.1)) in
    sym at_r ∙ ap (λ (k : Key). k.slot) key ∙ at_s))

-- if there is no record, nothing is shown
nothing_shown : (live_only : Bool) → None ≡ shown_record live_only None
nothing_shown false = refl
nothing_shown true = refl

-- what a name leads to from a directory whose record is shown
module _ (live_only : Bool) (t : Tree) (root : Key) (name : List ℕ) (l : Lawful t root) (dir : Record)
    (is : IsIn (shown live_only t) dir) (at : Key) (keyed : dir.key ≡ at) where
  abbrev in_dir : Option Record → Result Key Refusal
  in_dir entry = entry_key (Some dir) entry

  known : record_at (shown live_only t) at ≡ Some dir
  known = ap (λ k. record_at (shown live_only t) k) (sym keyed) ∙ in_found (shown live_only t) dir is

  within : (o : Option Record) → o ≡ shown_record live_only (child t at name) → found (shown live_only t) at name ≡ in_dir o
  within o e = ap (λ d. entry_key d (child (shown live_only t) at name)) known ∙ ap in_dir (child_shown live_only t root at name l ∙ sym e)

  pub found_shown : (c : Record) → is_dir dir.node ≡ true → Some c ≡ shown_record live_only (child t at name) → found (shown live_only t) at name ≡ Ok c.key
  found_shown c is_directory e = within (Some c) e ∙ ap (λ b. cond b (Ok c.key) (Err NotDir)) is_directory

  pub no_child_shown : is_dir dir.node ≡ true → None ≡ child t at name → found (shown live_only t) at name ≡ Err NoEntry
  no_child_shown is_directory e = within None (nothing_shown live_only ∙ ap (shown_record live_only) e) ∙ ap (λ b. cond b (Err NoEntry) (Err NotDir)) is_directory

  pub none_shown : is_dir dir.node ≡ true → None ≡ shown_record live_only (child t at name) → found (shown live_only t) at name ≡ Err NoEntry
  none_shown is_directory e = within None e ∙ ap (λ b. cond b (Err NoEntry) (Err NotDir)) is_directory
