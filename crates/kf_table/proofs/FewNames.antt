-- A directory has at most as many names as there are slots, since no two of its names lead to the same slot.
use Rattle.std.proofs.Common.{◌≡◌, ◌≢◌, inl, inr, ℕ, ◌<◌, ◌≤◌, ◌^◌, refl, ap, arith, sym, ◌∙◌, subst, Bool, true, false, List, [], ◌∷◌, length, map}
use Rattle.std.specs.Prelude.{T, None, Some, slice_get, ◌&&◌, ◌==◌}
use Rattle.std.specs.Option.{option_and_then, option_map_or}
use Rattle.std.specs.List.{AllByRecursion, IsDistinct, list_any}
use Rattle.std.specs.Ordering.{nat_cmp, is_lt, is_eq}
use Rattle.std.specs.Cmp.Lexicographic.{slice_cmp}
use Rattle.std.specs.declared.cmp.Ordering.{Ordering}
use Rattle.std.specs.declared.cmp.Ordering.TheVariants.{Less, Equal, Greater}
use Rattle.std.specs.FinMap.{find, get, len, entries, is_sorted, entries_sorted, get-entries, len-entries}
use Rattle.std.specs.FinMap.Entries.{below_all}
use Rattle.std.proofs.lemmas.Option.{same_Some, none-some, slice_get_within}
use Rattle.std.proofs.lemmas.Bool.Decides.{eqb_tells}
use Rattle.std.proofs.lemmas.List.{length-map}
use Rattle.std.proofs.lemmas.Map.Steps.{length-le_from_distinct_below}
use Rattle.kf_core.specs.declared.key.Key.{Key}
use Rattle.kf_core.specs.declared.records.Record.{Record}
use Rattle.kf_core.specs.Tree.{Tree}
use Rattle.kf_table.specs.declared.directory.Directory.{Directory}
use Rattle.kf_table.specs.Directories.{names_at, IsEntry, AreKept}
use Rattle.kf_table.proofs.Entries.{names_tell}

left_of : (a b : Bool) → T (a && b) → T a
left_of true b h = tt
left_of false b h = h

right_of : (a b : Bool) → T (a && b) → T b
right_of true b h = h
right_of false b h = absurd h

-- ---- among pairs in the order of their names

abbrev Pair : Type 0
Pair = List ℕ × Key

abbrev order : List ℕ → List ℕ → Ordering
order = slice_cmp nat_cmp

apart_of_lower : (r : Ordering) → T (is_lt r) → is_eq r ≡ false
apart_of_lower Less h = refl
apart_of_lower Equal h = absurd h
apart_of_lower Greater h = refl

lower_differs : (a b : List ℕ) → T (is_lt (order a b)) → a ≢ b
lower_differs a b low = elim (names_tell a b) [
  | inl same ↦ (let no : true ≡ false = sym same.0 ∙ apart_of_lower (order a b) low in cc)
  | inr other ↦ other.1
]

-- a name below all others is not among them
find_lower : (name : List ℕ) (es : List Pair) → T (below_all order name es) → find order name es ≡ None
find_lower name [] low = refl
find_lower name (e ∷ es) low = rw (apart_of_lower (order name e.0) (left_of _ _ low)) (find_lower name es (right_of _ _ low))

-- the first of the pairs is found, and so are the later ones
find_first : (e : Pair) (es : List Pair) → find order e.0 (e ∷ es) ≡ Some e.1
find_first e es = elim (names_tell e.0 e.0) [ inl same ↦ rw same.0 refl | inr other ↦ absurd (other.1 refl) ]

find_later : (e : Pair) (es : List Pair) → T (below_all order e.0 es) → (name : List ℕ) (key : Key) → find order name es ≡ Some key → find order name (e ∷ es) ≡ Some key
find_later e es low name key found = elim (names_tell name e.0) [
  | inl same ↦ absurd (none-some key (sym (find_lower name es (subst (λ x. T (below_all order x es)) (sym same.1) low)) ∙ found))
  | inr other ↦ rw other.0 found
]

-- ---- if each pair is an entry of one directory

-- entries that lead to the same slot have the same name
one_name : (t : Tree) (slot : ℕ) (a b : List ℕ) (k l : Key) → IsEntry t slot a k → IsEntry t slot b l → k.slot ≡ l.slot → a ≡ b
one_name t slot a b k l i j same =
    let slots : i.child.key.slot ≡ j.child.key.slot = ap (λ (x : Key). x.slot) i.has_key ∙ same ∙ ap (λ (x : Key). x.slot) (sym j.has_key) in
    let one : i.child ≡ j.child = same_Some i.child j.child (same_Some (Some i.child) (Some j.child) (sym i.is_in ∙ ap (slice_get t) slots ∙ j.is_in)) in
    sym i.named ∙ ap (λ (r : Record). r.name) one ∙ j.named

entry_low : (t : Tree) (slot : ℕ) (name : List ℕ) (key : Key) → IsEntry t slot name key → key.slot < length t
entry_low t slot name key i = slice_get_within t key.slot (Some i.child) (ap (λ (k : Key). slice_get t k.slot) (sym i.has_key) ∙ i.is_in)

module _ (t : Tree) (slot : ℕ) where
  abbrev AreEntries : List Pair → Type 0
  AreEntries es = (name : List ℕ) (key : Key) → find order name es ≡ Some key → IsEntry t slot name key

  abbrev slots : List Pair → List ℕ
  slots es = map (λ (e : Pair). e.1.slot) es

  later_entries : (e : Pair) (es : List Pair) → T (below_all order e.0 es) → AreEntries (e ∷ es) → AreEntries es
  later_entries e es low all name key found = all name key (find_later e es low name key found)

  -- the slots that the pairs lead to are slots of the table, and no two of them are the same
  slots_low : (es : List Pair) → T (is_sorted order es) → AreEntries es → (q : ℕ) → list_any (λ x. q == x) (slots es) ≡ true → q < length t
  slots_low [] rises all q h = let no : false ≡ true = h in cc
  slots_low (e ∷ es) rises all q h =
      let low = left_of _ _ rises in
      elim (eqb_tells q e.1.slot) [
        | inl same ↦ rw same.1 (entry_low t slot e.0 e.1 (all e.0 e.1 (find_first e es)))
        | inr other ↦ slots_low es (right_of _ _ rises) (later_entries e es low all) q (rw other.0 at h)
      ]

  no_later_slot : (e : Pair) → IsEntry t slot e.0 e.1 → (es : List Pair) → T (below_all order e.0 es) → T (is_sorted order es) → AreEntries es
      → AllByRecursion (λ (q : ℕ). (e.1.slot == q) ≡ false) (slots es)
  no_later_slot e i [] low rises all = tt
  no_later_slot e i (f ∷ es) low rises all = (
    elim (eqb_tells e.1.slot f.1.slot) [
      | inl same ↦ absurd (lower_differs e.0 f.0 (left_of _ _ low) (one_name t slot e.0 f.0 e.1 f.1 i (all f.0 f.1 (find_first f es)) same.1))
      | inr other ↦ other.0
    ],
    no_later_slot e i es (right_of _ _ low) (right_of _ _ rises) (later_entries f es (left_of _ _ rises) all),
  )

  slots_apart : (es : List Pair) → T (is_sorted order es) → AreEntries es → IsDistinct (λ a b. a == b) (slots es)
  unfolding IsDistinct
  slots_apart [] rises all = tt
  slots_apart (e ∷ es) rises all =
      let low = left_of _ _ rises in
      let later = later_entries e es low all in
      (no_later_slot e (all e.0 e.1 (find_first e es)) es low (right_of _ _ rises) later, slots_apart es (right_of _ _ rises) later)

  few_entries : (es : List Pair) → T (is_sorted order es) → AreEntries es → length es ≤ length t
  few_entries es rises all =
      let few = length-le_from_distinct_below (slots es) (length t) (slots_apart es rises all) (slots_low es rises all) in
      rw length-map at few

-- ---- in an index that is kept right

as_many_slots : (t : Tree) (ds : List Directory) (slot : ℕ) → AreKept t ds → names_at ds slot ≤ length t
as_many_slots t ds slot kept = elim (slice_get ds slot) as (λ o. slice_get ds slot ≡ o → option_map_or (λ (d : Directory). len d.index) o 0 ≤ length t) [
  | None ↦ λ none. omega arith
  | Some d ↦ λ there. rw (len-entries d.index) (few_entries t slot (entries d.index) (entries_sorted d.index) (λ name key found.
      (kept.entries slot name key).0 (ap (λ o. option_and_then (λ (d : Directory). get d.index name) o) there ∙ get-entries d.index name ∙ found)))
] refl

pub few_names : (t : Tree) (ds : List Directory) (slot : ℕ) → AreKept t ds → names_at ds slot < 2 ^ 32
few_names t ds slot kept =
    let most = as_many_slots t ds slot kept in
    let few = kept.few in
    omega (arith, most, few)
