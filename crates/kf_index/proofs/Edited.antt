-- What an insert at a gap, or a removal at a place, does to pairs in rising order of their names.
use Rattle.std.proofs.Common.{◌≡◌, ℕ, zero, suc, ◌+◌, ◌-◌, ◌<◌, true, false, cond, Bool, List, [], ◌∷◌, length, get_or, Some, None, sym, ap, ◌∙◌, refl, subst, arith, inl, inr}
use Rattle.std.proofs.lemmas.Bool.{cases_order}
use mathlib.Core.Bool.{false≢true}
use Rattle.std.specs.List.{insert, remove}
use Rattle.std.specs.Ordering.{nat_cmp}
use Rattle.std.specs.Cmp.Lexicographic.{slice_cmp}
use Rattle.std.specs.FinMap as map_of
use Rattle.std.specs.FinMap.{get-from_entries, get-insert, get-remove, len-empty, len-insert, same_map, slice_cmp-IsAntisymmetric, nat_cmp-IsAntisymmetric}
use Rattle.std.proofs.lemmas.Cmp.{nat_list_cmp_total}
use Rattle.std.proofs.lemmas.List.Edits.{length-insert, get_or-insert_below, get_or-insert_at, get_or-insert_above}
use Rattle.std.proofs.lemmas.List.Quantifiers.{all_pairs_remove}
use Rattle.kf_core.specs.declared.key.Key.{Key}
use Rattle.kf_core.specs.Names.{IsBefore}
use Rattle.kf_index.specs.Pairs.{Pairs, IsRising, IsPlaceOf, IsGapFor}
use Rattle.kf_index.proofs.Found.{is_same, find_name, entries_of, same_itself, differs_below, name_of_same, NoneBefore, none_in_tail, find_none, none_before_gap, none_before_place, get_in_gap}

-- two tests that cannot both pass can be made in either order
either_first : {A : Type 0} (a b : Bool) (x y z : A) → (a ≡ true → b ≡ true → ⊥) → cond a x (cond b y z) ≡ cond b y (cond a x z)
either_first true true x y z apart = absurd (apart refl refl)
either_first true false x y z apart = refl
either_first false b x y z apart = refl

-- a name cannot be the same as two names that differ
apart : (name a b : List ℕ) → is_same a b ≡ false → is_same name b ≡ true → is_same name a ≡ true → ⊥
apart name a b differ is_b is_a =
    let same : a ≡ b = sym (name_of_same name a is_a) ∙ name_of_same name b is_b in
    false≢true (sym differ ∙ ap (λ c. is_same c b) same ∙ same_itself b)

pub find-insert : (pairs : Pairs) (name : List ℕ) (key : Key) (at : ℕ) → NoneBefore pairs name at
    → (q : List ℕ) → find_name q (insert pairs at (name, key)) ≡ cond (is_same q name) (Some key) (find_name q pairs)
find-insert pairs name key zero none q = refl
find-insert [] name key (suc at) none q = refl
find-insert (e ∷ pairs) name key (suc at) none q =
    rw (find-insert pairs name key at (none_in_tail e pairs name at none) q)
    (either_first (is_same q e.0) (is_same q name) (Some e.1) (Some key) (find_name q pairs) (apart q name e.0 (none 0 e (omega arith))))

-- after the place of a name, the name does not come again
none_later : (e : List ℕ × Key) (pairs : Pairs) (name : List ℕ) → IsRising (e ∷ pairs) → e.0 ≡ name → NoneBefore pairs name (length pairs)
none_later e pairs name rising is i d below = rw (← is) (differs_below e.0 (get_or pairs i d).0 (rising 0 (suc i) d (omega arith) (omega (arith, below))))

rising_tail : (e : List ℕ × Key) (pairs : Pairs) → IsRising (e ∷ pairs) → IsRising pairs
rising_tail e pairs rising i j d low high = rising (suc i) (suc j) d (omega arith) (omega (arith, high))

-- the map has as many names as there are pairs, since no name comes twice
pub len_of_rising : (pairs : Pairs) → IsRising pairs → map_of.len (entries_of pairs) ≡ length pairs
len_of_rising [] rising = len-empty _ _
len_of_rising (e ∷ pairs) rising =
    let none = get-from_entries nat_list_cmp_total pairs e.0 ∙ find_none pairs e.0 (none_later e pairs e.0 rising refl) in
    let as_many = len_of_rising pairs (rising_tail e pairs rising) in
    rw (len-insert nat_list_cmp_total (entries_of pairs) e.0 e.1, none, as_many) (omega arith)

place_in_tail : (e : List ℕ × Key) (pairs : Pairs) (name : List ℕ) (at : ℕ) → IsPlaceOf (e ∷ pairs) name (suc at) → IsPlaceOf pairs name at
place_in_tail e pairs name at place = record { within = omega (arith, place.within); named = place.named }

pub find-remove : (pairs : Pairs) → IsRising pairs → (name : List ℕ) (at : ℕ) → IsPlaceOf pairs name at
    → (q : List ℕ) → find_name q (remove pairs at) ≡ cond (is_same q name) None (find_name q pairs)
find-remove [] rising name at place q = absurd (omega (arith, place.within))
find-remove (e ∷ pairs) rising name zero place q =
    let is : e.0 ≡ name = place.named e in
    elim (is_same q name) as (λ b. is_same q name ≡ b → find_name q pairs ≡ cond b None (cond (is_same q e.0) (Some e.1) (find_name q pairs))) [
      | true ↦ λ h. find_none pairs q (rw (name_of_same q name h) (none_later e pairs name rising is))
      | false ↦ λ h. rw (is, h)
    ] refl
find-remove (e ∷ pairs) rising name (suc at) place q =
    let before = none_before_place (e ∷ pairs) rising name (suc at) place 0 e (omega arith) in
    rw (find-remove pairs (rising_tail e pairs rising) name at (place_in_tail e pairs name at place) q)
    (either_first (is_same q e.0) (is_same q name) (Some e.1) None (find_name q pairs) (apart q name e.0 before))

names_agree : (x y : List ℕ) → slice_cmp nat_cmp x y ≡ Rattle.std.specs.declared.cmp.Ordering.TheVariants.Equal → x ≡ y
names_agree = slice_cmp-IsAntisymmetric nat_cmp-IsAntisymmetric

module _ (pairs : Pairs) (name : List ℕ) (at : ℕ) (gap : IsGapFor pairs name at) where
  pub entries-insert : (key : Key) → entries_of (insert pairs at (name, key)) ≡ map_of.insert (entries_of pairs) name key
  entries-insert key = same_map nat_list_cmp_total names_agree _ _ (λ q.
      get-from_entries nat_list_cmp_total _ q
      ∙ find-insert pairs name key at (none_before_gap pairs name at gap) q
      ∙ sym (get-insert nat_list_cmp_total _ name key q ∙ ap (cond (is_same q name) (Some key)) (get-from_entries nat_list_cmp_total pairs q)))

module _ (pairs : Pairs) (rising : IsRising pairs) (name : List ℕ) (at : ℕ) (place : IsPlaceOf pairs name at) where
  pub entries-remove : entries_of (remove pairs at) ≡ map_of.remove (entries_of pairs) name
  entries-remove = same_map nat_list_cmp_total names_agree _ _ (λ q.
      get-from_entries nat_list_cmp_total _ q
      ∙ find-remove pairs rising name at place q
      ∙ sym (get-remove nat_list_cmp_total _ name q ∙ ap (cond (is_same q name) None) (get-from_entries nat_list_cmp_total pairs q)))

  pub rising_remove : IsRising (remove pairs at)
  rising_remove = all_pairs_remove (λ a b. IsBefore a.0 b.0) pairs at place.within rising

module _ (pairs : Pairs) (name : List ℕ) (at : ℕ) (gap : IsGapFor pairs name at) (key : Key) where
  -- the place that each pair of the new list had before
  below : (i : ℕ) (d : List ℕ × Key) → i < at → get_or (insert pairs at (name, key)) i d ≡ get_or pairs i d
  below i d low = get_or-insert_below pairs at (name, key) d i low gap.within

  above : (i : ℕ) (d : List ℕ × Key) → at < i → get_or (insert pairs at (name, key)) i d ≡ get_or pairs (i - 1) d
  above i d high = subst (λ q. get_or (insert pairs at (name, key)) q d ≡ get_or pairs (i - 1) d) {x = i - 1 + 1} (omega arith) (get_or-insert_above pairs at (name, key) d (i - 1) (omega arith) gap.within)

  here : (i : ℕ) (d : List ℕ × Key) → i ≡ at → get_or (insert pairs at (name, key)) i d ≡ (name, key)
  here i d is = rw is (get_or-insert_at pairs at (name, key) d gap.within)

  pub rising_insert : IsRising pairs → IsRising (insert pairs at (name, key))
  rising_insert rising i j d low high =
      let shorter : j < length pairs + 1 = rw (← length-insert pairs at (name, key) gap.within) high in
      elim (cases_order i at) [
        | inl is ↦ rw (here i d is, above j d (omega arith)) (gap.higher (j - 1) d (omega arith) (omega arith))
        | inr (inl under) ↦ elim (cases_order j at) [
          | inl is ↦ rw (below i d under, here j d is) (gap.lower i d under)
          | inr (inl lower) ↦ rw (below i d under, below j d lower) (rising i j d low (omega (arith, gap.within)))
          | inr (inr higher) ↦ rw (below i d under, above j d higher) (rising i (j - 1) d (omega arith) (omega arith))
        ]
        | inr (inr over) ↦ rw (above i d over, above j d (omega arith)) (rising (i - 1) (j - 1) d (omega arith) (omega arith))
      ]

-- removing a name that is not found changes nothing
pub remove_absent : (pairs : Pairs) (name : List ℕ) (at : ℕ) → IsGapFor pairs name at → entries_of pairs ≡ map_of.remove (entries_of pairs) name
remove_absent pairs name at gap = same_map nat_list_cmp_total names_agree _ _ (λ q. sym (get-remove nat_list_cmp_total _ name q ∙ unchanged q))
  where
    unchanged : (q : List ℕ) → cond (is_same q name) None (map_of.get (entries_of pairs) q) ≡ map_of.get (entries_of pairs) q
    unchanged q = elim (is_same q name) as (λ b. is_same q name ≡ b → cond b None (map_of.get (entries_of pairs) q) ≡ map_of.get (entries_of pairs) q) [
      | true ↦ λ h. rw (name_of_same q name h) (sym (get_in_gap pairs name at gap))
      | false ↦ λ h. refl
    ] refl
