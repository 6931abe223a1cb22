-- The attributes of a group are checked one after another.
use Rattle.std.proofs.Common.{◌≡◌, ℕ, Bool, true, false, cond, List, [], ◌∷◌, ◌+◌, ◌-◌, ◌<◌, add-one, length, take, drop, get_or, ap, refl, ◌∙◌, sym}
use Rattle.std.specs.Prelude.{Option, None, Some, not, ◌&&◌, ◌||◌, filter}
use Rattle.std.proofs.lemmas.List.{length-drop}
use Rattle.std.proofs.Math.Seq.{drop-cons, take-length}
use Rattle.std.specs.List.{list_any}
use Rattle.std.specs.Str.{bytes_eq}
use Rattle.kf_core.specs.declared.refusal.Refusal.{Refusal}
use Rattle.kf_core.specs.declared.refusal.Refusal.TheVariants.{Exists}
use Rattle.kf_core.specs.Refusals.{unless, first_cause}
use Rattle.kf_groups.specs.declared.attribute.Attribute.{Attribute}
use Rattle.kf_groups.specs.Attributes.{is_shown, shown, has_name, files_cause, shown_cause}

pub any_filter : {X : Type 0} (p q : X → Bool) (xs : List X) → list_any (λ x. q x && p x) xs ≡ list_any p (filter q xs)
any_filter p q [] = refl
any_filter p q (x ∷ xs) = elim (q x) as (λ b. (b && p x || list_any (λ y. q y && p y) xs) ≡ list_any p (cond b (x ∷ filter q xs) (filter q xs))) [
  | true ↦ ap (λ b. p x || b) (any_filter p q xs)
  | false ↦ any_filter p q xs
]

pub any_shown : (attributes : List Attribute) (name : List ℕ)
    → list_any (λ a. is_shown a && bytes_eq a.name.now name) attributes ≡ has_name (shown attributes) name
any_shown attributes name = any_filter (λ a. bytes_eq a.name.now name) is_shown attributes

-- if nothing is wrong with the first attribute, the cause is that of the later ones
pub one_more : (fault : Attribute → Option Refusal) (left later : List Attribute) (a : Attribute) → left ≡ a ∷ later
    → shown_cause fault a later ≡ None → files_cause fault (shown left) ≡ files_cause fault (shown later)
one_more fault left later a parts none = ap (λ xs. files_cause fault (shown xs)) parts ∙ elim (is_shown a) as (λ b.
    cond b (first_cause (fault a ∷ unless (not (has_name (shown later) a.name.now)) Exists ∷ [])) None ≡ None
    → files_cause fault (cond b (a ∷ shown later) (shown later)) ≡ files_cause fault (shown later)) [
      | true ↦ passes (fault a) (unless (not (has_name (shown later) a.name.now)) Exists)
      | false ↦ λ _. refl
    ] none
  where
    passes : (first second : Option Refusal) → first_cause (first ∷ second ∷ []) ≡ None
        → first_cause (first ∷ second ∷ files_cause fault (shown later) ∷ []) ≡ files_cause fault (shown later)
    passes (Some refusal) second given = cc
    passes None (Some refusal) given = cc
    passes None None given = last (files_cause fault (shown later))
      where
        last : (o : Option Refusal) → first_cause (o ∷ []) ≡ o
        last (Some refusal) = refl
        last None = refl

-- if something is wrong with the first attribute, that is the cause
pub stops : (fault : Attribute → Option Refusal) (left later : List Attribute) (a : Attribute) (refusal : Refusal) → left ≡ a ∷ later
    → shown_cause fault a later ≡ Some refusal → files_cause fault (shown left) ≡ Some refusal
stops fault left later a refusal parts some = ap (λ xs. files_cause fault (shown xs)) parts ∙ elim (is_shown a) as (λ b.
    cond b (first_cause (fault a ∷ unless (not (has_name (shown later) a.name.now)) Exists ∷ [])) None ≡ Some refusal
    → files_cause fault (cond b (a ∷ shown later) (shown later)) ≡ Some refusal) [
      | true ↦ stopped (fault a) (unless (not (has_name (shown later) a.name.now)) Exists)
      | false ↦ λ given. cc
    ] some
  where
    stopped : (first second : Option Refusal) → first_cause (first ∷ second ∷ []) ≡ Some refusal
        → first_cause (first ∷ second ∷ files_cause fault (shown later) ∷ []) ≡ Some refusal
    stopped (Some other) second same = same
    stopped None (Some other) same = same
    stopped None None given = cc

-- taking all items that are left from a place on gives the rest of the list from there
pub rest_of : {X : Type 0} (all : List X) (i : ℕ) → take (length all - i) (drop i all) ≡ drop i all
rest_of all i = ap (λ n. take n (drop i all)) (sym (length-drop i all)) ∙ take-length (drop i all)

split_at : (all : List Attribute) (i : ℕ) (d : Attribute) → i < length all → drop i all ≡ get_or all i d ∷ drop (i + 1) all
split_at all i d inside = drop-cons all i d inside ∙ ap (λ n. get_or all i d ∷ drop n all) (sym (add-one i))

pub one_at : (fault : Attribute → Option Refusal) (all : List Attribute) (i : ℕ) (d : Attribute) → i < length all
    → None ≡ shown_cause fault (get_or all i d) (take (length all - (i + 1)) (drop (i + 1) all))
    → files_cause fault (shown (drop i all)) ≡ files_cause fault (shown (drop (i + 1) all))
one_at fault all i d inside none =
    one_more fault (drop i all) (drop (i + 1) all) (get_or all i d) (split_at all i d inside)
    (ap (shown_cause fault (get_or all i d)) (sym (rest_of all (i + 1))) ∙ sym none)

pub stops_at : (fault : Attribute → Option Refusal) (all : List Attribute) (i : ℕ) (d : Attribute) (refusal : Refusal) → i < length all
    → Some refusal ≡ shown_cause fault (get_or all i d) (take (length all - (i + 1)) (drop (i + 1) all))
    → files_cause fault (shown (drop i all)) ≡ Some refusal
stops_at fault all i d refusal inside some =
    stops fault (drop i all) (drop (i + 1) all) (get_or all i d) refusal (split_at all i d inside)
    (ap (shown_cause fault (get_or all i d)) (sym (rest_of all (i + 1))) ∙ sym some)
