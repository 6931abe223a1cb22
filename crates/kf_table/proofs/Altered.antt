-- A change to the record in one slot.
use Rattle.std.proofs.Common.{◌≡◌, ◌≢◌, ◌↔◌, IsTrue, false, true, ltb, ℕ, zero, suc, ◌<◌, ◌≤◌, refl, ap, arith, sym, ◌∙◌, List, [], ◌∷◌, length}
use Rattle.std.specs.Prelude.{Option, None, Some, slice_get, slice_set}
use Rattle.std.specs.Option.{option_map, option_and_then}
use Rattle.std.proofs.lemmas.List.{set-set}
use Rattle.std.proofs.lemmas.Option.{none-some, slice_get_within, slice_get_past, slice_get-get_or}
use Rattle.std.proofs.lemmas.Bool.{ltb-true, lt-ltb}
use Rattle.kf_core.specs.declared.records.Record.{Record}
use Rattle.kf_core.specs.Tree.{Tree}
use Rattle.kf_table.specs.Changes.{with_changed_slot}
use Rattle.kf_core.proofs.Lists.{length_set, slice_get-set_same, slice_get-set_other}

module _ (f : Record → Record) where
  abbrev pub on : Option (Option Record) → Option (Option Record)
  on o = option_map (option_map f) o

  pub altered_other : (t : Tree) (slot j : ℕ) → slot ≢ j → slice_get (with_changed_slot f t slot) j ≡ slice_get t j
  altered_other t slot j n = slice_get-set_other t slot j _ (λ e. n (sym e))

  pub altered_at : (t : Tree) (slot j : ℕ) → slot ≡ j → slice_get (with_changed_slot f t slot) j ≡ on (slice_get t j)
  altered_at t slot j e = ap (λ i. slice_get (with_changed_slot f t i) j) e ∙ go (slice_get t j) refl
    where
      go : (o : Option (Option Record)) → slice_get t j ≡ o → slice_get (slice_set t j (option_and_then (λ place. option_map f place) (slice_get t j))) j ≡ on (slice_get t j)
      go (Some place) h = slice_get-set_same t j (option_and_then (λ place. option_map f place) (slice_get t j)) (slice_get_within t j place h)
          ∙ ap (λ o. Some (option_and_then (λ place. option_map f place) o)) h ∙ ap on (sym h)
      go None h = elim (slice_get (with_changed_slot f t j) j) as (λ o. slice_get (with_changed_slot f t j) j ≡ o → slice_get (with_changed_slot f t j) j ≡ on (slice_get t j)) [
        | None ↦ λ g. g ∙ ap on (sym h)
        | Some place ↦ λ g. absurd (none-some place (sym (slice_get_past (with_changed_slot f t j) j (short (slice_get_is_past t j h))) ∙ g))
      ] refl
        where
          slice_get_is_past : (xs : List (Option Record)) (i : ℕ) → slice_get xs i ≡ None → length xs ≤ i
          slice_get_is_past [] i h = omega arith
          slice_get_is_past (x ∷ xs) zero h = absurd (none-some x (sym h))
          slice_get_is_past (x ∷ xs) (suc i) h = (let r = slice_get_is_past xs i h in omega arith)

          short : length t ≤ j → length (with_changed_slot f t j) ≤ j
          short h = (let e = length_set t j (option_and_then (λ place. option_map f place) (slice_get t j)) in omega arith)

-- the record in a slot, if there is one
abbrev pub record_in : Tree → ℕ → Option Record
record_in t slot = option_and_then (λ entry. entry) (slice_get t slot)

-- a record is taken out of its slot and put back changed
pub put_back_changed : (f : Record → Record) (t : Tree) (slot : ℕ) (r : Record) → Some r ≡ record_in t slot → slice_set (slice_set t slot None) slot (Some (f r)) ≡ with_changed_slot f t slot
put_back_changed f t slot r is = set-set t slot None (Some (f r)) ∙ ap (slice_set t slot) (go (slice_get t slot) is)
  where
    go : (o : Option (Option Record)) → Some r ≡ option_and_then (λ entry. entry) o → Some (f r) ≡ option_and_then (option_map f) o
    go None h = absurd (none-some r (sym h))
    go (Some place) h = ap (option_map f) h

-- ---- whether a slot is vacant

pub not_vacant : (t : Tree) (slot : ℕ) (r : Record) → Some r ≡ record_in t slot → IsTrue false ↔ (slice_get t slot ≡ Some None)
not_vacant t slot r is = (
  (λ no. absurd (let x : false ≡ true = no in cc)),
  (λ vacant. absurd (none-some r (sym (is ∙ ap (option_and_then (λ entry. entry)) vacant)))),
)

pub vacant_within : (t : Tree) (slot n : ℕ) → n ≡ length t → None ≡ record_in t slot → IsTrue (ltb slot n) ↔ (slice_get t slot ≡ Some None)
vacant_within t slot n as_many none = (
  (λ low. let within : slot < length t = rw (← as_many) (ltb-true slot n low) in
      let there = slice_get-get_or t slot None within in
      there ∙ ap Some (sym (none ∙ ap (option_and_then (λ entry. entry)) there))),
  (λ vacant. lt-ltb slot n (rw as_many (slice_get_within t slot None vacant))),
)
