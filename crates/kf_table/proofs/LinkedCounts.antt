-- How many slots have a record when one slot changes.
use Rattle.std.proofs.Common.{◌≡◌, ℕ, zero, suc, ◌+◌, ◌<◌, refl, ap, arith, sym, ◌∙◌, Bool, true, false, [], ◌∷◌, length, replicate, cond, slice_set, get_or, Bor}
use Rattle.std.specs.Prelude.{Option, None, Some, slice_get, count_by, is_some}
use Rattle.std.specs.Option.{option_map, option_and_then, option_copied}
use Rattle.std.proofs.lemmas.Option.{none-some, slice_get-get_or}
use Rattle.std.proofs.lemmas.List.Folds.{sum_by-replicate}
use Rattle.std.proofs.lemmas.List.Sums.{count_by-le-length}
use Rattle.kf_core.specs.declared.records.Record.{Record}
use Rattle.kf_core.specs.Tree.{Tree}
use Rattle.kf_core.proofs.Lists.{length_set}
use Rattle.kf_table.specs.Changes.{with_changed_slot}
use Rattle.kf_table.proofs.Altered.{record_in}
use Rattle.kf_table.proofs.Kept.{count_written}

abbrev empty_slots : ℕ → Tree
empty_slots n = replicate n None

pub none_counted : (n : ℕ) → count_by is_some (empty_slots n) ≡ 0
none_counted n = (let e = sum_by-replicate (λ (o : Option Record). cond (is_some o) 1 0) n None in omega (arith, e))

past : (t : Tree) (slot : ℕ) (entry : Option Record) → slice_get t slot ≡ None → slice_set t slot entry ≡ t
past [] slot entry h = refl
past (x ∷ xs) zero entry h = absurd (none-some x (sym h))
past (x ∷ xs) (suc i) entry h = ap (λ (ys : Tree). x ∷ ys) (past xs i entry h)

count_changed : (f : Record → Record) (t : Tree) (slot : ℕ) → count_by is_some (with_changed_slot f t slot) ≡ count_by is_some t
count_changed f t slot = go (slice_get t slot) refl
  where
    go : (o : Option (Option Record)) → slice_get t slot ≡ o → count_by is_some (slice_set t slot (option_and_then (option_map f) o)) ≡ count_by is_some t
    go None h = ap (λ (u : Tree). count_by is_some u) (past t slot None h)
    go (Some None) h = (let d = count_written is_some t slot None None h in omega (arith, d))
    go (Some (Some r)) h = (let d = count_written is_some t slot (Some r) (Some (f r)) h in omega (arith, d))

pub still : (f : Record → Record) (t u : Tree) (slot n : ℕ) → n ≡ count_by is_some t → u ≡ with_changed_slot f t slot → n ≡ count_by is_some u
still f t u slot n counted is = counted ∙ sym (ap (λ (v : Tree). count_by is_some v) is ∙ count_changed f t slot)

-- what a write of one slot does to the number of slots that have a record
written : (t : Tree) (slot : ℕ) (new : Option Record) (had : Bool) → slot < length t → is_some (record_in t slot) ≡ had → count_by is_some (slice_set t slot new) + cond had 1 0 ≡ count_by is_some t + cond (is_some new) 1 0
written t slot new had within is =
    (let entry : Option Record = get_or t slot None in
    let there : slice_get t slot ≡ Some entry = slice_get-get_or t slot None within in
    let same : is_some entry ≡ had = ap (λ o. is_some (option_and_then (λ (e : Option Record). e) o)) (sym there) ∙ is in
    let d = count_written is_some t slot entry new there in
    let e : ◌≡◌ {A = ℕ} (cond (is_some entry) 1 0) (cond had 1 0) = ap (λ b. cond {A = ℕ} b 1 0) same in
    omega (arith, d, e))

-- whether a slot has a record, from what was read of it
seen : (t : Tree) (slot : ℕ) (had : Bool) (found : Option (Bor Record)) → option_copied found ≡ record_in t slot → is_some found ≡ had → is_some (record_in t slot) ≡ had
seen t slot had found known is = ap is_some (sym known) ∙ same found ∙ is
  where
    same : (o : Option (Bor Record)) → is_some (option_copied o) ≡ is_some o
    same None = refl
    same (Some b) = refl

module _ (t : Tree) (slot : ℕ) (r : Record) (found : Option (Bor Record)) (within : slot < length t) (known : option_copied found ≡ record_in t slot) where
  -- one more record
  pub one_more : is_some found ≡ false → count_by is_some (slice_set t slot (Some r)) ≡ count_by is_some t + 1
  one_more none = (let d = written t slot (Some r) false within (seen t slot false found known none) in omega (arith, d))

  -- a record in place of one that was there
  pub as_many : is_some found ≡ true → count_by is_some (slice_set t slot (Some r)) ≡ count_by is_some t
  as_many some = (let d = written t slot (Some r) true within (seen t slot true found known some) in omega (arith, d))

  -- if the slot had no record, not every slot has one
  pub not_all : is_some found ≡ false → count_by is_some t < length t
  not_all none =
      (let more = one_more none in
      let most = count_by-le-length is_some (slice_set t slot (Some r)) in
      let same = length_set t slot (Some r) in
      omega (arith, more, most, same))

module _ (t : Tree) (slot : ℕ) (taken : Option Record) (is : taken ≡ record_in t slot) where
  -- one record fewer
  pub one_less : is_some taken ≡ true → count_by is_some (slice_set t slot None) + 1 ≡ count_by is_some t
  one_less some = go (slice_get t slot) refl (ap is_some (sym is) ∙ some)
    where
      go : (o : Option (Option Record)) → slice_get t slot ≡ o → is_some (option_and_then (λ (e : Option Record). e) o) ≡ true → count_by is_some (slice_set t slot None) + 1 ≡ count_by is_some t
      go None h e = absurd (let no : false ≡ true = e in cc)
      go (Some None) h e = absurd (let no : false ≡ true = e in cc)
      go (Some (Some r)) h e = (let d = count_written is_some t slot (Some r) None h in omega (arith, d))

  -- if the slot had no record, the number stays the same
  pub none_less : is_some taken ≡ false → count_by is_some (slice_set t slot None) ≡ count_by is_some t
  none_less none = go (slice_get t slot) refl (ap is_some (sym is) ∙ none)
    where
      go : (o : Option (Option Record)) → slice_get t slot ≡ o → is_some (option_and_then (λ (e : Option Record). e) o) ≡ false → count_by is_some (slice_set t slot None) ≡ count_by is_some t
      go None h e = ap (λ (u : Tree). count_by is_some u) (past t slot None h)
      go (Some None) h e = (let d = count_written is_some t slot None None h in omega (arith, d))
      go (Some (Some r)) h e = absurd (let no : true ≡ false = e in cc)
