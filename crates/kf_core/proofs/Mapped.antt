-- A tree in which each record is changed, but not its key.
use Rattle.std.proofs.Common.{◌≡◌, inl, inr, ℕ, refl, ap, sym, ◌∙◌, true, false}
use Rattle.std.specs.Prelude.{Option, None, Some, slice_get, map}
use Rattle.std.specs.Option.{option_map, option_and_then}
use Rattle.std.proofs.lemmas.Option.{same_Some, none-some, slice_get-map}
use Rattle.kf_core.specs.declared.key.Key.{Key}
use Rattle.kf_core.specs.declared.records.Record.{Record}
use Rattle.kf_core.specs.Keys.{same_key}
use Rattle.kf_core.specs.Tree.{Tree, with_key, record_at, IsIn}
use Rattle.kf_core.proofs.Climbs.{keys_tell}

module _ (t : Tree) (g : Record → Record) (same : (r : Record) → (g r).key ≡ r.key) where
  abbrev pub mapped : Tree
  mapped = map (option_map g) t

  -- the record in a slot comes from the record that was there
  pub from_slot : (slot : ℕ) (r' : Record) → slice_get mapped slot ≡ Some (Some r') → (r : Record) × (slice_get t slot ≡ Some (Some r)) × (r' ≡ g r)
  from_slot slot r' h =
      elim (slice_get t slot) as (λ o. slice_get t slot ≡ o → option_map (option_map g) o ≡ Some (Some r') → (r : Record) × (slice_get t slot ≡ Some (Some r)) × (r' ≡ g r)) [
        | None ↦ λ e f. absurd (none-some (Some r') f)
        | Some place ↦ λ e f. elim place as (λ p. slice_get t slot ≡ Some p → Some (option_map g p) ≡ Some (Some r') → (r : Record) × (slice_get t slot ≡ Some (Some r)) × (r' ≡ g r)) [
          | None ↦ λ e f. absurd (none-some r' (same_Some None (Some r') f))
          | Some r ↦ λ e f. (r, e, sym (same_Some (g r) r' (same_Some (Some (g r)) (Some r') f)))
        ] e f
      ]
      refl (sym (slice_get-map (option_map g) t slot) ∙ h)

  pub to_slot : (slot : ℕ) (r : Record) → slice_get t slot ≡ Some (Some r) → slice_get mapped slot ≡ Some (Some (g r))
  to_slot slot r h = slice_get-map (option_map g) t slot ∙ ap (option_map (option_map g)) h

  pub mapped_from : (r' : Record) → IsIn mapped r' → (r : Record) × (IsIn t r) × (r' ≡ g r)
  mapped_from r' h =
      (let f = from_slot r'.key.slot r' h in
      let e : r'.key ≡ f.0.key = ap (λ (x : Record). x.key) f.2 ∙ same f.0 in
      (f.0, ap (λ (k : Key). slice_get t k.slot) (sym e) ∙ f.1, f.2))

  pub mapped_to : (r : Record) → IsIn t r → IsIn mapped (g r)
  mapped_to r h = ap (λ (k : Key). slice_get mapped k.slot) (same r) ∙ to_slot r.key.slot r h

  pub find_mapped : (k : Key) → record_at mapped k ≡ option_map g (record_at t k)
  find_mapped k = ap (λ o. option_and_then (λ p. with_key k p) o) (slice_get-map (option_map g) t k.slot) ∙ go (slice_get t k.slot)
    where
      in_place : (r : Record) → with_key k (Some (g r)) ≡ option_map g (with_key k (Some r))
      in_place r = elim (keys_tell r.key k) [
        | inl e ↦ (let e' : same_key (g r).key k ≡ true = ap (λ x. same_key x k) (same r) ∙ e.0 in rw (e.0, e') refl)
        | inr e ↦ (let e' : same_key (g r).key k ≡ false = ap (λ x. same_key x k) (same r) ∙ e.0 in rw (e.0, e') refl)
      ]

      go : (o : Option (Option Record)) → option_and_then (λ p. with_key k p) (option_map (option_map g) o) ≡ option_map g (option_and_then (λ p. with_key k p) o)
      go None = refl
      go (Some None) = refl
      go (Some (Some r)) = in_place r
