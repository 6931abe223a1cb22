-- Tests of a child, and of a list that has an item which passes.
use Rattle.std.proofs.Common.{◌≡◌, ℕ, zero, suc, refl, ap, ◌∙◌, Bool, true, false, cond, List, [], ◌∷◌}
use Rattle.std.specs.Prelude.{Option, None, Some, slice_get, ◌&&◌, ◌||◌}
use Rattle.std.specs.List.{find as first, list_any}
use Rattle.std.proofs.lemmas.Option.{same_Some, none-some}
use Rattle.kf_core.specs.declared.key.Key.{Key}
use Rattle.kf_table.specs.Children.{is_key}
use Rattle.kf_core.proofs.Climbs.{same_key_is, same_key_self}

pub both : (a b : Bool) → (a && b) ≡ true → (a ≡ true) × (b ≡ true)
both true true h = (refl, refl)
both true false h = absurd (let x : false ≡ true = h in cc)
both false b h = absurd (let x : false ≡ true = h in cc)

pub key_is : (dir : Key) (parent : Option Key) → is_key dir parent ≡ true → parent ≡ Some dir
key_is dir None h = absurd (let x : false ≡ true = h in cc)
key_is dir (Some p) h = ap Some (same_key_is p dir h)

pub is_key_self : (dir : Key) (parent : Option Key) → parent ≡ Some dir → is_key dir parent ≡ true
is_key_self dir parent e = ap (is_key dir) e ∙ same_key_self dir

-- if some item of a list passes, some item is the first to pass
pub some_first : {X : Type 0} (p : X → Bool) (xs : List X) (i : ℕ) (x : X) → slice_get xs i ≡ Some x → p x ≡ true → (y : X) × (first p xs ≡ Some y) × (p y ≡ true)
some_first p [] i x h e = absurd (none-some x h)
some_first p (y ∷ xs) zero x h e = (let is : p y ≡ true = ap p (same_Some y x h) ∙ e in (y, ap (λ b. cond b (Some y) (first p xs)) is, is))
some_first p (y ∷ xs) (suc i) x h e = elim (p y) as (λ b. p y ≡ b → (z : _) × (cond b (Some y) (first p xs) ≡ Some z) × (p z ≡ true)) [
  | true ↦ λ is. (y, refl, is)
  | false ↦ λ is. some_first p xs i x h e
] refl

pub some_any : {X : Type 0} (p : X → Bool) (xs : List X) (i : ℕ) (x : X) → slice_get xs i ≡ Some x → p x ≡ true → list_any p xs ≡ true
some_any p [] i x h e = absurd (none-some x h)
some_any p (y ∷ xs) zero x h e = (let is : p y ≡ true = ap p (same_Some y x h) ∙ e in rw is refl)
some_any p (y ∷ xs) (suc i) x h e = (let rest = some_any p xs i x h e in rw rest (elim (p y) as (λ b. (b || true) ≡ true) [ true ↦ refl | false ↦ refl ]))
