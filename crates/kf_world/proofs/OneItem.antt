-- Lists that repeat one item.
use Rattle.std.proofs.Common.{◌≡◌, ℕ, zero, suc, List, refl, ap, sym, ◌∙◌, get_or, replicate}
use Rattle.std.specs.Prelude.{slice_get, Some}
use Rattle.std.proofs.lemmas.Option.{same_Some, none-some}

-- each item of a list that repeats one item is that item
pub same_item : {X : Type 0} (n i : ℕ) (x y : X) → slice_get (replicate n x) i ≡ Some y → y ≡ x
same_item zero i x y h = absurd (none-some y h)
same_item (suc n) zero x y h = sym (same_Some _ _ h)
same_item (suc n) (suc i) x y h = same_item n i x y h

zeros_there : (count place : ℕ) → get_or {A = ℕ} (replicate count 0) place 0 ≡ 0
zeros_there zero place = refl
zeros_there (suc count) zero = refl
zeros_there (suc count) (suc place) = zeros_there count place

-- each item of a list of zeros is 0, and so is what is read past its end
pub zeros_read : (zeros : List ℕ) (count place : ℕ) → zeros ≡ replicate count 0 → get_or zeros place 0 ≡ 0
zeros_read zeros count place is = ap (λ (l : List ℕ). get_or l place 0) is ∙ zeros_there count place
