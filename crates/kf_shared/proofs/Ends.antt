-- The last key of a list, and those before it.
use Rattle.std.proofs.Common.{◌≡◌, ◌≢◌, ℕ, zero, suc, ◌+◌, ◌-◌, ◌<◌, refl, ap, arith, sym, ◌∙◌, subst, List, [], ◌∷◌, ◌++◌, length, take}
use Rattle.std.specs.Prelude.{Contains, AllPairs, slice_index_or}
use Rattle.kf_core.specs.declared.key.Key.{Key}

length_end : (xs : List Key) (x : Key) → length (xs ++ x ∷ []) ≡ length xs + 1
length_end [] x = refl
length_end (y ∷ ys) x = (let r = length_end ys x in omega (arith, r))

at_end : (xs : List Key) (x d : Key) → slice_index_or (xs ++ x ∷ []) (length xs) d ≡ x
at_end [] x d = refl
at_end (y ∷ ys) x d = at_end ys x d

before_end : (xs : List Key) (x d : Key) (i : ℕ) → i < length xs → slice_index_or (xs ++ x ∷ []) i d ≡ slice_index_or xs i d
before_end [] x d i l = absurd (omega (arith, l))
before_end (y ∷ ys) x d zero l = refl
before_end (y ∷ ys) x d (suc i) l = before_end ys x d i (omega (arith, l))

-- if the keys of a list all differ, each key before the last differs from the last
pub not_last : (keys below : List Key) (top key : Key) → AllPairs (λ a b. a ≢ b) keys → keys ≡ below ++ top ∷ [] → Contains below key → key ≢ top
not_last keys below top key differ parts h e =
    subst (λ ks. AllPairs (λ a b. a ≢ b) ks) parts differ h.0 (length below) key h.1 (let n = length_end below top in omega (arith, n))
    (before_end below top key h.0 h.1 ∙ h.2 ∙ e ∙ sym (at_end below top key))

take_front : (front : List Key) (top : Key) → take (length front) (front ++ top ∷ []) ≡ front
take_front [] top = refl
take_front (x ∷ xs) top = ap (λ ys. x ∷ ys) (take_front xs top)

-- the keys before the last
pub all_but_last : (keys front seen : List Key) (top : Key) (n : ℕ) → keys ≡ front ++ top ∷ [] → seen ≡ keys → n ≡ length seen → take (n - 1) seen ≡ front
all_but_last keys front seen top n whole same long =
    ap (λ xs. take (n - 1) xs) (same ∙ whole) ∙ ap (λ i. take i (front ++ top ∷ [])) fewer ∙ take_front front top
  where
    fewer : n - 1 ≡ length front
    fewer = (let a = length_end front top in let b = ap length (same ∙ whole) in omega (arith, a, b, long))
