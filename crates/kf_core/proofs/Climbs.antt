-- Steps up from key to key.
use Rattle.std.proofs.Common.{◌≡◌, ◌≢◌, ◌⊎◌, inl, inr, ℕ, zero, suc, ◌+◌, ◌-◌, ◌<◌, ◌≤◌, refl, ap, arith, sym, ◌∙◌, true, false, cond}
use Rattle.std.specs.Prelude.{Option, None, Some}
use Rattle.std.specs.Option.{option_and_then}
use Rattle.std.proofs.lemmas.Option.{same_Some, none-some}
use Rattle.std.proofs.lemmas.Bool.Decides.{eqb_tells}
use Rattle.kf_core.specs.declared.key.Key.{Key}
use Rattle.kf_core.specs.Keys.{same_key}
use Rattle.kf_core.specs.Tree.{climb, meets}

pub same_parts : (a b : Key) → a.slot ≡ b.slot → a.generation ≡ b.generation → a ≡ b
same_parts a b s g = (let key : ℕ → ℕ → Key = λ s g. record { slot = s; generation = g } in ap (λ n. key n a.generation) s ∙ ap (key b.slot) g)

-- two keys are the same, or not
pub keys_tell : (a b : Key) → ((same_key a b ≡ true) × (a ≡ b)) ⊎ ((same_key a b ≡ false) × (a ≢ b))
keys_tell a b = elim (eqb_tells a.slot b.slot) [
  | inl s ↦ (elim (eqb_tells a.generation b.generation) [
    | inl g ↦ inl (rw (s.0, g.0) refl, same_parts a b s.1 g.1)
    | inr g ↦ inr (rw (s.0, g.0) refl, λ e. g.1 (ap (λ (k : Key). k.generation) e))
  ])
  | inr s ↦ inr (rw s.0 refl, λ e. s.1 (ap (λ (k : Key). k.slot) e))
]

pub same_key_is : (a b : Key) → same_key a b ≡ true → a ≡ b
same_key_is a b h = elim (keys_tell a b) [ inl e ↦ e.1 | inr e ↦ absurd (cc (h, e.0)) ]

pub same_key_self : (a : Key) → same_key a a ≡ true
same_key_self a = elim (keys_tell a a) [ inl e ↦ e.0 | inr e ↦ absurd (e.1 refl) ]

-- a climb begins with its first step
pub first_step : (up : Key → Option Key) (n : ℕ) (k x : Key) → climb up (suc n) k ≡ Some x → (p : Key) × (up k ≡ Some p) × (climb up n p ≡ Some x)
first_step up n k x h = elim (up k) as (λ o. option_and_then (climb up n) o ≡ Some x → (p : Key) × (o ≡ Some p) × (climb up n p ≡ Some x)) [
  | None ↦ λ e. absurd (none-some x e)
  | Some p ↦ λ e. (p, refl, e)
] h

pub after_step : (up : Key → Option Key) (n : ℕ) (k p : Key) → up k ≡ Some p → climb up (suc n) k ≡ climb up n p
after_step up n k p e = ap (λ o. option_and_then (climb up n) o) e

-- a longer climb goes on from the key that a shorter one has reached
pub climb_rest : (up : Key → Option Key) (a b : ℕ) (k m : Key) → climb up a k ≡ Some m → climb up (a + b) k ≡ climb up b m
climb_rest up zero b k m h = (let s : 0 + b ≡ b = omega arith in ap (λ n. climb up n k) s ∙ ap (climb up b) (same_Some k m h))
climb_rest up (suc a) b k m h = (let f = first_step up a k m h in let s : suc a + b ≡ suc (a + b) = omega arith in
    ap (λ n. climb up n k) s ∙ after_step up (a + b) k f.0 f.1 ∙ climb_rest up a b f.0 m f.2)

-- a climb can be cut in two
pub climb_cut : (up : Key → Option Key) (a b : ℕ) (k x : Key) → climb up (a + b) k ≡ Some x → (m : Key) × (climb up a k ≡ Some m) × (climb up b m ≡ Some x)
climb_cut up zero b k x h = (let s : 0 + b ≡ b = omega arith in (k, refl, rw s at h))
climb_cut up (suc a) b k x h =
    (let s : suc a + b ≡ suc (a + b) = omega arith in
    let f = first_step up (a + b) k x (rw s at h) in
    let c = climb_cut up a b f.0 x f.2 in
    (c.0, after_step up a k f.0 f.1 ∙ c.1, c.2))

-- only one number of steps leads to a key from which no step leads up
pub climb_unique : (up : Key → Option Key) (top : Key) → up top ≡ None → (a b : ℕ) (k : Key) → climb up a k ≡ Some top → climb up b k ≡ Some top → a ≡ b
climb_unique up top e zero zero k h g = refl
climb_unique up top e zero (suc b) k h g = (let f = first_step up b k top g in absurd (none-some f.0 (sym e ∙ ap up (sym (same_Some k top h)) ∙ f.1)))
climb_unique up top e (suc a) zero k h g = (let f = first_step up a k top h in absurd (none-some f.0 (sym e ∙ ap up (sym (same_Some k top g)) ∙ f.1)))
climb_unique up top e (suc a) (suc b) k h g =
    (let f = first_step up a k top h in let f' = first_step up b k top g in
    let same : f'.0 ≡ f.0 = same_Some f'.0 f.0 (sym f'.1 ∙ f.1) in
    ap suc (climb_unique up top e a b f.0 f.2 (ap (climb up b) (sym same) ∙ f'.2)))

-- no way to such a key meets a key twice
pub no_return : (up : Key → Option Key) (top : Key) → up top ≡ None → (n i : ℕ) (k : Key) → climb up n k ≡ Some top → climb up (suc i) k ≡ Some k → ⊥
no_return up top e n i k h g =
    (let same : suc i + n ≡ n = climb_unique up top e (suc i + n) n k (climb_rest up (suc i) n k k g ∙ h) h in absurd (omega arith))

-- two ways up lead to the same key if they take the same step from each key on the way
pub climb_same : (up up' : Key → Option Key) (n : ℕ) (k : Key) → ((i : ℕ) (m : Key) → i < n → climb up i k ≡ Some m → up m ≡ up' m) → climb up n k ≡ climb up' n k
climb_same up up' zero k h = refl
climb_same up up' (suc n) k h =
    elim (up k) as (λ o. up k ≡ o → option_and_then (climb up n) o ≡ option_and_then (climb up' n) o) [
      | None ↦ λ e. refl
      | Some p ↦ λ e. climb_same up up' n p (λ i m l c. h (suc i) m (omega arith) (after_step up i k p e ∙ c))
    ] refl
    ∙ ap (λ o. option_and_then (climb up' n) o) (h 0 k (omega arith) refl)

pub meets_to : (up : Key → Option Key) (m : ℕ) (top k : Key) → meets up m top (Some k) ≡ true → (n : ℕ) × (n ≤ m) × (climb up n k ≡ Some top)
meets_to up zero top k h = (0, omega arith, ap Some (same_key_is k top h))
meets_to up (suc m) top k h = elim (keys_tell k top) [
  | inl e ↦ (0, omega arith, ap Some e.1)
  | inr e ↦ elim (up k) as (λ o. up k ≡ o → meets up m top o ≡ true → (n : ℕ) × (n ≤ suc m) × (climb up n k ≡ Some top)) [
    | None ↦ λ u r. absurd (let x : false ≡ true = r in cc)
    | Some p ↦ λ u r. (let g = meets_to up m top p r in (suc g.0, omega (arith, g.1), after_step up g.0 k p u ∙ g.2))
  ]
      refl (let rest : meets up m top (up k) ≡ true = rw e.0 at h in rest)
]

pub meets_from : (up : Key → Option Key) (m n : ℕ) (top k : Key) → n ≤ m → climb up n k ≡ Some top → meets up m top (Some k) ≡ true
meets_from up zero zero top k l h = (let e : same_key k top ≡ true = ap (λ x. same_key x top) (same_Some k top h) ∙ same_key_self top in e)
meets_from up zero (suc n) top k l h = absurd (omega arith)
meets_from up (suc m) zero top k l h = (let e : same_key k top ≡ true = ap (λ x. same_key x top) (same_Some k top h) ∙ same_key_self top in rw e refl)
meets_from up (suc m) (suc n) top k l h =
    (let f = first_step up n k top h in
    let r : meets up m top (up k) ≡ true = rw f.1 (meets_from up m n top f.0 (omega arith) f.2) in
    elim (keys_tell k top) [ inl e ↦ rw e.0 refl | inr e ↦ rw e.0 r ])

-- after one more of n steps, what is left to climb starts from the parent
pub meets_more : (up : Key → Option Key) (n i : ℕ) (top k p : Key) → i < n → same_key k top ≡ false → up k ≡ Some p → meets up (n - i) top (Some k) ≡ meets up (n - (i + 1)) top (Some p)
meets_more up n i top k p l e u = (let s : n - i ≡ suc (n - (i + 1)) = omega arith in
    ap (λ j. meets up j top (Some k)) s ∙ ap (λ b. cond b true (meets up (n - (i + 1)) top (up k))) e ∙ ap (λ o. meets up (n - (i + 1)) top o) u)

pub meets_none : (up : Key → Option Key) (n i : ℕ) (top k : Key) → i < n → same_key k top ≡ false → up k ≡ None → meets up (n - i) top (Some k) ≡ false
meets_none up n i top k l e u = (let s : n - i ≡ suc (n - (i + 1)) = omega arith in
    ap (λ j. meets up j top (Some k)) s ∙ ap (λ b. cond b true (meets up (n - (i + 1)) top (up k))) e ∙ ap (λ o. meets up (n - (i + 1)) top o) u ∙ none_meets (n - (i + 1)))
  where
    none_meets : (j : ℕ) → meets up j top None ≡ false
    none_meets zero = refl
    none_meets (suc j) = refl

pub meets_here : (up : Key → Option Key) (n : ℕ) (top k : Key) → same_key k top ≡ true → meets up n top (Some k) ≡ true
meets_here up zero top k e = e
meets_here up (suc n) top k e = rw e refl
