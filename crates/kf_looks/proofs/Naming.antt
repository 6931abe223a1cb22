-- What the tests of directories and names show, and what one more link does to the links.
use Rattle.std.proofs.Common.{◌≡◌, ◌≢◌, ◌⊎◌, inl, inr, ℕ, true, false, List, ◌∷◌, refl, ap, ◌∙◌, cond}
use Rattle.std.proofs.lemmas.Bool.{and_parts, and_from}
use Rattle.std.proofs.lemmas.Bool.Decides.{eqb_tells}
use Rattle.std.proofs.lemmas.Slice.Eq.{bytes_eq-Decides}
use Rattle.std.specs.Str.{bytes_eq}
use Rattle.kf_core.specs.declared.key.Key.{Key}
use Rattle.kf_core.specs.Keys.{same_key}
use Rattle.kf_looks.specs.declared.view.Link.{Link}
use Rattle.kf_looks.specs.Links.{is_of, child_of}

same_parts : (a b : Key) → a.slot ≡ b.slot → a.generation ≡ b.generation → a ≡ b
same_parts a b s g = (let key : ℕ → ℕ → Key = λ s g. record { slot = s; generation = g } in ap (λ n. key n a.generation) s ∙ ap (key b.slot) g)

-- the test of two keys says whether they are the same
pub keys_tell : (a b : Key) → ((same_key a b ≡ true) × (a ≡ b)) ⊎ ((same_key a b ≡ false) × (a ≢ b))
keys_tell a b = elim (eqb_tells a.slot b.slot) [
  | inl s ↦ (elim (eqb_tells a.generation b.generation) [
    | inl g ↦ inl (rw (s.0, g.0) refl, same_parts a b s.1 g.1)
    | inr g ↦ inr (rw (s.0, g.0) refl, λ e. g.1 (ap (λ (k : Key). k.generation) e))
  ])
  | inr s ↦ inr (rw s.0 refl, λ e. s.1 (ap (λ (k : Key). k.slot) e))
]

key_true : (a b : Key) → same_key a b ≡ true → a ≡ b
key_true a b h = elim (keys_tell a b) [ inl e ↦ e.1 | inr e ↦ absurd (cc (h, e.0)) ]

key_own : (a : Key) → same_key a a ≡ true
key_own a = elim (keys_tell a a) [ inl e ↦ e.0 | inr e ↦ absurd (e.1 refl) ]

-- a link that passes the test for a directory and a name has that directory and that name
pub of_tells : (dir : Key) (name : List ℕ) (l : Link) → is_of dir name l ≡ true → (l.dir ≡ dir) × (l.name ≡ name)
of_tells dir name l e = let p = and_parts (same_key l.dir dir) (bytes_eq l.name name) e in
    (key_true l.dir dir p.0, (bytes_eq-Decides l.name name).0 p.1)

pub of_own : (l : Link) → is_of l.dir l.name l ≡ true
of_own l = and_from (same_key l.dir l.dir) (bytes_eq l.name l.name) (key_own l.dir) ((bytes_eq-Decides l.name l.name).1 refl)

-- a name leads to the child of its last link
pub first_link : (links : List Link) (l : Link) → child_of (l ∷ links) l.dir l.name ≡ l.child
first_link links l = rw (of_own l) refl

-- a link of another name changes nothing
pub other_link : (links : List Link) (l : Link) (dir : Key) (name : List ℕ) → (l.dir ≡ dir → l.name ≡ name → ⊥)
    → child_of (l ∷ links) dir name ≡ child_of links dir name
other_link links l dir name apart =
    elim (is_of dir name l) as (λ b. is_of dir name l ≡ b → cond b l.child (child_of links dir name) ≡ child_of links dir name) [
      | true ↦ λ e. let p = of_tells dir name l e in absurd (apart p.0 p.1)
      | false ↦ λ e. refl
    ] refl
