-- Names in byte order.
use Rattle.std.proofs.Common.{◌≡◌, ℕ, refl, ap, sym, ◌∙◌, true, false, List}
use Rattle.std.specs.declared.cmp.Ordering.{Ordering}
use Rattle.std.specs.declared.cmp.Ordering.TheVariants.{Less, Equal, Greater}
use Rattle.std.specs.Ordering.{nat_cmp, is_lt, is_eq, ordering_reverse}
use Rattle.std.specs.Cmp.Lexicographic.{slice_cmp}
use Rattle.std.proofs.lemmas.Cmp.{nat_list_cmp_total}
use Rattle.std.proofs.lemmas.Map.Text.{is_eq-slice_cmp}
use Rattle.std.proofs.lemmas.Slice.Eq.{bytes_eq-Decides}
use Rattle.kf_table.specs.Next.{before}

pub before_less : (a b : List ℕ) → before a b ≡ true → slice_cmp nat_cmp a b ≡ Less
before_less a b h = elim (slice_cmp nat_cmp a b) as (λ o. is_lt o ≡ true → o ≡ Less) [
  | Less ↦ λ e. refl
  | Equal ↦ λ e. absurd (let x : false ≡ true = e in cc)
  | Greater ↦ λ e. absurd (let x : false ≡ true = e in cc)
] h

pub less_before : (a b : List ℕ) → slice_cmp nat_cmp a b ≡ Less → before a b ≡ true
less_before a b h = ap is_lt h

pub before_not_back : (a b : List ℕ) → before a b ≡ true → before b a ≡ false
before_not_back a b h = ap is_lt (nat_list_cmp_total.antisymm b a ∙ ap ordering_reverse (before_less a b h))

pub before_not_self : (a : List ℕ) → before a a ≡ false
before_not_self a = elim (before a a) as (λ b. before a a ≡ b → b ≡ false) [ true ↦ λ e. sym e ∙ before_not_back a a e | false ↦ λ e. refl ] refl

pub before_trans : (a b c : List ℕ) → before a b ≡ true → before b c ≡ true → before a c ≡ true
before_trans a b c h g = less_before a c (nat_list_cmp_total.trans a b c (before_less a b h) (before_less b c g))

pub before_ties : (a b : List ℕ) → before a b ≡ false → before b a ≡ false → a ≡ b
before_ties a b h g = (bytes_eq-Decides a b).0 (sym (is_eq-slice_cmp a b) ∙ go (slice_cmp nat_cmp a b) refl)
  where
    go : (o : Ordering) → slice_cmp nat_cmp a b ≡ o → is_eq (slice_cmp nat_cmp a b) ≡ true
    go Less e = absurd (let x : true ≡ false = sym (less_before a b e) ∙ h in cc)
    go Equal e = ap is_eq e
    go Greater e = absurd (let x : true ≡ false = sym (less_before b a (nat_list_cmp_total.antisymm b a ∙ ap ordering_reverse e)) ∙ g in cc)

-- if a first name is not before a second, nor the second before a third, the first is not before the third
pub before_skip : (a b c : List ℕ) → before a b ≡ false → before b c ≡ false → before a c ≡ false
before_skip a b c h g = elim (before a c) as (λ v. before a c ≡ v → v ≡ false) [
  | true ↦ λ e. elim (before b a) as (λ v. before b a ≡ v → true ≡ false) [
    | true ↦ λ f. sym (before_trans b a c f e) ∙ g
    | false ↦ λ f. (let same = before_ties a b h f in sym e ∙ ap (λ x. before x c) same ∙ g)
  ] refl
  | false ↦ λ e. refl
] refl
