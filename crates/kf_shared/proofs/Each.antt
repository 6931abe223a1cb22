-- Lists of handles that are related item by item.
use Rattle.std.proofs.Common.{◌≡◌, List, [], ◌∷◌, ◌++◌, refl, ap, ◌∙◌}
use Rattle.kf_words.specs.Callers.{Handle, IsSameSeat}
use Rattle.kf_shared.specs.Receipts.{Owner, owner, owners_of}
use Rattle.kf_shared.specs.Sections.{Each}
use Rattle.kf_shared.proofs.Receipts.{same_owner}

pub each_self : (R : Handle → Handle → Type 0) → ((x : Handle) → R x x) → (xs : List Handle) → Each R xs xs
each_self R self [] = tt
each_self R self (x ∷ xs) = (self x, each_self R self xs)

pub each_more : (R : Handle → Handle → Type 0) → (xs ys : List Handle) (x y : Handle) → Each R xs ys → R x y → Each R (xs ++ x ∷ []) (ys ++ y ∷ [])
each_more R [] [] x y e r = (r, tt)
each_more R [] (b ∷ ys) x y e r = absurd e
each_more R (a ∷ xs) [] x y e r = absurd e
each_more R (a ∷ xs) (b ∷ ys) x y e r = (e.0, each_more R xs ys x y e.1 r)

pub each_both : (R : Handle → Handle → Type 0) → (xs ys more others : List Handle) → Each R xs ys → Each R more others → Each R (xs ++ more) (ys ++ others)
each_both R [] [] more others e f = f
each_both R [] (y ∷ ys) more others e f = absurd e
each_both R (x ∷ xs) [] more others e f = absurd e
each_both R (x ∷ xs) (y ∷ ys) more others e f = (e.0, each_both R xs ys more others e.1 f)

pub each_then : (R S T : Handle → Handle → Type 0) → ((x y z : Handle) → R x y → S y z → T x z) → (xs ys zs : List Handle) → Each R xs ys → Each S ys zs → Each T xs zs
each_then R S T on [] [] [] e f = tt
each_then R S T on [] [] (z ∷ zs) e f = absurd f
each_then R S T on [] (y ∷ ys) zs e f = absurd e
each_then R S T on (x ∷ xs) [] zs e f = absurd e
each_then R S T on (x ∷ xs) (y ∷ ys) [] e f = absurd f
each_then R S T on (x ∷ xs) (y ∷ ys) (z ∷ zs) e f = (on x y z e.0 f.0, each_then R S T on xs ys zs e.1 f.1)

pub each_as : (R S : Handle → Handle → Type 0) → ((x y : Handle) → R x y → S x y) → (xs ys : List Handle) → Each R xs ys → Each S xs ys
each_as R S by [] [] e = tt
each_as R S by [] (y ∷ ys) e = absurd e
each_as R S by (x ∷ xs) [] e = absurd e
each_as R S by (x ∷ xs) (y ∷ ys) e = (by x y e.0, each_as R S by xs ys e.1)

-- a list that is related to a list in two parts has two parts itself
pub each_split : (R : Handle → Handle → Type 0) → (xs front back : List Handle) → Each R xs (front ++ back) → (first : List Handle) × (last : List Handle) × (xs ≡ first ++ last) × Each R first front × Each R last back
each_split R xs [] back e = ([], xs, refl, tt, e)
each_split R [] (y ∷ front) back e = absurd e
each_split R (x ∷ xs) (y ∷ front) back e =
    (let r = each_split R xs front back e.1 in (x ∷ r.0, r.1, ap (λ l. x ∷ l) r.2, (e.0, r.3), r.4))

pub each_owners : (R : Handle → Handle → Type 0) → ((x y : Handle) → R x y → IsSameSeat x y) → (xs ys : List Handle) → Each R xs ys → owners_of ys ≡ owners_of xs
each_owners R seat [] [] e = refl
each_owners R seat [] (y ∷ ys) e = absurd e
each_owners R seat (x ∷ xs) [] e = absurd e
each_owners R seat (x ∷ xs) (y ∷ ys) e =
    ap (λ (o : Owner). o ∷ owners_of ys) (same_owner x y (seat x y e.0)) ∙ ap (λ (os : List Owner). owner x ∷ os) (each_owners R seat xs ys e.1)
