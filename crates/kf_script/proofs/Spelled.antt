-- Words that are spelled alike, byte by byte.
use Rattle.std.proofs.Common.{◌≡◌, ℕ, ◌+◌, ◌<◌, ◌≤◌, List, [], ◌∷◌, ◌++◌, true, take, get_or, length, arith, sym, ◌∙◌, add-one}
use Rattle.std.proofs.Math.Seq.{take-suc}
use Rattle.std.proofs.lemmas.List.{take_all}
use Rattle.std.proofs.lemmas.Slice.Eq.{bytes_eq-Decides}
use Rattle.std.specs.Str.{bytes_eq}

-- one more byte is the same
pub alike-more : (xs ys : List ℕ) (i : ℕ) → i < length xs → i < length ys → take i xs ≡ take i ys → get_or xs i 0 ≡ get_or ys i 0 → take (i + 1) xs ≡ take (i + 1) ys
alike-more xs ys i inside below front here =
    let left : take (i + 1) xs ≡ take i xs ++ get_or xs i 0 ∷ [] = rw add-one (take-suc xs i 0 inside) in
    let right : take (i + 1) ys ≡ take i ys ++ get_or ys i 0 ∷ [] = rw add-one (take-suc ys i 0 below) in
    cc (left, right, front, here)

-- all bytes are the same
pub alike : (xs ys : List ℕ) (n : ℕ) → length xs ≡ length ys → length ys ≤ n → take n xs ≡ take n ys → true ≡ bytes_eq xs ys
alike xs ys n same end front =
    let is : xs ≡ ys = sym (take_all n xs (omega (arith, same, end))) ∙ front ∙ take_all n ys end in
    sym ((bytes_eq-Decides xs ys).1 is)
