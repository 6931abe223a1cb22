-- The bytes before the first zero byte.
use Rattle.std.proofs.Common.{◌≡◌, ◌≤◌, ℕ, Bool, true, false, List, Some, None, cond, length, position, take, sym, refl}
use Rattle.std.specs.List.{position_or_len}
use Rattle.std.specs.Prelude.{◌==◌}
use Rattle.std.proofs.lemmas.List.{take_all}
use borrow.Author.Tests.{ltb-false}
use Rattle.kf_text.specs.Readings.{until_zero}

cut : (b : Bool) (n end : ℕ) (bytes : List ℕ) → cond b (Some n) None ≡ Some end → take end bytes ≡ take n bytes
cut true n end bytes same = cc
cut false n end bytes same = absurd (cc)

pub front : (bytes : List ℕ) (end : ℕ) → position (λ byte. byte == 0) bytes ≡ Some end
    → take end bytes ≡ until_zero bytes
front bytes end at = cut _ (position_or_len (λ byte. byte == 0) bytes) end bytes at

none_of : (b : Bool) (n : ℕ) → cond b (Some n) None ≡ None → b ≡ false
none_of true n e = absurd (cc)
none_of false n e = refl

pub whole : (bytes : List ℕ) → position (λ byte. byte == 0) bytes ≡ None → bytes ≡ until_zero bytes
whole bytes nowhere =
    let past : length bytes ≤ position_or_len (λ byte. byte == 0) bytes =
    ltb-false _ _ (none_of _ (position_or_len (λ byte. byte == 0) bytes) nowhere) in
    sym (take_all (position_or_len (λ byte. byte == 0) bytes) bytes past)
