-- One bit of a word.
use Rattle.std.proofs.Common.{◌≡◌, suc, ◌*◌, ◌%◌, ◌^◌, ◌<◌, ℕ, arith, pow_pos, pow_mono}
use Rattle.std.proofs.Math.Nat.{two-pow-succ}

-- a word has room for each of its bits
pub bit_fits : (k : ℕ) → k < 64 → 2 ^ k < 2 ^ 64
bit_fits k few = omega (arith, two-pow-succ k, pow_pos k, pow_mono {i = suc k} {j = 64} (omega arith))

-- `1 << k` loses no bit
pub one_bit : (k : ℕ) → k < 64 → 1 * 2 ^ k % 2 ^ 64 ≡ 2 ^ k
one_bit k few = let fits = bit_fits k few in omega arith
