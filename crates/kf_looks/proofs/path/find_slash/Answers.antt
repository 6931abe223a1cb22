use Rattle.std.proofs.Common.{◌≡◌, ◌≢◌, ℕ, ◌≤◌, List, ap, ◌∙◌, arith, map, take, length, position, Some}
use Rattle.std.specs.Int.Count.{count_trailing_zeros}
use Rattle.std.specs.Simd.Lanes.{mask_l}
use Rattle.kf_core.specs.Paths.{is_slash}
use Rattle.kf_looks.proofs.Slashes.{first_in_mask}
use Rattle.kf_looks.proofs.path.find_slash.Goals as goal

-- a mask that is not empty shows the first slash
first_found : (text : List ℕ) (n mask : ℕ) → n ≤ 64 → n ≤ length text → mask ≡ mask_l (map is_slash (take n text)) → mask ≢ 0
    → Some (count_trailing_zeros 64 mask) ≡ position is_slash text
first_found text n mask few long told some =
    ap (λ m. Some (count_trailing_zeros 64 m)) told ∙ first_in_mask is_slash text n few long (λ none. some (told ∙ none))

pub returns-then-found-ne0 : goal.returns-then-found-ne0
returns-then-found-ne0 c = record {
  first = first_found c.args.text.now 16 c.slashes_of_sixteen-found.result (omega arith) (omega (arith, c.if-text-ge16.true))
      c.slashes_of_sixteen-found.ensures.told c.if-found-ne0.true;
}

pub returns-then-found-ne0-2 : goal.returns-then-found-ne0-2
returns-then-found-ne0-2 c = record {
  first = first_found c.args.text.now 8 c.slashes_of_eight-found.result (omega arith) (omega (arith, c.if-text-ge8.true))
      c.slashes_of_eight-found.ensures.told c.if-found-ne0-2.true;
}
