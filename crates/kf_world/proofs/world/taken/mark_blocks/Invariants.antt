-- A mark that is set lies in the range or was set before, marks stay set, and the range is marked as far as
-- the loop has come.
use Rattle.std.proofs.Common.{◌≡◌, ℕ, ◌<◌, ◌≤◌, ◌⊎◌, length}
use Rattle.std.specs.Prelude.{slice_index}
use Rattle.std.specs.Int.{bit_at}
use Rattle.kf_world.proofs.world.taken.mark_blocks.Given as goal

abbrev pub invariant-loop-place : goal.invariant-loop-place
invariant-loop-place l = record {
  as_many : length l.blocks.items ≡ length l.initial.blocks.items;
  marked : (place bit : ℕ) → bit_at (slice_index l.blocks.items place) bit ≡ 1 → ((l.first ≤ place) × (place < l.end)) ⊎ (bit_at (slice_index l.initial.blocks.items place) bit ≡ 1);
  each : (place bit : ℕ) → l.first ≤ place → place < l.place → place < length l.blocks.items → bit < 64 → bit_at (slice_index l.blocks.items place) bit ≡ 1;
  kept : (place bit : ℕ) → bit < 64 → bit_at (slice_index l.initial.blocks.items place) bit ≡ 1 → bit_at (slice_index l.blocks.items place) bit ≡ 1;
}
