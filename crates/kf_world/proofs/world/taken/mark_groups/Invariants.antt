-- A mark that is set lies in the range or was set before, marks stay set, and the range is marked as far as
-- the loop has come.
use Rattle.std.proofs.Common.{◌≡◌, ℕ, ◌<◌, ◌≤◌, ◌⊎◌, length, true}
use Rattle.std.specs.Prelude.{slice_get, Some}
use Rattle.kf_world.proofs.world.taken.mark_groups.Given as goal

abbrev pub invariant-loop-place : goal.invariant-loop-place
invariant-loop-place l = record {
  as_many : length l.groups.items ≡ length l.initial.groups.items;
  marked : (place : ℕ) → slice_get l.groups.items place ≡ Some true → ((l.first ≤ place) × (place < l.end)) ⊎ (slice_get l.initial.groups.items place ≡ Some true);
  each : (place : ℕ) → l.first ≤ place → place < l.place → place < length l.groups.items → slice_get l.groups.items place ≡ Some true;
  kept : (place : ℕ) → slice_get l.initial.groups.items place ≡ Some true → slice_get l.groups.items place ≡ Some true;
}
