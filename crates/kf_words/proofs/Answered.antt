-- The two outcomes of a try, of a look for the drain, of a look whether the node has left, of a hide, and of
-- a look for users while hiding.
use Rattle.std.proofs.Common.{◌≡◌, ℕ, true, false, if◌then◌else◌, Bool, ap}
use Rattle.kf_core.specs.declared.caller.Phase.TheVariants.{Turned, Running, Drained, Parted, Hiding, Hidden}
use Rattle.kf_words.specs.declared.view.CallerView.{CallerView}
use Rattle.kf_words.specs.Layout.{keeps_out, is_drained, has_hide, is_unused, has_linked}
use Rattle.kf_words.specs.Steps.{after_step, with_try, after_try, after_look, after_part, after_hide, after_look_hidden}

pub try_enters : (n : ℕ) (c : CallerView) → keeps_out n ≡ false → after_try n c ≡ after_step Running false n (with_try c)
try_enters n c free = ap (λ (b : Bool). if b then after_step Turned true n (with_try c) else after_step Running false n (with_try c)) free

pub try_refused : (n : ℕ) (c : CallerView) → keeps_out n ≡ true → after_try n c ≡ after_step Turned true n (with_try c)
try_refused n c kept = ap (λ (b : Bool). if b then after_step Turned true n (with_try c) else after_step Running false n (with_try c)) kept

pub look_hits : (n : ℕ) (c : CallerView) → is_drained n ≡ true → after_look n c ≡ after_step Drained false n c
look_hits n c hit = ap (λ (b : Bool). if b then after_step Drained false n c else after_step c.phase c.undo_due n c) hit

pub look_misses : (n : ℕ) (c : CallerView) → is_drained n ≡ false → after_look n c ≡ after_step c.phase c.undo_due n c
look_misses n c miss = ap (λ (b : Bool). if b then after_step Drained false n c else after_step c.phase c.undo_due n c) miss

pub part_gone : (n : ℕ) (c : CallerView) → has_linked n ≡ false → after_part n c ≡ after_step Parted false n c
part_gone n c gone = ap (λ (b : Bool). if b then after_step c.phase c.undo_due n c else after_step Parted false n c) gone

pub part_linked : (n : ℕ) (c : CallerView) → has_linked n ≡ true → after_part n c ≡ after_step c.phase c.undo_due n c
part_linked n c there = ap (λ (b : Bool). if b then after_step c.phase c.undo_due n c else after_step Parted false n c) there

pub hide_sets : (n : ℕ) (c : CallerView) → has_hide n ≡ false → after_hide n c ≡ after_step Hiding false n c
hide_sets n c clear = ap (λ (b : Bool). if b then after_step c.phase c.undo_due n c else after_step Hiding false n c) clear

pub hide_found : (n : ℕ) (c : CallerView) → has_hide n ≡ true → after_hide n c ≡ after_step c.phase c.undo_due n c
hide_found n c set = ap (λ (b : Bool). if b then after_step c.phase c.undo_due n c else after_step Hiding false n c) set

pub look_hidden_hits : (n : ℕ) (c : CallerView) → is_unused n ≡ true → after_look_hidden n c ≡ after_step Hidden false n c
look_hidden_hits n c hit = ap (λ (b : Bool). if b then after_step Hidden false n c else after_step c.phase c.undo_due n c) hit

pub look_hidden_misses : (n : ℕ) (c : CallerView) → is_unused n ≡ false → after_look_hidden n c ≡ after_step c.phase c.undo_due n c
look_hidden_misses n c miss = ap (λ (b : Bool). if b then after_step Hidden false n c else after_step c.phase c.undo_due n c) miss
