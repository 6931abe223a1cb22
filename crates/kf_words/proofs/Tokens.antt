-- In contracts the Master's token is the seat inside it: what a step requires or says of one of them, it
-- requires or says of both.
use Rattle.std.proofs.Common.{◌≡◌, ℕ, [], sym, ap, ◌∙◌, subst}
use mathlib.Core.Option.{none}
use Rattle.atomic_table.specs.Table.{State, Step, step, Allows, Splits, Joins}
use Rattle.atomic_table.specs.declared.shared.Seat.{Seat}
use Rattle.kf_words.specs.declared.view.MasterView.{MasterView}
use Rattle.kf_words.specs.declared.sight.Sight.{Sight}
use Rattle.kf_words.specs.declared.view.View.TheVariants as seat
use Rattle.kf_words.specs.Layout.{slot_of}
use Rattle.kf_words.specs.Steps.{Seated, Sighted, plain, master_of}
use Rattle.kf_words.specs.Nodes.{MasterSight, master_sight}
use Rattle.kf_words.specs.History.{after_giving, given, answered, hears}
use Rattle.kf_words.proofs.MasterAllowed.{told}

module _ (s t : Seat (Unit {0}) Sight) (is : s ≡ t) where
  pub asked : (holds : State (Unit {0}) Sight → Type 0) (homes i : ℕ) (f : ℕ → ℕ) (then : Step (Unit {0}) → Sighted → ℕ → Sighted → Type 0)
      → Allows holds homes t.id t.me i f (then (step 0 i 0 0 none) t.me) → Allows holds homes s.id s.me i f (then (step 0 i 0 0 none) s.me)
  asked holds homes i f then = subst (λ (x : Seat (Unit {0}) Sight). Allows holds homes x.id x.me i f (then (step 0 i 0 0 none) x.me)) (sym is)

  pub told_of : (me' : Sighted) (slot i found : ℕ) (after : ℕ → ℕ → MasterView → MasterView) → plain t.me ≡ (seat.Master (master_of t.me.0.view), []) → slot_of i ≡ slot
      → plain me' ≡ (seat.Master (after (slot_of i) found (master_of s.me.0.view)), s.me.1) → plain me' ≡ (seat.Master (after slot found (master_of t.me.0.view)), [])
  told_of me' slot i found after held back now =
      told (plain t.me) (plain me') slot i found after held back (now ∙ ap (λ (x : Seat (Unit {0}) Sight). let y : Seated = (seat.Master (after (slot_of i) found (master_of x.me.0.view)), x.me.1) in y) is)

  pub of_master : (Is : MasterView → Type 0) → Is (master_of s.me.0.view) → Is (master_of t.me.0.view)
  of_master Is = subst (λ (x : Seat (Unit {0}) Sight). Is (master_of x.me.0.view)) is

  pub made_of : (Is : MasterSight → Type 0) → Is (master_sight s.me.0) → Is (master_sight t.me.0)
  made_of Is = subst (λ (x : Seat (Unit {0}) Sight). Is (master_sight x.me.0)) is

  pub parted : (holds : State (Unit {0}) Sight → Type 0) → Splits holds t.id t.me.0 (after_giving t.me.0) (given t.me.0)
      → Splits holds s.id s.me.0 (after_giving s.me.0) (given s.me.0)
  parted holds = subst (λ (x : Seat (Unit {0}) Sight). Splits holds x.id x.me.0 (after_giving x.me.0) (given x.me.0)) (sym is)

  pub answering : (holds : State (Unit {0}) Sight → Type 0) → Splits holds t.id t.me.0 t.me.0 (answered t.me.0) → Splits holds s.id s.me.0 s.me.0 (answered s.me.0)
  answering holds = subst (λ (x : Seat (Unit {0}) Sight). Splits holds x.id x.me.0 x.me.0 (answered x.me.0)) (sym is)

  pub hearing : (holds : State (Unit {0}) Sight → Type 0) (other : ℕ) (w spent : Sight) → w ≡ spent → Joins holds t.id t.me.0 other w (hears t.me.0 w) w → Joins holds s.id s.me.0 other w (hears s.me.0 w) spent
  hearing holds other w spent one joins = subst (λ (x : Sight). Joins holds s.id s.me.0 other w (hears s.me.0 w) x) one
      (subst (λ (x : Seat (Unit {0}) Sight). Joins holds x.id x.me.0 other w (hears x.me.0 w) w) (sym is) joins)
