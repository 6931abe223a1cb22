-- The steps of seats that look and wait, and in between see what others did.
use Rattle.std.proofs.Common.{◌≡◌, ℕ, zero, suc, Bool, inl, inr, refl, ap, ◌∙◌, subst, sym, List}
use Rattle.std.specs.Prelude.{◌⊎◌, MatchResult, Result, Ok, Err}
use mathlib.Core.List.{IsPrefix}
use Rattle.kf_words.specs.Callers.{Handle, CallerSight, having_seen, seat_view}
use Rattle.kf_words.specs.Notes.{history_of}
use Rattle.kf_words.specs.declared.note.Note.{Note}
use Rattle.kf_words.specs.declared.sight.Seen.{Seen}
use Rattle.kf_words.specs.Made.{LookedAndRested, Rested, WaitedForDrain, WasMade}
use Rattle.kf_words.specs.declared.sight.StepKind.TheVariants.{Looks as looks, Parts as parts}
use Rattle.kf_shared.specs.Removal.{HasHeard}
use Rattle.kf_shared.specs.Sections.{DidTold, Learned, Looked, LookedAndWaited, OnlyLooked, SawMore, Stays, WasTold}
use Rattle.kf_shared.proofs.Finishing.{heard_seat, seat_on}
use Rattle.kf_shared.proofs.Hearing.{heard_told, made_more, prefix_self, prefix_trans, rested_more}

told_self : (a : CallerSight) → WasTold a a
told_self a = record { view = refl; seen = prefix_self a.seen.steps }

told_on : (a b c : CallerSight) → WasTold a b → WasTold b c → WasTold a c
told_on a b c x y = record { view = y.view ∙ x.view; seen = prefix_trans a.seen.steps b.seen.steps c.seen.steps x.seen y.seen }

did_told : (Step : CallerSight → CallerSight → Type 0) → (count : ℕ) (a b c : CallerSight) → DidTold Step count a b → WasTold b c → DidTold Step count a c
did_told Step zero a b c d t = told_on a b c d t
did_told Step (suc count) a b c d t = (d.0, d.1, d.2, d.3, told_on d.1 b c d.4 t)

did_on : (Step : CallerSight → CallerSight → Type 0) → (m n : ℕ) (a b c : CallerSight) → DidTold Step m a b → DidTold Step n b c → (count : ℕ) × DidTold Step count a c
did_on Step m zero a b c x y = (m, did_told Step m a b c x y)
did_on Step m (suc n) a b c x y = (let r = did_on Step m n a b y.0 x y.2 in (suc r.0, (y.0, y.1, r.1, y.3, y.4)))

did_as : (Step Other : CallerSight → CallerSight → Type 0) → ((x y : CallerSight) → Step x y → Other x y) → (count : ℕ) (a b : CallerSight) → DidTold Step count a b → DidTold Other count a b
did_as Step Other by zero a b d = d
did_as Step Other by (suc count) a b d = (d.0, d.1, did_as Step Other by count a d.0 d.2, by d.0 d.1 d.3, d.4)

did_more : (Step : CallerSight → CallerSight → Type 0) → ((x y : CallerSight) → Step x y → SawMore x.seen y.seen) → (count : ℕ) (a b : CallerSight) → DidTold Step count a b → SawMore a.seen b.seen
did_more Step more zero a b d = d.seen
did_more Step more (suc count) a b d =
    prefix_trans a.seen.steps d.1.seen.steps b.seen.steps
    (prefix_trans a.seen.steps d.0.seen.steps d.1.seen.steps (did_more Step more count a d.0 d.2) (more d.0 d.1 d.3)) d.4.seen

did_once : (Step : CallerSight → CallerSight → Type 0) → (a b : CallerSight) → Step a b → DidTold Step 1 a b
did_once Step a b s = (a, b, told_self a, s, told_self b)

looked_more : (a b : CallerSight) → Looked a b → SawMore a.seen b.seen
looked_more a b l = elim l [ inl m ↦ made_more looks a b m | inr m ↦ made_more parts a b m ]

abbrev Waits : CallerSight → CallerSight → Type 0
Waits x y = Looked x y ⊎ ((counted : Bool) × Rested counted x y)

waits_more : (a b : CallerSight) → Waits a b → SawMore a.seen b.seen
waits_more a b w = elim w [ inl l ↦ looked_more a b l | inr r ↦ rested_more r.0 a b r.1 ]

pub only_self : (a : CallerSight) → OnlyLooked a a
only_self a = (zero, told_self a)

pub only_told : (a b : CallerSight) → WasTold a b → OnlyLooked a b
only_told a b t = (zero, t)

pub only_look : (a b : CallerSight) → WasMade looks a b → OnlyLooked a b
only_look a b m = (1, did_once Looked a b (inl m))

pub only_part : (a b : CallerSight) → WasMade parts a b → OnlyLooked a b
only_part a b m = (1, did_once Looked a b (inr m))

pub only_on : (a b c : CallerSight) → OnlyLooked a b → OnlyLooked b c → OnlyLooked a c
only_on a b c x y = did_on Looked x.0 y.0 a b c x.1 y.1

pub only_more : (a b : CallerSight) → OnlyLooked a b → SawMore a.seen b.seen
only_more a b o = did_more Looked looked_more o.0 a b o.1

pub only_waited : (a b : CallerSight) → OnlyLooked a b → LookedAndWaited a b
only_waited a b o = (o.0, did_as Looked Waits (λ x y l. inl l) o.0 a b o.1)

pub waited_on : (a b c : CallerSight) → LookedAndWaited a b → LookedAndWaited b c → LookedAndWaited a c
waited_on a b c x y = did_on Waits x.0 y.0 a b c x.1 y.1

pub waited_saw : (a b : CallerSight) → LookedAndWaited a b → SawMore a.seen b.seen
waited_saw a b w = did_more Waits waits_more w.0 a b w.1

pub waited_self : (a : CallerSight) → LookedAndWaited a a
waited_self a = (zero, told_self a)

pub waited_rested : (counted : Bool) (a b : CallerSight) → Rested counted a b → LookedAndWaited a b
waited_rested counted a b r = (1, did_once Waits a b (inr (counted, r)))

looked_rested : (test : ℕ → Bool) (count : ℕ) (a b : CallerSight) → LookedAndRested looks test count a b → LookedAndWaited a b
looked_rested test zero a b e = subst (LookedAndWaited a) (sym e) (waited_self a)
looked_rested test (suc count) a b l =
    waited_on a l.1 b (waited_on a l.0 l.1 (looked_rested test count a l.0 l.2) (only_waited l.0 l.1 (only_look l.0 l.1 l.3))) (waited_rested _ l.1 b l.4)

-- a wait for a drain consists of looks and rests
pub waited_drained : (a b : CallerSight) → WaitedForDrain a b → LookedAndWaited a b
waited_drained a b w = waited_on a w.1 b (looked_rested _ w.0 a w.1 w.2) (only_waited w.1 b (only_look w.1 b w.3))

pub stays_self : (a : Handle) → Stays a a
stays_self a = (record { table = refl; seat = refl; key = refl; node = refl }, only_self (seat_view a))

pub stays_on : (a b c : Handle) → Stays a b → Stays b c → Stays a c
stays_on a b c x y = (seat_on a b c x.0 y.0, only_on (seat_view a) (seat_view b) (seat_view c) x.1 y.1)

pub stays_more : (a b : Handle) → Stays a b → SawMore a.seen b.seen
stays_more a b x = only_more (seat_view a) (seat_view b) x.1

pub stays_heard : (a b : Handle) → HasHeard a b → SawMore a.seen b.seen → Stays a b
stays_heard a b heard more = (heard_seat a b heard, only_told (seat_view a) (seat_view b) (heard_told a b heard more))

-- a seat that met the Master made no step, and has only seen more
module _ (before after : Handle) (seen : Seen) (is : after ≡ having_seen seen before) (met : IsPrefix before.seen.steps seen.steps) where
  met_heard : HasHeard before after
  met_heard = is ∙ ap (λ s. having_seen s before) (sym (ap (λ (h : Handle). h.seen) is))

  met_more : SawMore before.seen after.seen
  met_more = subst (λ (h : Handle). SawMore before.seen h.seen) (sym is) met

  pub only_met : OnlyLooked (seat_view before) (seat_view after)
  only_met = only_told (seat_view before) (seat_view after) (heard_told before after met_heard met_more)

  pub met_learned : (notes : List Note) → history_of seen ≡ notes → Learned notes before after
  met_learned notes known = (met_heard, met_more, ap (λ (h : Handle). history_of h.seen) is ∙ known)

-- a seat that met the Master, and then looked whether its node has left the tree, has only looked
pub only_parted : (before after : Handle) (seen : Seen) (r : Result Handle Handle) → after ≡ having_seen seen before → IsPrefix before.seen.steps seen.steps
    → MatchResult r (λ gone. WasMade parts (seat_view after) (seat_view gone)) (λ back. WasMade parts (seat_view after) (seat_view back))
    → MatchResult r (λ gone. OnlyLooked (seat_view before) (seat_view gone)) (λ back. OnlyLooked (seat_view before) (seat_view back))
only_parted before after seen (Ok x) is met made = only_on (seat_view before) (seat_view after) (seat_view x) (only_met before after seen is met) (only_part (seat_view after) (seat_view x) made)
only_parted before after seen (Err x) is met made = only_on (seat_view before) (seat_view after) (seat_view x) (only_met before after seen is met) (only_part (seat_view after) (seat_view x) made)
