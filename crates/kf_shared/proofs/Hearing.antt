-- What a seat is shown before the unlock, and what it has seen since.
use Rattle.std.proofs.Common.{◌≡◌, ℕ, zero, suc, ◌-◌, Bool, true, false, List, [], ◌∷◌, ◌++◌, sym, ap, ◌∙◌, subst, append_assoc}
use Rattle.std.proofs.lemmas.List.{append-nil}
use mathlib.Core.List.{IsPrefix}
use Rattle.kf_words.specs.declared.note.Note.{Note}
use Rattle.kf_words.specs.declared.note.Note.TheVariants.{LockReleased}
use Rattle.kf_words.specs.declared.sight.Seen.{Seen}
use Rattle.kf_words.specs.declared.sight.StepKind.{StepKind}
use Rattle.kf_words.specs.Callers.{Handle, CallerSight, having_seen, seat_view}
use Rattle.kf_words.specs.Layout.{wants_wake}
use Rattle.kf_words.specs.Nodes.{MasterState}
use Rattle.kf_words.specs.Notes.{history_of}
use Rattle.kf_words.specs.Made.{LookedAndRested, Rested, Waited, WakeSpent, WasMade, WasMadeThenWake}
use Rattle.kf_words.proofs.Noted.{notes_begin}
use Rattle.kf_shared.specs.Locked.{Locked, history}
use Rattle.kf_shared.specs.Removal.{HasHeard}
use Rattle.kf_shared.specs.Sections.{SawMore, WasTold, WasClosed}

pub prefix_self : {A : Type 0} (xs : List A) → IsPrefix xs xs
prefix_self xs = ([], append-nil xs)

pub prefix_trans : {A : Type 0} (xs ys zs : List A) → IsPrefix xs ys → IsPrefix ys zs → IsPrefix xs zs
prefix_trans xs ys zs p q = (p.0 ++ q.0, sym (append_assoc xs p.0 q.0) ∙ ap (λ l. l ++ q.0) p.1 ∙ q.1)

-- a seat that has seen more of the run has seen more of the history
pub more_told : (before after : Seen) → SawMore before after → IsPrefix (history_of before) (history_of after)
more_told before after more = notes_begin before.steps after.steps more

-- after a step, a seat has seen what it had seen before, and more
pub made_more : (kind : ℕ → StepKind) (before after : CallerSight) → WasMade kind before after → SawMore before.seen after.seen
made_more kind before after m = (
  m.between ++ kind m.caller ∷ [],
  sym (append_assoc before.seen.steps m.between (kind m.caller ∷ [])) ∙ sym (ap (λ (s : Seen). s.steps) m.seen),
)

same_more : (before after : CallerSight) → after ≡ before → SawMore before.seen after.seen
same_more before after e = subst (λ (s : CallerSight). SawMore before.seen s.seen) (sym e) (prefix_self before.seen.steps)

-- the same for a rest
pub rested_more : (counted : Bool) (before after : CallerSight) → Rested counted before after → SawMore before.seen after.seen
rested_more true before after r = prefix_trans before.seen.steps r.0.seen.steps after.seen.steps (made_more _ before r.0 r.1) (made_more _ r.0 after r.2)
rested_more false before after e = same_more before after e

looked_more : (kind : ℕ → StepKind) (test : ℕ → Bool) (count : ℕ) (before after : CallerSight) → LookedAndRested kind test count before after → SawMore before.seen after.seen
looked_more kind test zero before after e = same_more before after e
looked_more kind test (suc count) before after l =
    prefix_trans before.seen.steps l.1.seen.steps after.seen.steps
    (prefix_trans before.seen.steps l.0.seen.steps l.1.seen.steps (looked_more kind test count before l.0 l.2) (made_more kind l.0 l.1 l.3))
    (rested_more (test l.1.view.found) l.1 after l.4)

-- the same for a whole wait
pub waited_more : (kind : ℕ → StepKind) (test : ℕ → Bool) (before after : CallerSight) → Waited kind test before after → SawMore before.seen after.seen
waited_more kind test before after w =
    prefix_trans before.seen.steps w.1.seen.steps after.seen.steps (looked_more kind test w.0 before w.1 w.2) (made_more kind w.1 after w.3)

spent_more : (wanted : Bool) (before after : CallerSight) → WakeSpent wanted before after → SawMore before.seen after.seen
spent_more true before after w = made_more _ before after w.1.0
spent_more false before after e = same_more before after e

-- the same for a step with the wake that it owes
pub woken_more : (kind : ℕ → StepKind) (before after : CallerSight) → WasMadeThenWake kind before after → SawMore before.seen after.seen
woken_more kind before after w =
    prefix_trans before.seen.steps w.0.seen.steps after.seen.steps (made_more kind before w.0 w.1) (spent_more (wants_wake (w.0.view.found - 1)) w.0 after w.2)

-- if only what a handle has seen has changed, its seat made no step
pub heard_told : (before after : Handle) → HasHeard before after → SawMore before.seen after.seen → WasTold (seat_view before) (seat_view after)
heard_told before after heard more = record { view = ap (λ (h : Handle). (seat_view h).view) heard; seen = more }

-- a handle met the Master, notes were added, and it met the Master again
module _ (old : Locked) (added : List Note) (before between after : Handle) (m1 m2 m3 : MasterState)
    (first : between ≡ having_seen m1.seen before) (met : SawMore before.seen m1.seen) (came : IsPrefix (history_of before.seen) (history old)) (kept : history_of m1.seen ≡ history old)
    (notes : history_of m2.seen ≡ (history_of m1.seen ++ added) ++ LockReleased ∷ [])
    (second : after ≡ having_seen m3.seen between) (again : SawMore between.seen m3.seen) (still : history_of m3.seen ≡ history_of m2.seen) where
  same_seen : after.seen ≡ m3.seen
  same_seen = ap (λ (h : Handle). h.seen) second

  pub was_closed : WasClosed old added before after
  was_closed = record {
    heard = second ∙ ap (having_seen m3.seen) first ∙ ap (λ s. having_seen s before) (sym same_seen);
    later = subst (SawMore before.seen) (sym same_seen) (prefix_trans before.seen.steps m1.seen.steps m3.seen.steps met (subst (λ (h : Handle). SawMore h.seen m3.seen) first again));
    came = came;
    seen = ap history_of same_seen ∙ still ∙ notes ∙ ap (λ l. (l ++ added) ++ LockReleased ∷ []) kept;
  }
