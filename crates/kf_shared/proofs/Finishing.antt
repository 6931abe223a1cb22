-- What a caller that saw its node drained does until the node is finished.
use Rattle.std.proofs.Common.{◌≡◌, ℕ, zero, suc, Bool, true, false, inl, inr, refl, ap, ◌∙◌}
use Rattle.std.specs.Prelude.{Result, Ok, Err, OnOk, is_err}
use Rattle.kf_words.specs.Callers.{Handle, IsSameSeat, seat_view}
use Rattle.kf_words.specs.Made.{Rested, WasMade}
use Rattle.kf_words.specs.declared.sight.StepKind.TheVariants.{Parts as parts}
use Rattle.kf_shared.specs.Removal.{HasHeard}
use Rattle.kf_shared.specs.Sections.{OnlyRested, RestedOrLooked, SawMore, WasTold}
use Rattle.kf_shared.proofs.Hearing.{heard_told, made_more, prefix_self, prefix_trans, rested_more}

pub heard_seat : (a b : Handle) → HasHeard a b → IsSameSeat a b
heard_seat a b heard = record {
  table = ap (λ (h : Handle). h.table) heard;
  seat = ap (λ (h : Handle). h.seat) heard;
  key = ap (λ (h : Handle). h.key) heard;
  node = ap (λ (h : Handle). h.node) heard;
}

pub seat_on : (a b c : Handle) → IsSameSeat a b → IsSameSeat b c → IsSameSeat a c
seat_on a b c x y = record { table = y.table ∙ x.table; seat = y.seat ∙ x.seat; key = y.key ∙ x.key; node = y.node ∙ x.node }

-- the caller still waits
pub record IsWaiting (first drained : Handle) : Type 0 where
  pub same : IsSameSeat first drained
  pub rested : (count : ℕ) × RestedOrLooked count (seat_view first) (seat_view drained)
  pub later : SawMore first.seen drained.seen

pub waits_first : (drained : Handle) → IsWaiting drained drained
waits_first drained = record {
  same = record { table = refl; seat = refl; key = refl; node = refl };
  rested = (zero, refl);
  later = prefix_self drained.seen.steps;
}

-- the caller waits, and has now seen all that was done until the lock was released
module _ (hold a b : Handle) (w : IsWaiting hold a) (heard : HasHeard a b) (more : SawMore a.seen b.seen) where
  told : WasTold (seat_view a) (seat_view b)
  told = heard_told a b heard more

  pub told_seat : IsSameSeat hold b
  told_seat = seat_on hold a b w.same (heard_seat a b heard)

  pub told_more : SawMore hold.seen b.seen
  told_more = prefix_trans hold.seen.steps a.seen.steps b.seen.steps w.later more

  -- then the caller rested
  pub waits_rested : (c : Handle) → HasHeard b c → (counted : Bool) × Rested counted (seat_view b) (seat_view c) → IsWaiting hold c
  waits_rested c same rest = record {
    same = seat_on hold b c told_seat (heard_seat b c same);
    rested = (suc w.rested.0, (seat_view a, seat_view b, w.rested.1, told, inl rest));
    later = prefix_trans hold.seen.steps b.seen.steps c.seen.steps told_more (rested_more rest.0 (seat_view b) (seat_view c) rest.1);
  }

  -- or it looked once more, and the node was still linked
  pub waits_on : (c : Handle) → IsSameSeat b c → WasMade parts (seat_view b) (seat_view c) → IsWaiting hold c
  waits_on c same made = record {
    same = seat_on hold b c told_seat same;
    rested = (suc w.rested.0, (seat_view a, seat_view b, w.rested.1, told, inr made));
    later = prefix_trans hold.seen.steps b.seen.steps c.seen.steps told_more (made_more parts (seat_view b) (seat_view c) made);
  }

  -- or it looked for the last time
  pub rested_all : (c : Handle) → WasMade parts (seat_view b) (seat_view c) → OnlyRested (seat_view hold) (seat_view c)
  rested_all c made = (seat_view a, seat_view b, w.rested, told, made)

pub was_ok : {X E P : Type 0} (r : Result X E) → is_err r ≡ false → OnOk r P → P
was_ok (Ok x) e p = p
was_ok (Err y) e p = absurd (let t : true ≡ false = e in cc)
