-- Each step of a seat is the next step of the one run, and gives this fact along with the seat's new view.
use Rattle.std.proofs.Common.{◌≡◌, ℕ, ◌+◌, ◌<◌, ◌≤◌, refl, sym, subst}
use Rattle.std.specs.Prelude.{[], slice_index, max}
use mathlib.Core.Option.{none, some}
use lib.ListN.{get_elem?}
use Rattle.atomic_table.specs.Table.{Allows, Splits, step, stepped, keeps}
use Rattle.atomic_table.proofs.Lists.{set_here}
use Rattle.kf_notify.specs.declared.sight.NumberOpening.{NumberOpening}
use Rattle.kf_notify.specs.declared.sight.NumberSight.{NumberSight}
use Rattle.kf_notify.specs.declared.view.NumberView.{NumberView}
use Rattle.kf_notify.specs.Rule.{Table, IsSeated, number_at}
use Rattle.kf_notify.specs.Steps.{Sighted, loaded, raised}
use Rattle.kf_notify.specs.TableSteps.{NumberStepKind, loads, raises, doubles, NumberStep}
use Rattle.kf_notify.specs.History.{SeenTable, erased, given, Kept}
use Rattle.kf_notify.specs.Next.{WasMade, MakesLoad, MakesRaise}
use Rattle.kf_notify.proofs.Allowed.{seat_within}
use Rattle.kf_notify.proofs.Keeps.{view_there, between, now_seen, is_now, step_kept, led_here, shown_here, step_here, split_kept}

-- a step was made, as the next step of the one run
abbrev next_made : (o : NumberOpening) (t : SeenTable) (h : Kept o t) (id : ℕ) (before : NumberSight) (at : get_elem? t.views id ≡ some before) (kind : ℕ → NumberStepKind) (i n : ℕ) (w : NumberView)
    → NumberStep o.slots (erased t) (kind id) (stepped (erased t) i n id [] w keeps)
    → WasMade kind before (record { view = w; seen = now_seen o t h id before at (kind id) })
next_made o t h id before at kind i n w step =
    let own : IsSeated (erased t) id before.view = view_there t.views id before at in
    let left : Table = stepped (erased t) i n id [] w keeps in
    record {
      between = between o t h id before at;
      found = erased t;
      left = left;
      seat = id;
      run = led_here o t h id before at;
      shown = shown_here o t h id before at;
      step = step_here o t h id before at (kind id) left step;
      was = own;
      is = set_here (erased t).views id w (seat_within (erased t).views id before.view own);
      seen = refl;
    }

pub load_made : (o : NumberOpening) (homes id : ℕ) (me : Sighted) (i : ℕ) → i < o.slots → Allows (Kept o) homes id me i (λ n. n) (MakesLoad (step homes i 0 0 none) me)
load_made o homes id me i near t h _ at small =
    let n : ℕ = slice_index t.words i in
    let v : NumberView = me.0.view in
    let own : IsSeated (erased t) id v = view_there t.views id me.0 at in
    let kind : ℕ → NumberStepKind = λ seat. loads seat i in
    let after : NumberSight = record { view = loaded i n v; seen = now_seen o t h id me.0 at (kind id) } in
    let made : NumberStep o.slots (erased t) (kind id) (stepped (erased t) i n id [] (loaded i n v) keeps) = (v, own, near, refl) in (
      after,
      keeps,
      tt,
      step_kept o t h id me.0 at i n after (kind id) made (is_now o t h id me.0 at (kind id)),
      (
        (
          refl,
          subst (λ (k : ℕ). k ≤ n) (sym (h.shown.first id v own)) (h.shown.least i near),
          λ here. subst (λ (k : ℕ). v.known ≤ number_at (erased t) k) here (h.shown.known id v own),
        ),
        (next_made o t h id me.0 at kind i n (loaded i n v) made, refl),
      ),
    )

pub raise_made : (o : NumberOpening) (homes id : ℕ) (me : Sighted) (i number : ℕ) → i < o.slots → me.0.view.slot ≡ i → number ≡ me.0.view.found + 1
    → Allows (Kept o) homes id me i (λ n. max n number) (MakesRaise (step homes i number 0 none) me)
raise_made o homes id me i number near own_slot next t h _ at small =
    let n : ℕ = slice_index t.words i in
    let v : NumberView = me.0.view in
    let own : IsSeated (erased t) id v = view_there t.views id me.0 at in
    let kind : ℕ → NumberStepKind = λ seat. raises seat i number in
    let after : NumberSight = record { view = raised number v; seen = now_seen o t h id me.0 at (kind id) } in
    let made : NumberStep o.slots (erased t) (kind id) (stepped (erased t) i (max n number) id [] (raised number v) keeps) = (v, own, near, own_slot, next, refl) in (
      after,
      keeps,
      tt,
      step_kept o t h id me.0 at i (max n number) after (kind id) made (is_now o t h id me.0 at (kind id)),
      ((sym own_slot, refl), next_made o t h id me.0 at kind i (max n number) (raised number v) made),
    )

-- doubling a seat keeps the rule
pub split_allowed : (o : NumberOpening) (id : ℕ) (s : NumberSight) → Splits (Kept o) id s s (given s)
split_allowed o id s t h at = split_kept o t h id s at s (given s) (doubles id) refl refl (s.view, view_there t.views id s at, refl)
