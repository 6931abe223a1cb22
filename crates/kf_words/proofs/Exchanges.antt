-- A caller's exchange on its hold word, and the split that follows it, are the next steps of the one run.
use Rattle.std.proofs.Common.{◌≡◌, ◌≢◌, ℕ, suc, ◌+◌, ◌%◌, ◌<◌, Bool, true, false, eqb, List, [], ◌∷◌, ◌++◌, set, if◌then◌else◌, refl, sym, ap, ◌∙◌, subst, arith, eq-eqb, ne_eqb, eqb-true}
use Rattle.std.specs.Prelude.{slice_index, Some, None}
use prog.Atomic.{either}
use mathlib.Core.Logic.{dite}
use mathlib.Core.Option.{some, none}
use native.Mathlib.Decide.{ℕ_discrete}
use lib.ListN.{get_elem?}
use Rattle.atomic_table.specs.Table.{Allows, Splits, step, stepped, keeps}
use Rattle.kf_words.specs.declared.sight.Opening.{Opening}
use Rattle.kf_words.specs.declared.sight.Sight.{Sight}
use Rattle.kf_words.specs.declared.view.CallerView.{CallerView}
use Rattle.kf_words.specs.declared.view.View.{View}
use Rattle.kf_words.specs.declared.view.View.TheVariants as seat
use Rattle.kf_words.specs.Layout.{hold_index, HasSpare}
use Rattle.kf_words.specs.Steps.{Seated, Sighted, plain, caller_of, after_miss, after_count, after_share, new_hold}
use Rattle.kf_words.specs.Callers.{caller_sight, IsAtRest}
use Rattle.kf_words.specs.TableSteps.{Table, StepKind, sees_holds, counts_hold, shares, plus, master_in, IsSeated, WordStep}
use Rattle.kf_words.specs.History.{SeenTable, erased, Kept, after_sharing, shared_out}
use Rattle.kf_words.specs.Made.{WasMade, MakesMiss, MakesExchange, after_exchange}
use Rattle.kf_words.proofs.Seating.{caller_seat}
use Rattle.kf_words.proofs.Keeps.{view_there, between, now_seen, is_now, step_kept, split_kept, led_here, shown_here}
use Rattle.kf_words.proofs.Noted.{put}
use Rattle.kf_words.proofs.Made.{IsQuiet}

either_same : (b : Bool) (n : ℕ) → either b n n ≡ n
either_same true n = refl
either_same false n = refl

pub either_at : (b : Bool) (k n : ℕ) → (b ≡ true → n ≡ k) → either b k n ≡ n
either_at true k n e = sym (e refl)
either_at false k n e = refl

module _ (o : Opening) (homes id : ℕ) (me : Sighted) (is : plain me ≡ (seat.Caller (caller_of me.0.view), [])) where
  abbrev my : CallerView
  my = caller_of me.0.view

  -- if the caller may make a step from a table that meets the rule, it is the next step of the one run
  pub one_made : (t : SeenTable) (h : Kept o t) (at : get_elem? t.views id ≡ some me.0) (i n : ℕ) (kind : ℕ → StepKind) → IsQuiet kind → (c' : CallerView)
      → ((j : ℕ) → IsSeated (erased t) j my → WordStep (erased t) (kind j) (stepped (erased t) i n (suc j) [] (seat.Caller c') keeps))
      → (after : Sight) × (after.view ≡ seat.Caller c') × Kept o (stepped t i n id [] after keeps) × WasMade kind (caller_sight me.0) (caller_sight after)
  one_made t h at i n kind quiet c' makes =
      let e : Table = erased t in
      let own : get_elem? e.views id ≡ some me.0.view = view_there t.views id me.0 at in
      let at' : get_elem? e.views id ≡ some (seat.Caller my) = own ∙ ap (λ (x : Seated). some x.0) is in
      let p = caller_seat h.shown.master h.shown.callers id my (subst (λ (l : List View). get_elem? l id ≡ some (seat.Caller my)) h.shown.views at') in
      let j : ℕ = p.0 in
      let there : IsSeated e j my = subst (λ (k : ℕ). get_elem? e.views k ≡ some (seat.Caller my)) p.1 at' in
      let e' : Table = stepped e i n (suc j) [] (seat.Caller c') keeps in
      let made : WordStep e (kind j) e' = makes j there in
      let after : Sight = record { view = seat.Caller c'; seen = now_seen o t h id me.0 at (kind j); shown = me.0.shown } in (
        after,
        refl,
        step_kept o t h id me.0 at i n after (kind j)
            (subst (λ (k : ℕ). WordStep e (kind j) (stepped e i n k [] (seat.Caller c') keeps)) (sym p.1) made)
            (is_now o t h id me.0 at (kind j))
            (λ _. quiet j)
            refl,
        record {
          between = between o t h id me.0 at;
          found = e;
          left = e';
          caller = j;
          run = led_here o t h id me.0 at;
          shown = shown_here o t h id me.0 at;
          step = made;
          was = there;
          is = put e.views (suc j) (seat.Caller my) (seat.Caller c') there;
          seen = refl;
        },
      )

  -- the greatest number of holds of a slot is the one in the opening that the caller has seen
  pub opening_is : (t : SeenTable) (h : Kept o t) → get_elem? t.views id ≡ some me.0 → o.holds ≡ me.0.seen.opening.holds
  opening_is t h at = ap (λ (x : Opening). x.holds) (sym (h.seen id me.0 at).0)

  pub limit_is : (t : SeenTable) (h : Kept o t) → (master_in (erased t).views).limit ≡ o.holds
  limit_is t h = ap (λ (l : List View). (master_in l).limit) h.shown.views ∙ h.shown.most_holds

  miss_here : IsAtRest my → (most : ℕ) → most ≡ o.holds
      → Allows (Kept o) homes id me (hold_index my.key.slot) (λ n. either (eqb n most) most n) (MakesMiss (step homes (hold_index my.key.slot) most most none) me)
  miss_here rests most named t h far at small =
      let i : ℕ = hold_index my.key.slot in
      let n : ℕ = slice_index t.words i in
      let c' : CallerView = after_miss n my in
      let stays : either (eqb n most) most n ≡ n = either_at (eqb n most) most n (eqb-true n most) in
      let r = one_made t h at i n sees_holds (λ j. refl) c' (λ j there. (my, rests, record { there = there; fits = small; becomes = refl })) in (
        r.0,
        keeps,
        tt,
        subst (λ (k : ℕ). Kept o (stepped t i k id me.1 r.0 keeps)) (sym stays) (subst (λ (l : List (ℕ × Unit {0})). Kept o (stepped t i n id l r.0 keeps)) (sym (ap (λ (x : Seated). x.1) is)) r.2),
        ((refl, (ap (λ (v : View). let x : Seated = (v, me.1) in x) r.1, r.3)), named ∙ opening_is t h at),
      )

  exchange_here : IsAtRest my → my.pinning ≡ None → (old new : ℕ) → new ≡ old + 1 → new < 18446744073709551616 → HasSpare o.holds old
      → Allows (Kept o) homes id me (hold_index my.key.slot) (λ n. either (eqb n old) new n) (MakesExchange (step homes (hold_index my.key.slot) old new none) me)
  exchange_here rests single old new more fits spare t h far at small =
      let i : ℕ = hold_index my.key.slot in
      let n : ℕ = slice_index t.words i in
      dite (ℕ_discrete n old)
      (λ hit.
      let place : HasSpare (master_in (erased t).views).limit n = subst (λ (k : ℕ). HasSpare k n) (sym (limit_is t h)) (subst (λ (k : ℕ). HasSpare o.holds k) (sym hit) spare) in
      let one : either (eqb n old) new n ≡ plus 1 n = ap (λ (b : Bool). either b new n) (eq-eqb n old hit) ∙ (let e : new ≡ (n + 1) % 18446744073709551616 = omega arith in e) in
      let r = one_made t h at i (plus 1 n) counts_hold (λ j. refl) (after_count n my) (λ j there. (my, (rests, single, place), record { there = there; fits = small; becomes = refl })) in
      let told : after_exchange old n my ≡ after_count n my = ap (λ (b : Bool). if b then after_count n my else after_miss n my) (eq-eqb n old hit) in (
        r.0,
        keeps,
        tt,
        subst (λ (k : ℕ). Kept o (stepped t i k id me.1 r.0 keeps)) (sym one) (subst (λ (l : List (ℕ × Unit {0})). Kept o (stepped t i (plus 1 n) id l r.0 keeps)) (sym (ap (λ (x : Seated). x.1) is)) r.2),
        (refl, (ap (λ (v : View). let x : Seated = (v, me.1) in x) (r.1 ∙ ap seat.Caller (sym told)), ((λ _. r.3), (λ ne. absurd (ne hit))))),
      ))
      (λ miss.
      let stays : either (eqb n old) new n ≡ n = ap (λ (b : Bool). either b new n) (ne_eqb n old miss) in
      let r = one_made t h at i n sees_holds (λ j. refl) (after_miss n my) (λ j there. (my, rests, record { there = there; fits = small; becomes = refl })) in
      let told : after_exchange old n my ≡ after_miss n my = ap (λ (b : Bool). if b then after_count n my else after_miss n my) (ne_eqb n old miss) in (
        r.0,
        keeps,
        tt,
        subst (λ (k : ℕ). Kept o (stepped t i k id me.1 r.0 keeps)) (sym stays) (subst (λ (l : List (ℕ × Unit {0})). Kept o (stepped t i n id l r.0 keeps)) (sym (ap (λ (x : Seated). x.1) is)) r.2),
        (refl, (ap (λ (v : View). let x : Seated = (v, me.1) in x) (r.1 ∙ ap seat.Caller (sym told)), ((λ e. absurd (miss e)), (λ _. r.3)))),
      ))

  -- the hold that the caller counted gets its seat
  pub share_splits : IsAtRest my → my.pinning ≡ Some my.key → Splits (Kept o) id me.0 (after_sharing me.0) (shared_out me.0)
  share_splits rests pinned t h at =
      let e : Table = erased t in
      let own : get_elem? e.views id ≡ some me.0.view = view_there t.views id me.0 at in
      let at' : get_elem? e.views id ≡ some (seat.Caller my) = own ∙ ap (λ (x : Seated). some x.0) is in
      let p = caller_seat h.shown.master h.shown.callers id my (subst (λ (l : List View). get_elem? l id ≡ some (seat.Caller my)) h.shown.views at') in
      let there : IsSeated e p.0 my = subst (λ (k : ℕ). get_elem? e.views k ≡ some (seat.Caller my)) p.1 at' in
      split_kept o t h id me.0 at (after_sharing me.0) (shared_out me.0) (shares p.0) refl refl refl refl refl
      (my, (rests, pinned), there, ap (λ (k : ℕ). let x : Table = record { words = t.words; homes = t.homes; views = set e.views k (seat.Caller (after_share my)) ++ seat.Caller (new_hold my.key) ∷ [] } in x) p.1)

  module _ (i : ℕ) (its : hold_index my.key.slot ≡ i) where
    pub miss_made : IsAtRest my → (most : ℕ) → most ≡ o.holds → Allows (Kept o) homes id me i (λ n. either (eqb n most) most n) (MakesMiss (step homes i most most none) me)
    miss_made rests most named = subst (λ (k : ℕ). Allows (Kept o) homes id me k (λ n. either (eqb n most) most n) (MakesMiss (step homes k most most none) me)) its (miss_here rests most named)

    pub exchange_made : IsAtRest my → my.pinning ≡ None → (old new : ℕ) → new ≡ old + 1 → new < 18446744073709551616 → HasSpare o.holds old
        → Allows (Kept o) homes id me i (λ n. either (eqb n old) new n) (MakesExchange (step homes i old new none) me)
    exchange_made rests single old new more fits spare =
        subst (λ (k : ℕ). Allows (Kept o) homes id me k (λ n. either (eqb n old) new n) (MakesExchange (step homes k old new none) me)) its (exchange_here rests single old new more fits spare)

-- the caller's view after an exchange that found the word that it expected, and after one that did not
module _ (old found : ℕ) (me me' : Sighted) (is : plain me ≡ (seat.Caller (caller_of me.0.view), [])) (told : plain me' ≡ (seat.Caller (after_exchange old found (caller_of me.0.view)), (plain me).1)) where
  view_is : caller_of me'.0.view ≡ after_exchange old found (caller_of me.0.view)
  view_is = ap (λ (x : Seated). caller_of x.0) told

  pub stays_caller : plain me' ≡ (seat.Caller (caller_of me'.0.view), [])
  stays_caller = told ∙ ap (λ (l : List (ℕ × Unit {0})). let x : Seated = (seat.Caller (after_exchange old found (caller_of me.0.view)), l) in x) (ap (λ (x : Seated). x.1) is)
      ∙ ap (λ (c : CallerView). let x : Seated = (seat.Caller c, []) in x) (sym view_is)

  pub hit_view : found ≡ old → caller_of me'.0.view ≡ after_count old (caller_of me.0.view)
  hit_view hit = view_is ∙ ap (λ (b : Bool). if b then after_count found (caller_of me.0.view) else after_miss found (caller_of me.0.view)) (eq-eqb found old hit) ∙ ap (λ (n : ℕ). after_count n (caller_of me.0.view)) hit

  pub miss_view : found ≢ old → caller_of me'.0.view ≡ after_miss found (caller_of me.0.view)
  miss_view miss = view_is ∙ ap (λ (b : Bool). if b then after_count found (caller_of me.0.view) else after_miss found (caller_of me.0.view)) (ne_eqb found old miss)
