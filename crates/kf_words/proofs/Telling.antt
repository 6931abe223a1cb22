-- A caller reports to the Master what it has seen, and takes over what the Master has seen.
use Rattle.std.proofs.Common.{◌≡◌, ◌≢◌, ℕ, zero, suc, List, [], ◌∷◌, ◌++◌, refl, sym, ap, ◌∙◌, subst}
use mathlib.Core.Option.{some}
use lib.ListN.{get_elem?}
use Rattle.atomic_table.specs.Table.{Splits, Joins}
use Rattle.atomic_table.proofs.Lists.{set_again}
use Rattle.kf_core.specs.declared.caller.Phase.TheVariants.{Spent}
use Rattle.kf_words.specs.declared.sight.Opening.{Opening}
use Rattle.kf_words.specs.declared.sight.Sight.{Sight}
use Rattle.kf_words.specs.declared.view.CallerView.{CallerView}
use Rattle.kf_words.specs.declared.view.View.{View}
use Rattle.kf_words.specs.declared.view.View.TheVariants as seat
use Rattle.kf_words.specs.Steps.{Seated, Sighted, plain, caller_of}
use Rattle.kf_words.specs.TableSteps.{Table, IsSeated, reports}
use Rattle.kf_words.specs.History.{erased, Kept, reported, takes_over}
use Rattle.kf_words.proofs.Seating.{caller_seat}
use Rattle.kf_words.proofs.Keeps.{view_there, split_kept, join_kept, from_there}

module _ (o : Opening) (id : ℕ) (me : Sighted) (is : plain me ≡ (seat.Caller (caller_of me.0.view), [])) where
  abbrev my : CallerView
  my = caller_of me.0.view

  -- a new seat has seen what the caller has seen
  pub report_splits : my.phase ≢ Spent → Splits (Kept o) id me.0 me.0 (reported me.0)
  report_splits holding t h at =
      let e : Table = erased t in
      let own : get_elem? e.views id ≡ some me.0.view = view_there t.views id me.0 at in
      let at' : get_elem? e.views id ≡ some (seat.Caller my) = own ∙ ap (λ (x : Seated). some x.0) is in
      let p = caller_seat h.shown.master h.shown.callers id my (subst (λ (l : List View). get_elem? l id ≡ some (seat.Caller my)) h.shown.views at') in
      let there : IsSeated e p.0 my = subst (λ (k : ℕ). get_elem? e.views k ≡ some (seat.Caller my)) p.1 at' in
      split_kept o t h id me.0 at me.0 (reported me.0) (reports p.0) refl refl refl refl refl
      (my, holding, there, ap (λ (l : List View). let x : Table = record { words = t.words; homes = t.homes; views = l ++ (reported me.0).view ∷ [] } in x) (set_again e.views id me.0.view own))

  -- the caller has now seen exactly what the other seat has seen
  pub take_joins : (other : ℕ) (w : Sight) → Joins (Kept o) id me.0 other w (takes_over me.0 w) w
  take_joins other w t h at apart there =
      let e : Table = erased t in
      let own : get_elem? e.views id ≡ some me.0.view = view_there t.views id me.0 at in
      let at' : get_elem? e.views id ≡ some (seat.Caller my) = own ∙ ap (λ (x : Seated). some x.0) is in
      let p = caller_seat h.shown.master h.shown.callers id my (subst (λ (l : List View). get_elem? l id ≡ some (seat.Caller my)) h.shown.views at') in
      join_kept o t h id me.0 at other w (takes_over me.0 w) refl (from_there o t h id me.0 at other w (takes_over me.0 w) apart there) (h.told id me.0 at)
      (λ first. absurd (no_first p.0 (sym first ∙ p.1))) there
    where
      no_first : (j : ℕ) → zero ≡ suc j → ⊥
      no_first j e = let x : zero ≡ suc j = e in cc
