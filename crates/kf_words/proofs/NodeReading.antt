-- A load of a word of any slot's node is the next step of the one run, which says which word was loaded.
use Rattle.std.proofs.Common.{◌≡◌, ℕ, ◌<◌, List, [], refl, sym, ap, ◌∙◌, subst}
use Rattle.std.specs.Prelude.{slice_index}
use mathlib.Core.Option.{none}
use Rattle.atomic_table.specs.Table.{Allows, step, stepped, keeps}
use Rattle.kf_words.specs.declared.sight.Opening.{Opening}
use Rattle.kf_words.specs.declared.view.CallerView.{CallerView}
use Rattle.kf_words.specs.declared.view.View.{View}
use Rattle.kf_words.specs.declared.view.View.TheVariants as seat
use Rattle.kf_words.specs.Layout.{node_index, place_of}
use Rattle.kf_words.specs.Steps.{Seated, Sighted, plain, caller_of, after_miss}
use Rattle.kf_words.specs.Callers.{caller_sight, IsAtRest}
use Rattle.kf_words.specs.TableSteps.{reads_node, same}
use Rattle.kf_words.specs.History.{Kept}
use Rattle.kf_words.specs.Made.{WasMade}
use Rattle.kf_words.specs.Pins.{MakesRead}
use Rattle.kf_words.proofs.NodeMade.{node_slot, node_place}
use Rattle.kf_words.proofs.Exchanges.{one_made}

module _ (o : Opening) (homes id : ℕ) (me : Sighted) (is : plain me ≡ (seat.Caller (caller_of me.0.view), [])) (slot place : ℕ) (few : place < 5) where
  abbrev my : CallerView
  my = caller_of me.0.view

  abbrev i : ℕ
  i = node_index place slot

  read_here : IsAtRest my → Allows (Kept o) homes id me (node_index place slot) same (MakesRead (step homes (node_index place slot) 0 0 none) me)
  read_here rests t h far at small =
      let n : ℕ = slice_index t.words i in
      let back = node_slot place slot i few refl in
      let its = node_place place slot i few refl in
      let r = one_made o homes id me is t h at i n (reads_node slot place) (λ j. refl) (after_miss n my) (λ j there. (my, rests, record { there = there; fits = small; becomes = refl })) in (
        r.0,
        keeps,
        tt,
        subst (λ (l : List (ℕ × Unit {0})). Kept o (stepped t i n id l r.0 keeps)) (sym (ap (λ (x : Seated). x.1) is)) r.2,
        (
          ap (λ (p : ℕ). node_index p slot) (sym its) ∙ ap (λ (s : ℕ). node_index (place_of i) s) (sym back),
          (
            ap (λ (v : View). let x : Seated = (v, me.1) in x) r.1,
            subst (λ (s : ℕ). WasMade (reads_node s (place_of i)) (caller_sight me.0) (caller_sight r.0)) (sym back) (subst (λ (p : ℕ). WasMade (reads_node slot p) (caller_sight me.0) (caller_sight r.0)) (sym its) r.3),
          ),
        ),
      )

  pub read_made : (word : ℕ) → node_index place slot ≡ word → IsAtRest my → Allows (Kept o) homes id me word same (MakesRead (step homes word 0 0 none) me)
  read_made word at rests = subst (λ (k : ℕ). Allows (Kept o) homes id me k same (MakesRead (step homes k 0 0 none) me)) at (read_here rests)
