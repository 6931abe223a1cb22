-- A caller's exchange on the hold word of any slot, and the split that follows it, are the next steps of the
-- one run.
use Rattle.std.proofs.Common.{◌≡◌, ◌≢◌, ℕ, suc, ◌+◌, ◌%◌, ◌<◌, Bool, true, eqb, List, [], ◌∷◌, ◌++◌, set, if◌then◌else◌, refl, sym, ap, ◌∙◌, subst, arith, eq-eqb, ne_eqb, eqb-true}
use Rattle.std.specs.Prelude.{slice_index, Option, Some, None}
use Rattle.std.proofs.lemmas.Option.{same_Some}
use prog.Atomic.{either}
use mathlib.Core.Logic.{dite}
use mathlib.Core.Option.{some, none, some-injective}
use native.Mathlib.Decide.{ℕ_discrete}
use lib.ListN.{get_elem?}
use Rattle.atomic_table.specs.Table.{Allows, Splits, step, stepped, keeps}
use Rattle.kf_core.specs.declared.key.Key.{Key}
use Rattle.kf_core.specs.Bare.{BareWorld, is_linked}
use Rattle.kf_core.proofs.Keeping.{same_key}
use Rattle.kf_words.specs.declared.sight.Opening.{Opening}
use Rattle.kf_words.specs.declared.sight.Sight.{Sight}
use Rattle.kf_words.specs.declared.view.CallerView.{CallerView}
use Rattle.kf_words.specs.declared.view.View.{View}
use Rattle.kf_words.specs.declared.view.View.TheVariants as seat
use Rattle.kf_words.specs.Layout.{hold_index, slot_of, IsOf, MayPinAt}
use Rattle.kf_words.specs.Rule.{bare_world}
use Rattle.kf_words.specs.Steps.{Seated, Sighted, plain, caller_of, after_miss, after_count_at, after_share, hold_on, key_in}
use Rattle.kf_words.specs.Callers.{CallerSight, IsAtRest}
use Rattle.kf_words.specs.TableSteps.{Table, StepKind, sees_holds_at, counts_hold_at, hands_on, same, plus, master_in, world, IsSeated}
use Rattle.kf_words.specs.History.{SeenTable, erased, Kept, after_sharing, handed_on}
use Rattle.kf_words.specs.Made.{WasMade}
use Rattle.kf_words.specs.Pins.{MakesLookAt, MakesMissAt, MakesExchangeAt, after_exchange_at}
use Rattle.kf_words.proofs.Seating.{caller_seat}
use Rattle.kf_words.proofs.Keeps.{view_there, split_kept}
use Rattle.kf_words.proofs.Noted.{put}
use Rattle.kf_words.proofs.PinSteps.{linked_key}
use Rattle.kf_words.proofs.WordSteps.{world_is}
use Rattle.kf_words.proofs.Exchanges.{either_at, one_made, opening_is, limit_is}

module _ (o : Opening) (homes id : ℕ) (me : Sighted) (is : plain me ≡ (seat.Caller (caller_of me.0.view), [])) where
  abbrev my : CallerView
  my = caller_of me.0.view

  abbrev homeless : List (ℕ × Unit {0})
  homeless = me.1

  -- the steps on the hold word of a slot, which is given
  module _ (slot i : ℕ) (back : slot_of i ≡ slot) (its : hold_index slot ≡ i) where
    on : i ≡ hold_index (slot_of i)
    on = sym its ∙ ap hold_index (sym back)

    of_word : (kind : ℕ → ℕ → StepKind) (before after : CallerSight) → WasMade (kind slot) before after → WasMade (kind (slot_of i)) before after
    of_word kind before after = subst (λ (k : ℕ). WasMade (kind k) before after) (sym back)

    at_word : (t : SeenTable) → slice_index t.words i < 18446744073709551616 → slice_index t.words (hold_index slot) < 18446744073709551616
    at_word t = subst (λ (k : ℕ). slice_index t.words k < 18446744073709551616) (sym its)

    kept_so : (t : SeenTable) (n n' : ℕ) (after : Sight) → n' ≡ n → Kept o (stepped t (hold_index slot) n id [] after keeps) → Kept o (stepped t i n' id me.1 after keeps)
    kept_so t n n' after same k =
        subst (λ (l : List (ℕ × Unit {0})). Kept o (stepped t i n' id l after keeps)) (sym (ap (λ (x : Seated). x.1) is))
        (subst (λ (w : ℕ). Kept o (stepped t w n' id [] after keeps)) its (subst (λ (x : ℕ). Kept o (stepped t (hold_index slot) x id [] after keeps)) (sym same) k))

    pub look_at_made : IsAtRest my → Allows (Kept o) homes id me i same (MakesLookAt (step homes i 0 0 none) me)
    look_at_made rests t h far at small =
        let n : ℕ = slice_index t.words (hold_index slot) in
        let n' : ℕ = slice_index t.words i in
        let one : n' ≡ n = ap (slice_index t.words) (sym its) in
        let r = one_made o homes id me is t h at (hold_index slot) n (sees_holds_at slot) (λ j. refl) (after_miss n my) (λ j there. (my, rests, record { there = there; fits = at_word t small; becomes = refl })) in (
          r.0,
          keeps,
          tt,
          kept_so t n n' r.0 one r.2,
          (on, (ap (λ (v : View). let x : Seated = (v, me.1) in x) (r.1 ∙ ap (λ (k : ℕ). seat.Caller (after_miss k my)) (sym one)), of_word sees_holds_at _ _ r.3)),
        )

    pub miss_at_made : IsAtRest my → (most : ℕ) → most ≡ o.holds → Allows (Kept o) homes id me i (λ n. either (eqb n most) most n) (MakesMissAt (step homes i most most none) me)
    miss_at_made rests most named t h far at small =
        let n : ℕ = slice_index t.words (hold_index slot) in
        let n' : ℕ = slice_index t.words i in
        let one : n' ≡ n = ap (slice_index t.words) (sym its) in
        let stays : either (eqb n' most) most n' ≡ n = either_at (eqb n' most) most n' (eqb-true n' most) ∙ one in
        let r = one_made o homes id me is t h at (hold_index slot) n (sees_holds_at slot) (λ j. refl) (after_miss n my) (λ j there. (my, rests, record { there = there; fits = at_word t small; becomes = refl })) in (
          r.0,
          keeps,
          tt,
          kept_so t n (either (eqb n' most) most n') r.0 stays r.2,
          (on, (ap (λ (v : View). let x : Seated = (v, me.1) in x) (r.1 ∙ ap (λ (k : ℕ). seat.Caller (after_miss k my)) (sym one)), of_word sees_holds_at _ _ r.3), named ∙ opening_is o homes id me is t h at),
        )

    pub exchange_at_made : IsAtRest my → my.pinning ≡ None → (old new : ℕ) → new ≡ old + 1 → new < 18446744073709551616 → MayPinAt o.holds old
        → Allows (Kept o) homes id me i (λ n. either (eqb n old) new n) (MakesExchangeAt (step homes i old new none) me)
    exchange_at_made rests single old new more fits may t h far at small =
        let n : ℕ = slice_index t.words (hold_index slot) in
        let n' : ℕ = slice_index t.words i in
        let one : n' ≡ n = ap (slice_index t.words) (sym its) in
        dite (ℕ_discrete n' old)
        (λ hit.
        let hit' : n ≡ old = sym one ∙ hit in
        let place : MayPinAt (master_in (erased t).views).limit n = subst (λ (k : ℕ). MayPinAt k n) (sym (limit_is o homes id me is t h)) (subst (λ (k : ℕ). MayPinAt o.holds k) (sym hit') may) in
        let adds : either (eqb n' old) new n' ≡ plus 1 n = ap (λ (b : Bool). either b new n') (eq-eqb n' old hit) ∙ (let e : new ≡ (n + 1) % 18446744073709551616 = omega arith in e) in
        let r = one_made o homes id me is t h at (hold_index slot) (plus 1 n) (counts_hold_at slot) (λ j. refl) (after_count_at slot n my) (λ j there. (my, (rests, single, place), record { there = there; fits = at_word t small; becomes = refl })) in
        let told : after_exchange_at (slot_of i) old n' my ≡ after_count_at slot n my =
        ap (λ (b : Bool). if b then after_count_at (slot_of i) n' my else after_miss n' my) (eq-eqb n' old hit) ∙ ap (λ (k : ℕ). after_count_at k n' my) back ∙ ap (λ (k : ℕ). after_count_at slot k my) one in (
          r.0,
          keeps,
          tt,
          kept_so t (plus 1 n) (either (eqb n' old) new n') r.0 adds r.2,
          (on, (ap (λ (v : View). let x : Seated = (v, me.1) in x) (r.1 ∙ ap seat.Caller (sym told)), ((λ _. of_word counts_hold_at _ _ r.3), (λ ne. absurd (ne hit))))),
        ))
        (λ miss.
        let stays : either (eqb n' old) new n' ≡ n = ap (λ (b : Bool). either b new n') (ne_eqb n' old miss) ∙ one in
        let r = one_made o homes id me is t h at (hold_index slot) n (sees_holds_at slot) (λ j. refl) (after_miss n my) (λ j there. (my, rests, record { there = there; fits = at_word t small; becomes = refl })) in
        let told : after_exchange_at (slot_of i) old n' my ≡ after_miss n my =
        ap (λ (b : Bool). if b then after_count_at (slot_of i) n' my else after_miss n' my) (ne_eqb n' old miss) ∙ ap (λ (k : ℕ). after_miss k my) one in (
          r.0,
          keeps,
          tt,
          kept_so t n (either (eqb n' old) new n') r.0 stays r.2,
          (on, (ap (λ (v : View). let x : Seated = (v, me.1) in x) (r.1 ∙ ap seat.Caller (sym told)), ((λ e. absurd (miss e)), (λ _. of_word sees_holds_at _ _ r.3)))),
        ))

  -- the hold that the caller counted, of any key, gets its seat
  pub hand_splits : (key : Key) → IsAtRest my → my.pinning ≡ Some key → Splits (Kept o) id me.0 (after_sharing me.0) (handed_on me.0)
  hand_splits key rests pinned t h at =
      let e : Table = erased t in
      let own : get_elem? e.views id ≡ some me.0.view = view_there t.views id me.0 at in
      let at' : get_elem? e.views id ≡ some (seat.Caller my) = own ∙ ap (λ (x : Seated). some x.0) is in
      let p = caller_seat h.shown.master h.shown.callers id my (subst (λ (l : List View). get_elem? l id ≡ some (seat.Caller my)) h.shown.views at') in
      let there : IsSeated e p.0 my = subst (λ (k : ℕ). get_elem? e.views k ≡ some (seat.Caller my)) p.1 at' in
      split_kept o t h id me.0 at (after_sharing me.0) (handed_on me.0) (hands_on p.0) refl refl refl refl refl (
        my,
        key,
        rests,
        pinned,
        there,
        ap (λ (k : ℕ). let x : Table = record { words = t.words; homes = t.homes; views = set e.views k (seat.Caller (after_share my)) ++ seat.Caller (hold_on my.pinning) ∷ [] } in x) p.1
            ∙ ap (λ (x : Option Key). let y : Table = record { words = t.words; homes = t.homes; views = set e.views (suc p.0) (seat.Caller (after_share my)) ++ seat.Caller (hold_on x) ∷ [] } in y) pinned,
      )

-- the caller's view after an exchange that found the word that it expected, and after one that did not
module _ (slot old found : ℕ) (me me' : Sighted) (is : plain me ≡ (seat.Caller (caller_of me.0.view), [])) (told : plain me' ≡ (seat.Caller (after_exchange_at slot old found (caller_of me.0.view)), (plain me).1)) where
  view_is : caller_of me'.0.view ≡ after_exchange_at slot old found (caller_of me.0.view)
  view_is = ap (λ (x : Seated). caller_of x.0) told

  pub stays_caller : plain me' ≡ (seat.Caller (caller_of me'.0.view), [])
  stays_caller = told ∙ ap (λ (l : List (ℕ × Unit {0})). let x : Seated = (seat.Caller (after_exchange_at slot old found (caller_of me.0.view)), l) in x) (ap (λ (x : Seated). x.1) is)
      ∙ ap (λ (c : CallerView). let x : Seated = (seat.Caller c, []) in x) (sym view_is)

  pub hit_view : found ≡ old → caller_of me'.0.view ≡ after_count_at slot old (caller_of me.0.view)
  hit_view hit = view_is ∙ ap (λ (b : Bool). if b then after_count_at slot found (caller_of me.0.view) else after_miss found (caller_of me.0.view)) (eq-eqb found old hit) ∙ ap (λ (n : ℕ). after_count_at slot n (caller_of me.0.view)) hit

  pub miss_view : found ≢ old → caller_of me'.0.view ≡ after_miss found (caller_of me.0.view)
  miss_view miss = view_is ∙ ap (λ (b : Bool). if b then after_count_at slot found (caller_of me.0.view) else after_miss found (caller_of me.0.view)) (ne_eqb found old miss)

  -- the key of which the caller counted one more hold
  pub hit_key : (key : Key) → slot ≡ key.slot → IsOf key.generation old → found ≡ old → (caller_of me'.0.view).pinning ≡ Some key
  hit_key key its of_key hit = ap (λ (v : CallerView). v.pinning) (hit_view hit) ∙ ap (λ (k : Key). Some k) (same_key (key_in slot old) key its of_key.1)

-- the key was linked in the table that the step found
pub counted_linked : (key : Key) (before counted : CallerSight) (x : WasMade (counts_hold_at key.slot) before counted) → counted.view.pinning ≡ Some key → is_linked (world x.found) key ≡ true
counted_linked key before counted x pinned =
    let s = x.step in
    let h = x.shown in
    let c : CallerView = s.0 in
    let n : ℕ = slice_index x.found.words (hold_index key.slot) in
    let c' : CallerView = after_count_at key.slot n c in
    let new : get_elem? x.left.views (suc x.caller) ≡ some (seat.Caller c') = ap (λ (y : Table). get_elem? y.views (suc x.caller)) s.2.becomes ∙ put x.found.views (suc x.caller) (seat.Caller c) (seat.Caller c') s.2.there in
    let same_seat : seat.Caller c' ≡ seat.Caller counted.view = some-injective _ _ (sym new ∙ x.is) in
    let same_view : c' ≡ counted.view = cc in
    let its : key_in key.slot n ≡ key = same_Some (key_in key.slot n) key (ap (λ (v : CallerView). v.pinning) same_view ∙ pinned) in
    subst (λ (w : BareWorld). is_linked w key ≡ true) (sym (world_is x.found h.master h.callers h.views))
    (ap (λ (k : Key). is_linked (bare_world h.master h.callers) k) (sym its) ∙ linked_key x.found.words h.master h.callers h.shows key.slot s.1.2.0)
