-- The Master's steps that change no word keep the rule: a split, and loads.
use Rattle.std.proofs.Common.{◌&&◌, ◌||◌, ◌≡◌, ℕ, ◌+◌, Bool, true, false, eqb, List, [], ◌∷◌, ◌++◌, map, refl, sym, ap, ◌∙◌, subst, ⊎_elim, arith, eq-eqb}
use Rattle.std.specs.Prelude.{slice_get, Some, None}
use Rattle.std.proofs.lemmas.Option.{same_Some, none-some}
use mathlib.Core.List.{map-append}
use mathlib.Core.Option.{some}
use lib.ListN.{get_elem?}
use Rattle.atomic_table.proofs.Lists.{at_snoc}
use Rattle.kf_core.specs.declared.caller.Caller.{Caller}
use Rattle.kf_core.specs.declared.slot.SlotState.{SlotState}
use Rattle.kf_core.specs.declared.caller.Phase.{Phase}
use Rattle.kf_core.specs.declared.caller.Phase.TheVariants.{Still, Running, Parted}
use Rattle.kf_core.specs.Bare.{BareWorld}
use Rattle.kf_core.specs.Marks.{are_doomed}
use Rattle.kf_core.specs.Phases.{has_reference, saw_drain, saw_unused}
use Rattle.kf_core.specs.Safe.{Safe, NoneRunning}
use Rattle.kf_core.specs.Steps as core
use Rattle.kf_core.proofs.Lists.{after_push}
use Rattle.kf_core.proofs.Keeping.{caller_keeps}
use Rattle.kf_core.proofs.Hiding.{one_after_push}
use Rattle.kf_words.specs.declared.view.CallerView.{CallerView}
use Rattle.kf_words.specs.declared.view.MasterView.{MasterView}
use Rattle.kf_words.specs.declared.view.Load.{Load}
use Rattle.kf_words.specs.Layout.{bit, active_word, hold_word, is_drained}
use Rattle.kf_words.specs.Rule.{is_user, is_hider, is_holder, is_pinner, users, hiders, holders, pins_in, ShowsMarks, ShowsHolds, StillHolds, last_key, caller, bare_world, Shows}
use Rattle.kf_words.specs.Steps.{on_active, after_split, new_hold, with_look}
use Rattle.kf_words.proofs.Bits.{drained_shows}
use Rattle.kf_words.proofs.Seating.{at_caller, tally-push, tally-one}
use Rattle.kf_words.proofs.MasterSteps.{users_few}

module _ (words : List ℕ) (m : MasterView) (cs : List CallerView) (shows : Shows words m cs) where
  -- the pinned hold goes to a new seat
  pub give : (slot : ℕ) (state : SlotState) → slice_get m.slots slot ≡ Some state → m.pinning ≡ Some slot → Shows words (after_split m) (cs ++ new_hold (last_key slot state) ∷ [])
  give slot state its pins = record {
    wide = shows.wide;
    few = shows.few;
    pinned = λ i y key e. ⊎_elim
        (λ (old : get_elem? cs i ≡ some y). shows.pinned i y key old)
        (λ (new : new_hold (last_key slot state) ≡ y). λ p. absurd (none-some key (ap (λ (z : CallerView). z.pinning) new ∙ p)))
        (at_snoc cs (new_hold (last_key slot state)) y i e);
    marks = λ k y at. subst (λ (n : ℕ). ShowsMarks (active_word words k) y.marks n (hiders k (cs ++ new_hold (last_key slot state) ∷ []))) (sym (no_user k))
        (subst (λ (n : ℕ). ShowsMarks (active_word words k) y.marks (users k cs) n) (sym (no_hider k)) (shows.marks k y at));
    holds = λ k y at. subst (λ (n : ℕ). ShowsHolds m.limit (hold_word words k) y n) (sym (same_holds k)) (shows.holds k y at);
    tries = λ i y e. ⊎_elim (λ old. shows.tries i y old) (λ (new : new_hold (last_key slot state) ≡ y). λ t. absurd (let a : false ≡ true = ap (λ (z : CallerView). z.undo_due) new ∙ t in cc)) (at_snoc cs (new_hold (last_key slot state)) y i e);
    loads = shows.loads;
    fresh = λ i e. absurd (none-some i e);
    looked = λ load y e hit at. absurd (none-some load e);
    safe = subst Safe (ap (λ (l : List Caller). let w : BareWorld = record { slots = m.slots; callers = l } in w) (sym (map-append caller cs (new_hold (last_key slot state) ∷ []))))
        (caller_keeps (bare_world m cs) (core.with_caller (bare_world m cs) (last_key slot state)).callers (last_key slot state) Still shows.safe
        (λ d y h. after_push (map caller cs) d (caller (new_hold (last_key slot state))) y h)
        (λ e. absurd (let x : Still ≡ Running = e in cc))
        (λ e. absurd (let x : saw_drain Still ≡ true = e in cc))
        (λ e. absurd (let x : saw_unused Still ≡ true = e in cc))
        (λ e. absurd (let x : Still ≡ Parted = e in cc))
        (λ _. (state, its, refl))
        (one_after_push (map caller cs) (caller (new_hold (last_key slot state))) refl shows.safe.one_hides));
  }
    where
      c : CallerView
      c = new_hold (last_key slot state)

      off : (b : Bool) → bit (b && false) 1 ≡ 0
      off true = refl
      off false = refl

      no_user : (k : ℕ) → users k (cs ++ new_hold (last_key slot state) ∷ []) ≡ users k cs
      no_user k = let a = tally-push (is_user k) cs (new_hold (last_key slot state)) in let b : bit (is_user k (new_hold (last_key slot state))) 1 ≡ 0 = off (eqb slot k) in omega arith

      no_hider : (k : ℕ) → hiders k (cs ++ new_hold (last_key slot state) ∷ []) ≡ hiders k cs
      no_hider k = let a = tally-push (is_hider k) cs (new_hold (last_key slot state)) in let b : bit (is_hider k (new_hold (last_key slot state))) 1 ≡ 0 = off (eqb slot k) in omega arith

      one_of : (b : Bool) → bit (b && true) 1 ≡ bit b 1
      one_of true = refl
      one_of false = refl

      same_holds : (k : ℕ) → holders k (cs ++ new_hold (last_key slot state) ∷ []) + pins_in None k ≡ holders k cs + pins_in m.pinning k
      same_holds k =
          let a = tally-push (is_holder k) cs (new_hold (last_key slot state)) in
          let b : bit (is_holder k (new_hold (last_key slot state))) 1 ≡ bit (eqb slot k) 1 = one_of (eqb slot k) in
          let p = tally-push (is_pinner k) cs (new_hold (last_key slot state)) in
          let q : bit (is_pinner k (new_hold (last_key slot state))) 1 ≡ 0 = refl in
          let d : pins_in m.pinning k ≡ bit (eqb slot k) 1 = ap (λ o. pins_in o k) pins in
          omega arith

  -- a load of a hold word, and one of an active word
  pub load_kept : (k : ℕ) → Shows words (record (on_active m) { loads = m.loads ++ record { slot = k; word = hold_word words k } ∷ [] }) cs
  load_kept k = record {
    pinned = shows.pinned;
    wide = shows.wide;
    few = shows.few;
    marks = shows.marks;
    holds = shows.holds;
    tries = shows.tries;
    loads = λ i load e. ⊎_elim
        (λ (new : (record { slot = k; word = hold_word words k }) ≡ load). subst (λ (x : Load). StillHolds m.limit x.word (hold_word words x.slot)) new ((λ f. f), (λ r. r)))
        (λ old. shows.loads i load old)
        (after_push m.loads i (record { slot = k; word = hold_word words k }) load e);
    fresh = λ i e. absurd (none-some i e);
    looked = λ load x e hit at. absurd (none-some load e);
    safe = shows.safe;
  }

  pub look_kept : (slot : ℕ) → Shows words (with_look slot (active_word words slot) m) cs
  look_kept slot = record {
    pinned = shows.pinned;
    wide = shows.wide;
    few = shows.few;
    marks = shows.marks;
    holds = shows.holds;
    tries = shows.tries;
    loads = shows.loads;
    fresh = λ i e. absurd (none-some i e);
    looked = λ load x e hit at. subst
        (λ (y : Load). is_drained y.word ≡ true → slice_get m.slots y.slot ≡ Some x → (are_doomed x.marks ≡ true) × NoneRunning (bare_world m cs) (last_key y.slot x))
        (same_Some _ _ e)
        (λ found here. let s = drained_shows (active_word words slot) x.marks (users slot cs) (hiders slot cs) (users_few words m cs shows slot x here) (shows.marks slot x here) found in (s.1, nobody_runs slot x s.0))
        hit at;
    safe = shows.safe;
  }
    where
      nobody_runs : (i : ℕ) (x : SlotState) → users i cs ≡ 0 → NoneRunning (bare_world m cs) (last_key i x)
      nobody_runs i x empty c there =
          let y = at_caller cs c (record { key = last_key i x; phase = Running }) there in
          let z : CallerView = y.0 in
          let its_slot : z.key.slot ≡ i = ap (λ (h : Caller). h.key.slot) y.2 in
          let its_phase : z.phase ≡ Running = ap (λ (h : Caller). h.phase) y.2 in
          let one = tally-one (is_user i) cs c z y.1 (ap (λ (b : Bool). b && (has_reference z.phase || z.undo_due)) (eq-eqb z.key.slot i its_slot) ∙ ap (λ (p : Phase). has_reference p || z.undo_due) its_phase) in
          omega arith
