-- A hold that a caller counted, for its own key or another one, goes to a new seat, and the rule is kept.
use Rattle.std.proofs.Common.{◌&&◌, ◌≡◌, ◌≢◌, ℕ, zero, suc, ◌+◌, Bool, true, false, eqb, List, [], ◌∷◌, ◌++◌, length, map, set, refl, sym, ap, ◌∙◌, subst, ⊎_elim, arith}
use Rattle.std.specs.Prelude.{slice_get, Option, Some}
use Rattle.std.proofs.lemmas.Option.{none-some}
use mathlib.Core.Option.{some}
use mathlib.Core.List.{map-append}
use lib.ListN.{get_elem?}
use lib.Seq.{map-set}
use Rattle.atomic_table.proofs.Lists.{at_set, at_snoc}
use Rattle.kf_core.specs.declared.key.Key.{Key}
use Rattle.kf_core.specs.declared.caller.Caller.{Caller}
use Rattle.kf_core.specs.declared.caller.Phase.TheVariants.{Still, Running, Parted}
use Rattle.kf_core.specs.declared.event.Event.TheVariants.{Pin}
use Rattle.kf_core.specs.Bare.{BareWorld}
use Rattle.kf_core.specs.Steps as core
use Rattle.kf_core.specs.Phases.{saw_drain, saw_unused}
use Rattle.kf_core.specs.Safe.{Safe}
use Rattle.kf_core.proofs.Hiding.{one_after_push}
use Rattle.kf_core.proofs.Keeping.{caller_keeps}
use Rattle.kf_core.proofs.Lists.{after_push}
use Rattle.kf_words.specs.declared.view.CallerView.{CallerView}
use Rattle.kf_words.specs.declared.view.MasterView.{MasterView}
use Rattle.kf_words.specs.Layout.{bit, active_word, hold_word}
use Rattle.kf_words.specs.Rule.{tally, is_user, is_hider, is_holder, is_in, is_pinner, users, hiders, holders, pins_in, ShowsMarks, ShowsHolds, last_key, caller, bare_world, Shows}
use Rattle.kf_words.specs.Steps.{after_share, new_hold}
use Rattle.kf_words.proofs.Seating.{caller_at, tally-set, tally-push}

module _ (m : MasterView) (cs : List CallerView) (j : ℕ) (c : CallerView) (at : get_elem? cs j ≡ some c) (key : Key) where
  abbrev pub new : CallerView
  new = new_hold key

  -- all callers after the step
  abbrev pub shared : List CallerView
  shared = set cs j (after_share c) ++ new_hold key ∷ []

  there : slice_get (map caller cs) j ≡ Some (caller c)
  there = caller_at cs j c at

  put_same : (l : List Caller) (i : ℕ) (x : Caller) → slice_get l i ≡ Some x → set l i x ≡ l
  put_same [] i x e = refl
  put_same (y ∷ ys) zero x e = let is : Some y ≡ Some x = e in let same : x ≡ y = cc in ap (λ z. z ∷ ys) same
  put_same (y ∷ ys) (suc i) x e = ap (λ l. y ∷ l) (put_same ys i x e)

  -- the world gets one more caller
  pub one_more_caller : map caller shared ≡ map caller cs ++ caller new ∷ []
  one_more_caller = map-append caller (set cs j (after_share c)) (new ∷ [])
      ∙ ap (λ (l : List Caller). l ++ caller new ∷ []) (map-set caller cs j (after_share c) ∙ put_same (map caller cs) j (caller c) there)

  pub shared_world : bare_world m shared ≡ core.with_caller (bare_world m cs) key
  shared_world = ap (λ (l : List Caller). let w : BareWorld = record { slots = m.slots; callers = l } in w) one_more_caller

  -- the step is a Pin if the key is linked or held
  pub is_pinned : core.MayPin (bare_world m cs) key → core.BareStep (bare_world m cs) (Pin (length (bare_world m cs).callers) key) (bare_world m shared)
  is_pinned may = (refl, may, shared_world)

  module _ (words : List ℕ) (shows : Shows words m cs) (pinned : c.pinning ≡ Some key) where
    off : (b : Bool) → bit (b && false) 1 ≡ 0
    off true = refl
    off false = refl

    on : (b : Bool) → bit (b && true) 1 ≡ bit b 1
    on true = refl
    on false = refl

    -- if the step does not change whether the caller passes a test, the count changes only by the new seat
    counted : (p : CallerView → Bool) → p (after_share c) ≡ p c → tally p shared ≡ tally p cs + bit (p new) 1
    counted p same =
        let a = tally-set p cs j c (after_share c) at in
        let b : bit (p (after_share c)) 1 ≡ bit (p c) 1 = ap (λ (x : Bool). bit x 1) same in
        let d = tally-push p (set cs j (after_share c)) new in
        omega arith

    no_user : (k : ℕ) → users k shared ≡ users k cs
    no_user k = let a = counted (is_user k) refl in let b : bit (is_user k new) 1 ≡ 0 = off (eqb key.slot k) in omega arith

    no_hider : (k : ℕ) → hiders k shared ≡ hiders k cs
    no_hider k = let a = counted (is_hider k) refl in let b : bit (is_hider k new) 1 ≡ 0 = off (eqb key.slot k) in omega arith

    same_holds : (k : ℕ) → holders k shared ≡ holders k cs
    same_holds k =
        let a = counted (is_holder k) refl in
        let b : bit (is_holder k new) 1 ≡ bit (eqb key.slot k) 1 = on (eqb key.slot k) in
        let d = tally-set (is_pinner k) cs j c (after_share c) at in
        let e : bit (is_pinner k (after_share c)) 1 ≡ 0 = refl in
        let f : bit (is_pinner k c) 1 ≡ bit (eqb key.slot k) 1 = ap (λ (o : Option Key). bit (is_in k o) 1) pinned in
        let g = tally-push (is_pinner k) (set cs j (after_share c)) new in
        let h : bit (is_pinner k new) 1 ≡ 0 = refl in
        omega arith

    pub share_kept : Shows words m shared
    share_kept = record {
      wide = shows.wide;
      few = shows.few;
      marks = λ k y its. subst (λ (n : ℕ). ShowsMarks (active_word words k) y.marks n (hiders k shared)) (sym (no_user k))
          (subst (λ (n : ℕ). ShowsMarks (active_word words k) y.marks (users k cs) n) (sym (no_hider k)) (shows.marks k y its));
      holds = λ k y its. subst (λ (n : ℕ). ShowsHolds m.limit (hold_word words k) y (n + pins_in m.pinning k)) (sym (same_holds k)) (shows.holds k y its);
      tries = λ i y e. ⊎_elim
          (λ (old : get_elem? (set cs j (after_share c)) i ≡ some y). ⊎_elim
          (λ (its : (i ≡ j) × (after_share c ≡ y)). λ t.
          ap (λ (z : CallerView). z.phase) (sym its.1) ∙ shows.tries j c at (ap (λ (z : CallerView). z.undo_due) its.1 ∙ t))
          (λ (other : (i ≢ j) × (get_elem? cs i ≡ some y)). shows.tries i y other.1)
          (at_set cs j i (after_share c) y old))
          (λ (last : new ≡ y). λ t. absurd (let a : false ≡ true = ap (λ (z : CallerView). z.undo_due) last ∙ t in cc))
          (at_snoc (set cs j (after_share c)) new y i e);
      pinned = λ i y k e. ⊎_elim
          (λ (old : get_elem? (set cs j (after_share c)) i ≡ some y). ⊎_elim
          (λ (its : (i ≡ j) × (after_share c ≡ y)). λ p. absurd (none-some k (ap (λ (z : CallerView). z.pinning) its.1 ∙ p)))
          (λ (other : (i ≢ j) × (get_elem? cs i ≡ some y)). shows.pinned i y k other.1)
          (at_set cs j i (after_share c) y old))
          (λ (last : new ≡ y). λ p. absurd (none-some k (ap (λ (z : CallerView). z.pinning) last ∙ p)))
          (at_snoc (set cs j (after_share c)) new y i e);
      loads = shows.loads;
      fresh = shows.fresh;
      looked = λ load state e hit its. let d = shows.looked load state e hit its in (
        d.0,
        λ i h. ⊎_elim
            (λ (last : caller new ≡ record { key = last_key load.slot state; phase = Running }). absurd (let x : Still ≡ Running = ap (λ (y : Caller). y.phase) last in cc))
            (λ (old : slice_get (map caller cs) i ≡ Some (record { key = last_key load.slot state; phase = Running })). d.1 i old)
            (after_push (map caller cs) i (caller new) (record { key = last_key load.slot state; phase = Running }) (subst (λ (l : List Caller). slice_get l i ≡ Some (record { key = last_key load.slot state; phase = Running })) one_more_caller h)),
      );
      safe = subst Safe (sym shared_world)
          (caller_keeps (bare_world m cs) (core.with_caller (bare_world m cs) key).callers key Still shows.safe
          (λ d y h. after_push (map caller cs) d (caller new) y h)
          (λ e. absurd (let x : Still ≡ Running = e in cc))
          (λ e. absurd (let x : saw_drain Still ≡ true = e in cc))
          (λ e. absurd (let x : saw_unused Still ≡ true = e in cc))
          (λ e. absurd (let x : Still ≡ Parted = e in cc))
          (λ _. shows.pinned j c key at pinned)
          (one_after_push (map caller cs) (caller new) refl shows.safe.one_hides));
    }
