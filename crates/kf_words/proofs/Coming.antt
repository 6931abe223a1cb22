-- A new seat that holds nothing is made: the rule is kept, and the world gets one more caller, which is
-- spent.
use Rattle.std.proofs.Common.{◌&&◌, ◌≡◌, ◌⊎◌, inl, inr, ℕ, ◌+◌, Bool, true, false, true≢false, eqb, List, [], ◌∷◌, ◌++◌, length, map, set, refl, sym, ap, ◌∙◌, subst, ⊎_elim, arith}
use Rattle.std.specs.Prelude.{slice_get, Some}
use Rattle.std.proofs.lemmas.Option.{none-some}
use mathlib.Core.Option.{some}
use mathlib.Core.List.{map-append}
use lib.ListN.{get_elem?}
use Rattle.atomic_table.proofs.Lists.{at_snoc}
use Rattle.kf_core.specs.declared.key.Key.{Key}
use Rattle.kf_core.specs.declared.caller.Caller.{Caller}
use Rattle.kf_core.specs.declared.caller.Phase.{Phase}
use Rattle.kf_core.specs.declared.caller.Phase.TheVariants.{Still, Running, Parted, Spent}
use Rattle.kf_core.specs.declared.event.Event.TheVariants.{Pin, Release}
use Rattle.kf_core.specs.Bare.{BareWorld, IsCaller}
use Rattle.kf_core.specs.Phases.{saw_drain, saw_unused, is_hiding}
use Rattle.kf_core.specs.Safe.{Safe, NoneRunning}
use Rattle.kf_core.specs.Steps.{BareRun, MayPin, with_caller}
use Rattle.kf_core.proofs.Lists.{after_push}
use Rattle.kf_words.specs.declared.view.CallerView.{CallerView}
use Rattle.kf_words.specs.declared.view.MasterView.{MasterView}
use Rattle.kf_words.specs.Layout.{bit, active_word, hold_word}
use Rattle.kf_words.specs.Rule.{tally, is_user, is_hider, is_holder, is_pinner, users, hiders, holders, pins_in, ShowsMarks, ShowsHolds, last_key, caller, bare_world, Shows}
use Rattle.kf_words.specs.Steps.{spent_hold}
use Rattle.kf_words.proofs.Led.{with_spent}
use Rattle.kf_words.proofs.MasterAllowed.{at_end}
use Rattle.kf_words.proofs.Seating.{tally-push}

set_end : {A : Type 0} (l : List A) (x y : A) → set (l ++ x ∷ []) (length l) y ≡ l ++ y ∷ []
set_end [] x y = refl
set_end (z ∷ zs) x y = ap (λ l. z ∷ l) (set_end zs x y)

-- the step is a Pin followed at once by a Release
pub passes : (w : BareWorld) (key : Key) → MayPin w key → (w' : BareWorld) → w' ≡ with_spent w key → BareRun w (Pin (length w.callers) key ∷ Release (length w.callers) ∷ []) w'
passes w key may w' is =
    let came : Caller = record { key = key; phase = Still } in
    let gone : Caller = record { key = key; phase = Spent } in (
      with_caller w key,
      (refl, may, refl),
      (
        w',
        (
          key,
          Still,
          at_end w.callers came,
          refl,
          is ∙ ap (λ (l : List Caller). let x : BareWorld = record { slots = w.slots; callers = l } in x) (sym (set_end w.callers came gone)),
        ),
        refl,
      ),
    )

-- a safe world stays safe when it gets a spent caller
module _ (w : BareWorld) (key : Key) (s : Safe w) where
  abbrev gone : Caller
  gone = record { key = key; phase = Spent }

  -- a caller of the new world is spent or was there before
  was : (c : ℕ) (k : Key) (p : Phase) → IsCaller (with_spent w key) c k p → (p ≡ Spent) ⊎ IsCaller w c k p
  was c k p h = ⊎_elim
      (λ (new : gone ≡ record { key = k; phase = p }). inl (sym (ap (λ (x : Caller). x.phase) new)))
      (λ (old : IsCaller w c k p). inr old)
      (after_push w.callers c gone (record { key = k; phase = p }) h)

  not_so : (f : Phase → Bool) (p : Phase) → f Spent ≡ false → f p ≡ true → p ≡ Spent → ⊥
  not_so f p off on e = true≢false (sym on ∙ ap f e ∙ off)

  still_none : (k : Key) → NoneRunning w k → NoneRunning (with_spent w key) k
  still_none k none c h = ⊎_elim
      (λ (e : Running ≡ Spent). let x : Running ≡ Spent = e in cc)
      (λ (old : IsCaller w c k Running). none c old)
      (was c k Running h)

  pub spent_safe : Safe (with_spent w key)
  spent_safe = record {
    none_running = λ c k p there unused. ⊎_elim
        (λ (e : p ≡ Spent). absurd (not_so saw_unused p refl unused e))
        (λ (old : IsCaller w c k p). still_none k (s.none_running c k p old unused))
        (was c k p there);
    drain_doomed = λ c k p there past. ⊎_elim
        (λ (e : p ≡ Spent). absurd (not_so saw_drain p refl past e))
        (λ (old : IsCaller w c k p). s.drain_doomed c k p old past)
        (was c k p there);
    parted_gone = λ c k there. ⊎_elim
        (λ (e : Parted ≡ Spent). absurd (let x : Parted ≡ Spent = e in cc))
        (λ (old : IsCaller w c k Parted). s.parted_gone c k old)
        (was c k Parted there);
    held_last = λ c k p there holds. ⊎_elim
        (λ (e : p ≡ Spent). absurd (holds e))
        (λ (old : IsCaller w c k p). s.held_last c k p old holds)
        (was c k p there);
    running_linked = λ c k there. ⊎_elim
        (λ (e : Running ≡ Spent). absurd (let x : Running ≡ Spent = e in cc))
        (λ (old : IsCaller w c k Running). s.running_linked c k old)
        (was c k Running there);
    one_hides = λ c k p there hides. ⊎_elim
        (λ (e : p ≡ Spent). absurd (not_so is_hiding p refl hides e))
        (λ (old : IsCaller w c k p). λ d q other too. ⊎_elim
        (λ (e : q ≡ Spent). absurd (not_so is_hiding q refl too e))
        (λ (mine : IsCaller w d k q). s.one_hides c k p old hides d q mine too)
        (was d k q other))
        (was c k p there);
  }

module _ (m : MasterView) (cs : List CallerView) (key : Key) where
  abbrev new : CallerView
  new = spent_hold key

  -- all callers after the step, the new one last
  abbrev pub with_it : List CallerView
  with_it = cs ++ new ∷ []

  pub spent_world : bare_world m with_it ≡ with_spent (bare_world m cs) key
  spent_world = ap (λ (l : List Caller). let w : BareWorld = record { slots = m.slots; callers = l } in w) (map-append caller cs (new ∷ []))

  off : (b : Bool) → bit (b && false) 1 ≡ 0
  off true = refl
  off false = refl

  uncounted : (p : CallerView → Bool) → bit (p new) 1 ≡ 0 → tally p with_it ≡ tally p cs
  uncounted p none = let a = tally-push p cs new in omega arith

  no_user : (k : ℕ) → users k with_it ≡ users k cs
  no_user k = uncounted (is_user k) (off (eqb key.slot k))

  no_hider : (k : ℕ) → hiders k with_it ≡ hiders k cs
  no_hider k = uncounted (is_hider k) (off (eqb key.slot k))

  no_holder : (k : ℕ) → holders k with_it ≡ holders k cs
  no_holder k =
      let a = uncounted (is_holder k) (off (eqb key.slot k)) in
      let b = uncounted (is_pinner k) refl in
      omega arith

  pub come_kept : (words : List ℕ) → Shows words m cs → Shows words m with_it
  come_kept words shows = record {
    wide = shows.wide;
    few = shows.few;
    marks = λ k y its. subst (λ (n : ℕ). ShowsMarks (active_word words k) y.marks n (hiders k with_it)) (sym (no_user k))
        (subst (λ (n : ℕ). ShowsMarks (active_word words k) y.marks (users k cs) n) (sym (no_hider k)) (shows.marks k y its));
    holds = λ k y its. subst (λ (n : ℕ). ShowsHolds m.limit (hold_word words k) y (n + pins_in m.pinning k)) (sym (no_holder k)) (shows.holds k y its);
    tries = λ i y e. ⊎_elim
        (λ (old : get_elem? cs i ≡ some y). shows.tries i y old)
        (λ (last : new ≡ y). λ t. absurd (let a : false ≡ true = ap (λ (z : CallerView). z.undo_due) last ∙ t in cc))
        (at_snoc cs new y i e);
    pinned = λ i y k e. ⊎_elim
        (λ (old : get_elem? cs i ≡ some y). shows.pinned i y k old)
        (λ (last : new ≡ y). λ p. absurd (none-some k (ap (λ (z : CallerView). z.pinning) last ∙ p)))
        (at_snoc cs new y i e);
    loads = shows.loads;
    fresh = shows.fresh;
    looked = λ load state e hit its. let d = shows.looked load state e hit its in (
      d.0,
      λ i h. ⊎_elim
          (λ (last : caller new ≡ record { key = last_key load.slot state; phase = Running }). absurd (let x : Spent ≡ Running = ap (λ (y : Caller). y.phase) last in cc))
          (λ (old : slice_get (map caller cs) i ≡ Some (record { key = last_key load.slot state; phase = Running })). d.1 i old)
          (after_push (map caller cs) i (caller new) (record { key = last_key load.slot state; phase = Running })
          (subst (λ (l : List Caller). slice_get l i ≡ Some (record { key = last_key load.slot state; phase = Running })) (map-append caller cs (new ∷ [])) h)),
    );
    safe = subst Safe (sym spent_world) (spent_safe (bare_world m cs) key shows.safe);
  }
