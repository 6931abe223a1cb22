-- Events do what each attended step of the table does, in a world that equals the table's up to a renumbering
-- of the callers.
use Rattle.std.proofs.Common.{◌≡◌, ◌≢◌, ◌⊎◌, ℕ, arith, true, List, [], ◌∷◌, ◌++◌, length, refl, sym, ap, ◌∙◌, subst, ⊎_elim}
use Rattle.std.specs.Prelude.{slice_get, count_by, Some}
use Rattle.kf_core.specs.declared.key.Key.{Key}
use Rattle.kf_core.specs.declared.caller.Caller.{Caller}
use Rattle.kf_core.specs.declared.caller.Phase.TheVariants.{Spent}
use Rattle.kf_core.specs.declared.event.Event.{Event}
use Rattle.kf_core.specs.declared.event.Event.TheVariants.{Pin, Release}
use Rattle.kf_core.specs.declared.slot.SlotState.{SlotState}
use Rattle.kf_core.specs.Bare.{BareWorld, IsLast}
use Rattle.kf_core.specs.Steps.{BareStep, BareRun, MayPin}
use Rattle.kf_core.proofs.Tallies.{count_push}
use Rattle.kf_words.specs.Rule.{Shown}
use Rattle.kf_words.specs.TableSteps.{Table, StepKind, world, callers_in, WordStep, AttendedRun, IsAttended, hands_on}
use Rattle.kf_words.specs.Runs.{IsRenumbered, IsRunOfEvents, held_world, keys_under_way, newcomer, newcomers}
use Rattle.kf_words.proofs.Led.{with_spent}
use Rattle.kf_words.proofs.Coming.{passes}
use Rattle.kf_words.proofs.WordSteps.{word_step}
use Rattle.kf_words.proofs.Attended.{attended_event}
use Rattle.kf_words.proofs.Renumbered.{AreAsMany, Carries, with_callers, carry, passed, pin_too, count_both}
use Rattle.kf_words.proofs.UnderWay.{NoneComes, OneComes, OneSits, holds_under_way, hand_sits, coming_of, coming_last, stays_coming}

-- the keys of the holds under way in a table
abbrev keys_of : Table → List Key
keys_of t = keys_under_way (callers_in t.views)

-- the world of a table, but with these callers
abbrev pub model : Table → List Caller → BareWorld
model t l = with_callers (world t) l

-- these callers are as many of each kind as the table's callers and its holds under way together
abbrev pub Matches : List Caller → Table → Type 0
Matches l t = AreAsMany l (world t) (keys_of t)

-- events lead from these callers to callers that match the next table
abbrev pub Follows : List Caller → Table → Table → Type 0
Follows l t t' = (es : List Event) × (l' : List Caller) × BareRun (model t l) es (model t' l') × Matches l' t'

module _ (slots limit : ℕ) (t : Table) (kind : StepKind) (t' : Table) (h : Shown slots limit t) (s : WordStep t kind t') (l : List Caller) (m : Matches l t) where
  -- no hold is counted, and none gets its seat
  module _ (none : NoneComes t t') where
    moves_on : (l' : List Caller) → AreAsMany l' (world t') (keys_of t) → Matches l' t'
    moves_on l' many p = let a = many p in let b = none p in omega arith

    lasts : (j : ℕ) (key : Key) → slice_get (keys_of t) j ≡ Some key → IsLast (world t) key.slot key.generation × IsLast (world t') key.slot key.generation
    lasts j key its =
        let k = stays_coming t t' none j key its in
        (coming_last slots limit t h j key its, coming_last slots limit t' (word_step slots limit t kind t' h s).0 k.0 key k.1)

    other : (j : ℕ) → kind ≢ hands_on j
    other j its =
        let o = hand_sits slots limit t t' h j (subst (λ (k : StepKind). WordStep t k t') its s) in
        let a = none (λ _. true) in
        let b = o.2 (λ _. true) in
        let one : coming_of (λ _. true) (Some o.0) ≡ 1 = refl in
        omega arith

    by_event : IsAttended t kind → Follows l t t'
    by_event may = ⊎_elim
        (λ (same : world t' ≡ world t).
        ([], l, ap (λ (w : BareWorld). with_callers w l) same, moves_on l (subst (λ (w : BareWorld). AreAsMany l w (keys_of t)) (sym same) m)))
        (λ (more : ((e : Event) × BareStep (world t) e (world t')) ⊎ ((key : Key) × MayPin (world t) key × (world t' ≡ with_spent (world t) key))). ⊎_elim
        (λ (e : (e : Event) × BareStep (world t) e (world t')).
        let c : Carries (world t) (keys_of t) l m (world t') = carry (world t) (keys_of t) l m e.0 (world t') e.1 lasts in
        (c.0 ∷ [], c.1, (model t' c.1, c.2, refl), moves_on c.1 c.3))
        (λ (p : (key : Key) × MayPin (world t) key × (world t' ≡ with_spent (world t) key)).
        let gone : Caller = record { key = p.0; phase = Spent } in
        let l' : List Caller = l ++ gone ∷ [] in (
          Pin (length l) p.0 ∷ Release (length l) ∷ [],
          l',
          passes (model t l) p.0 (pin_too (world t) (keys_of t) l m p.0 p.1) (model t' l') (ap (λ (w : BareWorld). with_callers w l') p.2),
          moves_on l' (subst (λ (w : BareWorld). AreAsMany l' w (keys_of t)) (sym p.2) (passed (world t) (keys_of t) l m gone)),
        ))
        more)
        (attended_event slots limit t kind t' h s may other)

  -- the step that counts a hold is its Pin
  by_pin : OneComes t t' → Follows l t t'
  by_pin o =
      let l' : List Caller = l ++ newcomer o.0 ∷ [] in (
        Pin (length l) o.0 ∷ [],
        l',
        (model t' l', (refl, pin_too (world t) (keys_of t) l m o.0 o.1, ap (λ (w : BareWorld). with_callers w l') o.2), refl),
        λ p. let a = count_push p l (newcomer o.0) in
            let b = m p in
            let d = o.3 p in
            let one = count_push p [] (newcomer o.0) in
            let none : count_by p [] ≡ 0 = refl in
            let w : count_by p (world t').callers ≡ count_by p (world t).callers = ap (λ (x : BareWorld). count_by p x.callers) o.2 in
            omega arith,
      )

  -- when a hold gets its seat, its caller is already in the world
  by_seat : OneSits t t' → Follows l t t'
  by_seat o = (
    [],
    l,
    ap (λ (w : BareWorld). with_callers w l) o.1,
    λ p. let a = count_push p (world t).callers (newcomer o.0) in
        let b = m p in
        let d = o.2 p in
        let one = count_push p [] (newcomer o.0) in
        let none : count_by p [] ≡ 0 = refl in
        let w : count_by p (world t').callers ≡ count_by p ((world t).callers ++ newcomer o.0 ∷ []) = ap (λ (x : BareWorld). count_by p x.callers) o.1 in
        omega arith,
  )

  pub follows : IsAttended t kind → Follows l t t'
  follows may = ⊎_elim
      (λ (none : NoneComes t t'). by_event none may)
      (λ (more : OneComes t t' ⊎ OneSits t t'). ⊎_elim by_pin by_seat more)
      (holds_under_way slots limit t kind t' h s)

-- callers that match a table are the table's callers, up to a renumbering
renumbered : (t : Table) (l : List Caller) → Matches l t → IsRenumbered (model t l) (held_world t)
renumbered t l m = (refl, λ p. m p ∙ sym (count_both p (world t).callers (newcomers t)))

pub run_followed : (slots limit : ℕ) (kinds : List StepKind) (t u : Table) → Shown slots limit t → AttendedRun t kinds u → (l : List Caller) → Matches l t → IsRunOfEvents (model t l) t kinds u
run_followed slots limit [] t u h r l m = (r, renumbered t l m)
run_followed slots limit (kind ∷ kinds) t u h r l m =
    let v : Table = r.0 in
    let f = follows slots limit t kind v h r.2 l m r.1 in
    (renumbered t l m, v, r.2, f.0, model v f.1, f.2, run_followed slots limit kinds v u (word_step slots limit t kind v h r.2).0 r.3 f.1 f.3)

-- an attended run is a run of events from any world that equals the table's up to a renumbering of the
-- callers
pub followed_from : (slots limit : ℕ) (kinds : List StepKind) (t u : Table) → Shown slots limit t → AttendedRun t kinds u → (w : BareWorld) → IsRenumbered w (held_world t) → IsRunOfEvents w t kinds u
followed_from slots limit kinds t u h r w same =
    let is : model t w.callers ≡ w = ap (λ (l : List SlotState). let x : BareWorld = record { slots = l; callers = w.callers } in x) (sym same.0) in
    subst (λ (x : BareWorld). IsRunOfEvents x t kinds u) is
    (run_followed slots limit kinds t u h r w.callers (λ p. same.1 p ∙ count_both p (world t).callers (newcomers t)))
