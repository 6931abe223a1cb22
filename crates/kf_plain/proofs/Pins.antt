-- New holds of several linked nodes, taken one after another.
use Rattle.std.proofs.Common.{◌≡◌, ◌≢◌, inl, inr, ℕ, zero, suc, ◌+◌, ◌^◌, ◌<◌, ◌≤◌, refl, ap, arith, sym, ◌∙◌, subst, true, false, cond, List, [], ◌∷◌, ◌++◌, length, take, drop, append_assoc}
use Rattle.std.specs.Prelude.{Option, None, Some, slice_get, slice_index_or, is_some, map, IsTrue, All, AllPairs, ◌&&◌}
use Rattle.std.specs.Option.{option_map}
use Rattle.std.proofs.lemmas.Option.{same_Some, none-some, slice_get-map, slice_get_within}
use Rattle.std.proofs.lemmas.Bool.Decides.{eqb_tells}
use Rattle.std.proofs.lemmas.List.{append-nil, map-append, length-append, length-map, length-take-le, take_more, take_at, drop_at, get_or_default, get_or-take}
use Rattle.std.proofs.lemmas.List.Sums.{sum_by-append}
use Rattle.kf_core.specs.declared.key.Key.{Key}
use Rattle.kf_core.specs.declared.caller.Caller.{Caller}
use Rattle.kf_core.specs.declared.refusal.Refusal.{Refusal}
use Rattle.kf_core.specs.declared.refusal.Refusal.TheVariants.{NoEntry, NoMemory, Access, Busy, Exists, NoDevice, NotDir, IsDir, Invalid, TooManyHolds, NoSpace, NameTooLong}
use Rattle.kf_core.specs.declared.event.Event.TheVariants.{Pin}
use Rattle.kf_core.specs.Phases.{may_release}
use Rattle.kf_core.specs.Bare.{BareWorld, marks, is_linked}
use Rattle.kf_world.specs.Bounded.{BoundedWorld, Happens, PinRefused, bounded, hold_count, holds}
use Rattle.kf_core.specs.Steps.{with_caller}
use Rattle.kf_tree.proofs.SlotWrites.{alone_linked}
use Rattle.kf_plain.specs.Nodes.{holds_slot, spent_on}
use Rattle.kf_plain.specs.Removals.{PinsRefused, released, still_on, with_callers}
use Rattle.kf_plain.proofs.Counts.{none_counted}

some_of : {X : Type 0} (o : Option X) → is_some o ≡ true → (x : X) × (o ≡ Some x)
some_of None h = absurd (cc)
some_of (Some x) h = (x, refl)

-- no two linked nodes are in the same slot
slots_differ : (w : BareWorld) (a b : Key) → is_linked w a ≡ true → is_linked w b ≡ true → a ≢ b → a.slot ≢ b.slot
slots_differ w a b ha hb n s =
    (let m = some_of (marks w a) ha in
    let m' = some_of (marks w b) hb in
    none-some m'.0 (sym ((alone_linked w.slots a m.0 m.1).alone b (sym s) (λ e. n (sym e))) ∙ m'.1))

-- holds of other slots are not counted
other_holds : (cs : List Caller) (keys : List Key) (slot : ℕ) → ((i : ℕ) (k : Key) → slice_get keys i ≡ Some k → k.slot ≢ slot) → hold_count (cs ++ map still_on keys) slot ≡ hold_count cs slot
other_holds cs keys slot differ =
    (let whole = sum_by-append (λ (c : Caller). cond (holds_slot slot c) 1 0) cs (map still_on keys) in
    let none = none_counted (holds_slot slot) (map still_on keys) other in
    whole ∙ ap (λ n. hold_count cs slot + n) none ∙ (let e : hold_count cs slot + 0 ≡ hold_count cs slot = omega arith in e))
  where
    other : (i : ℕ) (c : Caller) → slice_get (map still_on keys) i ≡ Some c → holds_slot slot c ≡ false
    other i c h = go (slice_get keys i) refl (sym (slice_get-map still_on keys i) ∙ h)
      where
        go : (o : Option Key) → slice_get keys i ≡ o → option_map still_on o ≡ Some c → holds_slot slot c ≡ false
        go None e f = absurd (none-some c f)
        go (Some k) e f = sym (ap (holds_slot slot) (same_Some (still_on k) c f)) ∙ (elim (eqb_tells k.slot slot) [
          | inl s ↦ absurd (differ i k e s.1)
          | inr s ↦ ap (λ b. b && true) s.0
        ])

-- this many of the nodes, from the first one on, are held
pub record ArePinned (w0 w : BoundedWorld) (keys : List Key) (first n : ℕ) : Type 0 where
  pub held : w ≡ with_callers w0 (w0.world.callers ++ map still_on (take n keys))
  pub number : first ≡ length w0.world.callers
  pub fits : first + n ≤ 2 ^ 64
  pub room : All (λ key. hold_count w0.world.callers key.slot < w0.limit) (take n keys)

pub none_pinned : (w0 : BoundedWorld) (keys : List Key) (first : ℕ) → first ≡ length w0.world.callers → first < 2 ^ 64 → ArePinned w0 w0 keys first 0
none_pinned w0 keys first e h = record {
  held = ap (with_callers w0) (sym (append-nil w0.world.callers));
  number = e;
  fits = omega (arith, h);
  room = λ i d l. absurd (omega (arith, l));
}

module _ (w0 w : BoundedWorld) (keys : List Key) (n : ℕ) (d : Key) (within : n < length keys)
    (linked : All (λ key. IsTrue (is_linked w0.world key)) keys) (different : AllPairs (λ a b. a ≢ b) keys)
    (held : w ≡ with_callers w0 (w0.world.callers ++ map still_on (take n keys))) where
  abbrev pub next : Key
  next = slice_index_or keys n d

  same_holds : hold_count w.world.callers next.slot ≡ hold_count w0.world.callers next.slot
  same_holds = ap (λ (v : BoundedWorld). hold_count v.world.callers next.slot) held ∙ other_holds w0.world.callers (take n keys) next.slot apart
    where
      apart : (i : ℕ) (k : Key) → slice_get (take n keys) i ≡ Some k → k.slot ≢ next.slot
      apart i k h =
          (let short = length-take-le n keys (omega (arith, within)) in
          let low = slice_get_within (take n keys) i k h in
          let before : i < n = omega (arith, short, low) in
          let is : slice_index_or keys i d ≡ k = sym (get_or-take n keys i d before) ∙ get_or_is (take n keys) i k h in
          slots_differ w0.world k next (subst (λ x. IsTrue (is_linked w0.world x)) is (linked i d (omega (arith, before, within)))) (linked n d within)
          (λ e. different i n d before within (is ∙ e)))
        where
          get_or_is : (xs : List Key) (i : ℕ) (k : Key) → slice_get xs i ≡ Some k → slice_index_or xs i d ≡ k
          get_or_is [] zero k h = absurd (none-some k h)
          get_or_is [] (suc i) k h = absurd (none-some k h)
          get_or_is (x ∷ xs) zero k h = same_Some x k h
          get_or_is (x ∷ xs) (suc i) k h = get_or_is xs i k h

  still_linked : IsTrue (is_linked w.world next)
  still_linked = ap (λ (v : BoundedWorld). is_linked v.world next) held ∙ linked n d within

  length_held : length w.world.callers ≡ length w0.world.callers + n
  length_held =
      (let a = ap (λ (v : BoundedWorld). length v.world.callers) held in
      let b = length-append w0.world.callers (map still_on (take n keys)) in
      let c = length-map (take n keys) still_on in
      let e = length-take-le n keys (omega (arith, within)) in
      omega (arith, a, b, c, e))

  -- why a hold is refused
  pub pin_refused : (refusal : Refusal) → PinRefused w next refusal → PinsRefused w0 keys refusal
  pin_refused NoEntry h = absurd (h (inl still_linked))
  pin_refused NoMemory h = inr refl
  pin_refused TooManyHolds h = inl (
    refl,
    (
      next,
      (n, within, get_or_default keys n next d within),
      (let most = h.1 in let same = same_holds in let limit = ap (λ (v : BoundedWorld). v.limit) held in omega (arith, most, same, limit)),
    ),
  )
  pin_refused Access h = absurd h
  pin_refused Busy h = absurd h
  pin_refused Exists h = absurd h
  pin_refused NoDevice h = absurd h
  pin_refused NotDir h = absurd h
  pin_refused IsDir h = absurd h
  pin_refused Invalid h = absurd h
  pin_refused NoSpace h = absurd h
  pin_refused NameTooLong h = absurd h

  -- one more hold
  pub one_pinned : (w' : BoundedWorld) (first id : ℕ) → ArePinned w0 w keys first n → Happens w (Pin id next) w' → id < 2 ^ 64 → holds w.world next.slot < w.limit → ArePinned w0 w' keys first (n + 1)
  one_pinned w' first id before h small room = record {
    held = ap (λ v. bounded v w'.limit) h.steps.2 ∙ ap (bounded (with_caller w.world next)) h.limit
        ∙ ap (λ (v : BoundedWorld). with_callers v (v.world.callers ++ still_on next ∷ [])) held
        ∙ ap (with_callers w0) (append_assoc w0.world.callers (map still_on (take n keys)) (still_on next ∷ [])
        ∙ ap (λ l. w0.world.callers ++ l) (sym (ap (map still_on) (take_more keys n d within) ∙ map-append still_on (take n keys) (next ∷ []))));
    number = before.number;
    fits = (let id_is = h.steps.0 in let long = length_held in let first_is = before.number in omega (arith, id_is, long, first_is, small));
    room = subst (λ ks. All (λ key. hold_count w0.world.callers key.slot < w0.limit) ks) (sym (take_more keys n d within)) (λ i e l. all_more (take n keys) before.room i e l);
  }
    where
      room_now : hold_count w0.world.callers next.slot < w0.limit
      room_now = (let same = same_holds in let limit = ap (λ (v : BoundedWorld). v.limit) held in omega (arith, room, same, limit))

      all_more : (ks : List Key) → All (λ key. hold_count w0.world.callers key.slot < w0.limit) ks → All (λ key. hold_count w0.world.callers key.slot < w0.limit) (ks ++ next ∷ [])
      all_more [] a zero e l = room_now
      all_more [] a (suc i) e l = absurd (omega (arith, l))
      all_more (k ∷ ks) a zero e l = a 0 e (omega arith)
      all_more (k ∷ ks) a (suc i) e l = all_more ks (λ j x m. a (suc j) x (omega (arith, m))) i e (omega (arith, l))

pub all_still : (keys : List Key) → All (λ c. IsTrue (may_release c.phase)) (map still_on keys)
all_still [] i d l = absurd (omega (arith, l))
all_still (k ∷ ks) zero d l = refl
all_still (k ∷ ks) (suc i) d l = all_still ks i d (omega (arith, l))

pub released_still : (keys : List Key) → map released (map still_on keys) ≡ map spent_on keys
released_still [] = refl
released_still (k ∷ ks) = ap (λ l. spent_on k ∷ l) (released_still ks)

-- the callers that hold these nodes come after all others
module _ (w0 w : BoundedWorld) (keys : List Key) (first : ℕ) (held : w ≡ with_callers w0 (w0.world.callers ++ map still_on keys)) (number : first ≡ length w0.world.callers) where
  pub last_callers : drop first w.world.callers ≡ map still_on keys
  last_callers = ap (λ (v : BoundedWorld). drop first v.world.callers) held ∙ drop_at w0.world.callers (map still_on keys) first (sym number)

  pub first_callers : take first w.world.callers ≡ w0.world.callers
  first_callers = ap (λ (v : BoundedWorld). take first v.world.callers) held ∙ take_at w0.world.callers (map still_on keys) first (sym number)

  pub so_many : first + length keys ≡ length w.world.callers
  so_many =
      (let a = ap (λ (v : BoundedWorld). length v.world.callers) held in
      let b = length-append w0.world.callers (map still_on keys) in
      let c = length-map keys still_on in
      omega (arith, a, b, c, number))

  pub may_all_release : All (λ c. IsTrue (may_release c.phase)) (drop first w.world.callers)
  may_all_release = subst (λ l. All (λ c. IsTrue (may_release c.phase)) l) (sym last_callers) (all_still keys)

  pub released_callers : take first w.world.callers ++ map released (drop first w.world.callers) ≡ w0.world.callers ++ map spent_on keys
  released_callers = ap (λ l. l ++ map released (drop first w.world.callers)) first_callers ∙ ap (λ l. w0.world.callers ++ l) (ap (map released) last_callers ∙ released_still keys)

  -- these holds are released
  pub given_back : (w' : BoundedWorld) → w' ≡ with_callers w (take first w.world.callers ++ map released (drop first w.world.callers)) → w' ≡ with_callers w0 (w0.world.callers ++ map spent_on keys)
  given_back w' e = e ∙ ap (with_callers w) released_callers ∙ ap (λ (v : BoundedWorld). with_callers v (w0.world.callers ++ map spent_on keys)) held
