-- What each class of steps does to the rule and to the world: a step of a caller, a step of the Master, a new
-- seat.
use Rattle.std.proofs.Common.{◌≡◌, ◌⊎◌, inl, inr, ℕ, suc, ◌<◌, true, false, List, [], ◌∷◌, ◌++◌, map, length, set, refl, sym, ap, ◌∙◌, subst, arith}
use Rattle.std.specs.Prelude.{slice_get, slice_index, Option, Some, is_some}
use Rattle.std.proofs.lemmas.Option.{same_Some, get_or_from_slice_get}
use mathlib.Core.Option.{some}
use lib.ListN.{get_elem?}
use Rattle.atomic_table.specs.Table.{Allows, stepped, keeps}
use Rattle.kf_core.specs.declared.key.Key.{Key}
use Rattle.kf_core.specs.declared.event.Event.TheVariants.{Pin, Enter}
use Rattle.kf_core.specs.declared.slot.NodeFlags.{NodeFlags}
use Rattle.kf_core.specs.declared.slot.SlotState.{SlotState}
use Rattle.kf_core.specs.Bare.{BareWorld, IsCaller, marks_in}
use Rattle.kf_core.specs.Phases.{is_waiting}
use Rattle.kf_core.specs.Steps.{BareStep, MayPin}
use Rattle.kf_core.specs.Steps as core
use Rattle.kf_core.specs.declared.caller.Caller.{Caller}
use mathlib.Core.List.{map-append}
use Rattle.kf_core.proofs.SlotStates.{shown}
use Rattle.kf_core.proofs.Keeping.{same_key}
use Rattle.kf_words.specs.declared.view.CallerView.{CallerView}
use Rattle.kf_words.specs.declared.view.MasterView.{MasterView}
use Rattle.kf_words.specs.declared.view.View.{View}
use Rattle.kf_words.specs.declared.view.View.TheVariants as seat
use Rattle.kf_words.specs.Layout.{hold_index, sleepers_index, slot_of, HasSpare, MayPinAt}
use Rattle.kf_words.specs.Rule.{Shows, Shown, seats, bare_world, caller, last_key}
use Rattle.kf_words.specs.Steps.{Seated, no_state, state_at, after_miss, after_count, after_share, unmoved, after_split, new_hold, hold_for, CallerBecomes, spent_hold, after_count_at}
use Rattle.kf_words.specs.Nodes.{marks_of}
use Rattle.kf_words.specs.TableSteps.{Table, StepKind, counts_hold, shares, splits, answers, Comes, plus, master_in, world, IsSeated, HoldsSlot, MayCount, counts_hold_at, hands_on, MayCountAt}
use Rattle.kf_words.proofs.Bits.{waiting_is}
use Rattle.kf_words.proofs.Seating.{caller_seat, master_seat, seats-set, seats-push}
use Rattle.kf_words.proofs.CallerAllowed.{no_step}
use Rattle.kf_words.proofs.HoldSteps.{miss_owes, count_owes}
use Rattle.kf_words.proofs.PinSteps.{count_at_owes}
use Rattle.kf_words.proofs.Sharing.{shared_world, share_kept}
use Rattle.kf_words.proofs.Sleepers.{put_same, sleep_allowed}
use Rattle.kf_words.proofs.MasterAllowed.{splits as splits_shown}
use Rattle.kf_words.proofs.Events.{miss_is_nothing, split_is_pin, share_is_pin}
use Rattle.kf_words.proofs.Led.{Led}
use Rattle.kf_words.proofs.Led.{happens}
pub use Rattle.kf_words.proofs.Led.{TakenOut, Came, Passed, Alone, IsEvent, Led, with_spent}
pub use Rattle.kf_words.proofs.OneStep.{at_seat, in_world, world_is}
use Rattle.kf_words.proofs.OneStep.{Goes, led, by_play}
use Rattle.kf_words.proofs.Coming.{come_kept, spent_world}

-- a new seat that holds nothing is made; its key may be pinned, unless the Master makes the seat
pub come_goes : (slots limit : ℕ) (t t' : Table) (h : Shown slots limit t) (kind : StepKind) (key : Key) → Comes t key t' → MayPin (bare_world h.master h.callers) key ⊎ (kind ≡ answers) → Goes kind slots limit t t'
come_goes slots limit t t' h kind key becomes may =
    let cs : List CallerView = h.callers ++ spent_hold key ∷ [] in
    let views : t'.views ≡ seats h.master cs =
    ap (λ (x : Table). x.views) becomes ∙ ap (λ (l : List View). l ++ seat.Caller (spent_hold key) ∷ []) h.views ∙ seats-push h.master h.callers (spent_hold key) in (
      record {
        master = h.master;
        callers = cs;
        views = views;
        all_slots = h.all_slots;
        most_holds = h.most_holds;
        shows = subst (λ (l : List ℕ). Shows l h.master cs) (sym (ap (λ (x : Table). x.words) becomes)) (come_kept h.master h.callers key t.words h.shows);
      },
      led kind t t' (bare_world h.master h.callers) (bare_world h.master cs) (world_is t h.master h.callers h.views) (world_is t' h.master cs views)
          (inr (inr (inr (inr (record { key = key; may = may; is = spent_world h.master h.callers key }))))),
    )

-- a step of caller j
module _ (slots limit : ℕ) (t t' : Table) (h : Shown slots limit t) (j : ℕ) (c : CallerView) (there : IsSeated t j c) where
  abbrev me : Seated
  me = (seat.Caller c, [])

  pub at : slice_get h.callers j ≡ Some c
  at = at_seat h.callers j c (subst (λ (l : List View). get_elem? l (suc j) ≡ some (seat.Caller c)) h.views there)

  pub caller_goes : (kind : StepKind) (word : ℕ) (f : ℕ → ℕ) (aft : ℕ → CallerView → CallerView) (told : ℕ → Seated → Type 0)
      → Allows (Shown slots limit) (length t.homes) (suc j) me word f told
      → ((me' : Seated) → told (slice_index t.words word) me' → me'.0 ≡ seat.Caller (aft (slice_index t.words word) c))
      → slice_index t.words word < 18446744073709551616
      → t' ≡ stepped t word (f (slice_index t.words word)) (suc j) [] (seat.Caller (aft (slice_index t.words word) c)) keeps
      → Led kind (bare_world h.master h.callers) (bare_world h.master (set h.callers j (aft (slice_index t.words word) c))) → Goes kind slots limit t t'
  caller_goes kind word f aft told allowed one fits becomes l =
      let c' : CallerView = aft (slice_index t.words word) c in
      let views : t'.views ≡ seats h.master (set h.callers j c') =
      ap (λ (x : Table). x.views) becomes ∙ ap (λ (l : List View). set l (suc j) (seat.Caller c')) h.views ∙ seats-set h.master h.callers j c' in (
        by_play slots limit (suc j) word f t t' (seat.Caller c) (seat.Caller c') told allowed h there fits becomes one,
        led kind t t' (bare_world h.master h.callers) (bare_world h.master (set h.callers j c')) (world_is t h.master h.callers h.views) (world_is t' h.master (set h.callers j c') views) l,
      )

  -- a step on the count of sleepers at the caller's slot
  pub sleeper_goes : (kind : StepKind) (f : ℕ → ℕ) → slice_index t.words (sleepers_index c.key.slot) < 18446744073709551616
      → t' ≡ stepped t (sleepers_index c.key.slot) (f (slice_index t.words (sleepers_index c.key.slot))) (suc j) [] (seat.Caller c) keeps
      → Goes kind slots limit t t'
  sleeper_goes kind f fits becomes =
      let p = caller_seat h.master h.callers (suc j) c (subst (λ (l : List View). get_elem? l (suc j) ≡ some (seat.Caller c)) h.views there) in
      let here : p.0 ≡ j = (let e = p.1 in omega arith) in
      let same : set h.callers j c ≡ h.callers = put_same h.callers j c (subst (λ (k : ℕ). get_elem? h.callers k ≡ some c) here p.2) in
      caller_goes kind (sleepers_index c.key.slot) f unmoved (CallerBecomes unmoved no_step me)
      (sleep_allowed slots limit (length t.homes) (suc j) me (sleepers_index c.key.slot) f refl refl)
      (λ me' e. ap (λ (x : Seated). x.0) e) fits becomes (inl (ap (bare_world h.master) same))

  -- the table after the step meets the rule if the new word and the caller's new view do
  caller_shown : (word n : ℕ) (c' : CallerView) → Shows (set t.words word n) h.master (set h.callers j c') → t' ≡ stepped t word n (suc j) [] (seat.Caller c') keeps → Shown slots limit t'
  caller_shown word n c' shown_so becomes = record {
    master = h.master;
    callers = set h.callers j c';
    views = ap (λ (x : Table). x.views) becomes ∙ ap (λ (l : List View). set l (suc j) (seat.Caller c')) h.views ∙ seats-set h.master h.callers j c';
    all_slots = h.all_slots;
    most_holds = h.most_holds;
    shows = subst (λ (l : List ℕ). Shows l h.master (set h.callers j c')) (sym (ap (λ (x : Table). x.words) becomes)) shown_so;
  }

  seated : get_elem? h.callers j ≡ some c
  seated =
      let p = caller_seat h.master h.callers (suc j) c (subst (λ (l : List View). get_elem? l (suc j) ≡ some (seat.Caller c)) h.views there) in
      let here : p.0 ≡ j = (let e = p.1 in omega arith) in
      subst (λ (k : ℕ). get_elem? h.callers k ≡ some c) here p.2

  -- one more hold is counted
  pub count_goes : MayCount t c → slice_index t.words (hold_index c.key.slot) < 18446744073709551616
      → t' ≡ stepped t (hold_index c.key.slot) (plus 1 (slice_index t.words (hold_index c.key.slot))) (suc j) [] (seat.Caller (after_count (slice_index t.words (hold_index c.key.slot)) c)) keeps
      → Goes (counts_hold j) slots limit t t'
  count_goes may fits becomes =
      let n : ℕ = slice_index t.words (hold_index c.key.slot) in
      let c' : CallerView = after_count n c in
      let limit_is : (master_in t.views).limit ≡ h.master.limit = ap (λ (l : List View). (master_in l).limit) h.views in
      let spare : HasSpare h.master.limit n = subst (λ (k : ℕ). HasSpare k n) limit_is may.2 in
      let views : t'.views ≡ seats h.master (set h.callers j c') =
      ap (λ (x : Table). x.views) becomes ∙ ap (λ (l : List View). set l (suc j) (seat.Caller c')) h.views ∙ seats-set h.master h.callers j c' in (
        caller_shown (hold_index c.key.slot) (plus 1 n) c' (count_owes t.words h.master h.callers j c h.shows seated (waiting_is c.phase may.0.0).0 may.0.0 may.0.1 may.1 spare fits) becomes,
        led (counts_hold j) t t' (bare_world h.master h.callers) (bare_world h.master (set h.callers j c')) (world_is t h.master h.callers h.views) (world_is t' h.master (set h.callers j c') views)
            (inl (miss_is_nothing slots limit t h j c at n).5),
      )

  -- the hold that was counted gets its seat
  pub share_goes : is_waiting c.phase ≡ true → c.pinning ≡ Some c.key
      → t' ≡ record { words = t.words; homes = t.homes; views = set t.views (suc j) (seat.Caller (after_share c)) ++ seat.Caller (new_hold c.key) ∷ [] }
      → Goes (shares j) slots limit t t'
  share_goes waits pinned becomes =
      let cs' : List CallerView = set h.callers j (after_share c) ++ new_hold c.key ∷ [] in
      let holding = (waiting_is c.phase waits).0 in
      let views : t'.views ≡ seats h.master cs' =
      ap (λ (x : Table). x.views) becomes ∙ ap (λ (l : List View). set l (suc j) (seat.Caller (after_share c)) ++ seat.Caller (new_hold c.key) ∷ []) h.views
      ∙ ap (λ (l : List View). l ++ seat.Caller (new_hold c.key) ∷ []) (seats-set h.master h.callers j (after_share c))
      ∙ seats-push h.master (set h.callers j (after_share c)) (new_hold c.key) in (
        record {
          master = h.master;
          callers = cs';
          views = views;
          all_slots = h.all_slots;
          most_holds = h.most_holds;
          shows = subst (λ (l : List ℕ). Shows l h.master cs') (sym (ap (λ (x : Table). x.words) becomes)) (share_kept h.master h.callers j c seated c.key t.words h.shows pinned);
        },
        led (shares j) t t' (bare_world h.master h.callers) (bare_world h.master cs') (world_is t h.master h.callers h.views) (world_is t' h.master cs' views)
            (happens _ _ _ (Pin (length h.callers) c.key) (share_is_pin slots limit t h j c at holding) (λ k e. absurd (let x : Pin (length h.callers) c.key ≡ Enter k = e in cc))),
      )

  -- a step on any word, which leaves the world as it was
  word_goes : (kind : StepKind) (i n : ℕ) (c' : CallerView) → Shows (set t.words i n) h.master (set h.callers j c') → bare_world h.master (set h.callers j c') ≡ bare_world h.master h.callers
      → t' ≡ stepped t i n (suc j) [] (seat.Caller c') keeps → Goes kind slots limit t t'
  word_goes kind i n c' shown_so stays becomes =
      let views : t'.views ≡ seats h.master (set h.callers j c') =
      ap (λ (x : Table). x.views) becomes ∙ ap (λ (l : List View). set l (suc j) (seat.Caller c')) h.views ∙ seats-set h.master h.callers j c' in (
        caller_shown i n c' shown_so becomes,
        led kind t t' (bare_world h.master h.callers) (bare_world h.master (set h.callers j c')) (world_is t h.master h.callers h.views) (world_is t' h.master (set h.callers j c') views) (inl stays),
      )

  pub load_goes : (kind : StepKind) (i : ℕ) → is_waiting c.phase ≡ true → c.undo_due ≡ false
      → t' ≡ stepped t i (slice_index t.words i) (suc j) [] (seat.Caller (after_miss (slice_index t.words i) c)) keeps
      → Goes kind slots limit t t'
  load_goes kind i waits settled becomes =
      let n : ℕ = slice_index t.words i in
      word_goes kind i n (after_miss n c) (miss_owes t.words h.master h.callers j c h.shows seated (waiting_is c.phase waits).0 waits settled i)
      (miss_is_nothing slots limit t h j c at n).4 becomes

  pub count_at_goes : (slot : ℕ) → MayCountAt t slot c → slice_index t.words (hold_index slot) < 18446744073709551616
      → t' ≡ stepped t (hold_index slot) (plus 1 (slice_index t.words (hold_index slot))) (suc j) [] (seat.Caller (after_count_at slot (slice_index t.words (hold_index slot)) c)) keeps
      → Goes (counts_hold_at slot j) slots limit t t'
  count_at_goes slot may fits becomes =
      let n : ℕ = slice_index t.words (hold_index slot) in
      let limit_is : (master_in t.views).limit ≡ h.master.limit = ap (λ (l : List View). (master_in l).limit) h.views in
      let place : MayPinAt h.master.limit n = subst (λ (k : ℕ). MayPinAt k n) limit_is may.2 in
      word_goes (counts_hold_at slot j) (hold_index slot) (plus 1 n) (after_count_at slot n c)
      (count_at_owes t.words h.master h.callers j c h.shows seated (waiting_is c.phase may.0.0).0 may.0.0 may.0.1 may.1 slot place fits)
      ((miss_is_nothing slots limit t h j c at n).6 slot) becomes

  -- the hold that the caller counted, of any key, gets its seat
  pub hand_views : (key : Key) → t' ≡ record { words = t.words; homes = t.homes; views = set t.views (suc j) (seat.Caller (after_share c)) ++ seat.Caller (new_hold key) ∷ [] }
      → t'.views ≡ seats h.master (set h.callers j (after_share c) ++ new_hold key ∷ [])
  hand_views key becomes =
      ap (λ (x : Table). x.views) becomes ∙ ap (λ (l : List View). set l (suc j) (seat.Caller (after_share c)) ++ seat.Caller (new_hold key) ∷ []) h.views
      ∙ ap (λ (l : List View). l ++ seat.Caller (new_hold key) ∷ []) (seats-set h.master h.callers j (after_share c))
      ∙ seats-push h.master (set h.callers j (after_share c)) (new_hold key)

  pub hand_goes : (key : Key) → c.pinning ≡ Some key
      → t' ≡ record { words = t.words; homes = t.homes; views = set t.views (suc j) (seat.Caller (after_share c)) ++ seat.Caller (new_hold key) ∷ [] }
      → Goes (hands_on j) slots limit t t'
  hand_goes key pinned becomes =
      let cs' : List CallerView = set h.callers j (after_share c) ++ new_hold key ∷ [] in
      let views : t'.views ≡ seats h.master cs' = hand_views key becomes in (
        record {
          master = h.master;
          callers = cs';
          views = views;
          all_slots = h.all_slots;
          most_holds = h.most_holds;
          shows = subst (λ (l : List ℕ). Shows l h.master cs') (sym (ap (λ (x : Table). x.words) becomes)) (share_kept h.master h.callers j c seated key t.words h.shows pinned);
        },
        led (hands_on j) t t' (bare_world h.master h.callers) (bare_world h.master cs') (world_is t h.master h.callers h.views) (world_is t' h.master cs' views)
            (inr (inr (inr (inl (record { kind_is = inr (j, refl); key = key; is = shared_world h.master h.callers j c seated key }))))),
      )

-- the Master's view after a step, in terms of the step's slot
pub slot_view : (after : ℕ → ℕ → MasterView → MasterView) (m : MasterView) (n i slot : ℕ) (me' : Seated) → slot_of i ≡ slot → me' ≡ (seat.Master (after (slot_of i) n m), []) → me'.0 ≡ seat.Master (after slot n m)
slot_view after m n i slot me' back e = ap (λ (x : Seated). x.0) e ∙ ap (λ (k : ℕ). seat.Master (after k n m)) back

-- a step of the Master
module _ (slots limit : ℕ) (t t' : Table) (h0 : Shown slots limit t) (m : MasterView) (there : get_elem? t.views 0 ≡ some (seat.Master m)) where
  abbrev cs : List CallerView
  cs = h0.callers

  pub is_m : h0.master ≡ m
  is_m = (master_seat h0.master m cs 0 (subst (λ (l : List View). get_elem? l 0 ≡ some (seat.Master m)) h0.views there)).1

  -- the table meets the rule with this view of the Master
  abbrev pub met : Shown slots limit t
  met = record {
    master = m;
    callers = cs;
    views = h0.views ∙ ap (λ (x : MasterView). seats x cs) is_m;
    all_slots = ap (λ (x : MasterView). length x.slots) (sym is_m) ∙ h0.all_slots;
    most_holds = ap (λ (x : MasterView). x.limit) (sym is_m) ∙ h0.most_holds;
    shows = subst (λ (x : MasterView). Shows t.words x cs) is_m h0.shows;
  }

  pub master_goes : (kind : StepKind) (slot word : ℕ) (f : ℕ → ℕ) (after : ℕ → ℕ → MasterView → MasterView) (told : ℕ → Seated → Type 0)
      → Allows (Shown slots limit) (length t.homes) 0 (seat.Master m, []) word f told
      → ((me' : Seated) → told (slice_index t.words word) me' → me'.0 ≡ seat.Master (after slot (slice_index t.words word) m))
      → slice_index t.words word < 18446744073709551616
      → t' ≡ stepped t word (f (slice_index t.words word)) 0 [] (seat.Master (after slot (slice_index t.words word) m)) keeps
      → Led kind (bare_world m cs) (bare_world (after slot (slice_index t.words word) m) cs) → Goes kind slots limit t t'
  master_goes kind slot word f after told allowed one fits becomes l =
      let m' : MasterView = after slot (slice_index t.words word) m in
      let views : t'.views ≡ seats m' cs = ap (λ (x : Table). x.views) becomes ∙ ap (λ (l : List View). set l 0 (seat.Master m')) met.views in (
        by_play slots limit 0 word f t t' (seat.Master m) (seat.Master m') told allowed met there fits becomes one,
        led kind t t' (bare_world m cs) (bare_world m' cs) (world_is t m cs met.views) (world_is t' m' cs views) l,
      )

  -- the Master stores a word that the rule does not read
  pub note_goes : (kind : StepKind) (i n : ℕ) → Shows (set t.words i n) m cs → t' ≡ stepped t i n 0 [] (seat.Master m) keeps → Goes kind slots limit t t'
  note_goes kind i n shown_so becomes =
      let views : t'.views ≡ seats m cs = ap (λ (x : Table). x.views) becomes ∙ ap (λ (l : List View). set l 0 (seat.Master m)) met.views in (
        record {
          master = m;
          callers = cs;
          views = views;
          all_slots = met.all_slots;
          most_holds = met.most_holds;
          shows = subst (λ (l : List ℕ). Shows l m cs) (sym (ap (λ (x : Table). x.words) becomes)) shown_so;
        },
        led kind t t' (bare_world m cs) (bare_world m cs) (world_is t m cs met.views) (world_is t' m cs views) (inl refl),
      )

  -- the marks of a slot's last key
  pub last_marks : (slot : ℕ) (state : SlotState) (o : Option NodeFlags) → slice_get m.slots slot ≡ Some state → state.marks ≡ o → marks_of m (last_key slot state) ≡ o
  last_marks slot state o its is = ap (λ (x : Option SlotState). marks_in x state.generation) its ∙ shown state.generation state.marks ∙ is

  split_views : t' ≡ record { words = t.words; homes = t.homes; views = set t.views 0 (seat.Master (after_split m)) ++ seat.Caller (hold_for m m.pinning) ∷ [] }
      → t'.views ≡ seats (after_split m) (cs ++ hold_for m m.pinning ∷ [])
  split_views becomes =
      ap (λ (x : Table). x.views) becomes ∙ ap (λ (l : List View). set l 0 (seat.Master (after_split m)) ++ seat.Caller (hold_for m m.pinning) ∷ []) met.views ∙ seats-push (after_split m) cs (hold_for m m.pinning)

  pub split_goes : (slot : ℕ) (state : SlotState) → slice_get m.slots slot ≡ Some state → m.pinning ≡ Some slot
      → t' ≡ record { words = t.words; homes = t.homes; views = set t.views 0 (seat.Master (after_split m)) ++ seat.Caller (hold_for m m.pinning) ∷ [] } → Goes (splits slot) slots limit t t'
  split_goes slot state its pins becomes =
      let new : CallerView = hold_for m m.pinning in
      let views : t'.views ≡ seats (after_split m) (cs ++ new ∷ []) = split_views becomes in
      let key : Key = last_key slot state in
      let who : new ≡ new_hold key = ap (hold_for m) pins ∙ ap (λ (y : SlotState). new_hold (last_key slot y)) (get_or_from_slice_get m.slots slot state no_state its) in
      let came : bare_world (after_split m) (cs ++ new ∷ []) ≡ core.with_caller (bare_world m cs) key =
      ap (λ (l : List Caller). let w : BareWorld = record { slots = m.slots; callers = l } in w)
      (map-append caller cs (new ∷ []) ∙ ap (λ (y : CallerView). map caller cs ++ caller y ∷ []) who) in (
        subst (λ (x : Table). Shown slots limit x) (sym becomes) (splits_shown slots limit 0 (seat.Master m) slot state refl its pins t met there),
        led (splits slot) t t' (bare_world m cs) (bare_world (after_split m) (cs ++ new ∷ [])) (world_is t m cs met.views) (world_is t' (after_split m) (cs ++ new ∷ []) views)
            (inr (inr (inr (inl (record { kind_is = inl (slot, refl); key = key; is = came }))))),
      )

  -- the split is a Pin if the key may be pinned
  pub split_pins : (slot : ℕ) (state : SlotState) → slice_get m.slots slot ≡ Some state → m.pinning ≡ Some slot → MayPin (bare_world m cs) (last_key slot state)
      → t' ≡ record { words = t.words; homes = t.homes; views = set t.views 0 (seat.Master (after_split m)) ++ seat.Caller (hold_for m m.pinning) ∷ [] }
      → BareStep (world t) (Pin (length cs) (last_key slot state)) (world t')
  split_pins slot state its pins may becomes =
      let new : CallerView = hold_for m m.pinning in
      let is = world_is t m cs met.views in
      let is' = world_is t' (after_split m) (cs ++ new ∷ []) (split_views becomes) in
      subst (λ (w : BareWorld). BareStep w (Pin (length cs) (last_key slot state)) (world t')) (sym is)
      (subst (λ (w : BareWorld). BareStep (bare_world m cs) (Pin (length cs) (last_key slot state)) w) (sym is') (split_is_pin slots limit t met slot state pins its may))

  -- a slot's last key may be pinned if its node is linked or a caller holds the slot
  pub linked_pins : (slot : ℕ) (state : SlotState) → slice_get m.slots slot ≡ Some state → is_some (state_at m slot).marks ≡ true → MayPin (bare_world m cs) (last_key slot state)
  linked_pins slot state its linked_is =
      inl (ap is_some (last_marks slot state state.marks its refl) ∙ ap (λ (x : SlotState). is_some x.marks) (sym (get_or_from_slice_get m.slots slot state no_state its)) ∙ linked_is)

  pub held_pins : (slot : ℕ) (state : SlotState) → slice_get m.slots slot ≡ Some state → (j : ℕ) → HoldsSlot t slot j → MayPin (bare_world m cs) (last_key slot state)
  held_pins slot state its j holder =
      let c : CallerView = holder.0 in
      let in_w = in_world cs j c (at slots limit t t h0 j c holder.1) in
      let last = met.shows.safe.held_last j c.key c.phase in_w holder.3 in
      let one : last.0 ≡ state = same_Some last.0 state (sym last.1 ∙ ap (λ (k : ℕ). slice_get m.slots k) holder.2 ∙ its) in
      let key : c.key ≡ last_key slot state = same_key c.key (last_key slot state) holder.2 (sym last.2 ∙ ap (λ (x : SlotState). x.generation) one) in
      inr (record { caller = j; phase = c.phase; there = subst (λ (k : Key). IsCaller (bare_world m cs) j k c.phase) key in_w; holds = holder.3 })
