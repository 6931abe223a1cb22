-- Which holds have been counted and have no seat yet, before and after each step.
use Rattle.std.proofs.Common.{◌≡◌, ◌⊎◌, inl, inr, ℕ, zero, suc, ◌+◌, arith, Bool, true, false, List, [], ◌∷◌, ◌++◌, map, set, if◌then◌else◌, refl, sym, ap, ◌∙◌, subst}
use Rattle.std.specs.Prelude.{slice_get, slice_index, count_by, Option, Some, None}
use Rattle.std.proofs.lemmas.Option.{none-some}
use mathlib.Core.Option.{some, some-ne-none, some-injective}
use mathlib.Core.List.{map-append}
use lib.ListN.{get_elem?}
use Rattle.atomic_table.specs.Table.{stepped, keeps}
use Rattle.kf_core.specs.declared.key.Key.{Key}
use Rattle.kf_core.specs.declared.caller.Caller.{Caller}
use Rattle.kf_core.specs.declared.caller.Phase.TheVariants.{Turned, Running, Drained, Parted, Hiding, Hidden}
use Rattle.kf_core.specs.Bare.{BareWorld, IsLast}
use Rattle.kf_core.specs.Steps.{MayPin, with_caller}
use Rattle.kf_words.specs.declared.view.CallerView.{CallerView}
use Rattle.kf_words.specs.declared.view.MasterView.{MasterView}
use Rattle.kf_words.specs.declared.view.View.{View}
use Rattle.kf_words.specs.declared.view.View.TheVariants as seat
use Rattle.kf_words.specs.Layout.{keeps_out, is_drained, has_hide, is_unused, has_linked, active_index, hold_index}
use Rattle.kf_words.specs.Rule.{Shown, seats, bare_world, last_key}
use Rattle.kf_words.specs.Steps.{state_at, after_step, with_try, after_try, after_look, after_part, after_hide, after_look_hidden, after_share, after_count, after_count_at, new_hold, spent_hold, key_in, hold_for, after_split}
use Rattle.kf_words.specs.TableSteps.{Table, StepKind, tries, undoes, leaves, breaks, restores, looks, parts, hides, looks_hidden, shows, releases, sees_holds, counts_hold, shares, sleeps, awakes, loads_sleepers, loads_hold, pins_hold, unpins_hold, splits, stores_fresh, births, takes_bias, marks_node, looks_over, unlinks, notes, reports, answers, compares, sees_holds_at, counts_hold_at, hands_on, stores_node, reads_node, callers_in, world, WordStep, IsSeated, Comes}
use Rattle.kf_words.specs.Runs.{keys_in, keys_under_way, newcomer, newcomers}
use Rattle.kf_words.proofs.Bits.{waiting_is}
use Rattle.kf_words.proofs.Seating.{caller_seat, seats-set, seats-push}
use Rattle.kf_words.proofs.OneStep.{callers_back, in_world, world_is}
use Rattle.kf_words.proofs.Going.{at, hand_views}
use Rattle.kf_words.proofs.Sharing.{shared_world}
use Rattle.kf_words.proofs.Events.{miss_is_nothing}
use Rattle.kf_words.proofs.PinSteps.{linked_key}
use Rattle.kf_words.proofs.Renumbered.{count_both, found_in, in_new, new_in}

-- how many of these callers' holds under way pass a test
abbrev pub coming : (Caller → Bool) → List CallerView → ℕ
coming p cs = count_by p (map newcomer (keys_under_way cs))

-- how many of one caller's holds under way pass a test
abbrev pub coming_of : (Caller → Bool) → Option Key → ℕ
coming_of p o = count_by p (map newcomer (keys_in o))

coming_cons : (p : Caller → Bool) (c : CallerView) (cs : List CallerView) → coming p (c ∷ cs) ≡ coming_of p c.pinning + coming p cs
coming_cons p c cs =
    ap (count_by p) (map-append newcomer (keys_in c.pinning) (keys_under_way cs)) ∙ count_both p (map newcomer (keys_in c.pinning)) (map newcomer (keys_under_way cs))

coming_set : (p : Caller → Bool) (cs : List CallerView) (j : ℕ) (c c' : CallerView) → get_elem? cs j ≡ some c → coming p (set cs j c') + coming_of p c.pinning ≡ coming p cs + coming_of p c'.pinning
coming_set p [] j c c' e = absurd (some-ne-none c (sym e))
coming_set p (x ∷ xs) zero c c' e =
    let is : coming_of p x.pinning ≡ coming_of p c.pinning = ap (λ (y : CallerView). coming_of p y.pinning) (some-injective x c e) in
    let a = coming_cons p c' xs in
    let b = coming_cons p x xs in
    omega arith
coming_set p (x ∷ xs) (suc j) c c' e =
    let r = coming_set p xs j c c' e in
    let a = coming_cons p x (set xs j c') in
    let b = coming_cons p x xs in
    omega arith

coming_push : (p : Caller → Bool) (cs : List CallerView) (c : CallerView) → coming p (cs ++ c ∷ []) ≡ coming p cs + coming_of p c.pinning
coming_push p [] c = let a = coming_cons p c [] in let z : coming p [] ≡ 0 = refl in omega arith
coming_push p (x ∷ xs) c =
    let r = coming_push p xs c in
    let a = coming_cons p x (xs ++ c ∷ []) in
    let b = coming_cons p x xs in
    omega arith

-- one of these callers counted a hold of this key
abbrev CountedBy : List CallerView → Key → Type 0
CountedBy cs key = (j : ℕ) × (c : CallerView) × (get_elem? cs j ≡ some c) × (c.pinning ≡ Some key)

counted_first : (x : CallerView) (xs : List CallerView) (o : Option Key) (i : ℕ) (key : Key) → x.pinning ≡ o → slice_get (keys_in o ++ keys_under_way xs) i ≡ Some key
    → ((k : ℕ) → slice_get (keys_under_way xs) k ≡ Some key → CountedBy xs key) → CountedBy (x ∷ xs) key
counted_first x xs None i key its e rest = let r = rest i e in (suc r.0, r.1, r.2, r.3)
counted_first x xs (Some k) zero key its e rest = (0, x, refl, its ∙ e)
counted_first x xs (Some k) (suc i) key its e rest = let r = rest i e in (suc r.0, r.1, r.2, r.3)

-- each hold under way was counted by a caller
counted_by : (cs : List CallerView) (i : ℕ) (key : Key) → slice_get (keys_under_way cs) i ≡ Some key → CountedBy cs key
counted_by [] i key e = absurd (none-some key e)
counted_by (x ∷ xs) i key e = counted_first x xs x.pinning i key refl e (λ k f. counted_by xs k key f)

-- the callers of a table are those that the rule names
callers_are : (l : List View) (m : MasterView) (cs : List CallerView) → l ≡ seats m cs → callers_in l ≡ cs
callers_are l m cs views = ap callers_in views ∙ callers_back cs

-- how many of a table's holds under way pass a test
abbrev pub coming_in : (Caller → Bool) → Table → ℕ
coming_in p t = coming p (callers_in t.views)

coming_is : (p : Caller → Bool) (t : Table) (m : MasterView) (cs : List CallerView) → t.views ≡ seats m cs → coming_in p t ≡ coming p cs
coming_is p t m cs views = ap (coming p) (callers_are t.views m cs views)

-- a hold under way has the last key of its slot
pub coming_last : (slots limit : ℕ) (t : Table) → Shown slots limit t → (i : ℕ) (key : Key) → slice_get (keys_under_way (callers_in t.views)) i ≡ Some key → IsLast (world t) key.slot key.generation
coming_last slots limit t h i key e =
    let r = counted_by h.callers i key (subst (λ (l : List CallerView). slice_get (keys_under_way l) i ≡ Some key) (callers_are t.views h.master h.callers h.views) e) in
    subst (λ (w : BareWorld). IsLast w key.slot key.generation) (sym (world_is t h.master h.callers h.views)) (h.shows.pinned r.0 r.1 key r.2 r.3)

-- no hold was counted, and none got its seat: for each test, as many holds under way pass it as before
abbrev pub NoneComes : Table → Table → Type 0
NoneComes t t' = (p : Caller → Bool) → coming_in p t' ≡ coming_in p t

-- one hold was counted, of a key that is linked or held
abbrev pub OneComes : Table → Table → Type 0
OneComes t t' = (key : Key) × MayPin (world t) key × (world t' ≡ world t)
    × ((p : Caller → Bool) → coming_in p t' ≡ coming_in p t + coming_of p (Some key))

-- the hold of one key got its seat
abbrev pub OneSits : Table → Table → Type 0
OneSits t t' = (key : Key) × (world t' ≡ with_caller (world t) key)
    × ((p : Caller → Bool) → coming_in p t' + coming_of p (Some key) ≡ coming_in p t)

-- what is under way stays under way if no hold was counted and none got its seat
pub stays_coming : (t t' : Table) → NoneComes t t' → (i : ℕ) (key : Key) → slice_get (keys_under_way (callers_in t.views)) i ≡ Some key → (j : ℕ) × (slice_get (keys_under_way (callers_in t'.views)) j ≡ Some key)
stays_coming t t' none i key e =
    let f = found_in (newcomers t) (newcomers t') (λ p. sym (none p)) i (newcomer key) (new_in (keys_under_way (callers_in t.views)) i key e) in
    let n = in_new (keys_under_way (callers_in t'.views)) f.0 (newcomer key) f.1 in
    (n.0, n.2 ∙ ap (λ (x : Caller). Some x.key) n.3)

module _ (slots limit : ℕ) (t t' : Table) (h : Shown slots limit t) where
  -- a step that changes only the Master's view changes no hold under way
  master_keeps : (word n : ℕ) (m' : MasterView) → t' ≡ stepped t word n 0 [] (seat.Master m') keeps → NoneComes t t'
  master_keeps word n m' becomes p =
      let views : t'.views ≡ seats m' h.callers = ap (λ (x : Table). x.views) becomes ∙ ap (λ (l : List View). set l 0 (seat.Master m')) h.views in
      coming_is p t' m' h.callers views ∙ sym (coming_is p t h.master h.callers h.views)

  -- a new seat that has counted nothing changes no hold under way
  comes_new : (m' : MasterView) (c : CallerView) → c.pinning ≡ None → t'.views ≡ seats m' (h.callers ++ c ∷ []) → NoneComes t t'
  comes_new m' c single views p =
      let a = coming_is p t' m' (h.callers ++ c ∷ []) views in
      let b = coming_is p t h.master h.callers h.views in
      let d = coming_push p h.callers c in
      let e : coming_of p c.pinning ≡ 0 = ap (coming_of p) single in
      omega arith

  comes_spent : (key : Key) → Comes t key t' → NoneComes t t'
  comes_spent key becomes = comes_new h.master (spent_hold key) refl
      (ap (λ (x : Table). x.views) becomes ∙ ap (λ (l : List View). l ++ seat.Caller (spent_hold key) ∷ []) h.views ∙ seats-push h.master h.callers (spent_hold key))

  module _ (j : ℕ) (c : CallerView) (there : IsSeated t j c) where
    seated : get_elem? h.callers j ≡ some c
    seated =
        let p = caller_seat h.master h.callers (suc j) c (subst (λ (l : List View). get_elem? l (suc j) ≡ some (seat.Caller c)) h.views there) in
        let here : p.0 ≡ j = (let e = p.1 in omega arith) in
        subst (λ (k : ℕ). get_elem? h.callers k ≡ some c) here p.2

    step_views : (word n : ℕ) (c' : CallerView) → t' ≡ stepped t word n (suc j) [] (seat.Caller c') keeps → t'.views ≡ seats h.master (set h.callers j c')
    step_views word n c' becomes =
        ap (λ (x : Table). x.views) becomes ∙ ap (λ (l : List View). set l (suc j) (seat.Caller c')) h.views ∙ seats-set h.master h.callers j c'

    steps : (word n : ℕ) (c' : CallerView) → t' ≡ stepped t word n (suc j) [] (seat.Caller c') keeps → (p : Caller → Bool) → coming_in p t' + coming_of p c.pinning ≡ coming_in p t + coming_of p c'.pinning
    steps word n c' becomes p =
        let a = coming_is p t' h.master (set h.callers j c') (step_views word n c' becomes) in
        let b = coming_is p t h.master h.callers h.views in
        let d = coming_set p h.callers j c c' seated in
        omega arith

    caller_keeps : (word n : ℕ) (c' : CallerView) → t' ≡ stepped t word n (suc j) [] (seat.Caller c') keeps → c'.pinning ≡ c.pinning → NoneComes t t'
    caller_keeps word n c' becomes same p =
        let s = steps word n c' becomes p in
        let e : coming_of p c'.pinning ≡ coming_of p c.pinning = ap (coming_of p) same in
        omega arith

    counted : (word n : ℕ) (c' : CallerView) (key : Key) → c.pinning ≡ None → c'.pinning ≡ Some key → MayPin (bare_world h.master h.callers) key
        → bare_world h.master (set h.callers j c') ≡ bare_world h.master h.callers → t' ≡ stepped t word n (suc j) [] (seat.Caller c') keeps → OneComes t t'
    counted word n c' key single its may stays becomes =
        let is = world_is t h.master h.callers h.views in (
          key,
          subst (λ (w : BareWorld). MayPin w key) (sym is) may,
          world_is t' h.master (set h.callers j c') (step_views word n c' becomes) ∙ stays ∙ sym is,
          λ p. let s = steps word n c' becomes p in
              let a : coming_of p c.pinning ≡ 0 = ap (coming_of p) single in
              let b : coming_of p c'.pinning ≡ coming_of p (Some key) = ap (coming_of p) its in
              omega arith,
        )

    sits : (key : Key) → c.pinning ≡ Some key
        → t' ≡ record { words = t.words; homes = t.homes; views = set t.views (suc j) (seat.Caller (after_share c)) ++ seat.Caller (new_hold key) ∷ [] } → OneSits t t'
    sits key its becomes =
        let cs' : List CallerView = set h.callers j (after_share c) ++ new_hold key ∷ [] in
        let views = hand_views slots limit t t' h j c there key becomes in
        let is = world_is t h.master h.callers h.views in (
          key,
          world_is t' h.master cs' views ∙ shared_world h.master h.callers j c seated key ∙ ap (λ (w : BareWorld). with_caller w key) (sym is),
          λ p. let a = coming_is p t' h.master cs' views in
              let b = coming_is p t h.master h.callers h.views in
              let d = coming_push p (set h.callers j (after_share c)) (new_hold key) in
              let e = coming_set p h.callers j c (after_share c) seated in
              let f : coming_of p c.pinning ≡ coming_of p (Some key) = ap (coming_of p) its in
              let g : coming_of p (after_share c).pinning ≡ 0 = refl in
              let k : coming_of p (new_hold key).pinning ≡ 0 = refl in
              omega arith,
        )

pub hand_sits : (slots limit : ℕ) (t t' : Table) → Shown slots limit t → (j : ℕ) → WordStep t (hands_on j) t' → OneSits t t'
hand_sits slots limit t t' h j s = sits slots limit t t' h j s.0 s.4 s.1 s.3 s.5

-- the key of which a caller counted a hold is the same, whichever of its two outcomes a step has
either_same : (b : Bool) (x y : CallerView) (o : Option Key) → x.pinning ≡ o → y.pinning ≡ o → (if b then x else y).pinning ≡ o
either_same true x y o l r = l
either_same false x y o l r = r

held_none : (m : MasterView) (o : Option ℕ) → (hold_for m o).pinning ≡ None
held_none m None = refl
held_none m (Some slot) = refl

try_same : (n : ℕ) (c : CallerView) → (after_try n c).pinning ≡ c.pinning
try_same n c = either_same (keeps_out n) (after_step Turned true n (with_try c)) (after_step Running false n (with_try c)) c.pinning refl refl

look_same : (n : ℕ) (c : CallerView) → (after_look n c).pinning ≡ c.pinning
look_same n c = either_same (is_drained n) (after_step Drained false n c) (after_step c.phase c.undo_due n c) c.pinning refl refl

part_same : (n : ℕ) (c : CallerView) → (after_part n c).pinning ≡ c.pinning
part_same n c = either_same (has_linked n) (after_step c.phase c.undo_due n c) (after_step Parted false n c) c.pinning refl refl

hide_same : (n : ℕ) (c : CallerView) → (after_hide n c).pinning ≡ c.pinning
hide_same n c = either_same (has_hide n) (after_step c.phase c.undo_due n c) (after_step Hiding false n c) c.pinning refl refl

look_hidden_same : (n : ℕ) (c : CallerView) → (after_look_hidden n c).pinning ≡ c.pinning
look_hidden_same n c = either_same (is_unused n) (after_step Hidden false n c) (after_step c.phase c.undo_due n c) c.pinning refl refl

-- what each step of the table does to the holds under way
pub holds_under_way : (slots limit : ℕ) (t : Table) (kind : StepKind) (t' : Table) → Shown slots limit t → WordStep t kind t' → NoneComes t t' ⊎ (OneComes t t' ⊎ OneSits t t')
holds_under_way slots limit t (tries j) t' h s = inl (caller_keeps slots limit t t' h j s.0 s.2.there _ _ _ s.2.becomes (try_same (slice_index t.words (active_index s.0.key.slot)) s.0))
holds_under_way slots limit t (undoes j) t' h s = inl (caller_keeps slots limit t t' h j s.0 s.2.there _ _ _ s.2.becomes refl)
holds_under_way slots limit t (leaves j) t' h s = inl (caller_keeps slots limit t t' h j s.0 s.2.there _ _ _ s.2.becomes refl)
holds_under_way slots limit t (breaks j) t' h s = inl (caller_keeps slots limit t t' h j s.0 s.2.there _ _ _ s.2.becomes refl)
holds_under_way slots limit t (restores j) t' h s = inl (caller_keeps slots limit t t' h j s.0 s.2.there _ _ _ s.2.becomes refl)
holds_under_way slots limit t (looks j) t' h s = inl (caller_keeps slots limit t t' h j s.0 s.2.there _ _ _ s.2.becomes (look_same (slice_index t.words (active_index s.0.key.slot)) s.0))
holds_under_way slots limit t (parts j) t' h s = inl (caller_keeps slots limit t t' h j s.0 s.2.there _ _ _ s.2.becomes (part_same (slice_index t.words (hold_index s.0.key.slot)) s.0))
holds_under_way slots limit t (hides j) t' h s = inl (caller_keeps slots limit t t' h j s.0 s.2.there _ _ _ s.2.becomes (hide_same (slice_index t.words (active_index s.0.key.slot)) s.0))
holds_under_way slots limit t (looks_hidden j) t' h s = inl (caller_keeps slots limit t t' h j s.0 s.2.there _ _ _ s.2.becomes (look_hidden_same (slice_index t.words (active_index s.0.key.slot)) s.0))
holds_under_way slots limit t (shows j) t' h s = inl (caller_keeps slots limit t t' h j s.0 s.2.there _ _ _ s.2.becomes refl)
holds_under_way slots limit t (releases j) t' h s = inl (caller_keeps slots limit t t' h j s.0 s.2.there _ _ _ s.2.becomes refl)
holds_under_way slots limit t (sees_holds j) t' h s = inl (caller_keeps slots limit t t' h j s.0 s.2.there _ _ _ s.2.becomes refl)
holds_under_way slots limit t (sees_holds_at slot j) t' h s = inl (caller_keeps slots limit t t' h j s.0 s.2.there _ _ _ s.2.becomes refl)
holds_under_way slots limit t (reads_node slot place j) t' h s = inl (caller_keeps slots limit t t' h j s.0 s.2.there _ _ _ s.2.becomes refl)
holds_under_way slots limit t (sleeps slot j) t' h s = inl (caller_keeps slots limit t t' h j s.0 s.2.there _ _ _ s.2.becomes refl)
holds_under_way slots limit t (awakes slot j) t' h s = inl (caller_keeps slots limit t t' h j s.0 s.2.there _ _ _ s.2.becomes refl)
holds_under_way slots limit t (loads_sleepers slot j) t' h s = inl (caller_keeps slots limit t t' h j s.0 s.2.there _ _ _ s.2.becomes refl)
holds_under_way slots limit t (counts_hold j) t' h s =
    let c : CallerView = s.0 in
    let n : ℕ = slice_index t.words (hold_index c.key.slot) in
    let its = at slots limit t t' h j c s.2.there in
    inr (inl (counted slots limit t t' h j c s.2.there _ _ (after_count n c) c.key s.1.1 refl
    (inr (record { caller = j; phase = c.phase; there = in_world h.callers j c its; holds = (waiting_is c.phase s.1.0.0).0 }))
    (miss_is_nothing slots limit t h j c its n).5 s.2.becomes))
holds_under_way slots limit t (counts_hold_at slot j) t' h s =
    let c : CallerView = s.0 in
    let n : ℕ = slice_index t.words (hold_index slot) in
    let its = at slots limit t t' h j c s.2.there in
    inr (inl (counted slots limit t t' h j c s.2.there _ _ (after_count_at slot n c) (key_in slot n) s.1.1 refl
    (inl (linked_key t.words h.master h.callers h.shows slot s.1.2.0))
    ((miss_is_nothing slots limit t h j c its n).6 slot) s.2.becomes))
holds_under_way slots limit t (shares j) t' h s = inr (inr (sits slots limit t t' h j s.0 s.2 s.0.key s.1.1 s.3))
holds_under_way slots limit t (hands_on j) t' h s = inr (inr (hand_sits slots limit t t' h j s))
holds_under_way slots limit t (loads_hold slot) t' h s = inl (master_keeps slots limit t t' h _ _ _ s.2.becomes)
holds_under_way slots limit t (pins_hold slot) t' h s = inl (master_keeps slots limit t t' h _ _ _ s.2.becomes)
holds_under_way slots limit t (unpins_hold slot) t' h s = inl (master_keeps slots limit t t' h _ _ _ s.2.becomes)
holds_under_way slots limit t (stores_fresh slot) t' h s = inl (master_keeps slots limit t t' h _ _ _ s.2.becomes)
holds_under_way slots limit t (births slot) t' h s = inl (master_keeps slots limit t t' h _ _ _ s.2.becomes)
holds_under_way slots limit t (takes_bias slot) t' h s = inl (master_keeps slots limit t t' h _ _ _ s.2.becomes)
holds_under_way slots limit t (marks_node slot) t' h s = inl (master_keeps slots limit t t' h _ _ _ s.1.2.becomes)
holds_under_way slots limit t (looks_over slot) t' h s = inl (master_keeps slots limit t t' h _ _ _ s.2.becomes)
holds_under_way slots limit t (unlinks slot) t' h s = inl (master_keeps slots limit t t' h _ _ _ s.2.becomes)
holds_under_way slots limit t (stores_node slot place n) t' h s = inl (master_keeps slots limit t t' h _ _ _ s.2.becomes)
holds_under_way slots limit t (splits slot) t' h s =
    let m : MasterView = s.0 in
    let new : CallerView = hold_for m m.pinning in
    inl (comes_new slots limit t t' h (after_split m) new (held_none m m.pinning)
    (ap (λ (x : Table). x.views) s.4 ∙ ap (λ (l : List View). set l 0 (seat.Master (after_split m)) ++ seat.Caller new ∷ []) h.views ∙ seats-push (after_split m) h.callers new))
holds_under_way slots limit t (notes note) t' h s = inl (λ p. ap (coming_in p) s.1)
holds_under_way slots limit t compares t' h s = inl (λ p. ap (coming_in p) s.1)
holds_under_way slots limit t (reports j) t' h s = inl (comes_spent slots limit t t' h s.0.key s.3)
holds_under_way slots limit t answers t' h s = inl (comes_spent slots limit t t' h (last_key 0 (state_at s.0 0)) s.3)
