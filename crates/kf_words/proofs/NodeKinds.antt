-- Which steps leave the words of nodes, and the nodes and generations of the slots, as they were.
use Rattle.std.proofs.Common.{◌≡◌, ◌≢◌, ◌⊎◌, inl, inr, ℕ, suc, ◌<◌, Bool, true, false, List, [], ◌∷◌, ◌++◌, length, set, refl, sym, ap, ◌∙◌, arith, length-set, get_or-set_other}
use Rattle.std.specs.Prelude.{slice_get, slice_index, Some, is_some}
use Rattle.std.proofs.lemmas.List.{set-get_or}
use Rattle.std.proofs.lemmas.Option.{slice_get_within, same_Some, get_or_from_slice_get}
use mathlib.Core.Logic.{dite}
use mathlib.Core.Option.{some, some-ne-none, some-injective}
use native.Mathlib.Decide.{ℕ_discrete}
use lib.ListN.{get_elem?}
use Rattle.atomic_table.specs.Table.{stepped, keeps}
use Rattle.kf_core.specs.declared.slot.SlotState.{SlotState}
use Rattle.kf_core.proofs.Lists.{slice_get-set_same, slice_get-set_other}
use Rattle.kf_words.specs.declared.view.MasterView.{MasterView}
use Rattle.kf_words.specs.declared.view.View.{View}
use Rattle.kf_words.specs.declared.view.View.TheVariants as seat
use Rattle.kf_words.specs.Layout.{active_index, hold_index, sleepers_index, node_index}
use Rattle.kf_words.specs.Rule.{Shown}
use Rattle.kf_words.specs.Steps.{master_of, state_at, no_state, after_split, new_hold, after_share}
use Rattle.kf_words.specs.TableSteps.{Table, StepKind, master_in, WordStep, tries, undoes, leaves, breaks, restores, looks, parts, hides, looks_hidden, shows, releases, sees_holds, counts_hold, shares, sleeps, awakes, loads_sleepers, loads_hold, pins_hold, unpins_hold, splits, stores_fresh, births, takes_bias, marks_node, looks_over, unlinks, sees_holds_at, counts_hold_at, hands_on, stores_node, reads_node, notes, reports, answers, compares}
use Rattle.kf_words.specs.NodeWords.{NodeNotes, noted_by}

-- a step that stores no word of a node and is no birth
pub plain : StepKind → Bool
plain (stores_node slot place n) = false
plain (births slot) = false
plain (reads_node slot place j) = true
plain (tries j) = true
plain (undoes j) = true
plain (leaves j) = true
plain (breaks j) = true
plain (restores j) = true
plain (looks j) = true
plain (parts j) = true
plain (hides j) = true
plain (looks_hidden j) = true
plain (shows j) = true
plain (releases j) = true
plain (sees_holds j) = true
plain (counts_hold j) = true
plain (shares j) = true
plain (sleeps slot j) = true
plain (awakes slot j) = true
plain (loads_sleepers slot j) = true
plain (loads_hold j) = true
plain (pins_hold j) = true
plain (unpins_hold j) = true
plain (splits j) = true
plain (stores_fresh j) = true
plain (takes_bias j) = true
plain (marks_node j) = true
plain (looks_over j) = true
plain (unlinks j) = true
plain (hands_on j) = true
plain (sees_holds_at slot j) = true
plain (counts_hold_at slot j) = true
plain (notes note) = true
plain (reports j) = true
plain answers = true
plain compares = true

-- such a step leaves what is noted of the words of nodes as it was
pub unnoted : (kind : StepKind) → plain kind ≡ true → (w : NodeNotes) → noted_by kind w ≡ w
unfolding plain
unnoted (stores_node slot place n) e w = absurd (let x : false ≡ true = e in cc)
unnoted (births slot) e w = absurd (let x : false ≡ true = e in cc)
unnoted (reads_node slot place j) e w = refl
unnoted (tries j) e w = refl
unnoted (undoes j) e w = refl
unnoted (leaves j) e w = refl
unnoted (breaks j) e w = refl
unnoted (restores j) e w = refl
unnoted (looks j) e w = refl
unnoted (parts j) e w = refl
unnoted (hides j) e w = refl
unnoted (looks_hidden j) e w = refl
unnoted (shows j) e w = refl
unnoted (releases j) e w = refl
unnoted (sees_holds j) e w = refl
unnoted (counts_hold j) e w = refl
unnoted (shares j) e w = refl
unnoted (sleeps slot j) e w = refl
unnoted (awakes slot j) e w = refl
unnoted (loads_sleepers slot j) e w = refl
unnoted (loads_hold j) e w = refl
unnoted (pins_hold j) e w = refl
unnoted (unpins_hold j) e w = refl
unnoted (splits j) e w = refl
unnoted (stores_fresh j) e w = refl
unnoted (takes_bias j) e w = refl
unnoted (marks_node j) e w = refl
unnoted (looks_over j) e w = refl
unnoted (unlinks j) e w = refl
unnoted (hands_on j) e w = refl
unnoted (sees_holds_at slot j) e w = refl
unnoted (counts_hold_at slot j) e w = refl
unnoted (notes note) e w = refl
unnoted (reports j) e w = refl
unnoted answers e w = refl
unnoted compares e w = refl

-- each step is of one of these kinds, or a birth, or stores a word of a node
pub which : (kind : StepKind) → (plain kind ≡ true) ⊎ (((slot : ℕ) × (kind ≡ births slot)) ⊎ ((slot : ℕ) × (place : ℕ) × (n : ℕ) × (kind ≡ stores_node slot place n)))
unfolding plain
which (stores_node slot place n) = inr (inr (slot, place, n, refl))
which (births slot) = inr (inl (slot, refl))
which (reads_node slot place j) = inl refl
which (tries j) = inl refl
which (undoes j) = inl refl
which (leaves j) = inl refl
which (breaks j) = inl refl
which (restores j) = inl refl
which (looks j) = inl refl
which (parts j) = inl refl
which (hides j) = inl refl
which (looks_hidden j) = inl refl
which (shows j) = inl refl
which (releases j) = inl refl
which (sees_holds j) = inl refl
which (counts_hold j) = inl refl
which (shares j) = inl refl
which (sleeps slot j) = inl refl
which (awakes slot j) = inl refl
which (loads_sleepers slot j) = inl refl
which (loads_hold j) = inl refl
which (pins_hold j) = inl refl
which (unpins_hold j) = inl refl
which (splits j) = inl refl
which (stores_fresh j) = inl refl
which (takes_bias j) = inl refl
which (marks_node j) = inl refl
which (looks_over j) = inl refl
which (unlinks j) = inl refl
which (hands_on j) = inl refl
which (sees_holds_at slot j) = inl refl
which (counts_hold_at slot j) = inl refl
which (notes note) = inl refl
which (reports j) = inl refl
which answers = inl refl
which compares = inl refl

-- the slots that the Master knows of
abbrev pub slots_in : Table → List SlotState
slots_in t = (master_in t.views).slots

-- the words of nodes stay, the number of slots stays, no slot gets a node, and no generation changes
pub record Leaves (t t' : Table) : Type 0 where
  pub words : (slot place : ℕ) → place < 5 → slice_index t'.words (node_index place slot) ≡ slice_index t.words (node_index place slot)
  pub wide : length (slots_in t') ≡ length (slots_in t)
  pub nodes : (slot : ℕ) (state : SlotState) → slice_get (slots_in t') slot ≡ Some state
      → (old : SlotState) × (slice_get (slots_in t) slot ≡ Some old) × (old.generation ≡ state.generation) × (is_some state.marks ≡ true → is_some old.marks ≡ true)

-- no slot gets a node and no generation changes if the Master's slots are the same
same_nodes : (l l' : List SlotState) → l' ≡ l → (slot : ℕ) (state : SlotState) → slice_get l' slot ≡ Some state
    → (old : SlotState) × (slice_get l slot ≡ Some old) × (old.generation ≡ state.generation) × (is_some state.marks ≡ true → is_some old.marks ≡ true)
same_nodes l l' e slot state at = (state, ap (λ (x : List SlotState). slice_get x slot) (sym e) ∙ at, refl, (λ h. h))

caller_stays : (l : List View) (j : ℕ) (v : View) → master_in (set l (suc j) v) ≡ master_in l
caller_stays [] j v = refl
caller_stays (x ∷ xs) j v = refl

caller_splits : (l : List View) (j : ℕ) (v a b : View) → get_elem? l (suc j) ≡ some v → master_in (set l (suc j) a ++ b ∷ []) ≡ master_in l
caller_splits [] j v a b e = absurd (some-ne-none v (sym e))
caller_splits (x ∷ xs) j v a b e = refl

pub master_is : (l : List View) (m : MasterView) → get_elem? l 0 ≡ some (seat.Master m) → master_in l ≡ m
master_is [] m e = absurd (some-ne-none (seat.Master m) (sym e))
master_is (x ∷ xs) m e = ap master_of (some-injective x (seat.Master m) e)

pub master_now : (l : List View) (m m' : MasterView) → get_elem? l 0 ≡ some (seat.Master m) → master_in (set l 0 (seat.Master m')) ≡ m'
master_now [] m m' e = absurd (some-ne-none (seat.Master m) (sym e))
master_now (x ∷ xs) m m' e = refl

master_splits : (l : List View) (m m' : MasterView) (b : View) → get_elem? l 0 ≡ some (seat.Master m) → master_in (set l 0 (seat.Master m') ++ b ∷ []) ≡ m'
master_splits [] m m' b e = absurd (some-ne-none (seat.Master m) (sym e))
master_splits (x ∷ xs) m m' b e = refl

-- a step of a caller on a word that is not one of a node's words
by_caller : (t t' : Table) (i n j : ℕ) (v : View) → ((slot place : ℕ) → place < 5 → node_index place slot ≢ i) → t' ≡ stepped t i n (suc j) [] v keeps → Leaves t t'
by_caller t t' i n j v apart becomes =
    let same : slots_in t' ≡ slots_in t = ap (λ (x : Table). slots_in x) becomes ∙ ap (λ (m : MasterView). m.slots) (caller_stays t.views j v) in
    record {
      words = λ slot place few. ap (λ (x : Table). slice_index x.words (node_index place slot)) becomes ∙ get_or-set_other t.words i (node_index place slot) n 0 (apart slot place few);
      wide = ap (λ (l : List SlotState). length l) same;
      nodes = same_nodes (slots_in t) (slots_in t') same;
    }

-- a load of any word by a caller
by_load : (t t' : Table) (i j : ℕ) (v : View) → t' ≡ stepped t i (slice_index t.words i) (suc j) [] v keeps → Leaves t t'
by_load t t' i j v becomes =
    let same : slots_in t' ≡ slots_in t = ap (λ (x : Table). slots_in x) becomes ∙ ap (λ (m : MasterView). m.slots) (caller_stays t.views j v) in
    let words : t'.words ≡ t.words = ap (λ (x : Table). x.words) becomes ∙ set-get_or t.words i 0 in
    record {
      words = λ slot place few. ap (λ (l : List ℕ). slice_index l (node_index place slot)) words;
      wide = ap (λ (l : List SlotState). length l) same;
      nodes = same_nodes (slots_in t) (slots_in t') same;
    }

-- a step that makes a seat
by_split : (t t' : Table) → t'.words ≡ t.words → slots_in t' ≡ slots_in t → Leaves t t'
by_split t t' words same = record {
  words = λ slot place few. ap (λ (l : List ℕ). slice_index l (node_index place slot)) words;
  wide = ap (λ (l : List SlotState). length l) same;
  nodes = same_nodes (slots_in t) (slots_in t') same;
}

-- a step that changes nothing
by_nothing : (t t' : Table) → t' ≡ t → Leaves t t'
by_nothing t t' same = by_split t t' (ap (λ (x : Table). x.words) same) (ap (λ (x : Table). slots_in x) same)

-- a new seat behind the others leaves the Master's view as it was
comes_behind : (l : List View) (v : View) → (l ≡ [] → ⊥) → master_in (l ++ v ∷ []) ≡ master_in l
comes_behind [] v some_seat = absurd (some_seat refl)
comes_behind (x ∷ xs) v some_seat = refl

no_first : (l : List View) (k : ℕ) (v : View) → get_elem? l k ≡ some v → l ≡ [] → ⊥
no_first l k v there e = some-ne-none v (sym there ∙ ap (λ (x : List View). get_elem? x k) e)

by_new_seat : (t t' : Table) (v : View) → (t.views ≡ [] → ⊥) → t' ≡ record { words = t.words; homes = t.homes; views = t.views ++ v ∷ [] } → Leaves t t'
by_new_seat t t' v some_seat becomes =
    by_split t t' (ap (λ (x : Table). x.words) becomes) (ap (λ (x : Table). slots_in x) becomes ∙ ap (λ (m : MasterView). m.slots) (comes_behind t.views v some_seat))

-- a step of the Master on a word that is not one of a node's words
by_master : (t t' : Table) (i n : ℕ) (m m' : MasterView) → get_elem? t.views 0 ≡ some (seat.Master m) → ((slot place : ℕ) → place < 5 → node_index place slot ≢ i)
    → t' ≡ stepped t i n 0 [] (seat.Master m') keeps → length m'.slots ≡ length m.slots
    → ((slot : ℕ) (state : SlotState) → slice_get m'.slots slot ≡ Some state → (old : SlotState) × (slice_get m.slots slot ≡ Some old) × (old.generation ≡ state.generation) × (is_some state.marks ≡ true → is_some old.marks ≡ true))
    → Leaves t t'
by_master t t' i n m m' there apart becomes wide nodes =
    let before : slots_in t ≡ m.slots = ap (λ (x : MasterView). x.slots) (master_is t.views m there) in
    let after : slots_in t' ≡ m'.slots = ap (λ (x : Table). slots_in x) becomes ∙ ap (λ (x : MasterView). x.slots) (master_now t.views m m' there) in
    record {
      words = λ slot place few. ap (λ (x : Table). slice_index x.words (node_index place slot)) becomes ∙ get_or-set_other t.words i (node_index place slot) n 0 (apart slot place few);
      wide = ap (λ (l : List SlotState). length l) after ∙ wide ∙ ap (λ (l : List SlotState). length l) (sym before);
      nodes = λ slot state at.
          let r = nodes slot state (ap (λ (l : List SlotState). slice_get l slot) (sym after) ∙ at) in
          (r.0, ap (λ (l : List SlotState). slice_get l slot) before ∙ r.1, r.2, r.3);
    }

-- the state of one slot is written: with the generation that it had, and with a node only if it had one
one_written : (l : List SlotState) (s : ℕ) (was new : SlotState) → slice_get l s ≡ Some was → was.generation ≡ new.generation → (is_some new.marks ≡ true → is_some was.marks ≡ true)
    → (slot : ℕ) (state : SlotState) → slice_get (set l s new) slot ≡ Some state
    → (old : SlotState) × (slice_get l slot ≡ Some old) × (old.generation ≡ state.generation) × (is_some state.marks ≡ true → is_some old.marks ≡ true)
one_written l s was new its same had slot state at = dite (ℕ_discrete slot s)
    (λ e.
    let one : new ≡ state = same_Some new state (sym (slice_get-set_same l s new (slice_get_within l s was its)) ∙ ap (λ (k : ℕ). slice_get (set l s new) k) (sym e) ∙ at) in
    (was, ap (λ (k : ℕ). slice_get l k) e ∙ its, same ∙ ap (λ (x : SlotState). x.generation) one, (λ h. had (ap (λ (x : SlotState). is_some x.marks) one ∙ h))))
    (λ ne. (state, sym (slice_get-set_other l s slot new ne) ∙ at, refl, (λ h. h)))

pub on_active : (k slot place : ℕ) → place < 5 → node_index place slot ≢ active_index k
on_active k slot place few e = omega (arith, few, e)

pub on_hold : (k slot place : ℕ) → place < 5 → node_index place slot ≢ hold_index k
on_hold k slot place few e = omega (arith, few, e)

on_sleepers : (k slot place : ℕ) → place < 5 → node_index place slot ≢ sleepers_index k
on_sleepers k slot place few e = omega (arith, few, e)

-- if the state of a slot is known, it is the one that is read
pub state_is : (m : MasterView) (slot : ℕ) (state : SlotState) → slice_get m.slots slot ≡ Some state → state_at m slot ≡ state
state_is m slot state its = get_or_from_slice_get m.slots slot state no_state its

pub leaves_alone : (slots limit : ℕ) (t : Table) (kind : StepKind) (t' : Table) → Shown slots limit t → plain kind ≡ true → WordStep t kind t' → Leaves t t'
unfolding plain
leaves_alone slots limit t (stores_node slot place n) t' h e s = absurd (let x : false ≡ true = e in cc)
leaves_alone slots limit t (births slot) t' h e s = absurd (let x : false ≡ true = e in cc)
leaves_alone slots limit t (tries j) t' h e s = by_caller t t' _ _ j _ (on_active s.0.key.slot) s.2.becomes
leaves_alone slots limit t (undoes j) t' h e s = by_caller t t' _ _ j _ (on_active s.0.key.slot) s.2.becomes
leaves_alone slots limit t (leaves j) t' h e s = by_caller t t' _ _ j _ (on_active s.0.key.slot) s.2.becomes
leaves_alone slots limit t (breaks j) t' h e s = by_caller t t' _ _ j _ (on_active s.0.key.slot) s.2.becomes
leaves_alone slots limit t (restores j) t' h e s = by_caller t t' _ _ j _ (on_active s.0.key.slot) s.2.becomes
leaves_alone slots limit t (looks j) t' h e s = by_caller t t' _ _ j _ (on_active s.0.key.slot) s.2.becomes
leaves_alone slots limit t (hides j) t' h e s = by_caller t t' _ _ j _ (on_active s.0.key.slot) s.2.becomes
leaves_alone slots limit t (looks_hidden j) t' h e s = by_caller t t' _ _ j _ (on_active s.0.key.slot) s.2.becomes
leaves_alone slots limit t (shows j) t' h e s = by_caller t t' _ _ j _ (on_active s.0.key.slot) s.2.becomes
leaves_alone slots limit t (parts j) t' h e s = by_caller t t' _ _ j _ (on_hold s.0.key.slot) s.2.becomes
leaves_alone slots limit t (releases j) t' h e s = by_caller t t' _ _ j _ (on_hold s.0.key.slot) s.2.becomes
leaves_alone slots limit t (sees_holds j) t' h e s = by_caller t t' _ _ j _ (on_hold s.0.key.slot) s.2.becomes
leaves_alone slots limit t (counts_hold j) t' h e s = by_caller t t' _ _ j _ (on_hold s.0.key.slot) s.2.becomes
leaves_alone slots limit t (sleeps slot j) t' h e s = by_caller t t' _ _ j _ (on_sleepers s.0.key.slot) s.2.becomes
leaves_alone slots limit t (awakes slot j) t' h e s = by_caller t t' _ _ j _ (on_sleepers s.0.key.slot) s.2.becomes
leaves_alone slots limit t (loads_sleepers slot j) t' h e s = by_caller t t' _ _ j _ (on_sleepers s.0.key.slot) s.2.becomes
leaves_alone slots limit t (sees_holds_at slot j) t' h e s = by_caller t t' _ _ j _ (on_hold slot) s.2.becomes
leaves_alone slots limit t (counts_hold_at slot j) t' h e s = by_caller t t' _ _ j _ (on_hold slot) s.2.becomes
leaves_alone slots limit t (reads_node slot place j) t' h e s = by_load t t' _ j _ s.2.becomes
leaves_alone slots limit t (notes note) t' h e s = by_nothing t t' s.1
leaves_alone slots limit t compares t' h e s = by_nothing t t' s.1
leaves_alone slots limit t (reports j) t' h e s = by_new_seat t t' _ (no_first t.views (suc j) _ s.2) s.3
leaves_alone slots limit t answers t' h e s = by_new_seat t t' _ (no_first t.views 0 _ s.1) s.3
leaves_alone slots limit t (shares j) t' h e s =
    by_split t t' (ap (λ (x : Table). x.words) s.3) (ap (λ (x : Table). slots_in x) s.3 ∙ ap (λ (m : MasterView). m.slots) (caller_splits t.views j (seat.Caller s.0) (seat.Caller (after_share s.0)) (seat.Caller (new_hold s.0.key)) s.2))
leaves_alone slots limit t (hands_on j) t' h e s =
    by_split t t' (ap (λ (x : Table). x.words) s.5) (ap (λ (x : Table). slots_in x) s.5 ∙ ap (λ (m : MasterView). m.slots) (caller_splits t.views j (seat.Caller s.0) (seat.Caller (after_share s.0)) (seat.Caller (new_hold s.1)) s.4))
leaves_alone slots limit t (splits slot) t' h e s =
    by_split t t' (ap (λ (x : Table). x.words) s.4)
    (ap (λ (x : Table). slots_in x) s.4 ∙ ap (λ (m : MasterView). m.slots) (master_splits t.views s.0 (after_split s.0) _ s.1) ∙ ap (λ (m : MasterView). m.slots) (sym (master_is t.views s.0 s.1)))
leaves_alone slots limit t (loads_hold slot) t' h e s = by_master t t' _ _ s.0 _ s.2.there (on_hold slot) s.2.becomes refl (same_nodes s.0.slots s.0.slots refl)
leaves_alone slots limit t (pins_hold slot) t' h e s = by_master t t' _ _ s.0 _ s.2.there (on_hold slot) s.2.becomes refl (same_nodes s.0.slots s.0.slots refl)
leaves_alone slots limit t (unpins_hold slot) t' h e s = by_master t t' _ _ s.0 _ s.2.there (on_hold slot) s.2.becomes refl (same_nodes s.0.slots s.0.slots refl)
leaves_alone slots limit t (stores_fresh slot) t' h e s = by_master t t' _ _ s.0 _ s.2.there (on_active slot) s.2.becomes refl (same_nodes s.0.slots s.0.slots refl)
leaves_alone slots limit t (looks_over slot) t' h e s = by_master t t' _ _ s.0 _ s.2.there (on_active slot) s.2.becomes refl (same_nodes s.0.slots s.0.slots refl)
leaves_alone slots limit t (takes_bias slot) t' h e s =
    let m : MasterView = s.0 in
    let is = state_is m slot s.1.0 s.1.1 in
    by_master t t' _ _ m _ s.2.there (on_active slot) s.2.becomes (length-set m.slots slot _)
    (one_written m.slots slot s.1.0 _ s.1.1 (ap (λ (x : SlotState). x.generation) (sym is)) (λ _. ap is_some s.1.2))
leaves_alone slots limit t (marks_node slot) t' h e r =
    let s = r.1 in
    let m : MasterView = s.0 in
    let its = s.1.0 in
    let is = state_is m slot its.0 its.1 in
    by_master t t' _ _ m _ s.2.there (on_active slot) s.2.becomes (length-set m.slots slot _)
    (one_written m.slots slot its.0 _ its.1 (ap (λ (x : SlotState). x.generation) (sym is)) (λ _. ap is_some its.2))
leaves_alone slots limit t (unlinks slot) t' h e s =
    let m : MasterView = s.0 in
    let its = s.1.0.1 in
    let is = state_is m slot its.0 its.1 in
    by_master t t' _ _ m _ s.2.there (on_hold slot) s.2.becomes (length-set m.slots slot _)
    (one_written m.slots slot its.0 _ its.1 (ap (λ (x : SlotState). x.generation) (sym is)) (λ x. absurd (let y : false ≡ true = x in cc)))
