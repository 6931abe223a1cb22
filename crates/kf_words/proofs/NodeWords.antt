-- The words of nodes: each is the one that was stored last, and while a node is linked, its words are as they
-- were at its birth.
use Rattle.std.proofs.Common.{◌&&◌, ◌≡◌, ◌≢◌, ◌⊎◌, ℕ, zero, suc, ◌+◌, ◌*◌, ◌<◌, ◌≤◌, Bool, true, false, eqb, List, [], ◌∷◌, ◌++◌, length, set, get_or, if◌then◌else◌, refl, sym, ap, ◌∙◌, subst, ⊎_elim, arith, length-set, get_or-set_same, get_or-set_other, eq-eqb, ne_eqb}
use Rattle.std.specs.Prelude.{slice_get, slice_index, Some, is_some}
use Rattle.std.specs.List.{repeat}
use Rattle.std.proofs.lemmas.Option.{slice_get_within, same_Some}
use mathlib.Core.Logic.{dite}
use native.Mathlib.Decide.{ℕ_discrete}
use Rattle.kf_core.specs.declared.key.Key.{Key}
use Rattle.kf_core.specs.declared.slot.SlotState.{SlotState}
use Rattle.kf_core.specs.Bare.{is_linked}
use Rattle.kf_core.specs.Marks.{fresh_marks}
use Rattle.kf_core.proofs.Lists.{slice_get-set_same, slice_get-set_other}
use Rattle.kf_core.proofs.Keeping.{slot_state}
use Rattle.kf_core.proofs.Passing.{HasCome}
use Rattle.kf_words.specs.declared.sight.Opening.{Opening}
use Rattle.kf_words.specs.declared.view.MasterView.{MasterView}
use Rattle.kf_words.specs.declared.view.View.{View}
use Rattle.kf_words.specs.Layout.{linked, one_generation, active_index, hold_index, node_index, empty_line}
use Rattle.kf_words.specs.Rule.{Shown}
use Rattle.kf_words.specs.Steps.{state_at}
use Rattle.kf_words.specs.TableSteps.{Table, StepKind, master_in, world, WordStep, WordRun, births, stores_node}
use Rattle.kf_words.specs.History.{opened_as}
use Rattle.kf_words.specs.NodeWords.{NodeNotes, no_notes, with_note, with_born, noted_by, notes_after, ReadAsBorn}
use Rattle.kf_words.proofs.Bits.{bool_cases}
use Rattle.kf_words.proofs.MasterSteps.{unheld}
use Rattle.kf_words.proofs.MasterAllowed.{state_there}
use Rattle.kf_words.proofs.Opening.{opening_shown}
use Rattle.kf_words.proofs.WordSteps.{met, word_step}
use Rattle.kf_words.proofs.Runs.{rule_kept, come_for_good}
use Rattle.kf_words.proofs.NodeKinds.{plain, unnoted, which, slots_in, Leaves, master_is, master_now, on_active, on_hold, state_is, leaves_alone}
use Rattle.kf_words.proofs.NodeGone.{gone_for_good, gone_unlinked, unlinked_gone, linked_here}

-- the words are those that were stored last, and those of a linked node are as they were at its birth
record Noted (w : NodeNotes) (t : Table) : Type 0 where
  put : (slot place : ℕ) → place < 5 → slot < length (slots_in t) → slice_index t.words (node_index place slot) ≡ w.now slot place
  as_born : (slot : ℕ) (state : SlotState) → slice_get (slots_in t) slot ≡ Some state → is_some state.marks ≡ true → (place : ℕ) → w.now slot place ≡ w.born slot place

noted_plain : (w : NodeNotes) (t t' : Table) → Leaves t t' → Noted w t → Noted w t'
noted_plain w t t' l h = record {
  put = λ slot place few near. l.words slot place few ∙ h.put slot place few (let wide = l.wide in omega (arith, near, wide));
  as_born = λ slot state at node place. let r = l.nodes slot state at in h.as_born slot r.0 r.1 (r.3 node) place;
}

noted_birth : (w : NodeNotes) (slots limit : ℕ) (t t' : Table) (s : ℕ) → WordStep t (births s) t' → Noted w t → Noted (with_born s w) t'
noted_birth w slots limit t t' s step h =
    let m : MasterView = step.0 in
    let new : SlotState = record { generation = (state_at m s).generation + 1; marks = Some fresh_marks } in
    let before : slots_in t ≡ m.slots = ap (λ (x : MasterView). x.slots) (master_is t.views m step.2.there) in
    let after : slots_in t' ≡ set m.slots s new = ap (λ (x : Table). slots_in x) step.2.becomes ∙ ap (λ (x : MasterView). x.slots) (master_now t.views m _ step.2.there) in
    record {
      put = λ slot place few near.
          let long = ap (λ (l : List SlotState). length l) after ∙ length-set m.slots s new ∙ ap (λ (l : List SlotState). length l) (sym before) in
          ap (λ (x : Table). slice_index x.words (node_index place slot)) step.2.becomes ∙ get_or-set_other t.words (hold_index s) (node_index place slot) _ 0 (on_hold s slot place few)
          ∙ h.put slot place few (omega (arith, near, long));
      as_born = λ slot state at node place. dite (ℕ_discrete slot s)
          (λ e. ap (λ (b : Bool). if b then w.now slot place else w.born slot place) (sym (eq-eqb slot s e)))
          (λ ne. h.as_born slot state (ap (λ (l : List SlotState). slice_get l slot) before ∙ sym (slice_get-set_other m.slots s slot new ne) ∙ ap (λ (l : List SlotState). slice_get l slot) (sym after) ∙ at) node place
          ∙ ap (λ (b : Bool). if b then w.now slot place else w.born slot place) (sym (ne_eqb slot s ne)));
    }

-- if the slot's active word is fresh, no node is linked there
fresh_unlinked : (slots limit : ℕ) (t : Table) (h : Shown slots limit t) (s : ℕ) (state : SlotState) → h.master.fresh ≡ Some s → slice_get h.master.slots s ≡ Some state → is_some state.marks ≡ false
fresh_unlinked slots limit t h s state fresh its = (unheld t.words h.master h.callers h.shows s state its (h.shows.fresh s fresh).2).2

noted_put : (w : NodeNotes) (slots limit : ℕ) (t t' : Table) (s p n : ℕ) → Shown slots limit t → WordStep t (stores_node s p n) t' → Noted w t → Noted (with_note s p n w) t'
noted_put w slots limit t t' s p n g step h =
    let m : MasterView = step.0 in
    let few : p < 5 = step.1.1 in
    let k = met slots limit t t' g m step.2.there in
    let before : slots_in t ≡ m.slots = ap (λ (x : MasterView). x.slots) (master_is t.views m step.2.there) in
    let after : slots_in t' ≡ m.slots = ap (λ (x : Table). slots_in x) step.2.becomes ∙ ap (λ (x : MasterView). x.slots) (master_now t.views m _ step.2.there) in
    record {
      put = λ slot place few' near. dite (ℕ_discrete (node_index place slot) (node_index p s))
          (λ e.
          let same_slot : slot ≡ s = omega (arith, few, few', e) in
          let same_place : place ≡ p = omega (arith, few, few', e) in
          let wide = k.shows.wide in
          let near' : s < length m.slots = step.1.0.0 in
          ap (λ (x : Table). slice_index x.words (node_index place slot)) step.2.becomes ∙ ap (λ (i : ℕ). slice_index (set t.words (node_index p s) n) i) e
          ∙ get_or-set_same t.words (node_index p s) n 0 (omega (arith, few, wide, near'))
          ∙ ap (λ (b : Bool). if b then n else w.now slot place) (sym (both (eqb slot s) (eqb place p) (eq-eqb slot s same_slot) (eq-eqb place p same_place))))
          (λ ne.
          let long = ap (λ (l : List SlotState). length l) (after ∙ sym before) in
          ap (λ (x : Table). slice_index x.words (node_index place slot)) step.2.becomes ∙ get_or-set_other t.words (node_index p s) (node_index place slot) n 0 ne
          ∙ h.put slot place few' (omega (arith, near, long))
          ∙ ap (λ (b : Bool). if b then n else w.now slot place) (sym (not_both slot s place p (λ a b. ne (ap (λ (x : ℕ). node_index place x) a ∙ ap (λ (x : ℕ). node_index x s) b)))));
      as_born = λ slot state at node place.
          let there : slice_get m.slots slot ≡ Some state = ap (λ (l : List SlotState). slice_get l slot) (sym after) ∙ at in
          let apart : slot ≢ s = λ e. (let x : true ≡ false = sym node ∙ fresh_unlinked slots limit t k s state step.1.0.1 (ap (λ (i : ℕ). slice_get m.slots i) (sym e) ∙ there) in cc) in
          ap (λ (b : Bool). if (b && eqb place p) then n else w.now slot place) (ne_eqb slot s apart)
          ∙ h.as_born slot state (ap (λ (l : List SlotState). slice_get l slot) before ∙ there) node place;
    }
  where
    both : (a b : Bool) → a ≡ true → b ≡ true → (a && b) ≡ true
    both true b e f = f
    both false b e f = absurd (let x : false ≡ true = e in cc)

    not_both : (a b c d : ℕ) → (a ≡ b → c ≡ d → ⊥) → (eqb a b && eqb c d) ≡ false
    not_both a b c d never = dite (ℕ_discrete a b)
        (λ e. dite (ℕ_discrete c d) (λ f. absurd (never e f)) (λ ne. ap (λ (x : Bool). eqb a b && x) (ne_eqb c d ne) ∙ second (eqb a b)))
        (λ ne. ap (λ (x : Bool). x && eqb c d) (ne_eqb a b ne))
      where
        second : (x : Bool) → (x && false) ≡ false
        second true = refl
        second false = refl

noted_step : (w : NodeNotes) (slots limit : ℕ) (t : Table) (kind : StepKind) (t' : Table) → Shown slots limit t → WordStep t kind t' → Noted w t → Noted (noted_by kind w) t'
noted_step w slots limit t kind t' g s h = ⊎_elim
    (λ (e : plain kind ≡ true). subst (λ (x : NodeNotes). Noted x t') (sym (unnoted kind e w)) (noted_plain w t t' (leaves_alone slots limit t kind t' g e s) h))
    (λ (more : ((slot : ℕ) × (kind ≡ births slot)) ⊎ ((slot : ℕ) × (place : ℕ) × (n : ℕ) × (kind ≡ stores_node slot place n))). ⊎_elim
    (λ (b : (slot : ℕ) × (kind ≡ births slot)). subst (λ (k : StepKind). Noted (noted_by k w) t') (sym b.1) (noted_birth w slots limit t t' b.0 (subst (λ (k : StepKind). WordStep t k t') b.1 s) h))
    (λ (p : (slot : ℕ) × (place : ℕ) × (n : ℕ) × (kind ≡ stores_node slot place n)).
    subst (λ (k : StepKind). Noted (noted_by k w) t') (sym p.3) (noted_put w slots limit t t' p.0 p.1 p.2 g (subst (λ (k : StepKind). WordStep t k t') p.3 s) h))
    more)
    (which kind)

noted_run : (w : NodeNotes) (slots limit : ℕ) (kinds : List StepKind) (t u : Table) → Shown slots limit t → WordRun t kinds u → Noted w t → Noted (notes_after w kinds) u
noted_run w slots limit [] t u g r h = subst (λ (x : Table). Noted w x) (sym r) h
noted_run w slots limit (kind ∷ kinds) t u g r h =
    noted_run (noted_by kind w) slots limit kinds r.0 u (word_step slots limit t kind r.0 g r.1).0 r.2 (noted_step w slots limit t kind r.0 g r.1 h)

-- at the opening each word of a node is 0
node_there : (n k start place : ℕ) → place < 5 → k < n → get_or (repeat n (empty_line start)) (node_index place k) 0 ≡ 0
node_there zero k start place few h = absurd (omega (arith, h))
node_there (suc n) zero start zero few h = refl
node_there (suc n) zero start (suc zero) few h = refl
node_there (suc n) zero start (suc (suc zero)) few h = refl
node_there (suc n) zero start (suc (suc (suc zero))) few h = refl
node_there (suc n) zero start (suc (suc (suc (suc zero)))) few h = refl
node_there (suc n) zero start (suc (suc (suc (suc (suc place))))) few h = absurd (omega (arith, few))
node_there (suc n) (suc k) start place few h =
    let further : node_index place (suc k) ≡ suc (suc (suc (suc (suc (suc (suc (suc (node_index place k)))))))) = omega arith in
    ap (λ (i : ℕ). get_or (repeat (suc n) (empty_line start)) i 0) further ∙ node_there n k start place few (omega (arith, h))

noted_first : (o : Opening) → 1 ≤ o.slots → o.holds ≤ 65535 → Noted no_notes (opened_as o)
noted_first o some_slot few =
    let g = opening_shown o.slots o.holds o.start some_slot few in
    record {
      put = λ slot place small near.
          let all : length (slots_in (opened_as o)) ≡ o.slots = ap (λ (l : List View). length (master_in l).slots) g.views ∙ g.all_slots in
          let lines : List ℕ = repeat o.slots (empty_line o.start) in
          get_or-set_other (set lines (active_index 0) 0) (hold_index 0) (node_index place slot) ((o.start + 1) * one_generation + linked) 0 (on_hold 0 slot place small)
          ∙ get_or-set_other lines (active_index 0) (node_index place slot) 0 0 (on_active 0 slot place small)
          ∙ node_there o.slots slot o.start place small (omega (arith, near, all));
      as_born = λ slot state at node place. refl;
    }

-- while a slot's generation stays, so does what was stored at its last birth
born_stays : (w : NodeNotes) (slots limit : ℕ) (kinds : List StepKind) (t u : Table) (k : Key) (a b : SlotState) → Shown slots limit t → WordRun t kinds u
    → slice_get (slots_in t) k.slot ≡ Some a → a.generation ≡ k.generation → slice_get (slots_in u) k.slot ≡ Some b → b.generation ≡ k.generation
    → (place : ℕ) → (notes_after w kinds).born k.slot place ≡ w.born k.slot place
born_stays w slots limit [] t u k a b g r at same at' same' place = refl
born_stays w slots limit (kind ∷ kinds) t u k a b g r at same at' same' place =
    let v : Table = r.0 in
    let g' = (word_step slots limit t kind v g r.1).0 in
    ⊎_elim
    (λ (e : plain kind ≡ true).
    let l = leaves_alone slots limit t kind v g e r.1 in
    let near = slice_get_within (slots_in t) k.slot a at in
    let c = state_there (slots_in v) k.slot (let wide = l.wide in omega (arith, near, wide)) in
    let old = l.nodes k.slot c.0 c.1 in
    let one : old.0 ≡ a = same_Some old.0 a (sym old.1 ∙ at) in
    born_stays (noted_by kind w) slots limit kinds v u k c.0 b g' r.2 c.1 (sym old.2 ∙ ap (λ (x : SlotState). x.generation) one ∙ same) at' same' place
    ∙ ap (λ (x : NodeNotes). x.born k.slot place) (unnoted kind e w))
    (λ (more : ((slot : ℕ) × (kind ≡ births slot)) ⊎ ((slot : ℕ) × (p : ℕ) × (n : ℕ) × (kind ≡ stores_node slot p n))). ⊎_elim
    (λ (x : (slot : ℕ) × (kind ≡ births slot)).
    let s = subst (λ (y : StepKind). WordStep t y v) x.1 r.1 in
    let m : MasterView = s.0 in
    let new : SlotState = record { generation = (state_at m x.0).generation + 1; marks = Some fresh_marks } in
    let before : slots_in t ≡ m.slots = ap (λ (y : MasterView). y.slots) (master_is t.views m s.2.there) in
    let after : slots_in v ≡ set m.slots x.0 new = ap (λ (y : Table). slots_in y) s.2.becomes ∙ ap (λ (y : MasterView). y.slots) (master_now t.views m _ s.2.there) in
    dite (ℕ_discrete k.slot x.0)
    (λ e.
    let there : slice_get m.slots x.0 ≡ Some a = ap (λ (l : List SlotState). slice_get l x.0) (sym before) ∙ ap (λ (i : ℕ). slice_get (slots_in t) i) (sym e) ∙ at in
    let now : slice_get (slots_in v) k.slot ≡ Some new = ap (λ (l : List SlotState). slice_get l k.slot) after ∙ ap (λ (i : ℕ). slice_get (set m.slots x.0 new) i) e ∙ slice_get-set_same m.slots x.0 new (slice_get_within m.slots x.0 a there) in
    let raised : new.generation ≡ k.generation + 1 = ap (λ (y : SlotState). y.generation + 1) (state_is m x.0 a there) ∙ ap (λ (n : ℕ). n + 1) same in
    let next : Key = record { slot = k.slot; generation = k.generation + 1 } in
    let come = come_for_good slots limit kinds v u next g' r.2 (record { last = new; there = now; come = omega (arith, raised) }) in
    let is : come.last ≡ b = same_Some come.last b (sym come.there ∙ at') in
    let far : k.generation + 1 ≤ b.generation = subst (λ (y : SlotState). k.generation + 1 ≤ y.generation) is come.come in
    absurd (omega (arith, far, same')))
    (λ ne.
    born_stays (noted_by kind w) slots limit kinds v u k a b g' r.2
    (ap (λ (l : List SlotState). slice_get l k.slot) after ∙ slice_get-set_other m.slots x.0 k.slot new ne ∙ ap (λ (l : List SlotState). slice_get l k.slot) (sym before) ∙ at) same at' same' place
    ∙ ap (λ (y : StepKind). (noted_by y w).born k.slot place) x.1 ∙ ap (λ (q : Bool). if q then w.now k.slot place else w.born k.slot place) (ne_eqb k.slot x.0 ne)))
    (λ (x : (slot : ℕ) × (p : ℕ) × (n : ℕ) × (kind ≡ stores_node slot p n)).
    let s = subst (λ (y : StepKind). WordStep t y v) x.3 r.1 in
    let m : MasterView = s.0 in
    let before : slots_in t ≡ m.slots = ap (λ (y : MasterView). y.slots) (master_is t.views m s.2.there) in
    let after : slots_in v ≡ m.slots = ap (λ (y : Table). slots_in y) s.2.becomes ∙ ap (λ (y : MasterView). y.slots) (master_now t.views m _ s.2.there) in
    born_stays (noted_by kind w) slots limit kinds v u k a b g' r.2 (ap (λ (l : List SlotState). slice_get l k.slot) (after ∙ sym before) ∙ at) same at' same' place
    ∙ ap (λ (y : StepKind). (noted_by y w).born k.slot place) x.3)
    more)
    (which kind)

-- the notes after two lists of steps are those after the first, continued by the second
pub notes_parts : (w : NodeNotes) (a b : List StepKind) → notes_after w (a ++ b) ≡ notes_after (notes_after w a) b
notes_parts w [] b = refl
notes_parts w (kind ∷ kinds) b = notes_parts (noted_by kind w) kinds b

pub run_joined : (a b : List StepKind) (t u v : Table) → WordRun t a u → WordRun u b v → WordRun t (a ++ b) v
run_joined [] b t u v r s = subst (λ (x : Table). WordRun x b v) r s
run_joined (kind ∷ kinds) b t u v r s = (r.0, r.1, run_joined kinds b r.0 u v r.2 s)

-- if a key is linked before and after a run, what was stored at its birth is the same
pub linked_as_born : (w : NodeNotes) (slots limit : ℕ) (kinds : List StepKind) (t u : Table) (k : Key) → Shown slots limit t → WordRun t kinds u
    → is_linked (world t) k ≡ true → is_linked (world u) k ≡ true → (place : ℕ) → (notes_after w kinds).born k.slot place ≡ w.born k.slot place
linked_as_born w slots limit kinds t u k g r linked_t linked_u =
    let a = linked_here (world t) k linked_t in
    let b = linked_here (world u) k linked_u in
    born_stays w slots limit kinds t u k _ _ g r a.1 refl b.1 refl

pub read_as_born : ReadAsBorn
read_as_born o some_slot few first mid last t u v r1 r2 r3 key linked_t linked_v place small =
    let begins = opening_shown o.slots o.holds o.start some_slot few in
    let at_t = rule_kept o.slots o.holds (opened_as o) t first begins r1 in
    let at_u = rule_kept o.slots o.holds t u mid at_t r2 in
    let had = linked_here (world t) key linked_t in
    let come : HasCome (world u) key = come_for_good o.slots o.holds mid t u key at_t r2 (record { last = slot_state key.generation (Some had.0); there = had.1; come = omega arith }) in
    let linked_u : is_linked (world u) key ≡ true = ⊎_elim
    (λ (yes : is_linked (world u) key ≡ true). yes)
    (λ (no : is_linked (world u) key ≡ false). absurd (gone_unlinked (world v) key (gone_for_good o.slots o.holds last u v key at_u r3 (unlinked_gone (world u) key come no)) linked_v))
    (bool_cases (is_linked (world u) key)) in
    let here = linked_here (world u) key linked_u in
    let then_there = linked_here (world v) key linked_v in
    let w : NodeNotes = notes_after no_notes (first ++ mid) in
    let notes : Noted w u = noted_run no_notes o.slots o.holds (first ++ mid) (opened_as o) u begins (run_joined first mid (opened_as o) t u r1 r2) (noted_first o some_slot few) in
    notes.put key.slot place small (slice_get_within (slots_in u) key.slot _ here.1)
    ∙ notes.as_born key.slot _ here.1 refl place
    ∙ sym (born_stays w o.slots o.holds last u v key _ _ at_u r3 here.1 refl then_there.1 refl place)
    ∙ ap (λ (x : NodeNotes). x.born key.slot place) (sym (notes_parts no_notes (first ++ mid) last))
