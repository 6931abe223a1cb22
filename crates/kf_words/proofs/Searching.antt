-- A search for a free slot, slot by slot, and the bits and marks of what it skips.
use Rattle.std.proofs.Common.{◌≡◌, ◌≢◌, ◌⊎◌, inl, inr, ℕ, zero, suc, ◌+◌, ◌*◌, ◌/◌, ◌%◌, ◌<◌, ◌≤◌, ◌&&◌, ◌==◌, Bool, true, false, not, List, [], ◌∷◌, ◌++◌, length, length-set, replicate, slice_set, get_or, get_or-set_same, get_or-set_other, refl, sym, ap, ◌∙◌, arith, subst}
use Rattle.std.specs.Prelude.{slice_get, Option, Some, None, is_some}
use Rattle.std.specs.Int.{bit_at}
use Rattle.std.proofs.lemmas.Nat.Bits.{bit_at-zero}
use Rattle.std.proofs.lemmas.Bool.Decides.{eqb_tells}
use Rattle.std.proofs.lemmas.Option.{slice_get_within, none-some, same_Some}
use Rattle.kf_core.specs.Limits.{most_slots}
use Rattle.kf_core.specs.declared.slot.SlotState.{SlotState}
use Rattle.kf_core.proofs.Lists.{after_set, after_write, slice_get-set_other}
use Rattle.kf_words.specs.declared.view.Load.{Load}
use Rattle.kf_words.specs.declared.view.MasterView.{MasterView}
use Rattle.kf_words.specs.Layout.{IsFree}
use Rattle.kf_words.specs.Steps.{with_load}
use Rattle.kf_words.specs.Nodes.{lacks_node, is_unlinked, FoundFirst, FoundNone}
use Rattle.kf_words.specs.Searches.{HasPassed, SearchesOn, AreLinked, AreFull, AreMarked}
use Rattle.kf_words.proofs.Keys.{with_loads_more, with_loads_slots, with_loads_limit, with_loads_pinning, get_there}

pub begins : (m : MasterView) → HasPassed m 0 m
begins m = ([], refl, refl)

pub passed_slots : (m m' : MasterView) (slot : ℕ) → HasPassed m slot m' → m'.slots ≡ m.slots
passed_slots m m' slot s = ap (λ (x : MasterView). x.slots) s.2 ∙ with_loads_slots s.0 m

pub passed_limit : (m m' : MasterView) (slot : ℕ) → HasPassed m slot m' → m'.limit ≡ m.limit
passed_limit m m' slot s = ap (λ (x : MasterView). x.limit) s.2 ∙ with_loads_limit s.0 m

pub passed_pinning : (m m' : MasterView) (slot : ℕ) → HasPassed m slot m' → m'.pinning ≡ m.pinning
passed_pinning m m' slot s = ap (λ (x : MasterView). x.pinning) s.2 ∙ with_loads_pinning s.0 m

-- a slot is unlinked in the first view of a search if and only if it is in a later one
at_first : (m m' : MasterView) (slot i : ℕ) (b : Bool) → HasPassed m slot m' → is_unlinked m'.slots i ≡ b → is_unlinked m.slots i ≡ b
at_first m m' slot i b s e = ap (λ (l : List SlotState). is_unlinked l i) (sym (passed_slots m m' slot s)) ∙ e

skips : (m m' : MasterView) (slot : ℕ) → is_unlinked m'.slots slot ≡ false → HasPassed m slot m' → HasPassed m (slot + 1) m'
skips m m' slot linked s =
    let e : suc slot ≡ slot + 1 = omega arith in
    subst (λ (n : ℕ). HasPassed m n m') e (s.0, inl (at_first m m' slot slot false s linked, s.1), s.2)

loads_more : (m m' m'' : MasterView) (slot word : ℕ) → is_unlinked m'.slots slot ≡ true → (IsFree word → ⊥) → m'' ≡ with_load slot word m' → HasPassed m slot m' → HasPassed m (slot + 1) m''
loads_more m m' m'' slot word unlinked taken is s =
    let e : suc slot ≡ slot + 1 = omega arith in
    let load : Load = record { slot = slot; word = word } in
    subst (λ (n : ℕ). HasPassed m n m'') e
    (s.0 ++ load ∷ [], inr (at_first m m' slot slot true s unlinked, s.0, word, taken, refl, s.1), is ∙ ap (λ (x : MasterView). with_load slot word x) s.2 ∙ sym (with_loads_more s.0 load m))

-- the search passes over this many slots, which all have nodes
passes_over : (m m' : MasterView) (slot count : ℕ) → ((i : ℕ) → slot ≤ i → i < slot + count → is_unlinked m'.slots i ≡ false) → HasPassed m slot m' → HasPassed m (slot + count) m'
passes_over m m' slot zero all s = let e : slot ≡ slot + 0 = omega arith in subst (λ (n : ℕ). HasPassed m n m') e s
passes_over m m' slot (suc count) all s =
    let e : slot + count + 1 ≡ slot + suc count = omega arith in
    let fewer : (i : ℕ) → slot ≤ i → i < slot + count → is_unlinked m'.slots i ≡ false = λ i low high. all i low (omega arith) in
    subst (λ (n : ℕ). HasPassed m n m') e (skips m m' (slot + count) (all (slot + count) (omega arith) (omega arith)) (passes_over m m' slot count fewer s))

finds : (m m' m'' : MasterView) (slot word : ℕ) → is_unlinked m'.slots slot ≡ true → IsFree word → m'' ≡ with_load slot word m' → HasPassed m slot m' → FoundFirst m slot m''
finds m m' m'' slot word unlinked free is s = record {
  before = s.0;
  word = word;
  passed = s.1;
  unlinked = at_first m m' slot slot true s unlinked;
  free = free;
  view = is ∙ ap (λ (x : MasterView). with_load slot word x) s.2;
}

pub found_slots : (m m' : MasterView) (slot : ℕ) → FoundFirst m slot m' → m'.slots ≡ m.slots
found_slots m m' slot f = ap (λ (x : MasterView). x.slots) f.view ∙ with_loads_slots f.before m

pub found_limit : (m m' : MasterView) (slot : ℕ) → FoundFirst m slot m' → m'.limit ≡ m.limit
found_limit m m' slot f = ap (λ (x : MasterView). x.limit) f.view ∙ with_loads_limit f.before m

pub found_pinning : (m m' : MasterView) (slot : ℕ) → FoundFirst m slot m' → m'.pinning ≡ m.pinning
found_pinning m m' slot f = ap (λ (x : MasterView). x.pinning) f.view ∙ with_loads_pinning f.before m

pub ends : (m m' : MasterView) (below : ℕ) → length m.slots ≤ below → HasPassed m below m' → FoundNone m m'
ends m m' below all s = record { loads = s.0; below = below; passed = s.1; all = all; view = s.2 }

-- the same for each search that has come this far
module _ (m : MasterView) (from : ℕ) where
  pub on_begins : SearchesOn m from from None m
  on_begins first s = s

  pub on_skips : (m' : MasterView) (slot : ℕ) → is_unlinked m'.slots slot ≡ false → SearchesOn m from slot None m' → SearchesOn m from (slot + 1) None m'
  on_skips m' slot linked on first s = skips first m' slot linked (on first s)

  pub on_loads : (m' m'' : MasterView) (slot word : ℕ) → is_unlinked m'.slots slot ≡ true → (IsFree word → ⊥) → m'' ≡ with_load slot word m' → SearchesOn m from slot None m' → SearchesOn m from (slot + 1) None m''
  on_loads m' m'' slot word unlinked taken is on first s = loads_more first m' m'' slot word unlinked taken is (on first s)

  pub on_over : (m' : MasterView) (slot count : ℕ) → ((i : ℕ) → slot ≤ i → i < slot + count → is_unlinked m'.slots i ≡ false) → SearchesOn m from slot None m' → SearchesOn m from (slot + count) None m'
  on_over m' slot count all on first s = passes_over first m' slot count all (on first s)

  pub on_finds : (m' m'' : MasterView) (slot to word : ℕ) → is_unlinked m'.slots slot ≡ true → IsFree word → m'' ≡ with_load slot word m' → SearchesOn m from slot None m' → SearchesOn m from to (Some slot) m''
  on_finds m' m'' slot to word unlinked free is on first s = finds first m' m'' slot word unlinked free is (on first s)

  -- a search of one range of slots, followed by a search of the next
  pub on_then : (m' m'' : MasterView) (at to : ℕ) → SearchesOn m from at None m' → SearchesOn m' at to None m'' → SearchesOn m from to None m''
  on_then m' m'' at to on next first s = next first (on first s)

  pub on_then_found : (m' m'' : MasterView) (at to to' slot : ℕ) → SearchesOn m from at None m' → SearchesOn m' at to (Some slot) m'' → SearchesOn m from to' (Some slot) m''
  on_then_found m' m'' at to to' slot on next first s = next first (on first s)

lacks_there : (o : Option SlotState) → lacks_node o ≡ true → (state : SlotState) × (o ≡ Some state)
lacks_there None e = absurd (let y : true ≡ false = sym e in cc)
lacks_there (Some state) e = (state, refl)

and_right : (a b : Bool) → (a && b) ≡ true → b ≡ true
and_right true b e = e
and_right false b e = absurd (let y : true ≡ false = sym e in cc)

-- an unlinked slot is in the table
pub unlinked_there : (slots : List SlotState) (slot : ℕ) → is_unlinked slots slot ≡ true → (state : SlotState) × (slice_get slots slot ≡ Some state)
unlinked_there slots slot e = lacks_there (slice_get slots slot) (and_right (not (slot == 0)) _ e)

pub unlinked_within : (slots : List SlotState) (slot : ℕ) → is_unlinked slots slot ≡ true → slot < length slots
unlinked_within slots slot e = let there = unlinked_there slots slot e in slice_get_within slots slot there.0 there.1

-- a slot whose bit is set has a node
pub in_bits : (full : List ℕ) (slots : List SlotState) (block bit i word : ℕ) → AreLinked full slots → get_or full block 0 ≡ word → bit_at word bit ≡ 1 → bit < 64 → i ≡ block * 64 + bit → is_unlinked slots i ≡ false
in_bits full slots block bit i word all is set few e =
    let at : i / 64 ≡ block = omega (arith, few, e) in
    let place : i % 64 ≡ bit = omega (arith, few, e) in
    all i (ap (λ (k : ℕ). bit_at (get_or full k 0) (i % 64)) at ∙ (ap (λ (k : ℕ). bit_at (get_or full block 0) k) place ∙ (ap (λ (x : ℕ). bit_at x bit) is ∙ set)))

-- the bits stay right if one is set whose slot was seen to have a node
pub linked_set : (full : List ℕ) (slots : List SlotState) (block place word word' : ℕ) → AreLinked full slots → block < length full → place < 64 → get_or full block 0 ≡ word → ((bit : ℕ) → bit ≢ place → bit_at word' bit ≡ bit_at word bit) → is_unlinked slots (block * 64 + place) ≡ false → AreLinked (slice_set full block word') slots
linked_set full slots block place word word' old near few is kept here slot marked =
    let now : ((slot / 64) ≡ block) → bit_at word' (slot % 64) ≡ 1 = λ e.
    ap (λ (x : ℕ). bit_at x (slot % 64)) (sym (get_or-set_same full block word' 0 near)) ∙ (ap (λ (k : ℕ). bit_at (get_or (slice_set full block word') k 0) (slot % 64)) (sym e) ∙ marked) in
    let was : ((slot / 64) ≡ block) → bit_at word (slot % 64) ≡ 1 → bit_at (get_or full (slot / 64) 0) (slot % 64) ≡ 1 = λ e set.
    ap (λ (k : ℕ). bit_at (get_or full k 0) (slot % 64)) e ∙ (ap (λ (x : ℕ). bit_at x (slot % 64)) is ∙ set) in
    elim (eqb_tells (slot / 64) block) [
      | inl e ↦ elim (eqb_tells (slot % 64) place) [
        | inl p ↦ (let same : slot ≡ block * 64 + place = omega (arith, e.1, p.1) in ap (is_unlinked slots) same ∙ here)
        | inr n ↦ old slot (was e.1 (sym (kept (slot % 64) n.1) ∙ now e.1))
      ]
      | inr n ↦ old slot (ap (λ (x : ℕ). bit_at x (slot % 64)) (sym (get_or-set_other full block (slot / 64) word' 0 n.1)) ∙ marked)
    ]

-- each slot of a marked group has a node
pub in_full : (full_groups : List Bool) (slots : List SlotState) (group i : ℕ) → AreFull full_groups slots → group < length full_groups → get_or full_groups group false ≡ true → group ≡ i / 8192 → is_unlinked slots i ≡ false
in_full full_groups slots group i all near marked e = all i (subst (λ (k : ℕ). slice_get full_groups k ≡ Some true) e (get_there full_groups group false near ∙ ap Some marked))

-- the marks of groups stay right if a group is marked only if each of its slots was seen to have a node
full_marked : (full_groups : List Bool) (slots : List SlotState) (group : ℕ) (all : Bool) → AreFull full_groups slots → (all ≡ true → (i : ℕ) → group ≡ i / 8192 → is_unlinked slots i ≡ false) → AreFull (slice_set full_groups group all) slots
full_marked full_groups slots group all old seen slot marked =
    elim (after_write full_groups group (slot / 8192) all true marked) [ inl h ↦ seen h.1 slot h.0 | inr h ↦ old slot h.1 ]

and_keeps : (a b b' : Bool) → (b ≡ false → b' ≡ false) → (a && b) ≡ false → (a && b') ≡ false
and_keeps true b b' keeps e = keeps e
and_keeps false b b' keeps e = refl

lacks_not : (o : Option SlotState) → ((state : SlotState) → o ≡ Some state → is_some state.marks ≡ true) → lacks_node o ≡ false
lacks_not None h = refl
lacks_not (Some state) h = ap not (h state refl)

has_node : (o : Option SlotState) (state : SlotState) → o ≡ Some state → lacks_node o ≡ false → is_some state.marks ≡ true
has_node o state is lacks = not_false (is_some state.marks) (sym (ap lacks_node is) ∙ lacks) where
  not_false : (b : Bool) → not b ≡ false → b ≡ true
  not_false true e = refl
  not_false false e = absurd (let y : true ≡ false = e in cc)

-- if a slot gets a node or keeps one, every slot that had a node still has one
still_linked : (slots : List SlotState) (i : ℕ) (state : SlotState) (slot : ℕ) → is_some state.marks ≡ true → is_unlinked slots slot ≡ false → is_unlinked (slice_set slots i state) slot ≡ false
still_linked slots i state slot linked =
    and_keeps (not (slot == 0)) (lacks_node (slice_get slots slot)) (lacks_node (slice_get (slice_set slots i state) slot))
    (λ lacks. lacks_not (slice_get (slice_set slots i state) slot) (λ y is. elim (after_set slots i slot state y is) [ inl h ↦ ap (λ (s : SlotState). is_some s.marks) (sym h) ∙ linked | inr h ↦ has_node (slice_get slots slot) y h lacks ]))

-- a change of one slot leaves the others as they were
other_linked : (slots : List SlotState) (i : ℕ) (state : SlotState) (slot : ℕ) → slot ≢ i → is_unlinked slots slot ≡ false → is_unlinked (slice_set slots i state) slot ≡ false
other_linked slots i state slot other was = ap (λ (o : Option SlotState). not (slot == 0) && lacks_node o) (slice_get-set_other slots i slot state other) ∙ was

-- the bits stay right if a node leaves its slot and the slot's bit is cleared
linked_left : (full : List ℕ) (slots : List SlotState) (i word word' : ℕ) (state : SlotState) → AreLinked full slots → i / 64 < length full → get_or full (i / 64) 0 ≡ word → bit_at word' (i % 64) ≡ 0 → ((bit : ℕ) → bit_at word' bit ≡ 1 → bit_at word bit ≡ 1) → AreLinked (slice_set full (i / 64) word') (slice_set slots i state)
linked_left full slots i word word' state old near is cleared no_more slot marked =
    let now : ((slot / 64) ≡ (i / 64)) → bit_at word' (slot % 64) ≡ 1 = λ e.
    ap (λ (x : ℕ). bit_at x (slot % 64)) (sym (get_or-set_same full (i / 64) word' 0 near)) ∙ (ap (λ (k : ℕ). bit_at (get_or (slice_set full (i / 64) word') k 0) (slot % 64)) (sym e) ∙ marked) in
    let was : bit_at (get_or full (slot / 64) 0) (slot % 64) ≡ 1 = elim (eqb_tells (slot / 64) (i / 64)) [
      | inl e ↦ ap (λ (k : ℕ). bit_at (get_or full k 0) (slot % 64)) e.1 ∙ (ap (λ (x : ℕ). bit_at x (slot % 64)) is ∙ no_more (slot % 64) (now e.1))
      | inr n ↦ ap (λ (x : ℕ). bit_at x (slot % 64)) (sym (get_or-set_other full (i / 64) (slot / 64) word' 0 n.1)) ∙ marked
    ] in
    elim (eqb_tells slot i) [
      | inl e ↦ (let own : bit_at word' (i % 64) ≡ 1 = ap (λ (k : ℕ). bit_at word' (k % 64)) (sym e.1) ∙ now (ap (λ (k : ℕ). k / 64) e.1) in
          absurd (omega (arith, own, cleared)))
      | inr n ↦ other_linked slots i state slot n.1 (old slot was)
    ]

-- the marks of groups stay right if a node leaves its slot and the mark of the slot's group is taken away
full_left : (full_groups : List Bool) (slots : List SlotState) (i : ℕ) (state : SlotState) → AreFull full_groups slots → AreFull (slice_set full_groups (i / 8192) false) (slice_set slots i state)
full_left full_groups slots i state old slot marked =
    elim (after_write full_groups (i / 8192) (slot / 8192) false true marked) [
      | inl h ↦ absurd (let y : false ≡ true = h.1 in cc)
      | inr h ↦ other_linked slots i state slot (λ e. h.0 (ap (λ (n : ℕ). n / 8192) (sym e))) (old slot h.1)
    ]

abbrev zeros : ℕ → List ℕ
zeros n = replicate n 0

zeros_read : (n i : ℕ) → get_or (zeros n) i 0 ≡ 0
zeros_read zero i = refl
zeros_read (suc n) zero = refl
zeros_read (suc n) (suc i) = zeros_read n i

-- no bit is set at first
linked_none : (n : ℕ) (slots : List SlotState) → AreLinked (replicate n 0) slots
linked_none n slots slot marked =
    let none : bit_at (get_or (zeros n) (slot / 64) 0) (slot % 64) ≡ 0 = ap (λ (x : ℕ). bit_at x (slot % 64)) (zeros_read n (slot / 64)) ∙ bit_at-zero (slot % 64) in
    absurd (omega (arith, none, marked))

none_marked : (n i : ℕ) → slice_get (replicate n false) i ≡ Some true → ⊥
none_marked zero i e = none-some true e
none_marked (suc n) zero e = let y : false ≡ true = same_Some false true e in cc
none_marked (suc n) (suc i) e = none_marked n i e

-- no group is marked at first
full_none : (n : ℕ) (slots : List SlotState) → AreFull (replicate n false) slots
full_none n slots slot marked = absurd (none_marked n (slot / 8192) marked)

length-replicate : {X : Type 0} (n : ℕ) (x : X) → length (replicate n x) ≡ n
length-replicate zero x = refl
length-replicate (suc n) x = ap suc (length-replicate n x)

pub marked_first : (groups : ℕ) (slots : List SlotState) → length slots ≤ 8192 * groups → 128 * groups ≤ most_slots / 64 → AreMarked (replicate (groups * 128) 0) (replicate groups false) slots
marked_first groups slots covered few =
    let blocks : length (zeros (groups * 128)) ≡ groups * 128 = length-replicate (groups * 128) 0 in
    let long = length-replicate groups false in
    record {
      blocks = linked_none (groups * 128) slots;
      groups = full_none groups slots;
      covered = omega arith;
      grouped = omega arith;
      few = omega arith;
    }

pub marked_linked : (full : List ℕ) (full_groups : List Bool) (slots : List SlotState) (i : ℕ) (state : SlotState) → is_some state.marks ≡ true → AreMarked full full_groups slots → AreMarked full full_groups (slice_set slots i state)
marked_linked full full_groups slots i state linked old =
    let long = length-set slots i state in
    let covered = old.covered in
    record {
      blocks = λ slot marked. still_linked slots i state slot linked (old.blocks slot marked);
      groups = λ slot marked. still_linked slots i state slot linked (old.groups slot marked);
      covered = omega arith;
      grouped = old.grouped;
      few = old.few;
    }

pub marked_left : (full : List ℕ) (full_groups : List Bool) (slots : List SlotState) (i word word' : ℕ) (state : SlotState) → AreMarked full full_groups slots → i / 64 < length full → get_or full (i / 64) 0 ≡ word → bit_at word' (i % 64) ≡ 0 → ((bit : ℕ) → bit_at word' bit ≡ 1 → bit_at word bit ≡ 1) → AreMarked (slice_set full (i / 64) word') (slice_set full_groups (i / 8192) false) (slice_set slots i state)
marked_left full full_groups slots i word word' state old near is cleared no_more =
    let long = length-set slots i state in
    let blocks = length-set full (i / 64) word' in
    let all = length-set full_groups (i / 8192) false in
    let covered = old.covered in
    let grouped = old.grouped in
    let few = old.few in
    record {
      blocks = linked_left full slots i word word' state old.blocks near is cleared no_more;
      groups = full_left full_groups slots i state old.groups;
      covered = omega arith;
      grouped = omega arith;
      few = omega arith;
    }

-- bits and marks stay right after a search of one block changed the bits
pub marked_on : (full full' : List ℕ) (full_groups : List Bool) (slots : List SlotState) → AreMarked full full_groups slots → AreLinked full' slots → length full' ≡ length full → AreMarked full' full_groups slots
marked_on full full' full_groups slots old blocks as_many =
    let covered = old.covered in
    let grouped = old.grouped in
    let few = old.few in
    record { blocks = blocks; groups = old.groups; covered = omega arith; grouped = omega arith; few = omega arith }

-- bits and marks stay right if a group is marked only if each of its slots was seen to have a node
pub marked_group : (full : List ℕ) (full_groups : List Bool) (slots : List SlotState) (group : ℕ) (all : Bool) → AreMarked full full_groups slots → (all ≡ true → (i : ℕ) → group ≡ i / 8192 → is_unlinked slots i ≡ false) → AreMarked full (slice_set full_groups group all) slots
marked_group full full_groups slots group all old seen =
    let many = length-set full_groups group all in
    let grouped = old.grouped in
    record { blocks = old.blocks; groups = full_marked full_groups slots group all old.groups seen; covered = old.covered; grouped = omega arith; few = old.few }

pub or_before : (i slot : ℕ) → (i < slot) ⊎ (slot ≤ i)
or_before zero zero = inr (omega arith)
or_before zero (suc slot) = inl (omega arith)
or_before (suc i) zero = inr (omega arith)
or_before (suc i) (suc slot) = elim (or_before i slot) [ inl h ↦ inl (omega arith) | inr h ↦ inr (omega arith) ]
