-- The tree and the callers' world are tied: slots, births, and what each command does to both.
use Rattle.std.proofs.Common.{◌≡◌, inl, inr, ℕ, zero, suc, ◌+◌, ◌-◌, ◌^◌, ◌<◌, ◌≤◌, refl, ap, arith, sym, ◌∙◌, subst, Bool, true, false, cond, List, [], ◌∷◌, ◌++◌, length, slice_set, nat_lt}
use Rattle.std.specs.Prelude.{Option, None, Some, slice_get, slice_index, IsFalse, ◌==◌, ◌&&◌, not, IfSome, IfNone, IfOk, IfErr, Result, Ok, Err}
use Rattle.std.specs.Option.{option_map, option_and_then}
use Rattle.std.proofs.lemmas.Option.{same_Some, none-some, slice_get_within, slice_get-map, get_or_from_slice_get}
use Rattle.std.proofs.lemmas.List.{map-set}
use Rattle.std.proofs.lemmas.Bool.Decides.{eqb_tells}
use Rattle.std.proofs.lemmas.Bool.{ltb-true, lt-ltb}
use Rattle.kf_core.specs.declared.key.Key.{Key}
use Rattle.kf_core.specs.declared.key.Node.{Node}
use Rattle.kf_core.specs.declared.slot.NodeFlags.{NodeFlags}
use Rattle.kf_core.specs.declared.slot.SlotState.{SlotState}
use Rattle.kf_core.specs.declared.caller.Caller.{Caller}
use Rattle.kf_core.specs.declared.caller.Phase.{Phase}
use Rattle.kf_core.specs.declared.caller.Phase.TheVariants.{Still, Turned, Running, Broken, Restored, Drained, Parted, Hiding, Hidden, Spent}
use Rattle.kf_core.specs.declared.records.Record.{Record}
use Rattle.kf_core.specs.declared.refusal.Refusal.{Refusal}
use Rattle.kf_core.specs.declared.command.Command.{Command}
use Rattle.kf_core.specs.declared.command.Command.TheVariants.{Create, Rename}
use Rattle.kf_core.specs.Keys.{same_key}
use Rattle.kf_core.specs.Marks.{fresh_marks, live_marks}
use Rattle.kf_core.specs.Phases.{is_spent}
use Rattle.kf_core.specs.Bare.{BareWorld, marks, marks_in}
use Rattle.kf_core.specs.Steps.{with_marks, MayBeBorn, OnlySpent}
use Rattle.kf_world.specs.Bounded.{BoundedWorld, IsFree, IsNextKey, hold_count}
use Rattle.kf_core.specs.Tree.{Tree, with_key, marks_of}
use Rattle.kf_core.specs.Commands.{after}
use Rattle.kf_tree.specs.SlotMarks.{SameMarks}
use Rattle.kf_tree.specs.TreeLogs.{TreeLog, IsKept, IsAccepted, IsRefused}
use Rattle.kf_table.specs.Children.{is_there_already}
use Rattle.kf_tree.proofs.Opening.{length_after}
use Rattle.kf_tree.proofs.SameMarks.{vacant_in_tree, same_born, same_born_live, same_renamed}
use Rattle.kf_tree.proofs.SlotWrites.{IsEmpty, IsAlone, length_written, marks_written, alone_vacant, alone_linked}
use Rattle.kf_plain.specs.Nodes.{Nodes, nodes_of, AreTied, IsFreeKeyOf, is_free, is_vacant, last_of, logged}
use Rattle.kf_core.proofs.Climbs.{same_key_self}
use Rattle.kf_plain.proofs.Counts.{none_passes, none_counted}

pub some_at : {X : Type 0} (xs : List X) (i : ℕ) → i < length xs → (x : X) × (slice_get xs i ≡ Some x)
some_at [] i h = absurd (omega (arith, h))
some_at (x ∷ xs) zero h = (x, refl)
some_at (x ∷ xs) (suc i) h = some_at xs i (omega (arith, h))

-- ---- vacant slots

vacant_marks : (t : Tree) (slot g : ℕ) → slice_get t slot ≡ Some None → marks_of t (record { slot = slot; generation = g }) ≡ None
vacant_marks t slot g h = ap (λ (o : Option (Option Record)). option_map (λ (r : Record). r.marks) (option_and_then (with_key (record { slot = slot; generation = g })) o)) h

-- a slot that is vacant in the tree is vacant in the world
pub vacant_in_world : (log : TreeLog) (w : BareWorld) (slot : ℕ) → AreTied log w → slice_get log.tree slot ≡ Some None → (last : ℕ) × (slice_get w.slots slot ≡ Some (record { generation = last; marks = None }))
vacant_in_world log w slot tied h =
    let found = some_at w.slots slot (let in_tree = slice_get_within log.tree slot None h in let wide = tied.slots in omega (arith, in_tree, wide)) in
    go found.0 found.1
  where
    go : (s : SlotState) → slice_get w.slots slot ≡ Some s → (last : ℕ) × (slice_get w.slots slot ≡ Some (record { generation = last; marks = None }))
    go s e = elim s.marks as (λ m. s.marks ≡ m → (last : ℕ) × (slice_get w.slots slot ≡ Some (record { generation = last; marks = None }))) [
      | None ↦ λ f. (s.generation, e ∙ ap (λ (m : Option NodeFlags). Some (let st : SlotState = record { generation = s.generation; marks = m } in st)) f)
      | Some m ↦ λ f. absurd (none-some m (sym (vacant_marks log.tree slot s.generation h) ∙ sym (tied.marks (record { slot = slot; generation = s.generation }))
          ∙ ap (λ o. marks_in o s.generation) e ∙ same_generation s.generation s.marks ∙ f))
    ] refl
      where
        same_generation : (g : ℕ) (m : Option NodeFlags) → cond (g == g) m None ≡ m
        same_generation g m = elim (eqb_tells g g) [ inl y ↦ ap (λ b. cond b m None) y.0 | inr n ↦ absurd (n.1 refl) ]

-- a slot that is vacant in the world is vacant in the tree
pub vacant_in_tree_too : (log : TreeLog) (w : BareWorld) (slot last : ℕ) → AreTied log w → slice_get w.slots slot ≡ Some (record { generation = last; marks = None }) → slice_get log.tree slot ≡ Some None
vacant_in_tree_too log w slot last tied h = vacant_in_tree w.slots log.tree log.root (record { slot = slot; generation = last }) tied.marks tied.kept.lawful tied.slots (record { last = last; vacant = h })

-- ---- holders

spent_is : (p : Phase) → is_spent p ≡ true → p ≡ Spent
spent_is Still h = absurd (cc)
spent_is Turned h = absurd (cc)
spent_is Running h = absurd (cc)
spent_is Broken h = absurd (cc)
spent_is Restored h = absurd (cc)
spent_is Drained h = absurd (cc)
spent_is Parted h = absurd (cc)
spent_is Hiding h = absurd (cc)
spent_is Hidden h = absurd (cc)
spent_is Spent h = refl

no_hold : (slot : ℕ) (c : Caller) → (c.key.slot ≡ slot → c.phase ≡ Spent) → ((c.key.slot == slot) && not (is_spent c.phase)) ≡ false
no_hold slot c h = elim (eqb_tells c.key.slot slot) [
  | inl e ↦ (let s : is_spent c.phase ≡ true = ap is_spent (h e.1) in rw (e.0, s) refl)
  | inr n ↦ rw n.0 refl
]

pub unheld_counted : (w : BareWorld) (slot : ℕ) → OnlySpent w slot → hold_count w.callers slot ≡ 0
unheld_counted w slot h = none_counted (λ c. (c.key.slot == slot) && not (is_spent c.phase)) w.callers (λ i c e. no_hold slot c (λ same. h i c.key c.phase e same))

hold_spent : (slot : ℕ) (key : Key) (phase : Phase) → key.slot ≡ slot → ((key.slot == slot) && not (is_spent phase)) ≡ false → phase ≡ Spent
hold_spent slot key phase same h = elim (eqb_tells key.slot slot) [
  | inl e ↦ spent_is phase (not_not (is_spent phase) (let h' : not (is_spent phase) ≡ false = rw e.0 at h in h'))
  | inr n ↦ absurd (n.1 same)
]
  where
    not_not : (b : Bool) → not b ≡ false → b ≡ true
    not_not true e = refl
    not_not false e = absurd (cc)

pub counted_unheld : (w : BareWorld) (slot : ℕ) → hold_count w.callers slot ≡ 0 → OnlySpent w slot
counted_unheld w slot h = λ c key phase there same. hold_spent slot key phase same (none_passes (λ c. (c.key.slot == slot) && not (is_spent c.phase)) w.callers c (record { key = key; phase = phase }) h there)

-- ---- free slots

last_is : (w : BareWorld) (slot g : ℕ) (m : Option NodeFlags) → slice_get w.slots slot ≡ Some (record { generation = g; marks = m }) → slice_index (last_of w.slots) slot ≡ g
last_is w slot g m h = get_or_from_slice_get (last_of w.slots) slot g 0 (slice_get-map (λ (s : SlotState). s.generation) w.slots slot ∙ ap (option_map (λ (s : SlotState). s.generation)) h)

zero_is : (n : ℕ) → n ≡ 0 → (n == 0) ≡ true
zero_is n h = elim (eqb_tells n 0) [ inl e ↦ e.0 | inr e ↦ absurd (e.1 h) ]

is_zero : (n : ℕ) → (n == 0) ≡ true → n ≡ 0
is_zero n h = elim (eqb_tells n 0) [ inl e ↦ e.1 | inr e ↦ absurd (let f : false ≡ true = sym e.0 ∙ h in cc) ]

both : (a b : Bool) → (a && b) ≡ true → (a ≡ true) × (b ≡ true)
both true b e = (refl, e)
both false b e = absurd (cc)

vacant_is : (o : Option (Option Record)) → is_vacant o ≡ true → o ≡ Some None
vacant_is None e = absurd (cc)
vacant_is (Some None) e = refl
vacant_is (Some (Some r)) e = absurd (cc)

-- what is known of a free slot
pub free_tells : (tree : Tree) (last : List ℕ) (count : ℕ → ℕ) (slot : ℕ) → is_free tree last count slot ≡ true → (slice_get tree slot ≡ Some None) × (count slot ≡ 0) × (slice_index last slot < 2 ^ 32 - 1)
free_tells tree last count slot h =
    let first = both (is_vacant (slice_get tree slot) && count slot == 0) (nat_lt (slice_index last slot) (2 ^ 32 - 1)) h in
    let second = both (is_vacant (slice_get tree slot)) (count slot == 0) first.0 in
    (vacant_is (slice_get tree slot) second.0, is_zero (count slot) second.1, ltb-true (slice_index last slot) (2 ^ 32 - 1) first.1)

free_from : (tree : Tree) (last : List ℕ) (count : ℕ → ℕ) (slot : ℕ) → slice_get tree slot ≡ Some None → count slot ≡ 0 → slice_index last slot < 2 ^ 32 - 1 → is_free tree last count slot ≡ true
free_from tree last count slot v z l = rw (v, zero_is (count slot) z, lt-ltb (slice_index last slot) (2 ^ 32 - 1) l) refl

pub free_in_world : (log : TreeLog) (w : BareWorld) (slot : ℕ) → AreTied log w → is_free log.tree (last_of w.slots) (hold_count w.callers) slot ≡ true → IsFree w slot
free_in_world log w slot tied h =
    let known = free_tells log.tree (last_of w.slots) (hold_count w.callers) slot h in
    let there = vacant_in_world log w slot tied known.0 in
    let left = known.2 in
    let same = last_is w slot there.0 None there.1 in
    record { last = there.0; unlinked = there.1; more = omega (arith, left, same); unheld = counted_unheld w slot known.1 }

pub free_in_tree : (log : TreeLog) (w : BareWorld) (slot : ℕ) → AreTied log w → IsFree w slot → is_free log.tree (last_of w.slots) (hold_count w.callers) slot ≡ true
free_in_tree log w slot tied h =
    let same = last_is w slot h.last None h.unlinked in
    let left = h.more in
    free_from log.tree (last_of w.slots) (hold_count w.callers) slot (vacant_in_tree_too log w slot h.last tied h.unlinked) (unheld_counted w slot h.unheld) (omega (arith, left, same))

not_free : (log : TreeLog) (w : BareWorld) (slot : ℕ) → AreTied log w → ¬ IsFree w slot → IsFalse (is_free log.tree (last_of w.slots) (hold_count w.callers) slot)
not_free log w slot tied h = elim (is_free log.tree (last_of w.slots) (hold_count w.callers) slot) as (λ b. is_free log.tree (last_of w.slots) (hold_count w.callers) slot ≡ b → IsFalse b) [
  | true ↦ λ e. absurd (h (free_in_world log w slot tied e))
  | false ↦ λ e. refl
] refl

-- a search of the world finds the next key
pub next_found : (log : TreeLog) (w : BareWorld) (next : Option Key) → AreTied log w → IfSome next (λ key. IsNextKey w key) → IfNone next ((slot : ℕ) → 1 ≤ slot → ¬ IsFree w slot) → IsFreeKeyOf log.tree (last_of w.slots) (hold_count w.callers) next
next_found log w None tied found none = λ slot h. not_free log w slot tied (none slot h)
next_found log w (Some key) tied found none = (
  found.from_one,
  free_in_tree log w key.slot tied found.free,
  found.next ∙ ap (λ n. n + 1) (sym (last_is w key.slot found.free.last None found.free.unlinked)),
  λ slot low high. not_free log w slot tied (found.lowest slot low high),
)

pub may_be_born : (log : TreeLog) (w : BareWorld) (key : Key) → AreTied log w → IsFreeKeyOf log.tree (last_of w.slots) (hold_count w.callers) (Some key) → MayBeBorn w key
may_be_born log w key tied next =
    let free = free_in_world log w key.slot tied next.1 in
    record { last = free.last; unlinked = free.unlinked; next = next.2 ∙ ap (λ n. n + 1) (last_is w key.slot free.last None free.unlinked); unheld = free.unheld }

pub next_vacant : (tree : Tree) (last : List ℕ) (count : ℕ → ℕ) (next : Option Key) → IsFreeKeyOf tree last count next → IfSome next (λ key. slice_get tree key.slot ≡ Some None)
next_vacant tree last count None h = tt
next_vacant tree last count (Some key) h = (free_tells tree last count key.slot h.1).0

pub next_is : (tree : Tree) (last : List ℕ) (count : ℕ → ℕ) (next : Option Key) (key : Key) → IsFreeKeyOf tree last count next → next ≡ Some key → IsFreeKeyOf tree last count (Some key)
next_is tree last count next key h e = subst (IsFreeKeyOf tree last count) e h

-- ---- commands

-- a command was accepted, whatever might have been a cause against it
pub record Logs (log log' : TreeLog) (c : Command) : Type 0 where
  pub same_root : log'.root ≡ log.root
  pub changed : log'.tree ≡ after log.tree c
  pub stored : log'.commands ≡ log.commands ++ c ∷ []
  pub not_ready : log'.ready ≡ None
  pub kept : IsKept log'

pub logs : {log log' : TreeLog} {cause : Option Refusal} {c : Command} → IsAccepted log log' cause c → Logs log log' c
logs a = record { same_root = a.same_root; changed = a.changed; stored = a.stored; not_ready = a.not_ready; kept = a.kept }

pub logs_live : (log log' : TreeLog) (key parent : Key) (name : List ℕ) (node : Node) (is_live told : Bool) → is_live ≡ told → Logs log log' (Create key parent name node is_live) → Logs log log' (Create key parent name node told)
logs_live log log' key parent name node is_live told e a = subst (λ b. Logs log log' (Create key parent name node b)) e a

-- no linked node is doomed
abbrev pub IsUndoomed : BareWorld → Type 0
IsUndoomed w = (key : Key) (m : NodeFlags) → marks w key ≡ Some m → m.doomed ≡ false

-- no linked node is doomed after a write of marks that are not doomed, either
pub undoomed_written : (w : BareWorld) (key : Key) (m : NodeFlags) → IsAlone w.slots key → m.doomed ≡ false → IsUndoomed w → IsUndoomed (with_marks w key (Some m))
undoomed_written w key m alone fine none k n h = go (same_key key k) (sym (marks_written w.slots key k (Some m) alone) ∙ h)
  where
    go : (b : Bool) → cond b (Some m) (marks w k) ≡ Some n → n.doomed ≡ false
    go true e = ap (λ (x : NodeFlags). x.doomed) (sym (same_Some m n e)) ∙ fine
    go false e = none k n e

-- tree and world stay tied if the world has the marks of the new tree
pub tied_after : (log log' : TreeLog) (w w' : BareWorld) (c : Command) → AreTied log w → Logs log log' c → length w'.slots ≡ length w.slots → SameMarks w'.slots (after log.tree c) → IsUndoomed w' → AreTied log' w'
tied_after log log' w w' c tied a wide same none = record {
  kept = a.kept;
  marks = subst (SameMarks w'.slots) (sym a.changed) same;
  slots = wide ∙ tied.slots ∙ sym (ap length a.changed ∙ length_after log.tree c);
  undoomed = none;
}

pub log_after : (log log' : TreeLog) (c : Command) → Logs log log' c → log' ≡ logged log (c ∷ [])
log_after log log' c a =
    let made : Key → Tree → List Command → Option Key → TreeLog = λ r t cs k. record { root = r; tree = t; commands = cs; ready = k } in
    ap (λ r. made r log'.tree log'.commands log'.ready) a.same_root ∙ ap (λ t. made log.root t log'.commands log'.ready) a.changed
    ∙ ap (λ cs. made log.root (after log.tree c) cs log'.ready) a.stored ∙ ap (made log.root (after log.tree c) (log.commands ++ c ∷ [])) a.not_ready

module _ (log log' : TreeLog) (w w1 : BareWorld) (key parent : Key) (name : List ℕ) (node : Node)
    (tied : AreTied log w) (may : MayBeBorn w key) (born : w1 ≡ with_marks w key (Some fresh_marks)) where
  vacant : IsEmpty w.slots key
  vacant = record { last = may.last; vacant = may.unlinked }

  pub fresh_born : marks w1 key ≡ Some fresh_marks
  fresh_born = ap (λ v. marks v key) born ∙ marks_written w.slots key key (Some fresh_marks) (alone_vacant w.slots key vacant) ∙ ap (λ b. cond b (Some fresh_marks) (marks w key)) (same_key_self key)

  pub tied_born : Logs log log' (Create key parent name node false) → AreTied log' w1
  tied_born a = tied_after log log' w w1 (Create key parent name node false) tied a (ap (λ (v : BareWorld). length v.slots) born ∙ length_written w.slots key (Some fresh_marks))
      (subst (λ (v : BareWorld). SameMarks v.slots (after log.tree (Create key parent name node false))) (sym born)
      (same_born w.slots log.tree log.root key parent name node tied.marks tied.kept.lawful tied.slots vacant))
      (subst IsUndoomed (sym born) (undoomed_written w key fresh_marks (alone_vacant w.slots key vacant) refl tied.undoomed))

  pub tied_born_live : (w2 : BareWorld) → w2 ≡ with_marks w1 key (Some live_marks) → Logs log log' (Create key parent name node true) → AreTied log' w2
  tied_born_live w2 risen a = tied_after log log' w w2 (Create key parent name node true) tied a
      (ap (λ (v : BareWorld). length v.slots) risen ∙ length_written w1.slots key (Some live_marks) ∙ ap (λ (v : BareWorld). length v.slots) born ∙ length_written w.slots key (Some fresh_marks))
      (subst (λ (v : BareWorld). SameMarks v.slots (after log.tree (Create key parent name node true))) (sym (risen ∙ ap (λ v. with_marks v key (Some live_marks)) born))
      (same_born_live w.slots log.tree log.root key parent name node tied.marks tied.kept.lawful tied.slots vacant))
      (subst IsUndoomed (sym risen) (undoomed_written w1 key live_marks (alone_linked w1.slots key fresh_marks fresh_born) refl
      (subst IsUndoomed (sym born) (undoomed_written w key fresh_marks (alone_vacant w.slots key vacant) refl tied.undoomed))))

  pub last_born : last_of w1.slots ≡ slice_set (last_of w.slots) key.slot key.generation
  last_born = ap (λ (v : BareWorld). last_of v.slots) born ∙ map-set (λ (s : SlotState). s.generation) w.slots key.slot _

  pub last_born_live : (w2 : BareWorld) → w2 ≡ with_marks w1 key (Some live_marks) → last_of w2.slots ≡ slice_set (last_of w.slots) key.slot key.generation
  last_born_live w2 risen = ap (λ (v : BareWorld). last_of v.slots) risen ∙ map-set (λ (s : SlotState). s.generation) w1.slots key.slot _ ∙ ap (λ xs. slice_set xs key.slot key.generation) last_born ∙ set_twice (last_of w.slots) key.slot key.generation
    where
      set_twice : (xs : List ℕ) (i n : ℕ) → slice_set (slice_set xs i n) i n ≡ slice_set xs i n
      set_twice [] i n = refl
      set_twice (x ∷ xs) zero n = refl
      set_twice (x ∷ xs) (suc i) n = ap (λ ys. x ∷ ys) (set_twice xs i n)

-- a rename changes nothing in the world
pub tied_renamed : (log log' : TreeLog) (w : BareWorld) (key dir : Key) (name : List ℕ) → AreTied log w → Logs log log' (Rename key dir name) → AreTied log' w
tied_renamed log log' w key dir name tied a = tied_after log log' w w (Rename key dir name) tied a refl (same_renamed w.slots log.tree key dir name tied.marks) tied.undoomed

-- ---- the same for the value that contracts see

pub seen_next : (n : Nodes) (log : TreeLog) (w : BoundedWorld) (next : Option Key) (key : Key) → nodes_of log w ≡ n → IsFreeKeyOf n.log.tree n.last (hold_count n.callers) next → next ≡ Some key → AreTied log w.world → MayBeBorn w.world key
seen_next n log w next key is h e tied = may_be_born log w.world key tied (next_is log.tree (last_of w.world.slots) (hold_count w.world.callers) next key (subst (λ (m : Nodes). IsFreeKeyOf m.log.tree m.last (hold_count m.callers) next) (sym is) h) e)

-- the value after some commands, if the world has these last generations, and keeps its limit and its callers
pub seen_after : (n : Nodes) (log log' : TreeLog) (w w' : BoundedWorld) (cs : List Command) (last : List ℕ) → nodes_of log w ≡ n → log' ≡ logged log cs → last_of w'.world.slots ≡ last → w'.limit ≡ w.limit → w'.world.callers ≡ w.world.callers →
    nodes_of log' w' ≡ record { log = logged n.log cs; last = last; limit = n.limit; callers = n.callers }
seen_after n log log' w w' cs last is l g m cs' =
    let made : TreeLog → List ℕ → ℕ → List Caller → Nodes = λ l g m cs. record { log = l; last = g; limit = m; callers = cs } in
    ap (λ x. made x (last_of w'.world.slots) w'.limit w'.world.callers) (l ∙ ap (λ (m : Nodes). logged m.log cs) is)
    ∙ ap (λ x. made (logged n.log cs) x w'.limit w'.world.callers) g
    ∙ ap (λ x. made (logged n.log cs) last x w'.world.callers) (m ∙ ap (λ (m : Nodes). m.limit) is)
    ∙ ap (made (logged n.log cs) last n.limit) (cs' ∙ ap (λ (m : Nodes). m.callers) is)

pub seen_last : (n : Nodes) (log : TreeLog) (w : BoundedWorld) → nodes_of log w ≡ n → last_of w.world.slots ≡ n.last
seen_last n log w is = ap (λ (m : Nodes). m.last) is

-- tree and world stay tied after a rename, whatever its result
pub renamed_stays_tied : (log log' : TreeLog) (w : BareWorld) (key dir : Key) (name : List ℕ) (cause : Option Refusal) (result : Result (Unit {0}) Refusal) → AreTied log w →
    IfOk result (λ _. is_there_already log.tree key dir name ≡ true → log' ≡ log) → IfOk result (λ _. is_there_already log.tree key dir name ≡ false → IsAccepted log log' cause (Rename key dir name)) → IfErr result (λ refusal. IsRefused log log' cause refusal) → AreTied log' w
renamed_stays_tied log log' w key dir name cause (Ok done) tied stays accepted refused =
    elim (is_there_already log.tree key dir name) as (λ b. (b ≡ true → log' ≡ log) → (b ≡ false → IsAccepted log log' cause (Rename key dir name)) → AreTied log' w) [
      | true ↦ λ s a. subst (λ l. AreTied l w) (sym (s refl)) tied
      | false ↦ λ s a. tied_renamed log log' w key dir name tied (logs (a refl))
    ] stays accepted
renamed_stays_tied log log' w key dir name cause (Err refusal) tied stays accepted refused = subst (λ l. AreTied l w) (sym refused.unchanged) tied
