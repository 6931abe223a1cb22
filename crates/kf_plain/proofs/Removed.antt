-- A removal, from its first pin to its last release, as contracts see it.
use Rattle.std.proofs.Common.{◌≡◌, ◌≢◌, ◌⊎◌, inl, inr, ℕ, zero, suc, ◌<◌, ◌≤◌, refl, ap, sym, ◌∙◌, subst, Bool, true, false, cond, List, [], ◌∷◌, ◌++◌, length, take, drop, append_assoc, nat_lt}
use Rattle.std.specs.Prelude.{Option, None, Some, slice_get, slice_index_or, is_some, map, not, ◌&&◌, IsFalse, All, AllPairs, Contains}
use Rattle.std.specs.Option.{option_map}
use Rattle.std.proofs.lemmas.Option.{same_Some, none-some, slice_get-map, slice_get-get_or, slice_get_within, get_or_from_slice_get}
use Rattle.std.proofs.lemmas.Bool.{lt-ltb, le-ltb}
use Rattle.std.proofs.lemmas.List.{length-map, get_or_default}
use Rattle.std.proofs.lemmas.List.Folds.{list_any_none, list_any_at}
use Rattle.kf_core.specs.declared.key.Key.{Key}
use Rattle.kf_core.specs.declared.slot.NodeFlags.{NodeFlags}
use Rattle.kf_core.specs.declared.slot.SlotState.{SlotState}
use Rattle.kf_core.specs.declared.records.Record.{Record}
use Rattle.kf_core.specs.declared.caller.Caller.{Caller}
use Rattle.kf_core.specs.declared.caller.Phase.{Phase}
use Rattle.kf_core.specs.declared.command.Command.TheVariants.{Doom, Unlink}
use Rattle.kf_core.specs.declared.refusal.Refusal.{Refusal}
use Rattle.kf_core.specs.declared.refusal.Refusal.TheVariants.{NoEntry, Invalid, NoMemory, TooManyHolds}
use Rattle.kf_core.specs.Keys.{same_key}
use Rattle.kf_core.specs.Phases.{has_reference}
use Rattle.kf_core.specs.PostOrder.{IsPostOrder}
use Rattle.kf_core.specs.Refusals.{unless, first_cause}
use Rattle.kf_core.specs.Bare.{marks}
use Rattle.kf_world.specs.Bounded.{BoundedWorld, hold_count}
use Rattle.kf_core.specs.Tree.{Tree, record_at, is_linked, in_subtree, IsIn}
use Rattle.kf_core.specs.Commands.{after, replay}
use Rattle.kf_tree.specs.Causes.{Refuses, linked_cause, doom_cause}
use Rattle.kf_tree.specs.TreeLogs.{TreeLog, IsKept}
use Rattle.kf_core.specs.Agrees.{AgreesHidden}
use Rattle.kf_tree.specs.SlotMarks.{SameMarks, Changed, contains_key, doomed_if}
use Rattle.kf_tree.proofs.Opening.{length_after, length_replay}
use Rattle.kf_tree.proofs.SameMarks.{same_doomed, is_listed}
use Rattle.kf_plain.proofs.HiddenMarks.{told_spent, told_unlinked, told_doomed}
use Rattle.kf_plain.specs.Nodes.{Nodes, nodes_of, AreTied, OnlyMarks, AllIdle, is_full_in, has_full_below, last_of, logged, with_spent, spent_on}
use Rattle.kf_plain.specs.Removals.{AreChildrenFirst, Cleared, IsMarkedDoomed, IsMarkedUndoomed, PinsRefused, released, still_on, with_callers}
use Rattle.kf_plain.proofs.ChildrenFirst.{children_first_doomed}
use Rattle.kf_core.proofs.Different.{different}
use Rattle.kf_plain.proofs.Pins.{released_callers}
use Rattle.kf_core.proofs.FoundRecords.{in_found, linked_here}
use Rattle.kf_plain.proofs.Ties.{Logs, log_after}

-- ---- why it is refused

-- why a removal is refused: a cause against the doom; if there is none, a full slot below, or lack of memory
abbrev pub WhyRefused : Nodes → Key → Refusal → Type 0
WhyRefused n key refusal = (doom_cause n.log.tree n.log.root key ≡ Some refusal)
    ⊎ ((doom_cause n.log.tree n.log.root key ≡ None) × (refusal ≡ TooManyHolds) × (has_full_below n key ≡ true))
    ⊎ ((doom_cause n.log.tree n.log.root key ≡ None) × (refusal ≡ NoMemory))

-- why a removal is refused, and what it leaves: its new callers have released their keys
abbrev pub RefusedSo : Nodes → Key → Refusal → Nodes → Type 0
RefusedSo n key refusal n' = WhyRefused n key refusal × ((spent : List Key) × (n' ≡ with_spent n spent))

unless_none : (b : Bool) (r : Refusal) → unless b r ≡ None → b ≡ true
unless_none true r h = refl
unless_none false r h = absurd (none-some r (sym h))

pub no_doom_cause : (t : Tree) (root key : Key) → linked_cause t key ≡ None → same_key key root ≡ false → doom_cause t root key ≡ None
no_doom_cause t root key linked other =
    ap (λ b. first_cause (unless b NoEntry ∷ unless (not (same_key key root)) Invalid ∷ [])) (unless_none (is_linked t key) NoEntry linked)
    ∙ ap (λ b. first_cause (unless (not b) Invalid ∷ [])) other

module _ (s : TreeLog) (w : BoundedWorld) (key : Key) (keys : List Key) (tied : AreTied s w.world) (p : IsPostOrder s.tree key keys) where
  seen_full : (k : Key) → Contains keys k → w.limit ≤ hold_count w.world.callers k.slot → has_full_below (nodes_of s w) key ≡ true
  seen_full k among most =
      (let both = (p.members k).0 among in
      let r = linked_here s.tree k both.0 in
      let below : in_subtree s.tree key r.0.key ≡ true = ap (in_subtree s.tree key) r.2 ∙ both.1 in
      let full : nat_lt (hold_count w.world.callers r.0.key.slot) w.limit ≡ false = ap (λ (x : Key). nat_lt (hold_count w.world.callers x.slot) w.limit) r.2 ∙ le-ltb (hold_count w.world.callers k.slot) w.limit most in
      let here : is_full_in s.tree (hold_count w.world.callers) w.limit key (Some r.0) ≡ true = ap (λ b. b && not (nat_lt (hold_count w.world.callers r.0.key.slot) w.limit)) below ∙ ap (λ b. not b) full in
      list_any_at (is_full_in s.tree (hold_count w.world.callers) w.limit key) s.tree r.0.key.slot None (slice_get_within s.tree r.0.key.slot (Some r.0) r.1)
      (ap (is_full_in s.tree (hold_count w.world.callers) w.limit key) (get_or_from_slice_get s.tree r.0.key.slot (Some r.0) None r.1) ∙ here))

  pub seen_room : All (λ k. hold_count w.world.callers k.slot < w.limit) keys → has_full_below (nodes_of s w) key ≡ false
  seen_room room = list_any_none (is_full_in s.tree (hold_count w.world.callers) w.limit key) s.tree (λ i d l. at (slice_index_or s.tree i d) i (slice_get-get_or s.tree i d l))
    where
      not_full : (r : Record) → IsIn s.tree r → in_subtree s.tree key r.key ≡ true → not (nat_lt (hold_count w.world.callers r.key.slot) w.limit) ≡ false
      not_full r h below =
          (let among : Contains keys r.key = (p.members r.key).1 (ap is_some (in_found s.tree r h), below) in
          let fits : hold_count w.world.callers r.key.slot < w.limit = subst (λ (x : Key). hold_count w.world.callers x.slot < w.limit) among.2 (room among.0 r.key among.1) in
          ap (λ b. not b) (lt-ltb (hold_count w.world.callers r.key.slot) w.limit fits))

      go : (b c : Bool) → (b ≡ true → c ≡ false) → (b && c) ≡ false
      go true c h = h refl
      go false c h = refl

      at : (o : Option Record) (i : ℕ) → slice_get s.tree i ≡ Some o → is_full_in s.tree (hold_count w.world.callers) w.limit key o ≡ false
      at None i h = refl
      at (Some r) i h = go (in_subtree s.tree key r.key) (not (nat_lt (hold_count w.world.callers r.key.slot) w.limit))
          (not_full r (ap (slice_get s.tree) (tied.kept.lawful.in_place i r h) ∙ h))

  -- a removal is refused if one of its holds is
  pub pins_refused : (w1 : BoundedWorld) (refusal : Refusal) → doom_cause s.tree s.root key ≡ None → PinsRefused w keys refusal × ((spent : List Key) × (w1 ≡ with_callers w (w.world.callers ++ map spent_on spent))) → RefusedSo (nodes_of s w) key refusal (nodes_of s w1)
  pins_refused w1 refusal none h = (why h.0, (h.1.0, ap (nodes_of s) h.1.1))
    where
      why : PinsRefused w keys refusal → WhyRefused (nodes_of s w) key refusal
      why (inl full) = inr (inl (none, full.0, seen_full full.1.0 full.1.1 full.1.2))
      why (inr empty) = inr (inr (none, empty))

  -- ---- before the nodes are doomed

  pub all_different : (ks : List Key) → ks ≡ keys → AllPairs (λ a b. a ≢ b) ks
  all_different ks e = subst (λ l. AllPairs (λ a b. a ≢ b) l) (sym e) (different s.tree s.root tied.kept.lawful key keys p)

  marked : (o : Option Record) → is_some o ≡ true → (m : NodeFlags) × (option_map (λ (r : Record). r.marks) o ≡ Some m)
  marked None h = absurd (cc)
  marked (Some r) h = (r.marks, refl)

  listed_at_place : (i : ℕ) (d : Key) → i < length keys → Contains keys (slice_index_or keys i d)
  listed_at_place i d l = (i, l, get_or_default keys i (slice_index_or keys i d) d l)

  was_marked : (i : ℕ) (d : Key) → i < length keys → IsMarkedUndoomed (marks w.world (slice_index_or keys i d))
  was_marked i d l =
      (let x = slice_index_or keys i d in
      let m = marked (record_at s.tree x) ((p.members x).0 (listed_at_place i d l)).0 in
      let there : marks w.world x ≡ Some m.0 = tied.marks x ∙ m.1 in
      (m.0, there, tied.undoomed x m.0 there))

  pub all_undoomed : (w1 : BoundedWorld) (cs : List Caller) (ks : List Key) → w1 ≡ with_callers w cs → ks ≡ keys → All (λ k. IsMarkedUndoomed (marks w1.world k)) ks
  all_undoomed w1 cs ks e same = subst (λ l. All (λ k. IsMarkedUndoomed (marks w1.world k)) l) (sym same) (subst (λ (v : BoundedWorld). All (λ k. IsMarkedUndoomed (marks v.world k)) keys) (sym e) (λ i d l. was_marked i d l))

  -- ---- once they are doomed
  module _ (s1 : TreeLog) (w1 w2 : BoundedWorld) (first : ℕ) (held : w1 ≡ with_callers w (w.world.callers ++ map still_on keys)) (number : first ≡ length w.world.callers)
      (accepted : Logs s s1 (Doom key)) (doomed : Changed doomed_if keys w1.world.slots w2.world.slots) (only : OnlyMarks w1 w2) where
    changed : Changed doomed_if keys w.world.slots w2.world.slots
    changed = subst (λ (v : BoundedWorld). Changed doomed_if keys v.world.slots w2.world.slots) held doomed

    pub same_after : SameMarks w2.world.slots s1.tree
    same_after = subst (λ t. SameMarks w2.world.slots t) (sym accepted.changed) (same_doomed s.tree key keys w.world.slots w2.world.slots tied.marks p changed)

    pub all_doomed : (ks : List Key) → ks ≡ keys → All (λ k. IsMarkedDoomed (marks w2.world k)) ks
    all_doomed ks e = subst (λ l. All (λ k. IsMarkedDoomed (marks w2.world k)) l) (sym e) (λ i d l.
        (let x = slice_index_or keys i d in
        let m = was_marked i d l in
        (doomed_if true m.0, changed x ∙ ap (λ b. option_map (doomed_if b) (marks w.world x)) (is_listed keys x (listed_at_place i d l)) ∙ ap (option_map (doomed_if true)) m.1, refl)))

    pub all_children_first : (ks : List Key) → ks ≡ keys → AreChildrenFirst s1.tree ks
    all_children_first ks e = subst (λ l. AreChildrenFirst s1.tree l) (sym e) (subst (λ t. AreChildrenFirst t keys) (sym accepted.changed) (children_first_doomed s.tree s.root tied.kept.lawful key keys p))

    pub all_idle : AllIdle w.world.callers → AllIdle w2.world.callers
    all_idle idle = subst AllIdle (sym (only.callers ∙ ap (λ (v : BoundedWorld). v.world.callers) held)) (λ id k phase there. go id k phase (parts w.world.callers id (record { key = k; phase = phase }) there))
      where
        parts : (cs : List Caller) (id : ℕ) (c : Caller) → slice_get (cs ++ map still_on keys) id ≡ Some c → (slice_get cs id ≡ Some c) ⊎ ((j : ℕ) × (slice_get (map still_on keys) j ≡ Some c))
        parts [] id c h = inr (id, h)
        parts (x ∷ xs) zero c h = inl h
        parts (x ∷ xs) (suc id) c h = parts xs id c h

        still : (o : Option Key) (k : Key) (phase : Phase) → option_map still_on o ≡ Some (record { key = k; phase = phase }) → IsFalse (has_reference phase)
        still None k phase h = absurd (none-some _ h)
        still (Some x) k phase h = ap (λ (c : Caller). has_reference c.phase) (sym (same_Some (still_on x) (record { key = k; phase = phase }) h))

        go : (id : ℕ) (k : Key) (phase : Phase) → (slice_get w.world.callers id ≡ Some (record { key = k; phase = phase })) ⊎ ((j : ℕ) × (slice_get (map still_on keys) j ≡ Some (record { key = k; phase = phase }))) → IsFalse (has_reference phase)
        go id k phase (inl there) = idle id k phase there
        go id k phase (inr there) = still (slice_get keys there.0) k phase (sym (slice_get-map still_on keys there.0) ∙ there.1)

    -- ---- once they are taken out
    module _ (s2 : TreeLog) (w3 : BoundedWorld) (log : s2 ≡ logged s1 (map Unlink keys)) (cleared : Cleared keys w2.world w3.world)
        (last : last_of w3.world.slots ≡ last_of w2.world.slots) (limit : w3.limit ≡ w2.limit)
        (ended : w3.world.callers ≡ take first w2.world.callers ++ map released (drop first w2.world.callers)) where
      last_now : last_of w3.world.slots ≡ last_of w.world.slots
      last_now = last ∙ only.last ∙ ap (λ (v : BoundedWorld). last_of v.world.slots) held

      wide : length w3.world.slots ≡ length s2.tree
      wide = sym (length-map w3.world.slots (λ (x : SlotState). x.generation)) ∙ ap length last_now ∙ length-map w.world.slots (λ (x : SlotState). x.generation) ∙ tied.slots
          ∙ sym (ap (λ (l : TreeLog). length l.tree) log ∙ length_replay s1.tree (map Unlink keys) ∙ ap length accepted.changed ∙ length_after s.tree (Doom key))

      none_doomed : (k : Key) (m : NodeFlags) → marks w3.world k ≡ Some m → m.doomed ≡ false
      none_doomed k m h = go (contains_key keys k) refl (sym (cleared k) ∙ h)
        where
          kept : (o : Option NodeFlags) → marks w.world k ≡ o → option_map (doomed_if false) o ≡ Some m → m.doomed ≡ false
          kept None e f = absurd (none-some m f)
          kept (Some n) e f = ap (λ (x : NodeFlags). x.doomed) (sym (same_Some (doomed_if false n) m f)) ∙ tied.undoomed k n e

          go : (b : Bool) → contains_key keys k ≡ b → cond b None (marks w2.world k) ≡ Some m → m.doomed ≡ false
          go true e f = absurd (none-some m f)
          go false e f = kept (marks w.world k) refl (sym (changed k ∙ ap (λ b. option_map (doomed_if b) (marks w.world k)) e) ∙ f)

      pub tied_removed : IsKept s2 → SameMarks w3.world.slots s2.tree → AreTied s2 w3.world
      tied_removed kept same = record { kept = kept; undoomed = none_doomed; marks = same; slots = wide }

      callers_now : w3.world.callers ≡ w.world.callers ++ map spent_on keys
      callers_now = ended ∙ ap (λ l. take first l ++ map released (drop first l)) only.callers ∙ released_callers w w1 keys first held number

      log_now : s2 ≡ logged s (Doom key ∷ map Unlink keys)
      log_now = log ∙ ap (λ l. logged l (map Unlink keys)) (log_after s s1 (Doom key) accepted)
          ∙ ap (λ cs. let l : TreeLog = record { root = s.root; tree = replay (after s.tree (Doom key)) (map Unlink keys); commands = cs; ready = None } in l) (append_assoc s.commands (Doom key ∷ []) (map Unlink keys))

      pub told_removed : AgreesHidden s.tree w.world → AgreesHidden s2.tree w3.world
      told_removed told = subst (λ (l : TreeLog). AgreesHidden l.tree w3.world) (sym log_now)
          (told_spent (replay (after s.tree (Doom key)) (map Unlink keys)) w w3 (told_unlinked (after s.tree (Doom key)) w.world keys (told_doomed s.tree w.world told key)) keys callers_now)

      pub seen_removed : nodes_of s2 w3 ≡ with_spent (record (nodes_of s w) { log = logged s (Doom key ∷ map Unlink keys) }) keys
      seen_removed =
          (let made : TreeLog → List ℕ → ℕ → List Caller → Nodes = λ l g m cs. record { log = l; last = g; limit = m; callers = cs } in
          ap (λ l. made l (last_of w3.world.slots) w3.limit w3.world.callers) log_now
          ∙ ap (λ g. made (logged s (Doom key ∷ map Unlink keys)) g w3.limit w3.world.callers) last_now
          ∙ ap (λ m. made (logged s (Doom key ∷ map Unlink keys)) (last_of w.world.slots) m w3.world.callers) (limit ∙ only.limit ∙ ap (λ (v : BoundedWorld). v.limit) held)
          ∙ ap (made (logged s (Doom key ∷ map Unlink keys)) (last_of w.world.slots) w.limit) callers_now)

-- a removal is refused if the tree refuses the doom, and its holds are released
pub doom_refused : (s s1 : TreeLog) (w w' : BoundedWorld) (key : Key) (keys : List Key) (refusal : Refusal) → Refuses (doom_cause s.tree s.root key) refusal → s1 ≡ s → w' ≡ with_callers w (w.world.callers ++ map spent_on keys) → RefusedSo (nodes_of s w) key refusal (nodes_of s1 w')
doom_refused s s1 w w' key keys refusal named same back = (why named, (keys, ap (λ l. nodes_of l w') same ∙ ap (nodes_of s) back))
  where
    why : Refuses (doom_cause s.tree s.root key) refusal → WhyRefused (nodes_of s w) key refusal
    why (inl cause) = inl cause
    why (inr empty) = inr (inr empty)
