-- The one caller hides a node and shows it again: what these steps do to the tree and to the callers' world.
use Rattle.std.proofs.Common.{◌≡◌, ◌≢◌, ◌⊎◌, inl, inr, ℕ, ◌<◌, ◌≤◌, refl, ap, sym, ◌∙◌, subst, Bool, true, false, cond, List, [], ◌∷◌, ◌++◌, length, slice_set}
use Rattle.std.specs.Prelude.{Option, None, Some, slice_get, is_some, IsTrue, IsFalse, ◌&&◌, not}
use Rattle.std.specs.Option.{option_map, option_map_or}
use Rattle.std.proofs.lemmas.Bool.Decides.{eqb_tells}
use Rattle.std.proofs.lemmas.Option.{same_Some, none-some, slice_get_within}
use Rattle.std.proofs.lemmas.List.{set-set}
use Rattle.kf_core.specs.declared.key.Key.{Key}
use Rattle.kf_core.specs.declared.slot.NodeFlags.{NodeFlags}
use Rattle.kf_core.specs.declared.slot.SlotState.{SlotState}
use Rattle.kf_core.specs.declared.caller.Caller.{Caller}
use Rattle.kf_core.specs.declared.caller.Phase.{Phase}
use Rattle.kf_core.specs.declared.caller.Phase.TheVariants.{Still, Hiding, Hidden, Spent}
use Rattle.kf_core.specs.declared.records.Record.{Record}
use Rattle.kf_core.specs.declared.refusal.Refusal.{Refusal}
use Rattle.kf_core.specs.declared.refusal.Refusal.TheVariants.{NoEntry, IsDir, Invalid, Busy, NoMemory, TooManyHolds}
use Rattle.kf_core.specs.declared.command.Command.{Command}
use Rattle.kf_core.specs.declared.command.Command.TheVariants.{Hide, Show}
use Rattle.kf_core.specs.declared.event.Event.TheVariants.{Pin, Release, LookHidden, Hide as HideStep, Show as ShowStep}
use Rattle.kf_core.specs.Agrees.{AgreesHidden}
use Rattle.kf_core.specs.Bare.{BareWorld, IsCaller, IsLast, marks, marks_in, any_hides, is_hidden}
use Rattle.kf_world.specs.Bounded.{BoundedWorld, Happens, May, hold_count}
use Rattle.kf_core.specs.Commands.{after}
use Rattle.kf_core.specs.Keys.{same_key}
use Rattle.kf_core.specs.Phases.{is_hiding, has_reference, is_waiting}
use Rattle.kf_core.specs.Refusals.{unless, first_cause}
use Rattle.kf_core.specs.Safe.{Safe}
use Rattle.kf_core.specs.Steps.{with_phase, MayLookHidden}
use Rattle.kf_core.specs.Tree.{Tree, record_at, is_linked}
use Rattle.kf_core.proofs.AgreeingHidden.{put_told, elsewhere, shown_now}
use Rattle.kf_core.proofs.Climbs.{keys_tell, same_key_self}
use Rattle.kf_core.proofs.FoundRecords.{found_in}
use Rattle.kf_core.proofs.Hiding.{hider_hides, hider_hidden, hides_push, not_both, hiding_holds}
use Rattle.kf_core.proofs.Lists.{after_push, slice_get-set_same}
use Rattle.kf_tree.specs.Causes.{Refuses, hide_cause, hidden_in, is_directory, is_link, doomed_in}
use Rattle.kf_tree.specs.TreeLogs.{TreeLog, IsAccepted, IsReadied}
use Rattle.kf_tree.proofs.SameMarks.{same_hidden}
use Rattle.kf_tree.specs.SlotMarks.{SameMarks}
use Rattle.kf_plain.specs.Nodes.{Nodes, nodes_of, last_of, AreTied, AllIdle, NoneHides, hidden_on, spent_on, logged}
use Rattle.kf_plain.proofs.BoardVisits.{Visited, last_there, last_set}
use Rattle.kf_plain.proofs.CallerSteps.{has_released}
use Rattle.kf_plain.proofs.Ties.{Logs, log_after, tied_after}

-- ---- the tree

-- a linked key is hidden by its record exactly when a caller hides it
pub hidden_agrees : (t : Tree) (w : BareWorld) (key : Key) → AgreesHidden t w → is_linked t key ≡ true → is_hidden w key ≡ hidden_in t key
hidden_agrees t w key told linked = go (record_at t key) refl linked
  where
    go : (o : Option Record) → record_at t key ≡ o → is_some o ≡ true → is_hidden w key ≡ option_map_or (λ (r : Record). r.hidden) o false
    go None e h = absurd (cc)
    go (Some r) e h = let f = found_in t key r e in ap (is_hidden w) (sym f.1) ∙ sym (told r f.0)

unhidden_cause : (a b c d e : Bool) → first_cause (unless a NoEntry ∷ unless b IsDir ∷ unless c Invalid ∷ unless d NoEntry ∷ unless (not e) Busy ∷ []) ≡ None → e ≡ false
unhidden_cause false b c d e h = absurd (none-some NoEntry (sym h))
unhidden_cause true false c d e h = absurd (none-some IsDir (sym h))
unhidden_cause true true false d e h = absurd (none-some Invalid (sym h))
unhidden_cause true true true false e h = absurd (none-some NoEntry (sym h))
unhidden_cause true true true true true h = absurd (none-some Busy (sym h))
unhidden_cause true true true true false h = refl

not_hidden : (t : Tree) (key : Key) → hide_cause t key ≡ None → hidden_in t key ≡ false
not_hidden t key h = unhidden_cause (is_linked t key) (not (is_directory t key)) (not (is_link t key)) (not (doomed_in t key)) (hidden_in t key) h

-- making a key ready and then accepting a command logs that command, and nothing else
pub logs_readied : {log ready log' : TreeLog} {key : Key} {cause cause' : Option Refusal} {c : Command} → IsReadied log ready cause key → IsAccepted ready log' cause' c → Logs log log' c
logs_readied {c = c} r a = record {
  same_root = a.same_root ∙ r.same_root;
  changed = a.changed ∙ ap (λ t. after t c) r.same_tree;
  stored = a.stored ∙ ap (λ cs. cs ++ c ∷ []) r.same_commands;
  not_ready = a.not_ready;
  kept = a.kept;
}

-- ---- the callers' world

at_slots : (w w' : BareWorld) → w'.slots ≡ w.slots → (k : Key) → marks w' k ≡ marks w k
at_slots w w' e k = ap (λ ps. marks_in (slice_get ps k.slot) k.generation) e

-- the tree has one more command, and the world keeps its slots
module _ (n : Nodes) (log log' : TreeLog) (w w' : BoundedWorld) (c : Command) (is : nodes_of log w ≡ n) (tied : AreTied log w.world) (a : Logs log log' c)
    (slots : w'.world.slots ≡ w.world.slots) (limit : w'.limit ≡ w.limit) where
  tied_with : SameMarks w.world.slots (after log.tree c) → AreTied log' w'.world
  tied_with same = tied_after log log' w.world w'.world c tied a (ap length slots) (λ k. at_slots w.world w'.world slots k ∙ same k)
      (λ k m h. tied.undoomed k m (sym (at_slots w.world w'.world slots k) ∙ h))

  seen_with : (callers : List Caller) → w'.world.callers ≡ callers → nodes_of log' w' ≡ record { log = logged n.log (c ∷ []); last = n.last; limit = n.limit; callers = callers }
  seen_with callers cs =
      let made : TreeLog → List ℕ → ℕ → List Caller → Nodes = λ l g m xs. record { log = l; last = g; limit = m; callers = xs } in
      ap (λ l. made l (last_of w'.world.slots) w'.limit w'.world.callers) (log_after log log' c a)
      ∙ ap (λ ps. made (logged log (c ∷ [])) (last_of ps) w'.limit w'.world.callers) slots
      ∙ ap (λ m. made (logged log (c ∷ [])) (last_of w.world.slots) m w'.world.callers) limit
      ∙ ap (made (logged log (c ∷ [])) (last_of w.world.slots) w.limit) cs
      ∙ ap (λ (m : Nodes). made (logged m.log (c ∷ [])) m.last m.limit callers) is

-- a caller that was just made has changed nothing yet
pub idle_visit : (w : BoundedWorld) (id : ℕ) (key : Key) → Visited w id key w
idle_visit w id key = record { slots = refl; limit = refl; callers = inl refl }

-- ---- hiding

module _ (n : Nodes) (log : TreeLog) (w w1 : BoundedWorld) (id : ℕ) (key : Key) (is : nodes_of log w ≡ n) (tied : AreTied log w.world) (told : AgreesHidden log.tree w.world)
    (linked : is_linked n.log.tree key ≡ true) (pin : Happens w (Pin id key) w1) (none : hide_cause log.tree key ≡ None) where
  linked_here : is_linked log.tree key ≡ true
  linked_here = subst (λ (m : Nodes). is_linked m.log.tree key ≡ true) (sym is) linked

  unhidden : is_hidden w.world key ≡ false
  unhidden = hidden_agrees log.tree w.world key told linked_here ∙ not_hidden log.tree key none

  callers1 : w1.world.callers ≡ w.world.callers ++ record { key = key; phase = Still } ∷ []
  callers1 = ap (λ (v : BareWorld). v.callers) pin.steps.2

  there1 : IsCaller w1.world id key Still
  there1 = ap (λ cs. slice_get cs id) callers1 ∙ ap (λ i. slice_get (w.world.callers ++ record { key = key; phase = Still } ∷ []) i) pin.steps.0 ∙ last_there w.world.callers (record { key = key; phase = Still })

  shown1 : is_hidden w1.world key ≡ false
  shown1 = ap (any_hides key) callers1 ∙ hides_push w.world.callers key (record { key = key; phase = Still }) (neither (same_key key key)) ∙ unhidden
    where
      neither : (b : Bool) → (b && false) ≡ false
      neither true = refl
      neither false = refl

  pub still_waits : (k : Key) × (phase : Phase) × IsCaller w1.world id k phase × IsTrue (is_waiting phase)
  still_waits = (key, Still, there1, refl)

  -- nobody hides the node yet, so the caller may hide it
  pub hides_now : (result : Bool) → ((k : Key) (phase : Phase) → IsCaller w1.world id k phase → result ≡ not (is_hidden w1.world k)) → result ≡ true
  hides_now result tells = tells key Still there1 ∙ ap (λ b. not b) shown1

  module _ (w2 : BoundedWorld) (hide : Happens w1 (HideStep id) w2) where
    its_key : hide.steps.0.key ≡ key
    its_key = ap (λ (c : Caller). c.key) (same_Some _ _ (sym hide.steps.0.there ∙ there1))

    hiding : w2.world ≡ with_phase w1.world id key Hiding
    hiding = hide.steps.1 ∙ ap (λ k. with_phase w1.world id k Hiding) its_key

    callers2 : w2.world.callers ≡ w.world.callers ++ record { key = key; phase = Hiding } ∷ []
    callers2 = ap (λ (v : BareWorld). v.callers) hiding ∙ ap (λ cs. slice_set cs id (record { key = key; phase = Hiding })) callers1
        ∙ ap (λ i. slice_set (w.world.callers ++ record { key = key; phase = Still } ∷ []) i (record { key = key; phase = Hiding })) pin.steps.0
        ∙ last_set w.world.callers (record { key = key; phase = Still }) (record { key = key; phase = Hiding })

    there2 : IsCaller w2.world id key Hiding
    there2 = ap (λ cs. slice_get cs id) callers2 ∙ ap (λ i. slice_get (w.world.callers ++ record { key = key; phase = Hiding } ∷ []) i) pin.steps.0 ∙ last_there w.world.callers (record { key = key; phase = Hiding })

    pub may_look_hidden : AllIdle n.callers → MayLookHidden w2.world id
    may_look_hidden idle = record {
      key = key;
      there = there2;
      unused = λ d phase there. unused d phase (after_push w.world.callers d (record { key = key; phase = Hiding }) (record { key = key; phase = phase }) (sym (ap (λ cs. slice_get cs d) callers2) ∙ there));
    }
      where
        here : AllIdle w.world.callers
        here = subst (λ (m : Nodes). AllIdle m.callers) (sym is) idle

        unused : (d : ℕ) (phase : Phase) → (◌≡◌ {A = Caller} (record { key = key; phase = Hiding }) (record { key = key; phase = phase })) ⊎ (slice_get w.world.callers d ≡ Some (record { key = key; phase = phase })) → IsFalse (has_reference phase)
        unused d phase (inl new) = ap (λ (c : Caller). has_reference c.phase) (sym new)
        unused d phase (inr old) = here d key phase old

    module _ (w3 : BoundedWorld) (look : Happens w2 (LookHidden id) w3) where
      looked_key : look.steps.0.key ≡ key
      looked_key = ap (λ (c : Caller). c.key) (same_Some _ _ (sym look.steps.0.there ∙ there2))

      hidden : w3.world ≡ with_phase w2.world id key Hidden
      hidden = look.steps.1 ∙ ap (λ k. with_phase w2.world id k Hidden) looked_key

      callers3 : w3.world.callers ≡ w.world.callers ++ hidden_on key ∷ []
      callers3 = ap (λ (v : BareWorld). v.callers) hidden ∙ ap (λ cs. slice_set cs id (hidden_on key)) callers2
          ∙ ap (λ i. slice_set (w.world.callers ++ record { key = key; phase = Hiding } ∷ []) i (hidden_on key)) pin.steps.0
          ∙ last_set w.world.callers (record { key = key; phase = Hiding }) (hidden_on key)

      slots3 : w3.world.slots ≡ w.world.slots
      slots3 = ap (λ (v : BareWorld). v.slots) hidden ∙ ap (λ (v : BareWorld). v.slots) hiding ∙ ap (λ (v : BareWorld). v.slots) pin.steps.2

      limit3 : w3.limit ≡ w.limit
      limit3 = look.limit ∙ hide.limit ∙ pin.limit

      module _ (log' : TreeLog) (a : Logs log log' (Hide key)) where
        pub tied_hidden : AreTied log' w3.world
        tied_hidden = tied_with n log log' w w3 (Hide key) is tied a slots3 limit3 (same_hidden w.world.slots log.tree key true tied.marks)

        now_hidden : is_hidden w3.world key ≡ true
        now_hidden = ap (any_hides key) callers3 ∙ hider_hides (w.world.callers ++ hidden_on key ∷ []) key (length w.world.callers) (hidden_on key) (last_there w.world.callers (hidden_on key)) (ap (λ b. b && true) (same_key_self key))

        others : (k : Key) → k ≢ key → is_hidden w3.world k ≡ is_hidden w.world k
        others k ne = ap (any_hides k) callers3 ∙ hides_push w.world.callers k (hidden_on key) (elim (keys_tell key k) [
          | inl e ↦ absurd (ne (sym e.1))
          | inr e ↦ ap (λ b. b && true) e.0
        ])

        pub told_hidden : AgreesHidden log'.tree w3.world
        told_hidden = subst (λ t. AgreesHidden t w3.world) (sym a.changed) (put_told log.tree w.world w3.world key true now_hidden others told)

        pub seen_hidden : nodes_of log' w3 ≡ record { log = logged n.log (Hide key ∷ []); last = n.last; limit = n.limit; callers = n.callers ++ hidden_on key ∷ [] }
        seen_hidden = seen_with n log log' w w3 (Hide key) is tied a slots3 limit3 (n.callers ++ hidden_on key ∷ []) (callers3 ∙ ap (λ (m : Nodes). m.callers ++ hidden_on key ∷ []) is)

  -- no caller that hides a node is on this slot: a caller that holds a slot holds its last generation
  pub none_hides_there : Safe w.world → NoneHides n.callers key.slot
  none_hides_there safe = subst (λ (m : Nodes). NoneHides m.callers key.slot) is (λ d k phase there hiding same. apart d k phase there hiding same)
    where
      generation : (s : SlotState) → slice_get w.world.slots key.slot ≡ Some s → (m : NodeFlags) → marks w.world key ≡ Some m → s.generation ≡ key.generation
      generation s e m f = elim (eqb_tells s.generation key.generation) [
        | inl y ↦ y.1
        | inr other ↦ absurd (none-some m (sym (ap (λ b. cond b s.marks None) other.0) ∙ sym (ap (λ o. marks_in o key.generation) e) ∙ f))
      ]

      known : (o : Option Record) → record_at log.tree key ≡ o → is_some o ≡ true → (m : NodeFlags) × (marks w.world key ≡ Some m)
      known None e h = absurd (cc)
      known (Some r) e h = (r.marks, tied.marks key ∙ ap (option_map (λ (x : Record). x.marks)) e)

      made : ℕ → ℕ → Key
      made s g = record { slot = s; generation = g }

      apart : (d : ℕ) (k : Key) (phase : Phase) → slice_get w.world.callers d ≡ Some (record { key = k; phase = phase }) → is_hiding phase ≡ true → k.slot ≡ key.slot → ⊥
      apart d k phase there hiding same =
          let last : IsLast w.world k.slot k.generation = safe.held_last d k phase there (hiding_holds phase hiding) in
          let m = known (record_at log.tree key) refl linked_here in
          let g : k.generation ≡ key.generation = sym last.2 ∙ generation last.0 (ap (slice_get w.world.slots) (sym same) ∙ last.1) m.0 m.1 in
          let e : k ≡ key = ap (λ s. made s k.generation) same ∙ ap (made key.slot) g in
          not_both (is_hidden w.world k) (hider_hidden w.world d k phase there hiding) (ap (is_hidden w.world) e ∙ unhidden)

-- why the node was not hidden
pub why_not_hidden : (n : Nodes) (log : TreeLog) (w : BoundedWorld) (key : Key) (refusal : Refusal) → nodes_of log w ≡ n → hold_count n.callers key.slot < n.limit → Refuses (hide_cause log.tree key) refusal →
    ((refusal ≡ TooManyHolds) × (n.limit ≤ hold_count n.callers key.slot)) ⊎ ((hold_count n.callers key.slot < n.limit) × (hide_cause n.log.tree key ≡ Some refusal)) ⊎ (refusal ≡ NoMemory)
why_not_hidden n log w key refusal is room (inl cause) = inr (inl (room, subst (λ (m : Nodes). hide_cause m.log.tree key ≡ Some refusal) is cause))
why_not_hidden n log w key refusal is room (inr wanting) = inr (inr wanting.1)

-- ---- showing

module _ (n : Nodes) (log log' : TreeLog) (w w1 : BoundedWorld) (id : ℕ) (key : Key) (is : nodes_of log w ≡ n) (tied : AreTied log w.world) (told : AgreesHidden log.tree w.world)
    (there : slice_get n.callers id ≡ Some (hidden_on key)) where
  there_here : IsCaller w.world id key Hidden
  there_here = subst (λ (m : Nodes). slice_get m.callers id ≡ Some (hidden_on key)) (sym is) there

  pub may_show : May w (ShowStep id)
  may_show = (_, (key, there_here, refl))

  pub shows_now : is_linked n.log.tree key ≡ true → (result : Bool) → result ≡ hidden_in log.tree key → result ≡ true
  shows_now linked result tells = tells ∙ sym (hidden_agrees log.tree w.world key told (subst (λ (m : Nodes). is_linked m.log.tree key ≡ true) (sym is) linked)) ∙ hider_hidden w.world id key Hidden there_here refl

  module _ (show : Happens w (ShowStep id) w1) where
    shown_key : show.steps.0 ≡ key
    shown_key = ap (λ (c : Caller). c.key) (same_Some _ _ (sym show.steps.1 ∙ there_here))

    shown : w1.world ≡ with_phase w.world id key Still
    shown = show.steps.2 ∙ ap (λ k. with_phase w.world id k Still) shown_key

    there_still : IsCaller w1.world id key Still
    there_still = subst (λ v. IsCaller v id key Still) (sym shown) (slice_get-set_same w.world.callers id _ (slice_get_within w.world.callers id _ there_here))

    pub may_end_show : May w1 (Release id)
    may_end_show = (_, (key, Still, there_still, refl, refl))

    module _ (w2 : BoundedWorld) (release : Happens w1 (Release id) w2) (a : Logs log log' (Show key)) where
      ended : w2.world ≡ with_phase w.world id key Spent
      ended = ap (λ (v : BoundedWorld). v.world) (has_released w1 w2 id key Still there_still release)
          ∙ ap (λ (v : BareWorld). with_phase v id key Spent) shown
          ∙ ap (λ cs. let v : BareWorld = record { slots = w.world.slots; callers = cs } in v) (set-set w.world.callers id _ _)

      slots_now : w2.world.slots ≡ w.world.slots
      slots_now = ap (λ (v : BareWorld). v.slots) ended

      limit_now : w2.limit ≡ w.limit
      limit_now = release.limit ∙ show.limit

      pub tied_shown : AreTied log' w2.world
      tied_shown = tied_with n log log' w w2 (Show key) is tied a slots_now limit_now (same_hidden w.world.slots log.tree key false tied.marks)

      pub told_shown : Safe w.world → AgreesHidden log'.tree w2.world
      told_shown safe = subst (λ v. AgreesHidden log'.tree v) (sym ended) (subst (λ t. AgreesHidden t (with_phase w.world id key Spent)) (sym a.changed)
          (put_told log.tree w.world (with_phase w.world id key Spent) key false (shown_now w.world id key Hidden Spent safe there_here refl refl) (elsewhere w.world id key Hidden Spent there_here) told))

      pub seen_shown : nodes_of log' w2 ≡ record { log = logged n.log (Show key ∷ []); last = n.last; limit = n.limit; callers = slice_set n.callers id (spent_on key) }
      seen_shown = seen_with n log log' w w2 (Show key) is tied a slots_now limit_now (slice_set n.callers id (spent_on key)) (ap (λ (v : BareWorld). v.callers) ended ∙ ap (λ (m : Nodes). slice_set m.callers id (spent_on key)) is)
