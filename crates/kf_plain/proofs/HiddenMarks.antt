-- The nodes that the tree has as hidden stay exactly those that callers hide.
use Rattle.std.proofs.Common.{◌≡◌, inl, inr, ℕ, refl, ap, sym, ◌∙◌, subst, Bool, true, false, cond, List, [], ◌∷◌, ◌++◌, slice_set, replicate}
use Rattle.std.specs.Prelude.{Option, None, Some, slice_get, ◌&&◌, map, Result, Ok, Err, IfOk, IfErr}
use Rattle.std.proofs.lemmas.Option.{same_Some}
use Rattle.kf_core.specs.declared.key.Key.{Key}
use Rattle.kf_core.specs.declared.key.Node.{Node}
use Rattle.kf_core.specs.declared.caller.Caller.{Caller}
use Rattle.kf_core.specs.declared.caller.Phase.TheVariants.{Still, Spent}
use Rattle.kf_core.specs.declared.records.Record.{Record}
use Rattle.kf_core.specs.declared.refusal.Refusal.{Refusal}
use Rattle.kf_core.specs.declared.command.Command.{Command}
use Rattle.kf_core.specs.declared.command.Command.TheVariants.{Activate, Doom, Unlink, Rename, Create}
use Rattle.kf_core.specs.declared.event.Event.TheVariants.{Pin, Release}
use Rattle.kf_core.specs.Agrees.{AgreesHidden}
use Rattle.kf_core.specs.Bare.{BareWorld, hides, any_hides, opening}
use Rattle.kf_world.specs.Bounded.{BoundedWorld, bounded, Happens}
use Rattle.kf_core.specs.Commands.{after, replay, root_alone, activated_record, doomed_record, moved_record, new_record}
use Rattle.kf_core.specs.Keys.{same_key}
use Rattle.kf_core.specs.Lawful.{root_record}
use Rattle.kf_core.specs.Phases.{is_hiding}
use Rattle.kf_core.specs.Steps.{with_caller, OnlySpent}
use Rattle.kf_core.specs.Tree.{Tree, is_linked}
use Rattle.kf_core.proofs.AgreeingHidden.{moved_told, changed_told, born_told, taken_told, waiting_shows, idle_shows}
use Rattle.kf_core.proofs.Hiding.{hides_set, hides_push}
use Rattle.kf_core.proofs.Lists.{after_set}
use Rattle.kf_tree.specs.TreeLogs.{TreeLog, IsNew, IsAccepted, IsRefused}
use Rattle.kf_table.specs.Children.{is_there_already}
use Rattle.kf_tree.proofs.Opening.{none_there}
use Rattle.kf_plain.specs.Nodes.{Waits, StillWaits, root_key, spent_on}
use Rattle.kf_plain.specs.Removals.{still_on}
use Rattle.kf_plain.proofs.Ties.{Logs, logs}

-- ---- callers

-- the callers of both lists hide the same keys
abbrev pub SameHiders : List Caller → List Caller → Type 0
SameHiders cs cs' = (key : Key) → any_hides key cs' ≡ any_hides key cs

pub told_by : (t : Tree) (w w' : BareWorld) → SameHiders w.callers w'.callers → AgreesHidden t w → AgreesHidden t w'
told_by t w w' same told r is = told r is ∙ sym (same r.key)

hides_nothing : (key : Key) (c : Caller) → is_hiding c.phase ≡ false → hides key c ≡ false
hides_nothing key c h = ap (λ b. same_key c.key key && b) h ∙ neither (same_key c.key key)
  where
    neither : (b : Bool) → (b && false) ≡ false
    neither true = refl
    neither false = refl

pub hiders_set : (cs : List Caller) (id : ℕ) (x y : Caller) → slice_get cs id ≡ Some x → is_hiding x.phase ≡ false → is_hiding y.phase ≡ false → SameHiders cs (slice_set cs id y)
hiders_set cs id x y there was is key = hides_set cs key id x y there (hides_nothing key y is ∙ sym (hides_nothing key x was))

pub hiders_pushed : (cs : List Caller) (c : Caller) → is_hiding c.phase ≡ false → SameHiders cs (cs ++ c ∷ [])
hiders_pushed cs c is key = hides_push cs key c (hides_nothing key c is)

-- new callers that hide nothing
hiders_more : (made : Key → Caller) → ((k : Key) → is_hiding (made k).phase ≡ false) → (cs : List Caller) (keys : List Key) → SameHiders cs (cs ++ map made keys)
hiders_more made idle [] keys key = none keys
  where
    none : (ks : List Key) → any_hides key (map made ks) ≡ false
    none [] = refl
    none (k ∷ ks) = ap (λ b. cond b true (any_hides key (map made ks))) (hides_nothing key (made k) (idle k)) ∙ none ks
hiders_more made idle (c ∷ cs) keys key = ap (λ b. cond (hides key c) true b) (hiders_more made idle cs keys key)

pub hiders_waiting : (cs : List Caller) (id : ℕ) (key : Key) (cs' : List Caller) → Waits cs id key → StillWaits cs id key cs' → SameHiders cs cs'
hiders_waiting cs id key cs' w (inl e) k = ap (any_hides k) e
hiders_waiting cs id key cs' w (inr s) k = ap (any_hides k) s.2 ∙ hiders_set cs id _ _ w.there (waiting_shows w.phase w.waits) (waiting_shows s.0 s.1) k

module _ (t : Tree) (w w' : BoundedWorld) (told : AgreesHidden t w.world) where
  pub told_pinned : (id : ℕ) (key : Key) → Happens w (Pin id key) w' → AgreesHidden t w'.world
  told_pinned id key h = subst (λ v. AgreesHidden t v) (sym h.steps.2) (told_by t w.world (with_caller w.world key) (hiders_pushed w.world.callers (record { key = key; phase = Still }) refl) told)

  pub told_released : (id : ℕ) → Happens w (Release id) w' → AgreesHidden t w'.world
  told_released id h = subst (λ v. AgreesHidden t v) (sym h.steps.4) (moved_told t w.world id h.steps.0 h.steps.1 Spent h.steps.2 (sym (idle_shows h.steps.1 h.steps.3)) told)

  pub told_spent : (spent : List Key) → w'.world.callers ≡ w.world.callers ++ map spent_on spent → AgreesHidden t w'.world
  told_spent spent e = told_by t w.world w'.world (λ key. ap (any_hides key) e ∙ hiders_more spent_on (λ k. refl) w.world.callers spent key) told

  pub told_held : (keys : List Key) → w'.world.callers ≡ w.world.callers ++ map still_on keys → AgreesHidden t w'.world
  told_held keys e = told_by t w.world w'.world (λ key. ap (any_hides key) e ∙ hiders_more still_on (λ k. refl) w.world.callers keys key) told

  pub told_callers : w'.world.callers ≡ w.world.callers → AgreesHidden t w'.world
  told_callers e = told_by t w.world w'.world (λ key. ap (any_hides key) e) told

-- ---- commands that neither hide nor show

pub told_after : (log log' : TreeLog) (w : BareWorld) (c : Command) → Logs log log' c → AgreesHidden (after log.tree c) w → AgreesHidden log'.tree w
told_after log log' w c a told = subst (λ t. AgreesHidden t w) (sym a.changed) told

module _ (t : Tree) (w : BareWorld) (told : AgreesHidden t w) where
  pub told_created : (w' : BareWorld) (key parent : Key) (name : List ℕ) (node : Node) (is_live : Bool) → w'.callers ≡ w.callers → OnlySpent w key.slot → AgreesHidden (after t (Create key parent name node is_live)) w'
  told_created w' key parent name node is_live same unheld = born_told t w w' (new_record key parent name node is_live) same unheld refl told

  pub told_activated : (key : Key) → AgreesHidden (after t (Activate key)) w
  told_activated key = changed_told t w _ activated_record (λ _. refl) (λ _. refl) told

  pub told_doomed : (key : Key) → AgreesHidden (after t (Doom key)) w
  told_doomed key = changed_told t w _ doomed_record (λ _. refl) (λ _. refl) told

  pub told_moved : (key dir : Key) (name : List ℕ) → AgreesHidden (after t (Rename key dir name)) w
  told_moved key dir name = changed_told t w _ (moved_record dir name) (λ _. refl) (λ _. refl) told

pub told_unlinked : (t : Tree) (w : BareWorld) (keys : List Key) → AgreesHidden t w → AgreesHidden (replay t (map Unlink keys)) w
told_unlinked t w [] told = told
told_unlinked t w (key ∷ keys) told = told_unlinked (after t (Unlink key)) w keys (taken_told t w key.slot (is_linked t key) told)

-- the hidden marks still agree after a rename, whatever its result
pub renamed_stays_told : (log log' : TreeLog) (w : BareWorld) (key dir : Key) (name : List ℕ) (cause : Option Refusal) (result : Result (Unit {0}) Refusal) → AgreesHidden log.tree w →
    IfOk result (λ _. is_there_already log.tree key dir name ≡ true → log' ≡ log) → IfOk result (λ _. is_there_already log.tree key dir name ≡ false → IsAccepted log log' cause (Rename key dir name)) → IfErr result (λ refusal. IsRefused log log' cause refusal) → AgreesHidden log'.tree w
renamed_stays_told log log' w key dir name cause (Ok done) told stays accepted refused =
    elim (is_there_already log.tree key dir name) as (λ b. (b ≡ true → log' ≡ log) → (b ≡ false → IsAccepted log log' cause (Rename key dir name)) → AgreesHidden log'.tree w) [
      | true ↦ λ s a. subst (λ (l : TreeLog). AgreesHidden l.tree w) (sym (s refl)) told
      | false ↦ λ s a. told_after log log' w (Rename key dir name) (logs (a refl)) (told_moved log.tree w told key dir name)
    ] stays accepted
renamed_stays_told log log' w key dir name cause (Err refusal) told stays accepted refused = subst (λ (l : TreeLog). AgreesHidden l.tree w) (sym refused.unchanged) told

-- ---- the opening

pub told_opening : (count start limit : ℕ) (log : TreeLog) (w : BoundedWorld) → IsNew count (root_key start) log → w ≡ bounded (opening count start) limit → AgreesHidden log.tree w.world
told_opening count start limit log w new opens = subst (λ (v : BoundedWorld). AgreesHidden log.tree v.world) (sym opens) (subst (λ t. AgreesHidden t (opening count start)) (sym new.tree) alone)
  where
    alone : AgreesHidden (root_alone count (root_key start)) (opening count start)
    alone r is = elim (after_set (replicate count None) 0 r.key.slot (Some (root_record (root_key start))) (Some r) is) [
      | inl e ↦ ap (λ (x : Record). x.hidden) (sym (same_Some (root_record (root_key start)) r e))
      | inr h ↦ absurd (none_there count r.key.slot r h)
    ]
