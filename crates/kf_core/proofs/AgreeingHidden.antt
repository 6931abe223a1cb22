-- In every run a record is hidden if and only if a caller hides its key.
use Rattle.std.proofs.Common.{◌≡◌, ◌≢◌, inl, inr, ℕ, zero, suc, List, [], ◌∷◌, refl, ap, sym, ◌∙◌, subst, Bool, true, false, cond, slice_set}
use Rattle.std.specs.Prelude.{slice_get, Some, None, ◌&&◌, if◌then◌else◌}
use Rattle.std.proofs.lemmas.Option.{same_Some, none-some, slice_get_within}
use Rattle.kf_core.specs.declared.key.Key.{Key}
use Rattle.kf_core.specs.declared.caller.Phase.{Phase}
use Rattle.kf_core.specs.declared.caller.Phase.TheVariants.{Still, Turned, Running, Broken, Restored, Drained, Parted, Hiding, Hidden, Spent}
use Rattle.kf_core.specs.declared.caller.Caller.{Caller}
use Rattle.kf_core.specs.declared.records.Record.{Record}
use Rattle.kf_core.specs.declared.event.Event.{Event}
use Rattle.kf_core.specs.declared.event.Event.TheVariants.{Born, Rise, Mark, Move, Pin, Enter, Leave, Break, Restore, Look, Unlink, Part, Hide, LookHidden, Show, Release, Undo}
use Rattle.kf_core.specs.Keys.{same_key}
use Rattle.kf_core.specs.Agrees.{AgreesHidden}
use Rattle.kf_core.specs.Bare.{BareWorld, IsCaller, is_hidden, is_live}
use Rattle.kf_core.specs.Marks.{fresh_marks, live_marks}
use Rattle.kf_core.specs.Phases.{is_waiting, has_reference, is_hiding, may_release}
use Rattle.kf_core.specs.Safe.{Safe}
use Rattle.kf_core.specs.Steps.{with_phase, with_marks, with_caller, OnlySpent}
use Rattle.kf_core.specs.Tree.{Tree, is_linked}
use Rattle.kf_core.specs.Commands.{change, activated_record, doomed_record, hidden_record, moved_record, new_record}
use Rattle.kf_core.specs.Worlds.{World, bare, tree, opening, Step, Run}
use Rattle.kf_core.proofs.Climbs.{keys_tell}
use Rattle.kf_core.proofs.Lists.{after_set, after_write, slice_get-set_same}
use Rattle.kf_core.proofs.Mapped.{mapped_from}
use Rattle.kf_core.proofs.Keeping.{caller, one_key, step_keeps}
use Rattle.kf_core.proofs.Hiding.{hides_set, hides_push, hider_hidden, none_hides, not_false, not_both, hiding_holds}
use Rattle.kf_core.proofs.Runs.{opening_safe}
use Rattle.kf_core.proofs.Agreeing.{no_record}

told_of : (w : World) (b : BareWorld) (t : Tree) → bare w ≡ b → tree w ≡ t → AgreesHidden t b → AgreesHidden (tree w) (bare w)
told_of w b t eb et told = subst (λ (x : BareWorld). AgreesHidden (tree w) x) (sym eb) (subst (λ (x : Tree). AgreesHidden x b) (sym et) told)

-- a caller that hides its node does not wait, has no reference, and may not be released
busy : (p : Phase) → is_hiding p ≡ true → (is_waiting p ≡ false) × (has_reference p ≡ false) × (may_release p ≡ false)
busy Still h = cc
busy Turned h = cc
busy Running h = cc
busy Broken h = cc
busy Restored h = cc
busy Drained h = cc
busy Parted h = cc
busy Hiding h = (refl, refl, refl)
busy Hidden h = (refl, refl, refl)
busy Spent h = cc

pub waiting_shows : (p : Phase) → is_waiting p ≡ true → is_hiding p ≡ false
waiting_shows p h = not_false (is_hiding p) (λ e. not_both (is_waiting p) h (busy p e).0)

reference_shows : (p : Phase) → has_reference p ≡ true → is_hiding p ≡ false
reference_shows p h = not_false (is_hiding p) (λ e. not_both (has_reference p) h (busy p e).1)

pub idle_shows : (p : Phase) → may_release p ≡ true → is_hiding p ≡ false
idle_shows p h = not_false (is_hiding p) (λ e. not_both (may_release p) h (busy p e).2)

entered_shows : (b : Bool) → is_hiding (cond b Running Turned) ≡ false
entered_shows true = refl
entered_shows false = refl

-- tree and callers agree after a step of a caller that hides its node before and after it, or at neither time
pub moved_told : (t : Tree) (w : BareWorld) (c : ℕ) (key : Key) (from to : Phase) → IsCaller w c key from → is_hiding to ≡ is_hiding from → AgreesHidden t w → AgreesHidden t (with_phase w c key to)
moved_told t w c key from to there same told r is = told r is ∙ sym (hides_set w.callers r.key c (caller key from) (caller key to) there (ap (λ b. same_key key r.key && b) same))

-- tree and callers agree after a change of records that leaves their keys and hidden marks as they are
pub changed_told : (t : Tree) (w : BareWorld) (chosen : Record → Bool) (f : Record → Record) → ((r : Record) → (f r).key ≡ r.key) → ((r : Record) → (f r).hidden ≡ r.hidden) → AgreesHidden t w → AgreesHidden (change chosen f t) w
changed_told t w chosen f keys marks told r' is =
    let x = mapped_from t (λ (r : Record). if chosen r then f r else r) (λ r. both (chosen r) r (λ (y : Record). y.key) (keys r)) r' is in
    ap (λ (r : Record). r.hidden) x.2 ∙ hidden_too (chosen x.0) x.0 (marks x.0) ∙ told x.0 x.1 ∙ ap (is_hidden w) (sym (ap (λ (r : Record). r.key) x.2 ∙ both (chosen x.0) x.0 (λ (y : Record). y.key) (keys x.0)))
  where
    both : (b : Bool) (r : Record) (g : Record → Key) → g (f r) ≡ g r → g (cond b (f r) r) ≡ g r
    both true r g e = e
    both false r g e = refl

    hidden_too : (b : Bool) (r : Record) → (f r).hidden ≡ r.hidden → (cond b (f r) r).hidden ≡ r.hidden
    hidden_too true r e = e
    hidden_too false r e = refl

-- tree and callers agree if one key's record is hidden or shown as its caller moves, and no other changes
pub put_told : (t : Tree) (w w' : BareWorld) (key : Key) (b : Bool) → is_hidden w' key ≡ b → ((k : Key) → k ≢ key → is_hidden w' k ≡ is_hidden w k) → AgreesHidden t w → AgreesHidden (change (λ r. same_key r.key key) (hidden_record b) t) w'
put_told t w w' key b now others told r' is =
    let x = mapped_from t (λ (r : Record). if same_key r.key key then hidden_record b r else r) (λ r. its_key (same_key r.key key) r) r' is in
    let k : r'.key ≡ x.0.key = ap (λ (r : Record). r.key) x.2 ∙ its_key (same_key x.0.key key) x.0 in
    ap (λ (r : Record). r.hidden) x.2 ∙ elim (keys_tell x.0.key key) [
      | inl e ↦ ap (λ a. (cond a (hidden_record b x.0) x.0).hidden) e.0 ∙ sym now ∙ ap (is_hidden w') (sym (k ∙ e.1))
      | inr n ↦ ap (λ a. (cond a (hidden_record b x.0) x.0).hidden) n.0 ∙ told x.0 x.1 ∙ sym (others x.0.key n.1) ∙ ap (is_hidden w') (sym k)
    ]
  where
    its_key : (a : Bool) (r : Record) → (cond a (hidden_record b r) r).key ≡ r.key
    its_key true r = refl
    its_key false r = refl

-- a step of the caller of one key leaves the other keys as they are
pub elsewhere : (w : BareWorld) (c : ℕ) (key : Key) (from to : Phase) → IsCaller w c key from → (k : Key) → k ≢ key → is_hidden (with_phase w c key to) k ≡ is_hidden w k
elsewhere w c key from to there k ne = hides_set w.callers k c (caller key from) (caller key to) there
    (elim (keys_tell key k) [
      | inl e ↦ absurd (ne (sym e.1))
      | inr e ↦ ap (λ b. b && is_hiding to) e.0 ∙ sym (ap (λ b. b && is_hiding from) e.0)
    ])

pub hidden_now : (w : BareWorld) (c : ℕ) (key : Key) (from to : Phase) → IsCaller w c key from → is_hiding to ≡ true → is_hidden (with_phase w c key to) key ≡ true
hidden_now w c key from to there hides = hider_hidden (with_phase w c key to) c key to (slice_get-set_same w.callers c (caller key to) (slice_get_within w.callers c (caller key from) there)) hides

-- the only hider shows its node
pub shown_now : (w : BareWorld) (c : ℕ) (key : Key) (from to : Phase) → Safe w → IsCaller w c key from → is_hiding from ≡ true → is_hiding to ≡ false → is_hidden (with_phase w c key to) key ≡ false
shown_now w c key from to safe there hid shows = none_hides (with_phase w c key to) key (λ d p there' hides. elim (after_write w.callers c d (caller key to) (caller key p) there') [
  | inl x ↦ not_both (is_hiding p) hides (sym (ap (λ (y : Caller). is_hiding y.phase) x.1) ∙ shows)
  | inr x ↦ x.0 (sym (safe.one_hides c key from there hid d p x.1 hides))
])

pub born_told : (t : Tree) (w w' : BareWorld) (new : Record) → w'.callers ≡ w.callers → OnlySpent w new.key.slot → new.hidden ≡ false → AgreesHidden t w → AgreesHidden (slice_set t new.key.slot (Some new)) w'
born_told t w w' new same unheld shown told r is = elim (after_write t new.key.slot r.key.slot (Some new) (Some r) is) [
  | inl x ↦ (let e : new ≡ r = same_Some _ _ x.1 in
      ap (λ (y : Record). y.hidden) (sym e) ∙ shown ∙ sym (none_hides w r.key (λ c p there hides. hiding_holds p hides (unheld c r.key p there (sym x.0)))) ∙ sym (its r.key))
  | inr x ↦ told r x.1 ∙ sym (its r.key)
]
  where
    its : (k : Key) → is_hidden w' k ≡ is_hidden w k
    its k = ap (λ (cs : List Caller). is_hidden (let y : BareWorld = record { slots = w.slots; callers = cs } in y) k) same

pub taken_told : (t : Tree) (w : BareWorld) (slot : ℕ) (b : Bool) → AgreesHidden t w → AgreesHidden (cond b (slice_set t slot None) t) w
taken_told t w slot true told r is = elim (after_set t slot r.key.slot None (Some r) is) [
  | inl e ↦ absurd (none-some r e)
  | inr h ↦ told r h
]
taken_told t w slot false told r is = told r is

-- each record of the world is hidden if and only if a caller hides its key
abbrev pub Told : World → Type 0
Told w = AgreesHidden (tree w) (bare w)

step_told : (w : World) (e : Event) (w' : World) → Step w e w' → Safe (bare w) → Told w → Told w'
step_told w (Born key parent name node) w' s safe k = told_of w' (with_marks (bare w) key (Some fresh_marks)) _ s.bare_step.1 s.tree_step (born_told (tree w) (bare w) (with_marks (bare w) key (Some fresh_marks)) (new_record key parent name node false) refl s.bare_step.0.unheld refl k)
step_told w (Rise key) w' s safe k = told_of w' (with_marks (bare w) key (Some live_marks)) _ s.bare_step.1 s.tree_step (changed_told (tree w) (bare w) _ activated_record (λ _. refl) (λ _. refl) k)
step_told w (Mark key) w' s safe k = told_of w' (with_marks (bare w) key (Some (record { activated = s.bare_step.0.activated; doomed = true }))) _ s.bare_step.3 s.tree_step (changed_told (tree w) (bare w) _ doomed_record (λ _. refl) (λ _. refl) k)
step_told w (Move key dir name) w' s safe k = told_of w' (bare w) _ s.bare_step s.tree_step.1 (changed_told (tree w) (bare w) _ (moved_record dir name) (λ _. refl) (λ _. refl) k)
step_told w (Pin c key) w' s safe k = told_of w' (with_caller (bare w) key) _ s.bare_step.2 s.tree_step (λ r is. k r is ∙ sym (hides_push (bare w).callers r.key (caller key Still) (off (same_key key r.key))))
  where
    off : (b : Bool) → (b && false) ≡ false
    off true = refl
    off false = refl
step_told w (Enter c) w' s safe k = told_of w' _ _ s.bare_step.4 s.tree_step (moved_told (tree w) (bare w) c s.bare_step.0 s.bare_step.1 _ s.bare_step.2 (entered_shows (is_live (bare w) s.bare_step.0) ∙ sym (waiting_shows s.bare_step.1 s.bare_step.3)) k)
step_told w (Leave c) w' s safe k = told_of w' _ _ s.bare_step.4 s.tree_step (moved_told (tree w) (bare w) c s.bare_step.0 s.bare_step.1 Still s.bare_step.2 (sym (reference_shows s.bare_step.1 s.bare_step.3)) k)
step_told w (Break c) w' s safe k = told_of w' _ _ s.bare_step.2 s.tree_step (moved_told (tree w) (bare w) c s.bare_step.0 Running Broken s.bare_step.1 refl k)
step_told w (Restore c) w' s safe k = told_of w' _ _ s.bare_step.2 s.tree_step (moved_told (tree w) (bare w) c s.bare_step.0 Broken Restored s.bare_step.1 refl k)
step_told w (Look c) w' s safe k = told_of w' _ _ s.bare_step.1 s.tree_step (moved_told (tree w) (bare w) c s.bare_step.0.key s.bare_step.0.phase Drained s.bare_step.0.there (sym (waiting_shows s.bare_step.0.phase s.bare_step.0.waits)) k)
step_told w (Unlink c) w' s safe k = told_of w' (with_marks (bare w) s.bare_step.0 None) _ s.bare_step.3 s.tree_step.4 (taken_told (tree w) (bare w) s.tree_step.0.slot (is_linked (tree w) s.tree_step.0) k)
step_told w (Part c) w' s safe k = told_of w' _ _ s.bare_step.1 s.tree_step (moved_told (tree w) (bare w) c s.bare_step.0.key Drained Parted s.bare_step.0.there refl k)
step_told w (Hide c) w' s safe k =
    let may = s.bare_step.0 in
    let same : s.tree_step.0 ≡ may.key = (one_key (bare w) c s.tree_step.0 may.key s.tree_step.1 may.phase s.tree_step.2 may.there).0 in
    told_of w' _ _ s.bare_step.1 s.tree_step.3 (subst (λ (x : Key). AgreesHidden (change (λ r. same_key r.key x) (hidden_record true) (tree w)) (with_phase (bare w) c may.key Hiding)) (sym same)
    (put_told (tree w) (bare w) (with_phase (bare w) c may.key Hiding) may.key true (hidden_now (bare w) c may.key may.phase Hiding may.there refl) (elsewhere (bare w) c may.key may.phase Hiding may.there) k))
step_told w (LookHidden c) w' s safe k = told_of w' _ _ s.bare_step.1 s.tree_step (moved_told (tree w) (bare w) c s.bare_step.0.key Hiding Hidden s.bare_step.0.there refl k)
step_told w (Show c) w' s safe k =
    let key : Key = s.bare_step.0 in
    let same : s.tree_step.0 ≡ s.bare_step.0 = (one_key (bare w) c s.tree_step.0 s.bare_step.0 s.tree_step.1 Hidden s.tree_step.2 s.bare_step.1).0 in
    told_of w' _ _ s.bare_step.2 s.tree_step.3 (subst (λ (x : Key). AgreesHidden (change (λ r. same_key r.key x) (hidden_record false) (tree w)) (with_phase (bare w) c s.bare_step.0 Still)) (sym same)
    (put_told (tree w) (bare w) (with_phase (bare w) c s.bare_step.0 Still) s.bare_step.0 false (shown_now (bare w) c s.bare_step.0 Hidden Still safe s.bare_step.1 refl refl) (elsewhere (bare w) c s.bare_step.0 Hidden Still s.bare_step.1) k))
step_told w (Release c) w' s safe k = told_of w' _ _ s.bare_step.4 s.tree_step (moved_told (tree w) (bare w) c s.bare_step.0 s.bare_step.1 Spent s.bare_step.2 (sym (idle_shows s.bare_step.1 s.bare_step.3)) k)
step_told w (Undo c) w' s safe k = told_of w' _ _ s.bare_step s.tree_step k

run_told : (events : List Event) (w w' : World) → Run w events w' → Safe (bare w) → Told w → Told w'
run_told [] w w' r safe k = subst Told (sym r) k
run_told (e ∷ es) w w' r safe k = run_told es r.0 w' r.2 (step_keeps (bare w) e (bare r.0) safe r.1.bare_step) (step_told w e r.0 r.1 safe k)

opening_told : (count start : ℕ) → Told (opening count start)
opening_told zero start r is = absurd (none-some _ is)
opening_told (suc n) start r is = at r.key.slot is
  where
    at : (slot : ℕ) → slice_get (tree (opening (suc n) start)) slot ≡ Some (Some r) → r.hidden ≡ false
    at zero h = ap (λ (x : Record). x.hidden) (sym (same_Some _ _ (same_Some _ _ h)))
    at (suc slot) h = absurd (no_record n start slot r h)

-- in every run a record is hidden if and only if a caller hides its key
pub run_tells_hidden : (count start : ℕ) (events : List Event) (w : World) → Run (opening count start) events w → AgreesHidden (tree w) (bare w)
run_tells_hidden count start events w r = run_told events (opening count start) w r (opening_safe count start) (opening_told count start)
