-- Each step of a caller is the next step of the one run. The step says so, and it also says what the caller's
-- view is after it.
use Rattle.std.proofs.Common.{◌≡◌, ℕ, suc, ◌<◌, Bool, true, false, List, [], ◌∷◌, ◌++◌, length, if◌then◌else◌, refl, sym, ap, ◌∙◌, subst, append_assoc}
use Rattle.std.specs.Prelude.{slice_index}
use mathlib.Core.Option.{some, some-injective}
use lib.ListN.{get_elem?}
use Rattle.atomic_table.specs.Table.{Allows, stepped, keeps}
use Rattle.kf_core.specs.declared.caller.Phase.{Phase}
use Rattle.kf_core.specs.declared.caller.Phase.TheVariants.{Turned, Running, Broken, Drained, Hiding, Hidden}
use Rattle.kf_core.specs.Phases.{may_release}
use Rattle.kf_core.specs.Bare.{BareWorld, IsCaller}
use Rattle.kf_words.specs.declared.sight.Opening.{Opening}
use Rattle.kf_words.specs.declared.sight.Seen.{Seen}
use Rattle.kf_words.specs.declared.sight.Sight.{Sight}
use Rattle.kf_words.specs.declared.view.CallerView.{CallerView}
use Rattle.kf_words.specs.declared.view.View.{View}
use Rattle.kf_words.specs.declared.view.View.TheVariants as seat
use Rattle.kf_words.specs.Layout.{hide, active_index, hold_index, sleepers_index, keeps_out, is_drained, is_unused, has_linked}
use Rattle.kf_words.specs.Rule.{Shown, bare_world}
use Rattle.kf_words.specs.Steps.{Seated, Sighted, plain, caller_of, after_try, after_undo, after_leave, after_break, after_restore, after_look, after_part, after_hide, after_look_hidden, after_show, after_release, unmoved, CallerBecomes, ShowsKey}
use Rattle.kf_words.specs.Callers.{CallerSight, caller_sight, IsAtRest, HasReference, IsInPhase}
use Rattle.kf_words.specs.TableSteps.{Table, world, StepKind, tries, undoes, leaves, breaks, restores, looks, parts, hides, looks_hidden, shows, releases, sleeps, awakes, loads_sleepers, plus, minus, same, with_hide, Plays, CallerPlays, IsSeated, WordStep}
use Rattle.kf_words.specs.History.{erased, Kept}
use Rattle.kf_words.specs.Made.{WasLetInLive, WasMade, WasUndone, WasReleasedAt, WasFound, LoadedSleepers, WakeSpent}
use Rattle.kf_words.proofs.Seating.{caller_seat}
use Rattle.kf_words.proofs.WordSteps.{word_step, world_is, at_seat, in_world}
use Rattle.kf_words.proofs.Runs.{let_in_live}
use Rattle.kf_words.proofs.Keeps.{view_there, between, now_seen, is_now, step_kept, led_here, shown_here}
use Rattle.kf_words.proofs.Noted.{put}
use Rattle.kf_words.specs.Notes.{note_of}
use Rattle.kf_words.proofs.CallerAllowed.{no_step, show_allowed}

-- a step of this kind adds no note
abbrev pub IsQuiet : (ℕ → StepKind) → Type 0
IsQuiet kind = (j : ℕ) → note_of (kind j) ≡ []

-- what is said of a step on word i: it is the caller's word of this index, `told` is true of the new view,
-- and the step was made
abbrev pub MadeAt : (ℕ → ℕ) → ℕ → Sighted → (ℕ → StepKind) → (ℕ → Seated → Type 0) → ℕ → Sighted → Type 0
MadeAt index i me kind told n me' = (i ≡ index (caller_of me.0.view).key.slot) × (told n (plain me') × WasMade kind (caller_sight me.0) (caller_sight me'.0))

module _ (o : Opening) (homes id : ℕ) (me : Sighted) (i : ℕ) (is : plain me ≡ (seat.Caller (caller_of me.0.view), [])) where
  abbrev me_c : CallerView
  me_c = caller_of me.0.view

  -- the step found this word
  abbrev MadeFinding : (ℕ → StepKind) → ℕ → CallerSight → Type 0
  MadeFinding kind n s' = (m : WasMade kind (caller_sight me.0) s') × (slice_index m.found.words i ≡ n)

  -- in each table that meets the rule, `told` is true of the word that the step finds and the caller's view
  -- after it
  abbrev Tells : (ℕ → CallerView → CallerView) → (ℕ → Seated → Type 0) → Type 0
  Tells aft told = (t : Table) → Shown o.slots o.holds t → length t.homes ≡ homes → get_elem? t.views id ≡ some me.0.view → slice_index t.words i < 18446744073709551616
      → told (slice_index t.words i) (seat.Caller (aft (slice_index t.words i) me_c), me.1)

  finding : (kind : ℕ → StepKind) → IsQuiet kind → (f : ℕ → ℕ) (aft : ℕ → CallerView → CallerView) (told : ℕ → Seated → Type 0) → Tells aft told
      → ((t t' : Table) (j : ℕ) → Plays t (suc j) i f (seat.Caller me_c) (seat.Caller (aft (slice_index t.words i) me_c)) t' → WordStep t (kind j) t')
      → Allows (Kept o) homes id me i f (λ n me'. told n (plain me') × MadeFinding kind n (caller_sight me'.0))
  finding kind quiet f aft told tells makes t h far at small =
      let e : Table = erased t in
      let n : ℕ = slice_index t.words i in
      let c' : CallerView = aft n me_c in
      let own : get_elem? e.views id ≡ some me.0.view = view_there t.views id me.0 at in
      let at' : get_elem? e.views id ≡ some (seat.Caller me_c) = own ∙ ap (λ (x : Seated). some x.0) is in
      let p = caller_seat h.shown.master h.shown.callers id me_c (subst (λ (l : List View). get_elem? l id ≡ some (seat.Caller me_c)) h.shown.views at') in
      let j : ℕ = p.0 in
      let there : IsSeated e j me_c = subst (λ (k : ℕ). get_elem? e.views k ≡ some (seat.Caller me_c)) p.1 at' in
      let e' : Table = stepped e i (f n) (suc j) [] (seat.Caller c') keeps in
      let step : WordStep e (kind j) e' = makes e e' j (record { there = there; fits = small; becomes = refl }) in
      let after : Sight = record { view = seat.Caller c'; seen = now_seen o t h id me.0 at (kind j); shown = me.0.shown } in (
        after,
        keeps,
        tt,
        step_kept o t h id me.0 at i (f n) after (kind j)
            (subst (λ (k : ℕ). WordStep e (kind j) (stepped e i (f n) k [] (seat.Caller c') keeps)) (sym p.1) step)
            (is_now o t h id me.0 at (kind j))
            (λ _. quiet j)
            refl,
        (
          tells e h.shown far own small,
          (
            record {
              between = between o t h id me.0 at;
              found = e;
              left = e';
              caller = j;
              run = led_here o t h id me.0 at;
              shown = shown_here o t h id me.0 at;
              step = step;
              was = there;
              is = put e.views (suc j) (seat.Caller me_c) (seat.Caller c') there;
              seen = refl;
            },
            refl,
          ),
        ),
      )

  made : (kind : ℕ → StepKind) → IsQuiet kind → (f : ℕ → ℕ) (aft : ℕ → CallerView → CallerView) (told : ℕ → Seated → Type 0) → Tells aft told
      → ((t t' : Table) (j : ℕ) → Plays t (suc j) i f (seat.Caller me_c) (seat.Caller (aft (slice_index t.words i) me_c)) t' → WordStep t (kind j) t')
      → Allows (Kept o) homes id me i f (λ n me'. told n (plain me') × WasMade kind (caller_sight me.0) (caller_sight me'.0))
  made kind quiet f aft told tells makes t h far at small =
      let r = finding kind quiet f aft told tells makes t h far at small in
      (r.0, r.1, r.2, r.3, (r.4.0, r.4.1.0))

-- any true statement may be added to what is said of a step
on_kept : (o : Opening) (homes id : ℕ) (me : Sighted) (i : ℕ) (f : ℕ → ℕ) (told : ℕ → Sighted → Type 0) (Is : Type 0) → Is
    → Allows (Kept o) homes id me i f told → Allows (Kept o) homes id me i f (λ n me'. Is × told n me')
on_kept o homes id me i f told Is is allowed t h far at small = let r = allowed t h far at small in (r.0, r.1, r.2, r.3, (is, r.4))

-- the same for a step on a word in the caller's slot, which is given by its index
step_made : (o : Opening) (homes id : ℕ) (me : Sighted) (i : ℕ) (is : plain me ≡ (seat.Caller (caller_of me.0.view), [])) (index : ℕ → ℕ) → index (caller_of me.0.view).key.slot ≡ i
    → (kind : ℕ → StepKind) → IsQuiet kind → (f : ℕ → ℕ) (aft : ℕ → CallerView → CallerView) (told : ℕ → Seated → Type 0) → Tells o homes id me (index (caller_of me.0.view).key.slot) is aft told
    → ((t t' : Table) (j : ℕ) → (let k : ℕ = index (caller_of me.0.view).key.slot in Plays t (suc j) k f (seat.Caller (caller_of me.0.view)) (seat.Caller (aft (slice_index t.words k) (caller_of me.0.view))) t') → WordStep t (kind j) t')
    → Allows (Kept o) homes id me i f (MadeAt index i me kind told)
step_made o homes id me i is index its kind quiet f aft told tells makes =
    let k : ℕ = index (caller_of me.0.view).key.slot in
    let Told : ℕ → Sighted → Type 0 = λ n me'. told n (plain me') × WasMade kind (caller_sight me.0) (caller_sight me'.0) in
    on_kept o homes id me i f Told (i ≡ k) (sym its)
    (subst (λ (x : ℕ). Allows (Kept o) homes id me x f Told) its (made o homes id me k is kind quiet f aft told tells makes))

-- each step on the active word
module _ (o : Opening) (homes id : ℕ) (me : Sighted) (i : ℕ) (is : plain me ≡ (seat.Caller (caller_of me.0.view), [])) (its : active_index (caller_of me.0.view).key.slot ≡ i) where
  abbrev at_c : CallerView
  at_c = caller_of me.0.view

  pub try_made : IsAtRest at_c → Allows (Kept o) homes id me i (plus 1) (MadeAt active_index i me tries (CallerBecomes after_try no_step (plain me)))
  try_made may = step_made o homes id me i is active_index its tries (λ j. refl) (plus 1) after_try (CallerBecomes after_try no_step (plain me))
      (λ t h far at small. refl) (λ t t' j p. (at_c, may, p))

  pub undo_made : at_c.phase ≡ Turned → at_c.undo_due ≡ true → Allows (Kept o) homes id me i (minus 1)
      (λ n me'. (i ≡ active_index at_c.key.slot) × (CallerBecomes (λ _. after_undo) no_step (plain me) n (plain me') × WasUndone (caller_sight me.0) (caller_sight me'.0) n))
  undo_made turned due =
      let told : ℕ → Seated → Type 0 = CallerBecomes (λ _. after_undo) no_step (plain me) in
      let at : ℕ = active_index at_c.key.slot in
      let Told : ℕ → Sighted → Type 0 = λ n me'. told n (plain me') × WasUndone (caller_sight me.0) (caller_sight me'.0) n in
      on_kept o homes id me i (minus 1) Told (i ≡ at) (sym its)
      (subst (λ (k : ℕ). Allows (Kept o) homes id me k (minus 1) Told) its
      (finding o homes id me at is undoes (λ j. refl) (minus 1) (λ _. after_undo) told (λ t h far at small. refl) (λ t t' j p. (at_c, (turned, due), p))))

  pub leave_made : HasReference at_c → Allows (Kept o) homes id me i (minus 1) (MadeAt active_index i me leaves (CallerBecomes after_leave no_step (plain me)))
  leave_made may = step_made o homes id me i is active_index its leaves (λ j. refl) (minus 1) after_leave (CallerBecomes after_leave no_step (plain me))
      (λ t h far at small. refl) (λ t t' j p. (at_c, may, p))

  pub break_made : IsInPhase Running at_c → Allows (Kept o) homes id me i (minus 1) (MadeAt active_index i me breaks (CallerBecomes after_break no_step (plain me)))
  break_made may = step_made o homes id me i is active_index its breaks (λ j. refl) (minus 1) after_break (CallerBecomes after_break no_step (plain me))
      (λ t h far at small. refl) (λ t t' j p. (at_c, may, p))

  pub restore_made : IsInPhase Broken at_c → Allows (Kept o) homes id me i (plus 1) (MadeAt active_index i me restores (CallerBecomes after_restore no_step (plain me)))
  restore_made may = step_made o homes id me i is active_index its restores (λ j. refl) (plus 1) after_restore (CallerBecomes after_restore no_step (plain me))
      (λ t h far at small. refl) (λ t t' j p. (at_c, may, p))

  pub look_made : IsAtRest at_c → Allows (Kept o) homes id me i same (MadeAt active_index i me looks (CallerBecomes after_look no_step (plain me)))
  look_made may = step_made o homes id me i is active_index its looks (λ j. refl) same after_look (CallerBecomes after_look no_step (plain me))
      (λ t h far at small. refl) (λ t t' j p. (at_c, may, p))

  pub hide_made : IsAtRest at_c → Allows (Kept o) homes id me i with_hide (MadeAt active_index i me hides (CallerBecomes after_hide no_step (plain me)))
  hide_made may = step_made o homes id me i is active_index its hides (λ j. refl) with_hide after_hide (CallerBecomes after_hide no_step (plain me))
      (λ t h far at small. refl) (λ t t' j p. (at_c, may, p))

  pub look_hidden_made : IsInPhase Hiding at_c → Allows (Kept o) homes id me i same (MadeAt active_index i me looks_hidden (CallerBecomes after_look_hidden no_step (plain me)))
  look_hidden_made may = step_made o homes id me i is active_index its looks_hidden (λ j. refl) same after_look_hidden (CallerBecomes after_look_hidden no_step (plain me))
      (λ t h far at small. refl) (λ t t' j p. (at_c, may, p))

  pub show_made : IsInPhase Hidden at_c → Allows (Kept o) homes id me i (minus hide) (MadeAt active_index i me shows (ShowsKey no_step (plain me)))
  show_made may = step_made o homes id me i is active_index its shows (λ j. refl) (minus hide) after_show (ShowsKey no_step (plain me))
      (λ t h far at small. (refl, (show_allowed o.slots o.holds homes id (plain me) (active_index at_c.key.slot) is refl may t h far at small).4.1)) (λ t t' j p. (at_c, may, p))

-- each step on the hold word
module _ (o : Opening) (homes id : ℕ) (me : Sighted) (i : ℕ) (is : plain me ≡ (seat.Caller (caller_of me.0.view), [])) (its : hold_index (caller_of me.0.view).key.slot ≡ i) where
  abbrev on_c : CallerView
  on_c = caller_of me.0.view

  pub part_made : IsInPhase Drained on_c → Allows (Kept o) homes id me i same (MadeAt hold_index i me parts (CallerBecomes after_part no_step (plain me)))
  part_made may = step_made o homes id me i is hold_index its parts (λ j. refl) same after_part (CallerBecomes after_part no_step (plain me))
      (λ t h far at small. refl) (λ t t' j p. (on_c, may, p))

  pub release_made : may_release on_c.phase ≡ true → on_c.undo_due ≡ false → Allows (Kept o) homes id me i (minus 1) (MadeAt hold_index i me releases (CallerBecomes after_release no_step (plain me)))
  release_made idles settled = step_made o homes id me i is hold_index its releases (λ j. refl) (minus 1) after_release (CallerBecomes after_release no_step (plain me))
      (λ t h far at small. refl) (λ t t' j p. (on_c, (idles, settled), p))

  -- a release, with the greatest number of holds of a slot given
  pub release_of_made : may_release on_c.phase ≡ true → on_c.undo_due ≡ false → (most : ℕ) → most ≡ o.holds
      → Allows (Kept o) homes id me i (minus 1) (λ n me'. (i ≡ hold_index on_c.key.slot)
      × (CallerBecomes after_release no_step (plain me) n (plain me') × WasReleasedAt (caller_sight me.0) (caller_sight me'.0) n) × (most ≡ me.0.seen.opening.holds))
  release_of_made idles settled most named t h far at small =
      let told : ℕ → Seated → Type 0 = CallerBecomes after_release no_step (plain me) in
      let here : ℕ = hold_index on_c.key.slot in
      let Told : ℕ → Sighted → Type 0 = λ n me'. told n (plain me') × WasReleasedAt (caller_sight me.0) (caller_sight me'.0) n in
      let made : Allows (Kept o) homes id me i (minus 1) Told = subst (λ (k : ℕ). Allows (Kept o) homes id me k (minus 1) Told) its
      (finding o homes id me here is releases (λ j. refl) (minus 1) after_release told (λ t h far at small. refl) (λ t t' j p. (on_c, (idles, settled), p))) in
      let r = made t h far at small in
      (r.0, r.1, r.2, r.3, (sym its, r.4, named ∙ ap (λ (x : Opening). x.holds) (sym (h.seen id me.0 at).0)))

-- each step on the count of sleepers at the caller's slot
module _ (o : Opening) (homes id : ℕ) (me : Sighted) (i : ℕ) (is : plain me ≡ (seat.Caller (caller_of me.0.view), [])) (its : sleepers_index (caller_of me.0.view).key.slot ≡ i) where
  abbrev by_c : CallerView
  by_c = caller_of me.0.view

  pub sleep_made : Allows (Kept o) homes id me i (plus 1) (MadeAt sleepers_index i me (sleeps by_c.key.slot) (CallerBecomes unmoved no_step (plain me)))
  sleep_made = step_made o homes id me i is sleepers_index its (sleeps by_c.key.slot) (λ j. refl) (plus 1) unmoved (CallerBecomes unmoved no_step (plain me))
      (λ t h far at small. refl) (λ t t' j p. (by_c, refl, p))

  pub awake_made : Allows (Kept o) homes id me i (minus 1) (MadeAt sleepers_index i me (awakes by_c.key.slot) (CallerBecomes unmoved no_step (plain me)))
  awake_made = step_made o homes id me i is sleepers_index its (awakes by_c.key.slot) (λ j. refl) (minus 1) unmoved (CallerBecomes unmoved no_step (plain me))
      (λ t h far at small. refl) (λ t t' j p. (by_c, refl, p))

  pub sleepers_load_made : Allows (Kept o) homes id me i same
      (λ n me'. (i ≡ sleepers_index by_c.key.slot) × (CallerBecomes unmoved no_step (plain me) n (plain me') × LoadedSleepers (caller_sight me.0) (caller_sight me'.0) n))
  sleepers_load_made =
      let told : ℕ → Seated → Type 0 = CallerBecomes unmoved no_step (plain me) in
      let at : ℕ = sleepers_index by_c.key.slot in
      let Told : ℕ → Sighted → Type 0 = λ n me'. told n (plain me') × LoadedSleepers (caller_sight me.0) (caller_sight me'.0) n in
      on_kept o homes id me i same Told (i ≡ at) (sym its)
      (subst (λ (k : ℕ). Allows (Kept o) homes id me k same Told) its
      (finding o homes id me at is (loads_sleepers by_c.key.slot) (λ j. refl) same unmoved told (λ t h far at small. refl) (λ t t' j p. (by_c, refl, p))))

-- the word that a caller's step finds is in its view after the step
module _ (before after : CallerSight) (kind : ℕ → StepKind) (x : WasMade kind before after) where
  step_found : (aft : ℕ → CallerView → CallerView) (May : CallerView → Type 0) (index : ℕ → ℕ) (f : ℕ → ℕ) → ((n : ℕ) (c : CallerView) → (aft n c).found ≡ n)
      → CallerPlays aft May index f x.found x.caller x.left → WasFound before after (index before.view.key.slot) after.view.found
  step_found aft May index f keeps_found s =
      let c : CallerView = s.0 in
      let n : ℕ = slice_index x.found.words (index c.key.slot) in
      let same_seat : seat.Caller c ≡ seat.Caller before.view = some-injective _ _ (sym s.2.there ∙ x.was) in
      let same_view : c ≡ before.view = cc in
      let new : get_elem? x.left.views (suc x.caller) ≡ some (seat.Caller (aft n c)) = ap (λ (y : Table). get_elem? y.views (suc x.caller)) s.2.becomes ∙ put x.found.views (suc x.caller) (seat.Caller c) (seat.Caller (aft n c)) s.2.there in
      let same_new : seat.Caller (aft n c) ≡ seat.Caller after.view = some-injective _ _ (sym new ∙ x.is) in
      let is_after : aft n c ≡ after.view = cc in
      record {
        between = x.between;
        later = kind x.caller ∷ [];
        table = x.found;
        caller = x.caller;
        run = x.run;
        there = x.was;
        as_found = ap (λ (y : CallerView). slice_index x.found.words (index y.key.slot)) (sym same_view) ∙ sym (keeps_found n c) ∙ ap (λ (y : CallerView). y.found) is_after;
        goes_on = x.seen;
      }

-- the word that was found is in the view, whichever of its two outcomes the step has
pub either_found : (b : Bool) (x y : CallerView) (n : ℕ) → x.found ≡ n → y.found ≡ n → (if b then x else y).found ≡ n
either_found true x y n p q = p
either_found false x y n p q = q

pub look_found : (before after : CallerSight) → WasMade looks before after → WasFound before after (active_index before.view.key.slot) after.view.found
look_found before after x = step_found before after looks x after_look IsAtRest active_index same (λ n c. either_found (is_drained n) _ _ n refl refl) x.step

pub part_found : (before after : CallerSight) → WasMade parts before after → WasFound before after (hold_index before.view.key.slot) after.view.found
part_found before after x = step_found before after parts x after_part (IsInPhase Drained) hold_index same (λ n c. either_found (has_linked n) _ _ n refl refl) x.step

pub look_hidden_found : (before after : CallerSight) → WasMade looks_hidden before after → WasFound before after (active_index before.view.key.slot) after.view.found
look_hidden_found before after x = step_found before after looks_hidden x after_look_hidden (IsInPhase Hiding) active_index same (λ n c. either_found (is_unused n) _ _ n refl refl) x.step

pub try_found : (before after : CallerSight) → WasMade tries before after → WasFound before after (active_index before.view.key.slot) after.view.found
try_found before after x = step_found before after tries x after_try IsAtRest active_index (plus 1) (λ n c. either_found (keeps_out n) _ _ n refl refl) x.step

-- what an earlier step found is still in the view after one more step of the seat, if this step leaves it
-- there
pub found_later : (before between after : CallerSight) (kind : ℕ → StepKind) (word : ℕ) → WasFound before between word between.view.found → WasMade kind between after → after.view.found ≡ between.view.found
    → WasFound before after word after.view.found
found_later before middle after kind word f x same =
    let log : List StepKind = before.seen.steps ++ f.between in
    let more : List StepKind = x.between ++ kind x.caller ∷ [] in
    record {
      between = f.between;
      later = f.later ++ more;
      table = f.table;
      caller = f.caller;
      run = f.run;
      there = f.there;
      as_found = f.as_found ∙ sym same;
      goes_on = x.seen
          ∙ ap (λ (s : Seen). let y : Seen = record { opening = s.opening; steps = (s.steps ++ x.between) ++ kind x.caller ∷ [] } in y) f.goes_on
          ∙ ap (λ (l : List StepKind). let y : Seen = record { opening = before.seen.opening; steps = l } in y)
          (append_assoc (log ++ f.later) x.between (kind x.caller ∷ []) ∙ append_assoc log f.later more);
    }

-- the same if the seat has spent the wake that it owed
pub found_spent : (before middle after : CallerSight) (word : ℕ) (wanted : Bool) → WasFound before middle word middle.view.found → WakeSpent wanted middle after → after.view.found ≡ middle.view.found
    → WasFound before after word after.view.found
found_spent before middle after word true f x same = found_later before middle after (loads_sleepers middle.view.key.slot) word f x.1.0 same
found_spent before middle after word false f x same = subst (λ (s : CallerSight). WasFound before s word s.view.found) (sym x) f

-- a try that let its caller run found the caller's key live
pub was_live : (before after : CallerSight) → WasMade tries before after → after.view.phase ≡ Running → WasLetInLive before after
was_live before after x runs =
    let slots : ℕ = before.seen.opening.slots in
    let limit : ℕ = before.seen.opening.holds in
    let h = (word_step slots limit x.found (tries x.caller) x.left x.shown x.step).0 in
    let at = at_seat h.callers x.caller after.view (subst (λ (l : List View). get_elem? l (suc x.caller) ≡ some (seat.Caller after.view)) h.views x.is) in
    let there : IsCaller (world x.left) x.caller after.view.key Running = subst (λ (w : BareWorld). IsCaller w x.caller after.view.key Running) (sym (world_is x.left h.master h.callers h.views))
    (subst (λ (p : Phase). IsCaller (bare_world h.master h.callers) x.caller after.view.key p) runs (in_world h.callers x.caller after.view at)) in
    record {
      try = x;
      live = let_in_live slots limit x.found x.found [] x.shown refl x.caller after.view.key x.left x.step there;
    }
