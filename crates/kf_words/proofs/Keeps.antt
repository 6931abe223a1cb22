-- A step of the one run keeps the rule: the run goes on with this step, and the seat that makes it has then
-- seen the whole run.
use Rattle.std.proofs.Common.{◌≡◌, ◌≢◌, ℕ, zero, suc, List, [], ◌∷◌, ◌++◌, map, set, refl, sym, ap, ◌∙◌, subst, ⊎_elim, append_assoc}
use Rattle.std.proofs.lemmas.List.{append-nil}
use mathlib.Core.Option.{some, some-ne-none, some-injective}
use mathlib.Core.List.{IsPrefix, map-append}
use lib.ListN.{get_elem?}
use lib.Seq.{map-set}
use Rattle.atomic_table.specs.Table.{stepped, keeps}
use Rattle.atomic_table.proofs.Lists.{at_set, at_snoc, set_again}
use Rattle.kf_words.specs.declared.sight.Opening.{Opening}
use Rattle.kf_words.specs.declared.sight.Seen.{Seen}
use Rattle.kf_words.specs.declared.sight.Sight.{Sight}
use Rattle.kf_words.specs.declared.view.View.{View}
use Rattle.kf_words.specs.Rule.{Shown}
use Rattle.kf_words.specs.Notes.{note_of, notes_of, history_of}
use Rattle.kf_words.proofs.Noted.{quiet_after, notes_more, nothing_more, first_stays, put}
use Rattle.kf_words.specs.TableSteps.{Table, StepKind, WordStep, WordRun}
use Rattle.kf_words.specs.History.{SeenTable, erased, opened_as, IsBeginning, Kept}
use Rattle.kf_words.proofs.WordSteps.{word_step}

pub prefix_self : {A : Type 0} (xs : List A) → IsPrefix xs xs
prefix_self xs = ([], append-nil xs)

pub prefix_more : {A : Type 0} (xs log more : List A) → IsPrefix xs log → IsPrefix xs (log ++ more)
prefix_more xs log more p = (p.0 ++ more, sym (append_assoc xs p.0 more) ∙ ap (λ w. w ++ more) p.1)

-- a run followed by one more step
pub run_snoc : (kinds : List StepKind) (t u v : Table) (kind : StepKind) → WordRun t kinds u → WordStep u kind v → WordRun t (kinds ++ kind ∷ []) v
run_snoc [] t u v kind r s = (v, subst (λ (x : Table). WordStep x kind v) r s, refl)
run_snoc (k ∷ ks) t u v kind r s = (r.0, r.1, run_snoc ks r.0 u v kind r.2 s)

-- a run of two lists of steps is a run of the first, followed by a run of the second
pub run_parts : (first rest : List StepKind) (t u : Table) → WordRun t (first ++ rest) u → (mid : Table) × WordRun t first mid × WordRun mid rest u
run_parts [] rest t u r = (t, refl, r)
run_parts (k ∷ ks) rest t u r = let p = run_parts ks rest r.0 u r.2 in (p.0, (r.0, r.1, p.1), p.2)

-- a seat has the same view in the table without what the seats have seen
pub view_there : (views : List Sight) (place : ℕ) (s : Sight) → get_elem? views place ≡ some s → get_elem? (map (λ (x : Sight). x.view) views) place ≡ some s.view
view_there [] place s e = absurd (some-ne-none s (sym e))
view_there (x ∷ xs) zero s e = ap (λ (y : Sight). some y.view) (some-injective x s e)
view_there (x ∷ xs) (suc place) s e = view_there xs place s e

module _ (o : Opening) (t : SeenTable) (h : Kept o t) (id : ℕ) (before : Sight) (at : get_elem? t.views id ≡ some before) where
  -- the run so far is what the seat had seen, followed by these steps
  abbrev pub between : List StepKind
  between = (h.seen id before at).1.0

  pub so_far : before.seen.steps ++ between ≡ h.log
  so_far = (h.seen id before at).1.1

  -- what the seat has seen after a step of this kind
  abbrev pub now_seen : StepKind → Seen
  now_seen kind = record { opening = before.seen.opening; steps = (before.seen.steps ++ between) ++ kind ∷ [] }

  -- this is a beginning of the run after such a step, and in the Master's case it has all notes of that run
  abbrev IsNow : StepKind → Seen → Type 0
  IsNow kind seen = IsBeginning o seen (h.log ++ kind ∷ []) × (id ≡ 0 → history_of seen ≡ notes_of (h.log ++ kind ∷ []))

  pub is_now : (kind : StepKind) → IsNow kind (now_seen kind)
  is_now kind = (
    ((h.seen id before at).0, subst (λ (l : List StepKind). IsPrefix (l ++ kind ∷ []) (h.log ++ kind ∷ [])) (sym so_far) (prefix_self (h.log ++ kind ∷ []))),
    λ _. ap (λ (l : List StepKind). notes_of (l ++ kind ∷ [])) so_far,
  )

  -- what the Master had seen has all notes of the run
  pub all_notes : id ≡ 0 → history_of before.seen ≡ notes_of h.log
  all_notes first = h.notes before (subst (λ (k : ℕ). get_elem? t.views k ≡ some before) first at)

  pub still_before : (kind : StepKind) → note_of kind ≡ [] → IsNow kind before.seen
  still_before kind quiet = let b = h.seen id before at in (
    (b.0, prefix_more before.seen.steps h.log (kind ∷ []) b.1),
    λ first. all_notes first ∙ sym (quiet_after h.log kind quiet),
  )

  -- the steps that the Master had not seen add no notes
  pub alone : id ≡ 0 → notes_of between ≡ []
  alone first = nothing_more (notes_of before.seen.steps) (notes_of between) (sym (notes_more before.seen.steps between) ∙ ap notes_of so_far ∙ sym (all_notes first))

  -- it makes no difference whether what the seats have seen is dropped before the step or after it
  same_erased : (i n : ℕ) (after : Sight) → erased (stepped t i n id [] after keeps) ≡ stepped (erased t) i n id [] after.view keeps
  same_erased i n after = ap (λ (l : List View). let x : Table = record { words = set t.words i n; homes = t.homes; views = l } in x) (map-set (λ (s : Sight). s.view) t.views id after)

  -- what each seat has seen is a beginning of the longer run
  see : (kind : StepKind) (after : Sight) → IsBeginning o after.seen (h.log ++ kind ∷ []) → (views : List Sight) → views ≡ set t.views id after
      → (place : ℕ) (s : Sight) → get_elem? views place ≡ some s → IsBeginning o s.seen (h.log ++ kind ∷ [])
  see kind after mine views is place s e = ⊎_elim
      (λ (x : (place ≡ id) × (after ≡ s)). subst (λ (y : Sight). IsBeginning o y.seen (h.log ++ kind ∷ [])) x.1 mine)
      (λ (x : (place ≢ id) × (get_elem? t.views place ≡ some s)). let b = h.seen place s x.1 in (b.0, prefix_more s.seen.steps h.log (kind ∷ []) b.1))
      (at_set t.views id place after s (ap (λ (l : List Sight). get_elem? l place) (sym is) ∙ e))

  -- what the Master has seen has all notes of the longer run
  noted : (kind : StepKind) (after : Sight) → IsNow kind after.seen → (id ≢ 0 → note_of kind ≡ []) → (m : Sight) → get_elem? (set t.views id after) 0 ≡ some m → history_of m.seen ≡ notes_of (h.log ++ kind ∷ [])
  noted kind after mine others m e = ⊎_elim
      (λ (x : (0 ≡ id) × (after ≡ m)). subst (λ (y : Sight). history_of y.seen ≡ notes_of (h.log ++ kind ∷ [])) x.1 (mine.1 (sym x.0)))
      (λ (x : (0 ≢ id) × (get_elem? t.views 0 ≡ some m)). h.notes m x.1 ∙ sym (quiet_after h.log kind (others (λ f. x.0 (sym f)))))
      (at_set t.views id 0 after m e)

  -- what each seat was shown is a beginning of the longer run
  still_told : (kind : StepKind) (after : Sight) → after.shown ≡ before.shown → (place : ℕ) (s : Sight) → get_elem? (set t.views id after) place ≡ some s → IsPrefix s.shown (h.log ++ kind ∷ [])
  still_told kind after same place s e = ⊎_elim
      (λ (x : (place ≡ id) × (after ≡ s)). subst (λ (y : Sight). IsPrefix y.shown (h.log ++ kind ∷ [])) x.1
      (subst (λ (l : List StepKind). IsPrefix l (h.log ++ kind ∷ [])) (sym same) (prefix_more before.shown h.log (kind ∷ []) (h.told id before at))))
      (λ (x : (place ≢ id) × (get_elem? t.views place ≡ some s)). prefix_more s.shown h.log (kind ∷ []) (h.told place s x.1))
      (at_set t.views id place after s e)

  pub step_kept : (i n : ℕ) (after : Sight) (kind : StepKind) → WordStep (erased t) kind (stepped (erased t) i n id [] after.view keeps) → IsNow kind after.seen → (id ≢ 0 → note_of kind ≡ [])
      → after.shown ≡ before.shown → Kept o (stepped t i n id [] after keeps)
  step_kept i n after kind step mine others untold =
      let t' : Table = stepped (erased t) i n id [] after.view keeps in
      let is : erased (stepped t i n id [] after keeps) ≡ t' = same_erased i n after in
      record {
        begins = h.begins;
        log = h.log ++ kind ∷ [];
        run = subst (λ (x : Table). WordRun (opened_as o) (h.log ++ kind ∷ []) x) (sym is) (run_snoc h.log (opened_as o) (erased t) t' kind h.run step);
        seen = see kind after mine.0 (set t.views id after) refl;
        told = still_told kind after untold;
        notes = noted kind after mine others;
        shown = subst (λ (x : Table). Shown o.slots o.holds x) (sym is) (word_step o.slots o.holds (erased t) kind t' h.shown step).0;
      }

  -- the steps that the seat had seen, and then those between, lead from the opening to the table that the
  -- step finds
  pub led_here : WordRun (opened_as before.seen.opening) (before.seen.steps ++ between) (erased t)
  led_here = subst (λ (l : List StepKind). WordRun (opened_as before.seen.opening) l (erased t)) (sym so_far)
      (subst (λ (x : Opening). WordRun (opened_as x) h.log (erased t)) (sym (h.seen id before at).0) h.run)

  pub shown_here : Shown before.seen.opening.slots before.seen.opening.holds (erased t)
  shown_here = subst (λ (x : Opening). Shown x.slots x.holds (erased t)) (sym (h.seen id before at).0) h.shown

  -- a new seat is made, which has seen as much as the one that makes it
  pub split_kept : (left right : Sight) (kind : StepKind) → note_of kind ≡ [] → left.seen ≡ before.seen → right.seen ≡ before.seen → left.shown ≡ before.shown → right.shown ≡ []
      → WordStep (erased t) kind (record { words = t.words; homes = t.homes; views = set (erased t).views id left.view ++ right.view ∷ [] })
      → Kept o (record { words = t.words; homes = t.homes; views = set t.views id left ++ right ∷ [] })
  split_kept left right kind quiet same same' untold none step =
      let was = still_before kind quiet in
      let left_now : IsNow kind left.seen = subst (λ (x : Seen). IsNow kind x) (sym same) was in
      let views : map (λ (s : Sight). s.view) (set t.views id left ++ right ∷ []) ≡ set (erased t).views id left.view ++ right.view ∷ [] =
      map-append (λ (s : Sight). s.view) (set t.views id left) (right ∷ []) ∙ ap (λ (l : List View). l ++ right.view ∷ []) (map-set (λ (s : Sight). s.view) t.views id left) in
      let t' : Table = record { words = t.words; homes = t.homes; views = set (erased t).views id left.view ++ right.view ∷ [] } in
      let is : erased (record { words = t.words; homes = t.homes; views = set t.views id left ++ right ∷ [] }) ≡ t' =
      ap (λ (l : List View). let x : Table = record { words = t.words; homes = t.homes; views = l } in x) views in
      record {
        begins = h.begins;
        log = h.log ++ kind ∷ [];
        run = subst (λ (x : Table). WordRun (opened_as o) (h.log ++ kind ∷ []) x) (sym is) (run_snoc h.log (opened_as o) (erased t) t' kind h.run step);
        seen = λ place s e. ⊎_elim
            (λ (old : get_elem? (set t.views id left) place ≡ some s). see kind left left_now.0 (set t.views id left) refl place s old)
            (λ (new : right ≡ s). subst (λ (y : Sight). IsBeginning o y.seen (h.log ++ kind ∷ [])) new (subst (λ (x : Seen). IsBeginning o x (h.log ++ kind ∷ [])) (sym same') was.0))
            (at_snoc (set t.views id left) right s place e);
        told = λ place s e. ⊎_elim
            (λ (old : get_elem? (set t.views id left) place ≡ some s). still_told kind left untold place s old)
            (λ (new : right ≡ s). subst (λ (y : Sight). IsPrefix y.shown (h.log ++ kind ∷ [])) new (subst (λ (l : List StepKind). IsPrefix l (h.log ++ kind ∷ [])) (sym none) (h.log ++ kind ∷ [], refl)))
            (at_snoc (set t.views id left) right s place e);
        notes = λ m e. noted kind left left_now (λ _. quiet) m (first_stays (set t.views id left) right m e id left (put t.views id before left at));
        shown = subst (λ (x : Table). Shown o.slots o.holds x) (sym is) (word_step o.slots o.holds (erased t) kind t' h.shown step).0;
      }

  -- what the seat was shown is a beginning of what it has seen after such a step
  pub told_now : (kind : StepKind) → IsPrefix before.shown (now_seen kind).steps
  told_now kind = subst (λ (l : List StepKind). IsPrefix before.shown (l ++ kind ∷ [])) (sym so_far) (prefix_more before.shown h.log (kind ∷ []) (h.told id before at))

  -- the seat took over what another seat has seen, or was shown it, and nothing else changed
  pub join_kept : (other : ℕ) (w both : Sight) → both.view ≡ before.view → IsBeginning o both.seen h.log → IsPrefix both.shown h.log → (id ≡ 0 → history_of both.seen ≡ notes_of h.log)
      → get_elem? (set t.views id both) other ≡ some w → Kept o (record { words = t.words; homes = t.homes; views = set (set t.views id both) other w })
  join_kept other w both same begins told first there =
      let again : set (set t.views id both) other w ≡ set t.views id both = set_again (set t.views id both) other w there in
      let views : map (λ (s : Sight). s.view) (set (set t.views id both) other w) ≡ (erased t).views =
      ap (λ (l : List Sight). map (λ (s : Sight). s.view) l) again ∙ map-set (λ (s : Sight). s.view) t.views id both ∙ ap (λ (v : View). set (erased t).views id v) same
      ∙ set_again (erased t).views id before.view (view_there t.views id before at) in
      let is : erased (record { words = t.words; homes = t.homes; views = set (set t.views id both) other w }) ≡ erased t =
      ap (λ (l : List View). let x : Table = record { words = t.words; homes = t.homes; views = l } in x) views in
      record {
        begins = h.begins;
        log = h.log;
        run = subst (λ (x : Table). WordRun (opened_as o) h.log x) (sym is) h.run;
        seen = λ place s e. ⊎_elim
            (λ (x : (place ≡ id) × (both ≡ s)). subst (λ (y : Sight). IsBeginning o y.seen h.log) x.1 begins)
            (λ (x : (place ≢ id) × (get_elem? t.views place ≡ some s)). h.seen place s x.1)
            (at_set t.views id place both s (ap (λ (l : List Sight). get_elem? l place) (sym again) ∙ e));
        told = λ place s e. ⊎_elim
            (λ (x : (place ≡ id) × (both ≡ s)). subst (λ (y : Sight). IsPrefix y.shown h.log) x.1 told)
            (λ (x : (place ≢ id) × (get_elem? t.views place ≡ some s)). h.told place s x.1)
            (at_set t.views id place both s (ap (λ (l : List Sight). get_elem? l place) (sym again) ∙ e));
        notes = λ m e. ⊎_elim
            (λ (x : (0 ≡ id) × (both ≡ m)). subst (λ (y : Sight). history_of y.seen ≡ notes_of h.log) x.1 (first (sym x.0)))
            (λ (x : (0 ≢ id) × (get_elem? t.views 0 ≡ some m)). h.notes m x.1)
            (at_set t.views id 0 both m (ap (λ (l : List Sight). get_elem? l 0) (sym again) ∙ e));
        shown = subst (λ (x : Table). Shown o.slots o.holds x) (sym is) h.shown;
      }

  -- what another seat has seen is a beginning of this run too
  pub from_there : (other : ℕ) (w both : Sight) → (¬ (other ≡ id)) → get_elem? (set t.views id both) other ≡ some w → IsBeginning o w.seen h.log
  from_there other w both apart there = ⊎_elim
      (λ (x : (other ≡ id) × (both ≡ w)). absurd (apart x.0))
      (λ (x : (other ≢ id) × (get_elem? t.views other ≡ some w)). h.seen other w x.1)
      (at_set t.views id other both w there)
