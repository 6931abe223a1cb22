-- A step keeps the rule: it is the next one of the run, and the seat that makes it has now seen the whole
-- run.
use Rattle.std.proofs.Common.{◌≡◌, ◌≢◌, ℕ, zero, suc, List, [], ◌∷◌, ◌++◌, map, set, refl, sym, ap, ◌∙◌, subst, ⊎_elim, append_assoc}
use Rattle.std.proofs.lemmas.List.{append-nil}
use mathlib.Core.Option.{some, some-ne-none, some-injective}
use mathlib.Core.List.{IsPrefix, map-append}
use lib.ListN.{get_elem?}
use lib.Seq.{map-set}
use Rattle.atomic_table.specs.Table.{stepped, keeps}
use Rattle.atomic_table.proofs.Lists.{at_set, at_snoc}
use Rattle.kf_notify.specs.declared.sight.NumberOpening.{NumberOpening}
use Rattle.kf_notify.specs.declared.sight.NumbersSeen.{NumbersSeen}
use Rattle.kf_notify.specs.declared.sight.NumberSight.{NumberSight}
use Rattle.kf_notify.specs.declared.view.NumberView.{NumberView}
use Rattle.kf_notify.specs.Rule.{Table, NumbersShown}
use Rattle.kf_notify.specs.TableSteps.{NumberStepKind, NumberStep, NumberRun}
use Rattle.kf_notify.specs.History.{SeenTable, erased, opened_as, IsBeginning, Kept}
use Rattle.kf_notify.proofs.Runs.{step_keeps}

pub prefix_self : {A : Type 0} (xs : List A) → IsPrefix xs xs
prefix_self xs = ([], append-nil xs)

pub prefix_more : {A : Type 0} (xs log more : List A) → IsPrefix xs log → IsPrefix xs (log ++ more)
prefix_more xs log more p = (p.0 ++ more, sym (append_assoc xs p.0 more) ∙ ap (λ w. w ++ more) p.1)

-- a run followed by one more step
pub run_snoc : (slots : ℕ) (kinds : List NumberStepKind) (t u v : Table) (kind : NumberStepKind) → NumberRun slots t kinds u → NumberStep slots u kind v → NumberRun slots t (kinds ++ kind ∷ []) v
run_snoc slots [] t u v kind r s = (v, subst (λ (x : Table). NumberStep slots x kind v) r s, refl)
run_snoc slots (k ∷ ks) t u v kind r s = (r.0, r.1, run_snoc slots ks r.0 u v kind r.2 s)

-- a run can be cut in two
pub run_parts : (slots : ℕ) (first rest : List NumberStepKind) (t u : Table) → NumberRun slots t (first ++ rest) u → (mid : Table) × NumberRun slots t first mid × NumberRun slots mid rest u
run_parts slots [] rest t u r = (t, refl, r)
run_parts slots (k ∷ ks) rest t u r = let p = run_parts slots ks rest r.0 u r.2 in (p.0, (r.0, r.1, p.1), p.2)

-- a seat's view is the same in the table without what was seen
pub view_there : (views : List NumberSight) (place : ℕ) (s : NumberSight) → get_elem? views place ≡ some s → get_elem? (map (λ (x : NumberSight). x.view) views) place ≡ some s.view
view_there [] place s e = absurd (some-ne-none s (sym e))
view_there (x ∷ xs) zero s e = ap (λ (y : NumberSight). some y.view) (some-injective x s e)
view_there (x ∷ xs) (suc place) s e = view_there xs place s e

module _ (o : NumberOpening) (t : SeenTable) (h : Kept o t) (id : ℕ) (before : NumberSight) (at : get_elem? t.views id ≡ some before) where
  -- the steps of the run so far that the seat had not seen
  abbrev pub between : List NumberStepKind
  between = (h.seen id before at).1.0

  so_far : before.seen.steps ++ between ≡ h.log
  so_far = (h.seen id before at).1.1

  -- what the seat has seen after a step of this kind
  abbrev pub now_seen : NumberStepKind → NumbersSeen
  now_seen kind = record { opening = before.seen.opening; steps = (before.seen.steps ++ between) ++ kind ∷ [] }

  pub is_now : (kind : NumberStepKind) → IsBeginning o (now_seen kind) (h.log ++ kind ∷ [])
  is_now kind = ((h.seen id before at).0, subst (λ (l : List NumberStepKind). IsPrefix (l ++ kind ∷ []) (h.log ++ kind ∷ [])) (sym so_far) (prefix_self (h.log ++ kind ∷ [])))

  still_before : (kind : NumberStepKind) → IsBeginning o before.seen (h.log ++ kind ∷ [])
  still_before kind = let b = h.seen id before at in (b.0, prefix_more before.seen.steps h.log (kind ∷ []) b.1)

  -- what was seen can be left out before the step or after it: the table is the same
  same_erased : (i n : ℕ) (after : NumberSight) → erased (stepped t i n id [] after keeps) ≡ stepped (erased t) i n id [] after.view keeps
  same_erased i n after = ap (λ (l : List NumberView). let x : Table = record { words = set t.words i n; homes = t.homes; views = l } in x) (map-set (λ (s : NumberSight). s.view) t.views id after)

  -- what each seat has seen is a beginning of the longer run
  see : (kind : NumberStepKind) (after : NumberSight) → IsBeginning o after.seen (h.log ++ kind ∷ []) → (place : ℕ) (s : NumberSight) → get_elem? (set t.views id after) place ≡ some s → IsBeginning o s.seen (h.log ++ kind ∷ [])
  see kind after mine place s e = ⊎_elim
      (λ (x : (place ≡ id) × (after ≡ s)). subst (λ (y : NumberSight). IsBeginning o y.seen (h.log ++ kind ∷ [])) x.1 mine)
      (λ (x : (place ≢ id) × (get_elem? t.views place ≡ some s)). let b = h.seen place s x.1 in (b.0, prefix_more s.seen.steps h.log (kind ∷ []) b.1))
      (at_set t.views id place after s e)

  pub step_kept : (i n : ℕ) (after : NumberSight) (kind : NumberStepKind) → NumberStep o.slots (erased t) kind (stepped (erased t) i n id [] after.view keeps) → IsBeginning o after.seen (h.log ++ kind ∷ [])
      → Kept o (stepped t i n id [] after keeps)
  step_kept i n after kind step mine =
      let t' : Table = stepped (erased t) i n id [] after.view keeps in
      let is : erased (stepped t i n id [] after keeps) ≡ t' = same_erased i n after in
      record {
        log = h.log ++ kind ∷ [];
        run = subst (λ (x : Table). NumberRun o.slots (opened_as o) (h.log ++ kind ∷ []) x) (sym is) (run_snoc o.slots h.log (opened_as o) (erased t) t' kind h.run step);
        seen = see kind after mine;
        shown = subst (λ (x : Table). NumbersShown o.slots o.start x) (sym is) (step_keeps o.slots o.start (erased t) kind t' h.shown step);
      }

  -- the steps that were seen, followed by the steps between, lead to the table that the step finds
  pub led_here : NumberRun before.seen.opening.slots (opened_as before.seen.opening) (before.seen.steps ++ between) (erased t)
  led_here = subst (λ (l : List NumberStepKind). NumberRun before.seen.opening.slots (opened_as before.seen.opening) l (erased t)) (sym so_far)
      (subst (λ (x : NumberOpening). NumberRun x.slots (opened_as x) h.log (erased t)) (sym (h.seen id before at).0) h.run)

  pub shown_here : NumbersShown before.seen.opening.slots before.seen.opening.start (erased t)
  shown_here = subst (λ (x : NumberOpening). NumbersShown x.slots x.start (erased t)) (sym (h.seen id before at).0) h.shown

  -- the step is the same with the opening that the seat has seen
  pub step_here : (kind : NumberStepKind) (t' : Table) → NumberStep o.slots (erased t) kind t' → NumberStep before.seen.opening.slots (erased t) kind t'
  step_here kind t' step = subst (λ (x : NumberOpening). NumberStep x.slots (erased t) kind t') (sym (h.seen id before at).0) step

  -- a new seat is made, which has seen as much as the seat that makes it
  pub split_kept : (left right : NumberSight) (kind : NumberStepKind) → left.seen ≡ before.seen → right.seen ≡ before.seen
      → NumberStep o.slots (erased t) kind (record { words = t.words; homes = t.homes; views = set (erased t).views id left.view ++ right.view ∷ [] })
      → Kept o (record { words = t.words; homes = t.homes; views = set t.views id left ++ right ∷ [] })
  split_kept left right kind same same' step =
      let views : map (λ (s : NumberSight). s.view) (set t.views id left ++ right ∷ []) ≡ set (erased t).views id left.view ++ right.view ∷ [] =
      map-append (λ (s : NumberSight). s.view) (set t.views id left) (right ∷ []) ∙ ap (λ (l : List NumberView). l ++ right.view ∷ []) (map-set (λ (s : NumberSight). s.view) t.views id left) in
      let t' : Table = record { words = t.words; homes = t.homes; views = set (erased t).views id left.view ++ right.view ∷ [] } in
      let is : erased (record { words = t.words; homes = t.homes; views = set t.views id left ++ right ∷ [] }) ≡ t' =
      ap (λ (l : List NumberView). let x : Table = record { words = t.words; homes = t.homes; views = l } in x) views in
      record {
        log = h.log ++ kind ∷ [];
        run = subst (λ (x : Table). NumberRun o.slots (opened_as o) (h.log ++ kind ∷ []) x) (sym is) (run_snoc o.slots h.log (opened_as o) (erased t) t' kind h.run step);
        seen = λ place s e. ⊎_elim
            (λ (old : get_elem? (set t.views id left) place ≡ some s). see kind left (subst (λ (x : NumbersSeen). IsBeginning o x (h.log ++ kind ∷ [])) (sym same) (still_before kind)) place s old)
            (λ (new : right ≡ s). subst (λ (y : NumberSight). IsBeginning o y.seen (h.log ++ kind ∷ [])) new (subst (λ (x : NumbersSeen). IsBeginning o x (h.log ++ kind ∷ [])) (sym same') (still_before kind)))
            (at_snoc (set t.views id left) right s place e);
        shown = subst (λ (x : Table). NumbersShown o.slots o.start x) (sym is) (step_keeps o.slots o.start (erased t) kind t' h.shown step);
      }
