-- While a caller sleeps at a slot, a load of the count of the slot's sleepers finds a number above 0.
use Rattle.std.proofs.Common.{◌≡◌, ◌≢◌, ◌⊎◌, inl, inr, ℕ, zero, suc, ◌+◌, ◌*◌, ◌%◌, ◌<◌, ◌≤◌, Bool, true, false, eqb, List, [], ◌∷◌, ◌++◌, length, set, get_or, if◌then◌else◌, refl, sym, ap, ◌∙◌, subst, arith, get_or-set_same, get_or-set_other, eq-eqb, ne_eqb}
use Rattle.std.specs.Prelude.{All, slice_index}
use Rattle.std.specs.List.{repeat}
use Rattle.std.proofs.lemmas.List.{set-get_or}
use mathlib.Core.Logic.{dite}
use native.Mathlib.Decide.{ℕ_discrete}
use Rattle.atomic_table.specs.Table.{stepped, keeps}
use Rattle.kf_words.specs.declared.sight.Opening.{Opening}
use Rattle.kf_words.specs.declared.view.View.{View}
use Rattle.kf_words.specs.Layout.{linked, one_generation, active_index, hold_index, sleepers_index, node_index, empty_line}
use Rattle.kf_words.specs.Rule.{Shown}
use Rattle.kf_words.specs.TableSteps.{Table, StepKind, WordStep, WordRun, tries, undoes, leaves, breaks, restores, looks, parts, hides, looks_hidden, shows, releases, sees_holds, counts_hold, shares, sleeps, awakes, loads_sleepers, loads_hold, pins_hold, unpins_hold, splits, stores_fresh, births, takes_bias, marks_node, looks_over, unlinks, sees_holds_at, counts_hold_at, hands_on, stores_node, reads_node, notes, reports, answers, compares}
use Rattle.kf_words.specs.History.{opened_as}
use Rattle.kf_words.specs.Wakes.{IsAsleep, SleepersAreFound}
use Rattle.kf_words.proofs.Opening.{opening_shown}
use Rattle.kf_words.proofs.WordSteps.{word_step}

-- whether a step changes a count of sleepers
abbrev changes_sleepers : StepKind → Bool
changes_sleepers (sleeps slot j) = true
changes_sleepers (awakes slot j) = true
changes_sleepers kind = false

-- the step does not change the count of this slot
abbrev IsOther : ℕ → StepKind → Type 0
IsOther slot kind = ((j : ℕ) → kind ≢ sleeps slot j) × ((j : ℕ) → kind ≢ awakes slot j)

other : (slot : ℕ) (kind : StepKind) → changes_sleepers kind ≡ false → IsOther slot kind
other slot kind quiet = (
  λ j e. let x : true ≡ false = ap changes_sleepers (sym e) ∙ quiet in cc,
  λ j e. let x : true ≡ false = ap changes_sleepers (sym e) ∙ quiet in cc,
)

-- a step adds a sleeper of the slot, takes one off, or does neither
sort : (slot : ℕ) (kind : StepKind) → IsOther slot kind ⊎ ((j : ℕ) × (kind ≡ sleeps slot j)) ⊎ ((j : ℕ) × (kind ≡ awakes slot j))
sort slot (sleeps s j) = dite (ℕ_discrete s slot) (λ e. inr (inl (j, ap (λ x. sleeps x j) e))) (λ ne. inl ((λ i e. let x : sleeps s j ≡ sleeps slot i = e in let y : s ≡ slot = cc in ne y), (λ i e. let x : sleeps s j ≡ awakes slot i = e in cc)))
sort slot (awakes s j) = dite (ℕ_discrete s slot) (λ e. inr (inr (j, ap (λ x. awakes x j) e))) (λ ne. inl ((λ i e. let x : awakes s j ≡ sleeps slot i = e in cc), (λ i e. let x : awakes s j ≡ awakes slot i = e in let y : s ≡ slot = cc in ne y)))
sort slot kind = inl (other slot kind refl)

-- the count of the slot's sleepers stays
abbrev Stays : ℕ → Table → Table → Type 0
Stays slot t t' = slice_index t'.words (sleepers_index slot) ≡ slice_index t.words (sleepers_index slot)

by_step : (slot : ℕ) (t t' : Table) (i n place : ℕ) (v : View) → sleepers_index slot ≢ i → t' ≡ stepped t i n place [] v keeps → Stays slot t t'
by_step slot t t' i n place v apart becomes = ap (λ (x : Table). slice_index x.words (sleepers_index slot)) becomes ∙ get_or-set_other t.words i (sleepers_index slot) n 0 apart

by_words : (slot : ℕ) (t t' : Table) → t'.words ≡ t.words → Stays slot t t'
by_words slot t t' e = ap (λ (l : List ℕ). slice_index l (sleepers_index slot)) e

by_load : (slot : ℕ) (t t' : Table) (i place : ℕ) (v : View) → t' ≡ stepped t i (slice_index t.words i) place [] v keeps → Stays slot t t'
by_load slot t t' i place v becomes = by_words slot t t' (ap (λ (x : Table). x.words) becomes ∙ set-get_or t.words i 0)

not_active : (slot k : ℕ) → sleepers_index slot ≢ active_index k
not_active slot k e = omega (arith, e)

not_hold : (slot k : ℕ) → sleepers_index slot ≢ hold_index k
not_hold slot k e = omega (arith, e)

not_node : (slot place k : ℕ) → place < 5 → sleepers_index slot ≢ node_index place k
not_node slot place k few e = omega (arith, few, e)

same_slot : (slot k : ℕ) → sleepers_index slot ≡ sleepers_index k → k ≡ slot
same_slot slot k e = omega (arith, e)

count_stays : (slot : ℕ) (t : Table) (kind : StepKind) (t' : Table) → IsOther slot kind → WordStep t kind t' → Stays slot t t'
count_stays slot t (sleeps k j) t' o s = by_step slot t t' _ _ _ _ (λ e. o.0 j (ap (λ x. sleeps x j) (sym s.1 ∙ same_slot slot s.0.key.slot e))) s.2.becomes
count_stays slot t (awakes k j) t' o s = by_step slot t t' _ _ _ _ (λ e. o.1 j (ap (λ x. awakes x j) (sym s.1 ∙ same_slot slot s.0.key.slot e))) s.2.becomes
count_stays slot t (loads_sleepers k j) t' o s = by_load slot t t' _ _ _ s.2.becomes
count_stays slot t (reads_node k place j) t' o s = by_load slot t t' _ _ _ s.2.becomes
count_stays slot t (stores_node k place n) t' o s = by_step slot t t' _ _ _ _ (not_node slot place k s.1.1) s.2.becomes
count_stays slot t (notes note) t' o s = by_words slot t t' (ap (λ (x : Table). x.words) s.1)
count_stays slot t compares t' o s = by_words slot t t' (ap (λ (x : Table). x.words) s.1)
count_stays slot t (reports j) t' o s = by_words slot t t' (ap (λ (x : Table). x.words) s.3)
count_stays slot t answers t' o s = by_words slot t t' (ap (λ (x : Table). x.words) s.3)
count_stays slot t (shares j) t' o s = by_words slot t t' (ap (λ (x : Table). x.words) s.3)
count_stays slot t (splits k) t' o s = by_words slot t t' (ap (λ (x : Table). x.words) s.4)
count_stays slot t (hands_on j) t' o s = by_words slot t t' (ap (λ (x : Table). x.words) s.5)
count_stays slot t (parts j) t' o s = by_step slot t t' _ _ _ _ (not_hold slot s.0.key.slot) s.2.becomes
count_stays slot t (releases j) t' o s = by_step slot t t' _ _ _ _ (not_hold slot s.0.key.slot) s.2.becomes
count_stays slot t (sees_holds j) t' o s = by_step slot t t' _ _ _ _ (not_hold slot s.0.key.slot) s.2.becomes
count_stays slot t (counts_hold j) t' o s = by_step slot t t' _ _ _ _ (not_hold slot s.0.key.slot) s.2.becomes
count_stays slot t (sees_holds_at k j) t' o s = by_step slot t t' _ _ _ _ (not_hold slot k) s.2.becomes
count_stays slot t (counts_hold_at k j) t' o s = by_step slot t t' _ _ _ _ (not_hold slot k) s.2.becomes
count_stays slot t (loads_hold k) t' o s = by_step slot t t' _ _ _ _ (not_hold slot k) s.2.becomes
count_stays slot t (pins_hold k) t' o s = by_step slot t t' _ _ _ _ (not_hold slot k) s.2.becomes
count_stays slot t (unpins_hold k) t' o s = by_step slot t t' _ _ _ _ (not_hold slot k) s.2.becomes
count_stays slot t (births k) t' o s = by_step slot t t' _ _ _ _ (not_hold slot k) s.2.becomes
count_stays slot t (unlinks k) t' o s = by_step slot t t' _ _ _ _ (not_hold slot k) s.2.becomes
count_stays slot t (stores_fresh k) t' o s = by_step slot t t' _ _ _ _ (not_active slot k) s.2.becomes
count_stays slot t (takes_bias k) t' o s = by_step slot t t' _ _ _ _ (not_active slot k) s.2.becomes
count_stays slot t (looks_over k) t' o s = by_step slot t t' _ _ _ _ (not_active slot k) s.2.becomes
count_stays slot t (marks_node k) t' o s = by_step slot t t' _ _ _ _ (not_active slot k) s.1.2.becomes
count_stays slot t (tries j) t' o s = by_step slot t t' _ _ _ _ (not_active slot s.0.key.slot) s.2.becomes
count_stays slot t (undoes j) t' o s = by_step slot t t' _ _ _ _ (not_active slot s.0.key.slot) s.2.becomes
count_stays slot t (leaves j) t' o s = by_step slot t t' _ _ _ _ (not_active slot s.0.key.slot) s.2.becomes
count_stays slot t (breaks j) t' o s = by_step slot t t' _ _ _ _ (not_active slot s.0.key.slot) s.2.becomes
count_stays slot t (restores j) t' o s = by_step slot t t' _ _ _ _ (not_active slot s.0.key.slot) s.2.becomes
count_stays slot t (looks j) t' o s = by_step slot t t' _ _ _ _ (not_active slot s.0.key.slot) s.2.becomes
count_stays slot t (hides j) t' o s = by_step slot t t' _ _ _ _ (not_active slot s.0.key.slot) s.2.becomes
count_stays slot t (looks_hidden j) t' o s = by_step slot t t' _ _ _ _ (not_active slot s.0.key.slot) s.2.becomes
count_stays slot t (shows j) t' o s = by_step slot t t' _ _ _ _ (not_active slot s.0.key.slot) s.2.becomes

-- the number is in the list
abbrev Has : List ℕ → ℕ → Type 0
Has [] j = ⊥
Has (x ∷ xs) j = (x ≡ j) ⊎ Has xs j

-- the list without the first item that is this number
abbrev without : ℕ → List ℕ → List ℕ
without j [] = []
without j (x ∷ xs) = if eqb x j then xs else x ∷ without j xs

one_less : (j : ℕ) (xs : List ℕ) → Has xs j → suc (length (without j xs)) ≡ length xs
one_less j [] h = absurd h
one_less j (x ∷ xs) h = dite (ℕ_discrete x j)
    (λ e. ap (λ (b : Bool). suc (length (if b then xs else x ∷ without j xs))) (eq-eqb x j e))
    (λ ne. ap (λ (b : Bool). suc (length (if b then xs else x ∷ without j xs))) (ne_eqb x j ne)
    ∙ ap suc (one_less j xs (elim h [
      | inl e ↦ absurd (ne e)
      | inr more ↦ more
    ])))

others_stay : (i j : ℕ) (xs : List ℕ) → i ≢ j → Has xs i → Has (without j xs) i
others_stay i j [] ne h = absurd h
others_stay i j (x ∷ xs) ne h = dite (ℕ_discrete x j)
    (λ e. subst (λ (b : Bool). Has (if b then xs else x ∷ without j xs) i) (sym (eq-eqb x j e)) (elim h [
      | inl same ↦ absurd (ne (sym same ∙ e))
      | inr more ↦ more
    ]))
    (λ apart. subst (λ (b : Bool). Has (if b then xs else x ∷ without j xs) i) (sym (ne_eqb x j apart)) (elim h [
      | inl same ↦ inl same
      | inr more ↦ inr (others_stay i j xs ne more)
    ]))

-- the caller is among these sleepers and these steps do not take it off the count, or it falls asleep in them
-- and is asleep after them
abbrev SleepsOn : ℕ → ℕ → List ℕ → List StepKind → Type 0
SleepsOn slot j asleep kinds = (Has asleep j × All (λ kind. kind ≢ awakes slot j) kinds) ⊎ IsAsleep slot j kinds

-- a caller takes itself off the count only while it sleeps, if these callers sleep before the steps
abbrev OnlyTheyAwake : ℕ → List ℕ → List StepKind → Type 0
OnlyTheyAwake slot asleep kinds = (before later : List StepKind) (j : ℕ) → kinds ≡ before ++ awakes slot j ∷ later → SleepsOn slot j asleep before

-- the count of the slot's sleepers is this number modulo 2 ^ 64
abbrev Counts : ℕ → Table → ℕ → Type 0
Counts slot t n = slice_index t.words (sleepers_index slot) ≡ n % 18446744073709551616

no_split : (before later : List StepKind) (x : StepKind) → [] ≡ before ++ x ∷ later → ⊥
no_split [] later x e = cc
no_split (y ∷ before) later x e = cc

-- the sleeper fell asleep at the first of the steps, or later
fell : (slot j : ℕ) (kind : StepKind) (kinds : List StepKind) → IsAsleep slot j (kind ∷ kinds)
    → ((kind ≡ sleeps slot j) × All (λ kind. kind ≢ awakes slot j) kinds) ⊎ IsAsleep slot j kinds
fell slot j kind kinds ([], later, e, never) =
    let first : kind ≡ sleeps slot j = cc in
    let rest : kinds ≡ later = cc in
    inl (first, subst (λ (l : List StepKind). All (λ kind. kind ≢ awakes slot j) l) (sym rest) never)
fell slot j kind kinds (y ∷ before, later, e, never) =
    let rest : kinds ≡ before ++ sleeps slot j ∷ later = cc in
    inr (before, later, rest, never)

-- a caller that sleeps on over this step and later ones, if `asleep` sleep before it, sleeps on over the
-- later ones if `after` sleep after it
abbrev GoesOver : ℕ → List ℕ → List ℕ → StepKind → Type 0
GoesOver slot asleep after kind = (j : ℕ) (some : List StepKind) → SleepsOn slot j asleep (kind ∷ some) → SleepsOn slot j after some

-- a sleeper sleeps on over the first step, which changes the sleepers from `asleep` to `after`
goes_on : (slot j : ℕ) (asleep after : List ℕ) (kind : StepKind) (kinds : List StepKind)
    → (Has asleep j → kind ≢ awakes slot j → Has after j) → (kind ≡ sleeps slot j → Has after j)
    → SleepsOn slot j asleep (kind ∷ kinds) → SleepsOn slot j after kinds
goes_on slot j asleep after kind kinds stays comes s = elim s [
  | inl old ↦ inl (stays old.0 (old.1 0 kind (omega arith)), λ k d less. old.1 (suc k) d (omega (arith, less)))
  | inr new ↦ elim (fell slot j kind kinds new) [
    | inl first ↦ inl (comes first.0, first.1)
    | inr later ↦ inr later
  ]
]

-- `OnlyTheyAwake` carries over to the later steps
only_they : (slot : ℕ) (asleep after : List ℕ) (kind : StepKind) (kinds : List StepKind)
    → GoesOver slot asleep after kind → OnlyTheyAwake slot asleep (kind ∷ kinds) → OnlyTheyAwake slot after kinds
only_they slot asleep after kind kinds on w before later j e = on j before (w (kind ∷ before) later j (ap (λ l. kind ∷ l) e))

-- what holds at the end of a run, if these callers sleep at its start and are counted there: those that sleep
-- at its end are counted
record Ends (slot : ℕ) (asleep : List ℕ) (kinds : List StepKind) (u : Table) : Type 0 where
  now : List ℕ
  counted : Counts slot u (length now)
  few : length now ≤ length asleep + length kinds
  found : (j : ℕ) → SleepsOn slot j asleep kinds → Has now j

module _ (slots limit slot : ℕ) (near : slot < slots) where
  there : (t : Table) → Shown slots limit t → sleepers_index slot < length t.words
  there t h = let wide = h.shows.wide in let all = h.all_slots in omega (arith, near, wide, all)

  falls : (t t' : Table) (j n : ℕ) → Shown slots limit t → WordStep t (sleeps slot j) t' → Counts slot t n → Counts slot t' (suc n)
  falls t t' j n h s counted =
      let k : ℕ = s.0.key.slot in
      let now : slice_index t'.words (sleepers_index k) ≡ (slice_index t.words (sleepers_index k) + 1) % 18446744073709551616 =
      ap (λ (x : Table). slice_index x.words (sleepers_index k)) s.2.becomes ∙ get_or-set_same t.words (sleepers_index k) _ 0 (subst (λ (i : ℕ). sleepers_index i < length t.words) (sym s.1) (there t h)) in
      let here : slice_index t'.words (sleepers_index slot) ≡ (slice_index t.words (sleepers_index slot) + 1) % 18446744073709551616 =
      subst (λ (i : ℕ). slice_index t'.words (sleepers_index i) ≡ (slice_index t.words (sleepers_index i) + 1) % 18446744073709551616) s.1 now in
      omega (arith, here, counted)

  rises : (t t' : Table) (j n m : ℕ) → Shown slots limit t → WordStep t (awakes slot j) t' → Counts slot t n → suc m ≡ n → Counts slot t' m
  rises t t' j n m h s counted less =
      let k : ℕ = s.0.key.slot in
      let now : slice_index t'.words (sleepers_index k) ≡ (slice_index t.words (sleepers_index k) + 18446744073709551615) % 18446744073709551616 =
      ap (λ (x : Table). slice_index x.words (sleepers_index k)) s.2.becomes ∙ get_or-set_same t.words (sleepers_index k) _ 0 (subst (λ (i : ℕ). sleepers_index i < length t.words) (sym s.1) (there t h)) in
      let here : slice_index t'.words (sleepers_index slot) ≡ (slice_index t.words (sleepers_index slot) + 18446744073709551615) % 18446744073709551616 =
      subst (λ (i : ℕ). slice_index t'.words (sleepers_index i) ≡ (slice_index t.words (sleepers_index i) + 18446744073709551615) % 18446744073709551616) s.1 now in
      omega (arith, here, counted, less)

  counted_run : (kinds : List StepKind) (t u : Table) (asleep : List ℕ) → Shown slots limit t → WordRun t kinds u → Counts slot t (length asleep) → OnlyTheyAwake slot asleep kinds → Ends slot asleep kinds u
  counted_run [] t u asleep h r counted w = record {
    now = asleep;
    counted = subst (λ (x : Table). Counts slot x (length asleep)) (sym r) counted;
    few = omega arith;
    found = λ j s. elim s [
      | inl old ↦ old.0
      | inr new ↦ absurd (no_split new.0 new.1 (sleeps slot j) new.2)
    ];
  }
  counted_run (kind ∷ kinds) t u asleep h r counted w =
      let next : Shown slots limit r.0 = (word_step slots limit t kind r.0 h r.1).0 in
      elim (sort slot kind) [
        | inl o ↦
            let on : GoesOver slot asleep asleep kind = λ j some. goes_on slot j asleep asleep kind some (λ had _. had) (λ e. absurd (o.0 j e)) in
            let end = counted_run kinds r.0 u asleep next r.2 (count_stays slot t kind r.0 o r.1 ∙ counted) (only_they slot asleep asleep kind kinds on w) in
            let few = end.few in
            record { now = end.now; counted = end.counted; few = omega (arith, few); found = λ j s. end.found j (on j kinds s) }
        | inr (inl f) ↦
            let after : List ℕ = f.0 ∷ asleep in
            let on : GoesOver slot asleep after kind = λ j some. goes_on slot j asleep after kind some (λ had _. inr had) (λ e. inl (let x : sleeps slot f.0 ≡ sleeps slot j = sym f.1 ∙ e in let y : f.0 ≡ j = cc in y)) in
            let step : WordStep t (sleeps slot f.0) r.0 = subst (λ (k : StepKind). WordStep t k r.0) f.1 r.1 in
            let end = counted_run kinds r.0 u after next r.2 (falls t r.0 f.0 (length asleep) h step counted) (only_they slot asleep after kind kinds on w) in
            let few = end.few in
            record { now = end.now; counted = end.counted; few = omega (arith, few); found = λ j s. end.found j (on j kinds s) }
        | inr (inr f) ↦
            let slept : Has asleep f.0 = elim (w [] kinds f.0 (ap (λ k. k ∷ kinds) f.1)) [
              | inl old ↦ old.0
              | inr new ↦ absurd (no_split new.0 new.1 (sleeps slot f.0) new.2)
            ] in
            let after : List ℕ = without f.0 asleep in
            let less : suc (length after) ≡ length asleep = one_less f.0 asleep slept in
            let on : GoesOver slot asleep after kind = λ j some. goes_on slot j asleep after kind some (λ had other. others_stay j f.0 asleep (λ e. other (f.1 ∙ ap (λ i. awakes slot i) (sym e))) had)
            (λ e. absurd (let x : awakes slot f.0 ≡ sleeps slot j = sym f.1 ∙ e in cc)) in
            let step : WordStep t (awakes slot f.0) r.0 = subst (λ (k : StepKind). WordStep t k r.0) f.1 r.1 in
            let end = counted_run kinds r.0 u after next r.2 (rises t r.0 f.0 (length asleep) (length after) h step counted less) (only_they slot asleep after kind kinds on w) in
            let few = end.few in
            record { now = end.now; counted = end.counted; few = omega (arith, few, less); found = λ j s. end.found j (on j kinds s) }
      ]

-- at the opening nobody sleeps
none_there : (n k start : ℕ) → get_or (repeat n (empty_line start)) (sleepers_index k) 0 ≡ 0
none_there zero k start = refl
none_there (suc n) zero start = refl
none_there (suc n) (suc k) start =
    let further : sleepers_index (suc k) ≡ suc (suc (suc (suc (suc (suc (suc (suc (sleepers_index k)))))))) = omega arith in
    ap (λ (i : ℕ). get_or (repeat (suc n) (empty_line start)) i 0) further ∙ none_there n k start

none_first : (o : Opening) (slot : ℕ) → slice_index (opened_as o).words (sleepers_index slot) ≡ 0
none_first o slot =
    let lines : List ℕ = repeat o.slots (empty_line o.start) in
    get_or-set_other (set lines (active_index 0) 0) (hold_index 0) (sleepers_index slot) ((o.start + 1) * one_generation + linked) 0 (not_hold slot 0)
    ∙ get_or-set_other lines (active_index 0) (sleepers_index slot) 0 0 (not_active slot 0)
    ∙ none_there o.slots slot o.start

some_one : (j : ℕ) (l : List ℕ) → Has l j → 0 < length l
some_one j [] h = absurd h
some_one j (x ∷ xs) h = omega arith

pub sleepers_are_found : SleepersAreFound
sleepers_are_found o some_slot few_holds kinds t u slot sleeper loader run short near only asleep load =
    let end = counted_run o.slots o.holds slot near kinds (opened_as o) t [] (opening_shown o.slots o.holds o.start some_slot few_holds) run (none_first o slot)
    (λ before later j e. inr (only before later j e)) in
    let some = some_one sleeper end.now (end.found sleeper (inr asleep)) in
    let counted = end.counted in
    let few = end.few in
    omega (arith, some, counted, few, short)
