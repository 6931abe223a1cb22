-- What the rule says about the one run: each table that meets it is the end of a run from the opening.
use Rattle.std.proofs.Common.{◌≡◌, ◌⊎◌, inl, inr, ℕ, zero, suc, ◌≤◌, List, [], ◌∷◌, ◌++◌, refl, sym, ap, ◌∙◌, subst, ⊎_elim, arith}
use mathlib.Core.Option.{some, some-injective, some-ne-none}
use mathlib.Core.List.{IsPrefix}
use lib.ListN.{get_elem?}
use Rattle.atomic_table.specs.Table.{opening}
use Rattle.kf_words.specs.declared.sight.Opening.{Opening}
use Rattle.kf_words.specs.declared.sight.Sight.{Sight}
use Rattle.kf_words.specs.Layout.{opening_words}
use Rattle.kf_words.specs.TableSteps.{Table, StepKind, world, WordRun}
use Rattle.kf_core.specs.Bare.{IsCaller}
use Rattle.kf_words.specs.History.{erased, opened_as, IsBeginning, Kept, first_sight, EndsARun, SeenLeadsHere, DrainedEverAfter, OneRunIsSeen, HistoryIsSeen, OneHistory, NotesStay}
use Rattle.kf_words.specs.Life.{life_opening, lived, word_life, saw_life, LifeIsKept}
use Rattle.kf_words.specs.Rule.{Shown}
use Rattle.kf_words.proofs.Seating.{map_at}
use Rattle.kf_words.proofs.Life.{lives}
use Rattle.kf_words.proofs.Runs.{rule_kept, run_is_run, drained_for_good}
use Rattle.kf_words.proofs.OneEnds.{one_end}
use Rattle.kf_words.proofs.Keeps.{prefix_self, run_parts}
use Rattle.kf_words.proofs.Noted.{tail_of, notes_more, notes_begin}
use Rattle.kf_words.specs.Notes.{notes_of, history_of}
use Rattle.kf_words.proofs.Opening.{opening_shown}

pub opening_kept : (o : Opening) → 1 ≤ o.slots → o.holds ≤ 65535 → Kept o (opening (opening_words o.slots o.start) [] (first_sight o))
opening_kept o some_slot few = record {
  begins = opening_shown o.slots o.holds o.start some_slot few;
  log = [];
  run = refl;
  seen = first;
  told = untold;
  notes = λ m e. sym (ap (λ (x : Sight). history_of x.seen) (some-injective (first_sight o) m e));
  shown = opening_shown o.slots o.holds o.start some_slot few;
}
  where
    first : (place : ℕ) (s : Sight) → get_elem? (first_sight o ∷ []) place ≡ some s → IsBeginning o s.seen []
    first zero s e = subst (λ (x : Sight). IsBeginning o x.seen []) (some-injective (first_sight o) s e) (refl, ([], refl))
    first (suc place) s e = absurd (some-ne-none s (sym e))

    untold : (place : ℕ) (s : Sight) → get_elem? (first_sight o ∷ []) place ≡ some s → IsPrefix s.shown []
    untold zero s e = subst (λ (x : Sight). IsPrefix x.shown []) (some-injective (first_sight o) s e) ([], refl)
    untold (suc place) s e = absurd (some-ne-none s (sym e))

pub ends_a_run : EndsARun
ends_a_run o t kept = (kept.begins, kept.run, kept.shown)

pub seen_leads_here : SeenLeadsHere
seen_leads_here o t kept place s at =
    let b = kept.seen place s at in
    let later : List StepKind = b.1.0 in
    let p = run_parts s.seen.steps later (opened_as o) (erased t) (subst (λ (l : List StepKind). WordRun (opened_as o) l (erased t)) (sym b.1.1) kept.run) in
    (b.0, later, p.0, b.1.1, rule_kept o.slots o.holds (opened_as o) p.0 s.seen.steps kept.begins p.1, p.1, p.2)

abbrev head_of : {A : Type 0} → A → List A → A
head_of d [] = d
head_of d (x ∷ xs) = x

-- of two beginnings of one list, one is a beginning of the other
beginnings : {A : Type 0} (xs ys p q : List A) → xs ++ p ≡ ys ++ q → IsPrefix xs ys ⊎ IsPrefix ys xs
beginnings [] ys p q e = inl (ys, refl)
beginnings (x ∷ xs) [] p q e = inr (x ∷ xs, refl)
beginnings (x ∷ xs) (y ∷ ys) p q e =
    let head : x ≡ y = ap (head_of x) e in
    ⊎_elim
    (λ (a : IsPrefix xs ys). inl (a.0, ap (λ l. x ∷ l) a.1 ∙ ap (λ h. h ∷ ys) head))
    (λ (a : IsPrefix ys xs). inr (a.0, ap (λ l. y ∷ l) a.1 ∙ ap (λ h. h ∷ xs) (sym head)))
    (beginnings xs ys p q (ap tail_of e))

pub one_run_is_seen : OneRunIsSeen
one_run_is_seen o t kept i j a b at there =
    let x = (kept.seen i a at).1 in
    let y = (kept.seen j b there).1 in
    beginnings a.seen.steps b.seen.steps x.0 y.0 (x.1 ∙ sym y.1)

pub history_is_seen : HistoryIsSeen
history_is_seen o t kept place m s first there =
    let all = kept.notes m first in
    (all, subst (λ l. IsPrefix (history_of s.seen) l) (sym all) (notes_begin s.seen.steps kept.log (kept.seen place s there).1))

pub one_history : OneHistory
one_history o t kept i j a b at there = ⊎_elim
    (λ (x : IsPrefix a.seen.steps b.seen.steps). inl (notes_begin a.seen.steps b.seen.steps x))
    (λ (x : IsPrefix b.seen.steps a.seen.steps). inr (notes_begin b.seen.steps a.seen.steps x))
    (one_run_is_seen o t kept i j a b at there)

pub notes_stay : NotesStay
notes_stay first more = (notes_of more, sym (notes_more first more))

pub drained_ever_after : DrainedEverAfter
drained_ever_after o t kept first mid p r c key phase there past =
    let x = run_parts first p.0 (opened_as o) (erased t) (subst (λ (l : List StepKind). WordRun (opened_as o) l (erased t)) (sym p.1) kept.run) in
    let one : mid ≡ x.0 = one_end (opened_as o) mid x.0 first r x.1 in
    drained_for_good o.slots o.holds x.0 (erased t) p.0 (rule_kept o.slots o.holds (opened_as o) x.0 first kept.begins x.1) x.2 c key phase
    (subst (λ (y : Table). IsCaller (world y) c key phase) one there) past

-- the table at the end of the example run meets the rule, if each of its seats has seen the whole run
pub life_is_kept : LifeIsKept
life_is_kept =
    let o : Opening = life_opening in
    let begins : Shown o.slots o.holds (opened_as o) = opening_shown 2 3 0 (omega arith) (omega arith) in
    let run : WordRun (opened_as o) word_life lived = (run_is_run 2 3 (opened_as o) lived word_life begins lives).0 in
    record {
      begins = begins;
      log = word_life;
      run = run;
      seen = λ place s e.
          let a = map_at saw_life lived.views place s e in
          subst (λ (x : Sight). IsBeginning o x.seen word_life) a.2 (refl, prefix_self word_life);
      told = λ place s e.
          let a = map_at saw_life lived.views place s e in
          subst (λ (x : Sight). IsPrefix x.shown word_life) a.2 (word_life, refl);
      notes = λ m e.
          let a = map_at saw_life lived.views 0 m e in
          sym (ap (λ (x : Sight). history_of x.seen) a.2);
      shown = rule_kept 2 3 (opened_as o) lived word_life begins run;
    }
