-- The opening meets the rule.
use Rattle.std.proofs.Common.{◌≡◌, ◌≢◌, ℕ, zero, suc, ◌+◌, ◌*◌, ◌<◌, ◌≤◌, true, false, List, [], length, length-set, set, get_or, replicate, refl, sym, ap, ◌∙◌, subst, arith, get_or-set_same, get_or-set_other}
use Rattle.std.specs.Prelude.{slice_get, Some, None}
use Rattle.std.specs.List.{repeat}
use Rattle.std.proofs.lemmas.Option.{slice_get_within, none-some, same_Some}
use mathlib.Core.Logic.{dite}
use mathlib.Core.Option.{some-ne-none}
use native.Mathlib.Decide.{ℕ_discrete}
use Rattle.atomic_table.specs.Table.{opening}
use Rattle.kf_core.specs.declared.slot.SlotState.{SlotState}
use Rattle.kf_core.specs.Marks.{live_marks}
use Rattle.kf_core.specs.Safe.{Safe}
use Rattle.kf_core.proofs.Lists.{slice_get-set_same, slice_get-set_other}
use Rattle.kf_words.specs.declared.view.MasterView.{MasterView}
use Rattle.kf_words.specs.declared.view.View.TheVariants as seat
use Rattle.kf_words.specs.Layout.{bias, linked, one_generation, line_words, active_index, hold_index, active_word, hold_word, empty_line, opening_words}
use Rattle.kf_words.specs.Rule.{ShowsMarks, ShowsHolds, bare_world, Shown}
use Rattle.kf_words.specs.Steps.{opened}

length-replicate : {X : Type 0} (n : ℕ) (x : X) → length (replicate n x) ≡ n
length-replicate zero x = refl
length-replicate (suc n) x = ap suc (length-replicate n x)

replicated : {X : Type 0} (n i : ℕ) (x y : X) → slice_get (replicate n x) i ≡ Some y → x ≡ y
replicated zero i x y e = absurd (none-some y e)
replicated (suc n) zero x y e = same_Some x y e
replicated (suc n) (suc i) x y e = replicated n i x y e

-- the same place in the next line
abbrev past_line : ℕ → ℕ
past_line i = suc (suc (suc (suc (suc (suc (suc (suc i)))))))

length-lines : (n start : ℕ) → length (repeat n (empty_line start)) ≡ n * line_words
length-lines zero start = refl
length-lines (suc n) start =
    let rest = length-lines n start in
    let further : past_line (n * line_words) ≡ suc n * line_words = omega arith in
    ap past_line rest ∙ further

active_there : (n k start : ℕ) → k < n → active_word (repeat n (empty_line start)) k ≡ bias
active_there zero k start h = absurd (omega arith)
active_there (suc n) zero start h = refl
active_there (suc n) (suc k) start h =
    let further : active_index (suc k) ≡ past_line (active_index k) = omega arith in
    ap (λ (i : ℕ). get_or (repeat (suc n) (empty_line start)) i 0) further ∙ active_there n k start (omega arith)

hold_there : (n k start : ℕ) → k < n → hold_word (repeat n (empty_line start)) k ≡ start * one_generation
hold_there zero k start h = absurd (omega arith)
hold_there (suc n) zero start h = refl
hold_there (suc n) (suc k) start h =
    let further : hold_index (suc k) ≡ past_line (hold_index k) = omega arith in
    ap (λ (i : ℕ). get_or (repeat (suc n) (empty_line start)) i 0) further ∙ hold_there n k start (omega arith)

pub length-words : (slots start : ℕ) → length (opening_words slots start) ≡ slots * line_words
length-words slots start =
    length-set (set (repeat slots (empty_line start)) (active_index 0) 0) (hold_index 0) ((start + 1) * one_generation + linked)
    ∙ length-set (repeat slots (empty_line start)) (active_index 0) 0 ∙ length-lines slots start

abbrev unborn : ℕ → SlotState
unborn start = record { generation = start; marks = None }

abbrev root : ℕ → SlotState
root start = record { generation = start + 1; marks = Some live_marks }

module _ (slots limit start : ℕ) (some_slot : 1 ≤ slots) (few : limit ≤ 65535) where
  abbrev m : MasterView
  m = opened limit slots start

  abbrev plain : List ℕ
  plain = repeat slots (empty_line start)

  abbrev rooted : List ℕ
  rooted = set plain (active_index 0) 0

  abbrev root_holds : ℕ
  root_holds = (start + 1) * one_generation + linked

  abbrev words : List ℕ
  words = opening_words slots start

  all : length m.slots ≡ slots
  all = length-set (replicate slots (unborn start)) 0 (root start) ∙ length-replicate slots (unborn start)

  all_plain : length plain ≡ slots * line_words
  all_plain = length-lines slots start

  all_words : length words ≡ slots * line_words
  all_words = length-words slots start

  -- the state of the root's slot, and of any other slot
  root_here : (state : SlotState) → slice_get m.slots 0 ≡ Some state → root start ≡ state
  root_here state its =
      let long = length-replicate slots (unborn start) in
      same_Some (root start) state (sym (slice_get-set_same (replicate slots (unborn start)) 0 (root start) (omega arith)) ∙ its)

  unborn_there : (k : ℕ) (state : SlotState) → k ≢ 0 → slice_get m.slots k ≡ Some state → unborn start ≡ state
  unborn_there k state ne its = replicated slots k (unborn start) state (sym (slice_get-set_other (replicate slots (unborn start)) 0 k (root start) ne) ∙ its)

  root_word : active_word words 0 ≡ 0
  root_word =
      let long = all_plain in
      get_or-set_other rooted (hold_index 0) (active_index 0) root_holds 0 (λ e. omega arith) ∙ get_or-set_same plain (active_index 0) 0 0 (omega arith)

  other_word : (k : ℕ) → k ≢ 0 → k < slots → active_word words k ≡ bias
  other_word k ne near =
      get_or-set_other rooted (hold_index 0) (active_index k) root_holds 0 (λ e. omega arith)
      ∙ get_or-set_other plain (active_index 0) (active_index k) 0 0 (λ e. ne (omega arith)) ∙ active_there slots k start near

  root_hold : hold_word words 0 ≡ root_holds
  root_hold =
      let long = all_plain in
      let long' = length-set plain (active_index 0) 0 in
      get_or-set_same rooted (hold_index 0) root_holds 0 (omega arith)

  other_hold : (k : ℕ) → k ≢ 0 → k < slots → hold_word words k ≡ start * one_generation
  other_hold k ne near =
      get_or-set_other rooted (hold_index 0) (hold_index k) root_holds 0 (λ e. ne (omega arith))
      ∙ get_or-set_other plain (active_index 0) (hold_index k) 0 0 (λ e. omega arith) ∙ hold_there slots k start near

  within : (k : ℕ) (state : SlotState) → slice_get m.slots k ≡ Some state → k < slots
  within k state its = let near = slice_get_within m.slots k state its in let count = all in omega arith

  marks : (k : ℕ) (state : SlotState) → slice_get m.slots k ≡ Some state → ShowsMarks (active_word words k) state.marks 0 0
  marks k state its = dite (ℕ_discrete k 0)
      (λ e. subst (λ (i : ℕ). ShowsMarks (active_word words i) state.marks 0 0) (sym e)
      (subst (λ (s : SlotState). ShowsMarks (active_word words 0) s.marks 0 0) (root_here state (subst (λ (i : ℕ). slice_get m.slots i ≡ Some state) e its)) (false, root_word, (λ _. refl), omega arith)))
      (λ ne. subst (λ (s : SlotState). ShowsMarks (active_word words k) s.marks 0 0) (unborn_there k state ne its) (false, other_word k ne (within k state its), (λ e. absurd (let x : false ≡ true = e in cc)), omega arith))

  holds : (k : ℕ) (state : SlotState) → slice_get m.slots k ≡ Some state → ShowsHolds limit (hold_word words k) state 0
  holds k state its = dite (ℕ_discrete k 0)
      (λ e. subst (λ (i : ℕ). ShowsHolds limit (hold_word words i) state 0) (sym e)
      (subst (λ (s : SlotState). ShowsHolds limit (hold_word words 0) s 0) (root_here state (subst (λ (i : ℕ). slice_get m.slots i ≡ Some state) e its)) ((let w = root_hold in omega arith), omega arith)))
      (λ ne. subst (λ (s : SlotState). ShowsHolds limit (hold_word words k) s 0) (unborn_there k state ne its) ((let w = other_hold k ne (within k state its) in omega arith), omega arith))

  safe : Safe (bare_world m [])
  safe = record {
    none_running = λ c key phase h past d run. absurd (none-some _ h);
    drain_doomed = λ c key phase h past. absurd (none-some _ h);
    parted_gone = λ c key h. absurd (none-some _ h);
    held_last = λ c key phase h holds. absurd (none-some _ h);
    running_linked = λ c key h. absurd (none-some _ h);
    one_hides = λ c key phase h hiding. absurd (none-some _ h);
  }

  pub opening_shown : Shown slots limit (opening words [] (seat.Master m))
  opening_shown = record {
    master = m;
    callers = [];
    views = refl;
    all_slots = all;
    most_holds = refl;
    shows = record {
      wide = all_words ∙ ap (λ (n : ℕ). n * line_words) (sym all);
      few = few;
      marks = marks;
      holds = holds;
      tries = λ j c e. absurd (some-ne-none c (sym e));
      pinned = λ j c key e. absurd (some-ne-none c (sym e));
      loads = λ i load e. absurd (none-some load e);
      fresh = λ k e. absurd (none-some k e);
      looked = λ load state e. absurd (none-some load e);
      safe = safe;
    };
  }
