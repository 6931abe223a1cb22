-- Storing a word of a slot's node keeps the rule, which does not read that word.
use Rattle.std.proofs.Common.{◌≡◌, ℕ, ◌+◌, ◌<◌, List, set, get_or, sym, ◌∙◌, subst, arith, length-set, get_or-set_other}
use Rattle.kf_words.specs.declared.view.CallerView.{CallerView}
use Rattle.kf_words.specs.declared.view.MasterView.{MasterView}
use Rattle.kf_words.specs.Layout.{active_index, hold_index, node_index, IsFree}
use Rattle.kf_words.specs.Rule.{ShowsMarks, ShowsHolds, StillHolds, users, hiders, holders, pins_in, Shows}

module _ (words : List ℕ) (m : MasterView) (cs : List CallerView) (shows : Shows words m cs) (slot place n : ℕ) (one_of : place < 5) where
  abbrev words' : List ℕ
  words' = set words (node_index place slot) n

  active_stays : (k : ℕ) → get_or words' (active_index k) 0 ≡ get_or words (active_index k) 0
  active_stays k = get_or-set_other words (node_index place slot) (active_index k) n 0 (λ e. omega (arith, one_of))

  hold_stays : (k : ℕ) → get_or words' (hold_index k) 0 ≡ get_or words (hold_index k) 0
  hold_stays k = get_or-set_other words (node_index place slot) (hold_index k) n 0 (λ e. omega (arith, one_of))

  pub noted : Shows words' m cs
  noted = record {
    wide = length-set words (node_index place slot) n ∙ shows.wide;
    few = shows.few;
    marks = λ k state its. subst (λ (x : ℕ). ShowsMarks x state.marks (users k cs) (hiders k cs)) (sym (active_stays k)) (shows.marks k state its);
    holds = λ k state its. subst (λ (x : ℕ). ShowsHolds m.limit x state (holders k cs + pins_in m.pinning k)) (sym (hold_stays k)) (shows.holds k state its);
    tries = shows.tries;
    pinned = shows.pinned;
    loads = λ i load e. subst (λ (x : ℕ). StillHolds m.limit load.word x) (sym (hold_stays load.slot)) (shows.loads i load e);
    fresh = λ k e. let f = shows.fresh k e in (f.0, active_stays k ∙ f.1, subst IsFree (sym (hold_stays k)) f.2);
    looked = shows.looked;
    safe = shows.safe;
  }
