-- A step on the count of a slot's sleepers keeps every view, and the rule, which does not read that count.
use Rattle.std.proofs.Common.{◌≡◌, ℕ, zero, suc, ◌+◌, List, [], ◌∷◌, set, get_or, refl, sym, ap, ◌∙◌, subst, arith, length-set, get_or-set_other}
use mathlib.Core.Option.{some, some-injective}
use lib.ListN.{get_elem?}
use Rattle.atomic_table.specs.Table.{Allows}
use Rattle.kf_words.specs.declared.view.CallerView.{CallerView}
use Rattle.kf_words.specs.declared.view.MasterView.{MasterView}
use Rattle.kf_words.specs.declared.view.View.TheVariants as seat
use Rattle.kf_words.specs.Layout.{active_index, hold_index, sleepers_index, IsFree}
use Rattle.kf_words.specs.Rule.{ShowsMarks, ShowsHolds, StillHolds, users, hiders, holders, pins_in, Shows, Shown}
use Rattle.kf_words.specs.Steps.{Seated, caller_of, unmoved, CallerBecomes}
use Rattle.kf_words.proofs.CallerAllowed.{no_step, allows}

-- writing a view to its own place changes nothing
pub put_same : (cs : List CallerView) (j : ℕ) (c : CallerView) → get_elem? cs j ≡ some c → set cs j c ≡ cs
put_same [] j c e = refl
put_same (x ∷ xs) zero c e = ap (λ y. y ∷ xs) (sym (some-injective x c e))
put_same (x ∷ xs) (suc j) c e = ap (λ l. x ∷ l) (put_same xs j c e)

module _ (words : List ℕ) (m : MasterView) (cs : List CallerView) (shows : Shows words m cs) (slot n : ℕ) where
  abbrev words' : List ℕ
  words' = set words (sleepers_index slot) n

  active_stays : (k : ℕ) → get_or words' (active_index k) 0 ≡ get_or words (active_index k) 0
  active_stays k = get_or-set_other words (sleepers_index slot) (active_index k) n 0 (λ e. omega arith)

  hold_stays : (k : ℕ) → get_or words' (hold_index k) 0 ≡ get_or words (hold_index k) 0
  hold_stays k = get_or-set_other words (sleepers_index slot) (hold_index k) n 0 (λ e. omega arith)

  pub unread : Shows words' m cs
  unread = record {
    wide = length-set words (sleepers_index slot) n ∙ shows.wide;
    few = shows.few;
    marks = λ k state its. subst (λ (x : ℕ). ShowsMarks x state.marks (users k cs) (hiders k cs)) (sym (active_stays k)) (shows.marks k state its);
    holds = λ k state its. subst (λ (x : ℕ). ShowsHolds m.limit x state (holders k cs + pins_in m.pinning k)) (sym (hold_stays k)) (shows.holds k state its);
    tries = shows.tries;
    pinned = shows.pinned;
    loads = λ i load e. subst (λ (x : ℕ). StillHolds m.limit load.word x) (sym (hold_stays load.slot)) (shows.loads i load e);
    fresh = λ k e. let f = shows.fresh k e in (f.0, active_stays k ∙ f.1, subst IsFree (sym (hold_stays k)) f.2);
    looked = shows.looked;
    safe = shows.safe;
  }

-- the table allows such a step, whatever it does to the count
pub sleep_allowed : (count limit homes id : ℕ) (me : Seated) (i : ℕ) (f : ℕ → ℕ) → me ≡ (seat.Caller (caller_of me.0), []) → sleepers_index (caller_of me.0).key.slot ≡ i
    → Allows (Shown count limit) homes id me i f (CallerBecomes unmoved no_step me)
sleep_allowed count limit homes id me i f is its =
    let c : CallerView = caller_of me.0 in
    allows count limit homes id me i f unmoved is
    (λ words m cs j _ shows at _. subst (λ (l : List CallerView). Shows (set words i (f (get_or words i 0))) m l) (sym (put_same cs j c at))
    (subst (λ (k : ℕ). Shows (set words k (f (get_or words i 0))) m cs) its (unread words m cs shows c.key.slot (f (get_or words i 0)))))
