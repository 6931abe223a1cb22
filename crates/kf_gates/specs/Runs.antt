-- Runs of steps of a gate's words, by any of its seats.
use Rattle.std.specs.Prelude.{◌≡◌, ℕ, ◌+◌, ◌*◌, ◌%◌, ◌<◌, true, false, List, [], ◌∷◌, ◌++◌, replicate, slice_index, slice_set}
use Rattle.atomic_table.specs.Table.{opening}
use Rattle.kf_gates.specs.declared.view.GatePlan.{GatePlan}
use Rattle.kf_gates.specs.declared.view.GateView.{GateView}
use Rattle.kf_gates.specs.declared.view.GateView.TheVariants.{Keeps, Outside, Looked, Full, Left, Counted, OneTooMany, Knocking, Inside, Turned, Broken, Restored}
use Rattle.kf_gates.specs.Rule.{Table, Kept, IsPass, gate_word, due_from, opened}
use Rattle.kf_gates.specs.Steps.{after_count, looked, next_plan, pass_made, scanned, shut_plan, stepped_off, uncounted}
use Rattle.kf_gates.specs.Laws.{Has, IsOver}

-- the kinds of steps, each with the seat that makes it and with what that seat knows
pub data Kind : Type 0 where
  knocks : ℕ → ℕ → GateView → Kind
  looks : ℕ → ℕ → Kind
  looks_back : ℕ → GateView → Kind
  leaves : ℕ → ℕ → GateView → Kind
  breaks : ℕ → ℕ → ℕ → Kind
  restores : ℕ → ℕ → ℕ → Kind
  counts : ℕ → GateView → Kind
  uncounts : ℕ → GateView → Kind
  makes_pass : ℕ → GateView → Kind
  shuts : ℕ → GatePlan → ℕ → Kind
  scans : ℕ → GatePlan → ℕ → Kind
  opens : ℕ → GatePlan → ℕ → Kind
  counts_sleep : ℕ → GatePlan → ℕ → ℕ → Kind

-- a caller that knows this counts in this lane and has looked at the gate's word, so it may step off
abbrev pub CountsIn : ℕ → GateView → Type 0
CountsIn lane (Keeps p n) = ⊥
CountsIn lane Outside = ⊥
CountsIn lane (Looked f) = ⊥
CountsIn lane (Full f) = ⊥
CountsIn lane (Left f) = ⊥
CountsIn lane Counted = ⊥
CountsIn lane (OneTooMany f) = ⊥
CountsIn lane (Knocking k) = ⊥
CountsIn lane (Inside k n) = k ≡ lane
CountsIn lane (Turned k f) = k ≡ lane
CountsIn lane (Broken k n) = ⊥
CountsIn lane (Restored k n) = k ≡ lane

-- the seat has counted a pass that it has not made, and may take it back
abbrev pub MayUncount : GateView → Type 0
MayUncount (Keeps p n) = ⊥
MayUncount Outside = ⊥
MayUncount (Looked f) = ⊥
MayUncount (Full f) = ⊥
MayUncount (Left f) = ⊥
MayUncount Counted = Unit {0}
MayUncount (OneTooMany f) = Unit {0}
MayUncount (Knocking k) = ⊥
MayUncount (Inside k n) = ⊥
MayUncount (Turned k f) = ⊥
MayUncount (Broken k n) = ⊥
MayUncount (Restored k n) = ⊥

-- a word after 1 was added to it, and after 1 was subtracted from it
abbrev pub one_more : ℕ → ℕ
one_more n = (n + 1) % 18446744073709551616

abbrev pub one_less : ℕ → ℕ
one_less n = (n + 18446744073709551615) % 18446744073709551616

-- the table after one word and one view have changed
abbrev pub moved : Table → ℕ → (ℕ → ℕ) → ℕ → GateView → Table
moved t i f j v = record {
  words = slice_set t.words i (f (slice_index t.words i));
  homes = t.homes;
  views = slice_set t.views j v;
}

-- the table after a seat has made the pass that it counted
abbrev pub with_pass : Table → ℕ → GateView → Table
with_pass t j v = record {
  words = t.words;
  homes = t.homes;
  views = slice_set t.views j (pass_made v) ++ Outside ∷ [];
}

-- one step, as the machine makes it
abbrev pub GateStep : ℕ → Table → Kind → Table → Type 0
GateStep lanes t (knocks j k v) u = Has t j v × IsPass v × (k < lanes)
    × (u ≡ moved t (8 * k + 8) one_more j (Knocking k))
GateStep lanes t (looks j k) u = Has t j (Knocking k)
    × (u ≡ moved t 0 (λ n. n) j (looked (slice_index t.words 0) k))
GateStep lanes t (looks_back j v) u = Has t j v × IsPass v
    × (u ≡ moved t 0 (λ n. n) j (Left (slice_index t.words 0)))
GateStep lanes t (leaves j k v) u = Has t j v × CountsIn k v × (k < lanes)
    × (u ≡ moved t (8 * k + 8) one_less j (stepped_off v))
GateStep lanes t (breaks j k n) u = Has t j (Inside k n) × (k < lanes)
    × (u ≡ moved t (8 * k + 8) one_less j (Broken k n))
GateStep lanes t (restores j k n) u = Has t j (Broken k n) × (k < lanes)
    × (u ≡ moved t (8 * k + 8) one_more j (Restored k n))
GateStep lanes t (counts j v) u = Has t j v × IsPass v
    × (u ≡ moved t 2 one_more j (after_count (slice_index t.words 2)))
GateStep lanes t (uncounts j v) u = Has t j v × MayUncount v × (u ≡ moved t 2 one_less j (uncounted v))
GateStep lanes t (makes_pass j v) u = Has t j v × (due_from v ≡ 1) × (u ≡ with_pass t j v)
GateStep lanes t (shuts j p n) u = Has t j (Keeps p n) × (p.shut ≡ false)
    × (u ≡ moved t 0 (λ _. gate_word p.number true) j (Keeps (shut_plan p) n))
GateStep lanes t (scans j p n) u = Has t j (Keeps p n) × (p.shut ≡ true) × (p.seen < lanes)
    × (u ≡ moved t (8 * p.seen + 8) (λ w. w) j (scanned (slice_index t.words (8 * p.seen + 8)) p n))
GateStep lanes t (opens j p n) u = Has t j (Keeps p n) × IsOver lanes p
    × (u ≡ moved t 0 (λ _. gate_word (p.number + 1) false) j (Keeps (next_plan p) n))
GateStep lanes t (counts_sleep j p n w) u = Has t j (Keeps p n) × (u ≡ moved t 1 (λ _. w) j (Keeps p n))

-- these steps, one after another
abbrev pub GateRun : ℕ → Table → List Kind → Table → Type 0
GateRun lanes t [] u = u ≡ t
GateRun lanes t (kind ∷ kinds) u =
    (between : Table) × GateStep lanes t kind between × GateRun lanes between kinds u

-- the words of a new gate: it is shut under the number 0, and two seats are counted, the keeper's and that of
-- the first pass
abbrev pub new_words : ℕ → List ℕ
new_words lanes = slice_set (slice_set (replicate (8 * lanes + 8) 0) 0 1) 2 2

-- the words of a new gate meet the rule
abbrev pub OpensWell : Type 0
OpensWell = (lanes : ℕ) → Kept lanes (opening (new_words lanes) [] (opened lanes))

-- each run of steps, by any seats, keeps the rule
abbrev pub RuleKept : Type 0
RuleKept = (lanes : ℕ) (t u : Table) (kinds : List Kind) → Kept lanes t → GateRun lanes t kinds u
    → Kept lanes u

-- once the gate is shut under a number, nobody else is let in under that number: whoever is inside under it
-- at any later moment was already inside
abbrev pub NobodyPastTheMark : Type 0
NobodyPastTheMark = (lanes : ℕ) (t u : Table) (kinds : List Kind) → Kept lanes t → GateRun lanes t kinds u
    → (p : GatePlan) (n : ℕ) → Has t 0 (Keeps p n) → p.shut ≡ true
    → (seat lane : ℕ) → Has u seat (Inside lane p.number) → Has t seat (Inside lane p.number)

-- once the keeper has seen all lanes empty since it shut the gate, whoever is inside at any later moment came
-- in under a later number
abbrev pub ClosedForGood : Type 0
ClosedForGood = (lanes : ℕ) (t u : Table) (kinds : List Kind) → Kept lanes t → GateRun lanes t kinds u
    → (p : GatePlan) (n : ℕ) → Has t 0 (Keeps p n) → IsOver lanes p
    → (seat lane number : ℕ) → Has u seat (Inside lane number) → p.number < number
