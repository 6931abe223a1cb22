-- How each step changes what the seat that makes it knows.
use Rattle.std.specs.Prelude.{◌≡◌, ℕ, ◌+◌, ◌*◌, ◌/◌, ◌%◌, ◌==◌, ltb, true, false, if◌then◌else◌}
use Rattle.atomic_table.specs.Table.{Me, Step}
use Rattle.kf_gates.specs.declared.view.GatePlan.{GatePlan}
use Rattle.kf_gates.specs.declared.view.GateView.{GateView}
use Rattle.kf_gates.specs.declared.view.GateView.TheVariants.{Keeps, Outside, Looked, Full, Left, Counted, OneTooMany, Knocking, Inside, Turned, Broken, Restored}
use Rattle.kf_gates.specs.Rule.{gate_word, most_passes}

abbrev pub Seated : Type 0
Seated = Me (Unit {0}) GateView

-- what the seat knows after it has made the pass that it counted
abbrev pub pass_made : GateView → GateView
pass_made (Keeps p n) = Keeps (record p { spare = false }) n
pass_made Outside = Outside
pass_made (Looked f) = Looked f
pass_made (Full f) = Full f
pass_made (Left f) = Left f
pass_made Counted = Outside
pass_made (OneTooMany f) = OneTooMany f
pass_made (Knocking k) = Knocking k
pass_made (Inside k n) = Inside k n
pass_made (Turned k f) = Turned k f
pass_made (Broken k n) = Broken k n
pass_made (Restored k n) = Restored k n

-- what the seat knows after it found this number of seats, and counted one more
abbrev pub after_count : ℕ → GateView
after_count found = if ltb found most_passes then Counted else OneTooMany found

-- what the seat knows after it took back the pass that it had counted. If that was one too many, it still
-- knows which number it had found
abbrev pub uncounted : GateView → GateView
uncounted (Keeps p n) = Keeps p n
uncounted Outside = Outside
uncounted (Looked f) = Looked f
uncounted (Full f) = Full f
uncounted (Left f) = Left f
uncounted Counted = Outside
uncounted (OneTooMany f) = Full f
uncounted (Knocking k) = Knocking k
uncounted (Inside k n) = Inside k n
uncounted (Turned k f) = Turned k f
uncounted (Broken k n) = Broken k n
uncounted (Restored k n) = Restored k n

-- what a caller knows after a look: if the gate was open, it is inside, under the number that it found; else
-- it was turned away
abbrev pub looked : ℕ → ℕ → GateView
looked found lane = if found % 2 == 0 then Inside lane (found / 2) else Turned lane found

-- what the seat knows once it no longer counts in its lane: the word that its look there found, unless it
-- broke its protection after that look
abbrev pub stepped_off : GateView → GateView
stepped_off (Keeps p n) = Keeps p n
stepped_off Outside = Outside
stepped_off (Looked f) = Looked f
stepped_off (Full f) = Full f
stepped_off (Left f) = Left f
stepped_off Counted = Counted
stepped_off (OneTooMany f) = OneTooMany f
stepped_off (Knocking k) = Knocking k
stepped_off (Inside k n) = Looked (gate_word n false)
stepped_off (Turned k f) = Looked f
stepped_off (Broken k n) = Broken k n
stepped_off (Restored k n) = Outside

-- the keeper's plan after a look at the next lane. If that lane is empty, the one after it is next
abbrev pub scanned_plan : ℕ → GatePlan → GatePlan
scanned_plan found p = record p { seen = (if found == 0 then p.seen + 1 else p.seen); found = found }

abbrev pub scanned : ℕ → GatePlan → ℕ → GateView
scanned found p n = Keeps (scanned_plan found p) (n + 1)

-- the plan of a gate that was just shut, and of one that was just opened under the next number
abbrev pub shut_plan : GatePlan → GatePlan
shut_plan p = record p { shut = true; seen = 0; found = 0 }

abbrev pub next_plan : GatePlan → GatePlan
next_plan p = record p { number = p.number + 1; shut = false; seen = 0; found = 0 }

abbrev pub MakesKnock : Step (Unit {0}) → Seated → ℕ → Seated → Type 0
MakesKnock st me found me' = (lane : ℕ) → st.word ≡ 8 * lane + 8 → me'.0 ≡ Knocking lane

abbrev pub MakesLook : Step (Unit {0}) → Seated → ℕ → Seated → Type 0
MakesLook st me found me' = (lane : ℕ) → me.0 ≡ Knocking lane → me'.0 ≡ looked found lane

abbrev pub MakesLookBack : Step (Unit {0}) → Seated → ℕ → Seated → Type 0
MakesLookBack st me found me' = me'.0 ≡ Left found

abbrev pub MakesLeave : Step (Unit {0}) → Seated → ℕ → Seated → Type 0
MakesLeave st me found me' = me'.0 ≡ stepped_off me.0

abbrev pub MakesBreak : Step (Unit {0}) → Seated → ℕ → Seated → Type 0
MakesBreak st me found me' = (lane number : ℕ) → me.0 ≡ Inside lane number → me'.0 ≡ Broken lane number

abbrev pub MakesRestore : Step (Unit {0}) → Seated → ℕ → Seated → Type 0
MakesRestore st me found me' = (lane number : ℕ) → me.0 ≡ Broken lane number → me'.0 ≡ Restored lane number

abbrev pub MakesCount : Step (Unit {0}) → Seated → ℕ → Seated → Type 0
MakesCount st me found me' = me'.0 ≡ after_count found

abbrev pub MakesUncount : Step (Unit {0}) → Seated → ℕ → Seated → Type 0
MakesUncount st me found me' = me'.0 ≡ uncounted me.0

abbrev pub MakesShut : Step (Unit {0}) → Seated → ℕ → Seated → Type 0
MakesShut st me found me' = (p : GatePlan) (n : ℕ) → me.0 ≡ Keeps p n → me'.0 ≡ Keeps (shut_plan p) n

abbrev pub MakesScan : Step (Unit {0}) → Seated → ℕ → Seated → Type 0
MakesScan st me found me' = (p : GatePlan) (n : ℕ) → me.0 ≡ Keeps p n → me'.0 ≡ scanned found p n

abbrev pub MakesOpening : Step (Unit {0}) → Seated → ℕ → Seated → Type 0
MakesOpening st me found me' = (p : GatePlan) (n : ℕ) → me.0 ≡ Keeps p n → me'.0 ≡ Keeps (next_plan p) n

-- a step on the count of the threads that sleep changes no view
abbrev pub MakesSleepCount : Step (Unit {0}) → Seated → ℕ → Seated → Type 0
MakesSleepCount st me found me' = me'.0 ≡ me.0
