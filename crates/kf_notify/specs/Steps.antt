-- What each step does to the view of the seat that makes it.
use Rattle.std.specs.Prelude.{◌≡◌, ℕ, ◌+◌, ◌≤◌}
use Rattle.atomic_table.specs.Table.{Me, Step}
use Rattle.kf_notify.specs.declared.sight.NumberSight.{NumberSight}
use Rattle.kf_notify.specs.declared.view.NumberView.{NumberView}

-- a seat at the table of numbers: its view, and the homes that it has taken, of which this table has none
abbrev pub Seated : Type 0
Seated = Me (Unit {0}) NumberView

-- a seat that has seen something of the run of all steps
abbrev pub Sighted : Type 0
Sighted = Me (Unit {0}) NumberSight

-- the seat without what it has seen
abbrev pub plain : Sighted → Seated
plain me = (me.0.view, me.1)

-- the view after a load that found this number of the slot
abbrev pub loaded : ℕ → ℕ → NumberView → NumberView
loaded slot found v =
    record { slot = slot; known = found; start = v.start; found = found; made = v.made; steps = v.steps + 1 }

-- the view after the number of the seat's slot was raised to this one
abbrev pub raised : ℕ → NumberView → NumberView
raised number v = record v { known = number; made = number; steps = v.steps + 1 }

-- the seat raised the number of this slot, and has loaded no number since
abbrev pub HasRaised : ℕ → NumberView → Type 0
HasRaised slot v = (v.slot ≡ slot) × (v.known ≡ v.found + 1)

-- the view of a new seat: it knows what the old seat knows, and has made no number and no step
abbrev pub doubled : NumberView → NumberView
doubled v = record v { made = 0; steps = 0 }

-- what a load says: the view after it, and that it found no less than the first number, and no less than the
-- greatest number that the seat knows, if that is of the same slot
abbrev pub Loads : Step (Unit {0}) → Seated → ℕ → Seated → Type 0
Loads st me found me' = (me' ≡ (loaded st.word found me.0, me.1)) × (me.0.start ≤ found)
    × (me.0.slot ≡ st.word → me.0.known ≤ found)

-- what a raise says: that it is on the seat's own slot, and the view after it
abbrev pub Raises : Step (Unit {0}) → Seated → ℕ → Seated → Type 0
Raises st me found me' = (st.word ≡ me.0.slot) × (me' ≡ (raised st.first me.0, me.1))
