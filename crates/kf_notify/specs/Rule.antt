-- The rule of the table: what its words show of the views of all seats.
use Rattle.std.specs.Prelude.{◌≡◌, ℕ, ◌+◌, ◌≤◌, ◌<◌, length, slice_index}
use mathlib.Core.Option.{some}
use lib.ListN.{get_elem?}
use Rattle.atomic_table.specs.Table.{State}
use Rattle.kf_notify.specs.declared.view.NumberView.{NumberView}

-- the words, and the views of all seats
abbrev pub Table : Type 0
Table = State (Unit {0}) NumberView

-- the seat of this number has this view
abbrev pub IsSeated : Table → ℕ → NumberView → Type 0
IsSeated t seat v = get_elem? t.views seat ≡ some v

-- the number of a slot
abbrev pub number_at : Table → ℕ → ℕ
number_at t slot = slice_index t.words slot

-- the view of the first seat at the opening
abbrev pub opened : ℕ → NumberView
opened start = record { slot = 0; known = 0; start = start; found = 0; made = 0; steps = 0 }

-- the greatest number that a seat knows is what its last load found, or one more
pub record KnowsNext (v : NumberView) : Type 0 where
  pub found : v.found ≤ v.known
  pub next : v.known ≤ v.found + 1

-- no slot's number is below one that any seat has seen or made there, or below the first. Each seat knows the
-- first number, and the greatest number that it knows is what its last load found, or one more
pub record NumbersShown (slots start : ℕ) (t : Table) : Type 0 where
  -- there is a word for each slot
  pub wide : slots ≤ length t.words
  pub first : (seat : ℕ) (v : NumberView) → IsSeated t seat v → v.start ≡ start
  pub knows : (seat : ℕ) (v : NumberView) → IsSeated t seat v → KnowsNext v
  pub known : (seat : ℕ) (v : NumberView) → IsSeated t seat v → v.known ≤ number_at t v.slot
  pub least : (slot : ℕ) → slot < slots → start ≤ number_at t slot
