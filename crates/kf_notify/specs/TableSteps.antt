-- One atomic step of the table as a whole, by any of its seats.
use Rattle.std.specs.Prelude.{◌≡◌, ℕ, ◌+◌, ◌<◌, max}
use Rattle.std.specs.Prelude.{List, [], ◌∷◌, ◌++◌, replicate, slice_set}
use Rattle.atomic_table.specs.Table.{stepped, keeps}
use Rattle.atomic_table.specs.Table.{opening as table_opening}
use Rattle.kf_notify.specs.declared.view.NumberView.{NumberView}
pub use Rattle.kf_notify.specs.declared.sight.NumberStepKind.{NumberStepKind}
pub use Rattle.kf_notify.specs.declared.sight.NumberStepKind.TheVariants.{Loads as loads, Raises as raises, Doubles as doubles}
use Rattle.kf_notify.specs.Rule.{Table, IsSeated, number_at, opened}
use Rattle.kf_notify.specs.Steps.{loaded, raised, doubled}

-- one step of the table as a whole. A seat may load the number of any slot. It may raise the number of the
-- slot of its last load to at least one more than that load found. And it may make a new seat
abbrev pub NumberStep : ℕ → Table → NumberStepKind → Table → Type 0
NumberStep slots t (loads seat slot) t' = (v : NumberView) × IsSeated t seat v × (slot < slots)
    × (t' ≡ stepped t slot (number_at t slot) seat [] (loaded slot (number_at t slot) v) keeps)
NumberStep slots t (raises seat slot number) t' = (v : NumberView) × IsSeated t seat v × (slot < slots)
    × (v.slot ≡ slot) × (number ≡ v.found + 1)
    × (t' ≡ stepped t slot (max (number_at t slot) number) seat [] (raised number v) keeps)
NumberStep slots t (doubles seat) t' = (v : NumberView) × IsSeated t seat v
    × (t' ≡ record { words = t.words; homes = t.homes; views = slice_set t.views seat v ++ doubled v ∷ [] })

-- these steps, one after another
abbrev pub NumberRun : ℕ → Table → List NumberStepKind → Table → Type 0
NumberRun slots t [] t' = t' ≡ t
NumberRun slots t (kind ∷ kinds) t' =
    (between : Table) × NumberStep slots t kind between × NumberRun slots between kinds t'

-- the table at the opening. It has one word even if there is no slot
abbrev pub opened_table : ℕ → ℕ → Table
opened_table slots start = table_opening (replicate (max slots 1) start) [] (opened start)
