-- What a step of the Master says: how it changes the Master's view, and that it was the next step of the one
-- run.
use Rattle.std.specs.Prelude.{◌≡◌, ℕ, ◌-◌}
use mathlib.Core.Option.{some}
use Rattle.atomic_table.specs.Table.{Step}
use mathlib.Core.List.{IsPrefix}
use Rattle.kf_words.specs.declared.note.Note.{Note}
use Rattle.kf_words.specs.declared.view.View.TheVariants as seat
use Rattle.kf_words.specs.Layout.{node_index, place_of, slot_of}
use Rattle.kf_words.specs.Steps.{Seated, Sighted, plain, kept, MasterBecomes}
use Rattle.kf_words.specs.Nodes.{master_sight}
use Rattle.kf_words.specs.TableSteps.{StepKind, notes, compares, stores_node}
use Rattle.kf_words.specs.Made.{WasMadeByMaster}

-- what is said by a step that stores one of the words of a node: which of them, and the number stored
abbrev pub PutsNodeWord : Step (Unit {0}) → Sighted → ℕ → Sighted → Type 0
PutsNodeWord st me found me' = (st.word ≡ node_index (place_of st.word) (slot_of st.word))
    × (MasterBecomes kept st (plain me) found (plain me')
    × WasMadeByMaster (stores_node (slot_of st.word) (place_of st.word) st.first) (master_sight me.0)
    (master_sight me'.0))

-- what a step of the Master says: that it is on the word that this index gives for some slot, what the view
-- is after it, and that it was the next step of the one run
abbrev pub MasterMakes : (ℕ → ℕ) → (ℕ → StepKind) → (Step (Unit {0}) → Seated → ℕ → Seated → Type 0)
    → Step (Unit {0}) → Sighted → ℕ → Sighted → Type 0
MasterMakes index kind tells st me found me' = (st.word ≡ index (slot_of st.word))
    × (tells st (plain me) found (plain me')
    × WasMadeByMaster (kind (slot_of st.word)) (master_sight me.0) (master_sight me'.0))

-- what is said by a step of the Master, on whatever word, that adds a note to the run: it changes no view
abbrev pub MakesNote : Note → Step (Unit {0}) → Sighted → ℕ → Sighted → Type 0
MakesNote note st me found me' =
    (plain me' ≡ plain me) × WasMadeByMaster (notes note) (master_sight me.0) (master_sight me'.0)

-- what is said by a step of the Master that compares what it was shown with the run so far: that what it was
-- shown is a beginning of the run. The step changes no view
abbrev pub MakesCompare : Step (Unit {0}) → Sighted → ℕ → Sighted → Type 0
MakesCompare st me found me' = (plain me' ≡ plain me) × WasMadeByMaster compares (master_sight me.0)
    (master_sight me'.0) × IsPrefix me.0.shown me'.0.seen.steps
