-- What the steps of a run store in the words of nodes, and what was there when a slot's last node was born.
use Rattle.std.specs.Prelude.{◌≡◌, ℕ, ◌%◌, ◌<◌, ◌≤◌, ◌&&◌, ◌==◌, if◌then◌else◌, true, List, [], ◌∷◌, ◌++◌, slice_index}
use Rattle.kf_core.specs.declared.key.Key.{Key}
use Rattle.kf_core.specs.declared.key.Node.{Node}
use Rattle.kf_core.specs.declared.key.Node.TheVariants.{Dir, File, Link}
use Rattle.kf_core.specs.Bare.{is_linked}
use Rattle.kf_words.specs.declared.sight.Opening.{Opening}
use Rattle.kf_words.specs.declared.sight.Seen.{Seen}
use Rattle.kf_words.specs.Layout.{node_index}
use Rattle.kf_words.specs.TableSteps.{Table, StepKind, world, WordRun, tries, undoes, leaves, breaks, restores, looks, parts, hides, looks_hidden, shows, releases, sees_holds, counts_hold, shares, sleeps, awakes, loads_sleepers, loads_hold, pins_hold, unpins_hold, splits, stores_fresh, births, takes_bias, marks_node, looks_over, unlinks, sees_holds_at, counts_hold_at, hands_on, stores_node, reads_node, notes, reports, answers, compares}
use Rattle.kf_words.specs.History.{opened_as}

-- the three words of a node. The first is its kind: 0 for a directory, 1 for a file and 2 for a link. The
-- second is a file's mode, or the slot of a link's target. The third is a file's tag, or the generation of a
-- link's target. In a directory, all three are 0
abbrev pub kind_word : Node → ℕ
kind_word Dir = 0
kind_word (File mode tag) = 1
kind_word (Link target) = 2

abbrev pub first_word : Node → ℕ
first_word Dir = 0
first_word (File mode tag) = mode
first_word (Link target) = target.slot

abbrev pub second_word : Node → ℕ
second_word Dir = 0
second_word (File mode tag) = tag
second_word (Link target) = target.generation

-- the node that three words describe. A mode is taken modulo 2^16, and the slot and generation of a target
-- modulo 2^32. If the first word is neither 1 nor 2, it is a directory
abbrev pub node_in : ℕ → ℕ → ℕ → Node
node_in kind first second = if kind == 1 then File (first % 65536) second
    else (if kind == 2 then Link (record {
      slot = first % 4294967296;
      generation = second % 4294967296;
    }) else Dir)

-- by slot and place: the word that was stored last, and the word that was there at the slot's last birth
pub record NodeNotes : Type 0 where
  pub now : ℕ → ℕ → ℕ
  pub born : ℕ → ℕ → ℕ

-- at the opening, all of them are 0, as for a directory
abbrev pub no_notes : NodeNotes
no_notes = record { now = λ s p. 0; born = λ s p. 0 }

-- the node notes after this word was stored at this place of this slot
abbrev pub with_note : ℕ → ℕ → ℕ → NodeNotes → NodeNotes
with_note slot place n w = record {
  now = λ s p. if (s == slot) && (p == place) then n else w.now s p;
  born = w.born;
}

-- the node notes after a node was born in this slot
abbrev pub with_born : ℕ → NodeNotes → NodeNotes
with_born slot w = record { now = w.now; born = λ s p. if s == slot then w.now s p else w.born s p }

-- the node notes after a step of this kind
abbrev pub noted_by : StepKind → NodeNotes → NodeNotes
noted_by (stores_node slot place n) w = with_note slot place n w
noted_by (births slot) w = with_born slot w
noted_by (tries j) w = w
noted_by (undoes j) w = w
noted_by (leaves j) w = w
noted_by (breaks j) w = w
noted_by (restores j) w = w
noted_by (looks j) w = w
noted_by (parts j) w = w
noted_by (hides j) w = w
noted_by (looks_hidden j) w = w
noted_by (shows j) w = w
noted_by (releases j) w = w
noted_by (sees_holds j) w = w
noted_by (counts_hold j) w = w
noted_by (shares j) w = w
noted_by (sleeps slot j) w = w
noted_by (awakes slot j) w = w
noted_by (loads_sleepers slot j) w = w
noted_by (loads_hold slot) w = w
noted_by (pins_hold slot) w = w
noted_by (unpins_hold slot) w = w
noted_by (splits slot) w = w
noted_by (stores_fresh slot) w = w
noted_by (takes_bias slot) w = w
noted_by (marks_node slot) w = w
noted_by (looks_over slot) w = w
noted_by (unlinks slot) w = w
noted_by (sees_holds_at slot j) w = w
noted_by (counts_hold_at slot j) w = w
noted_by (hands_on j) w = w
noted_by (reads_node slot place j) w = w
noted_by (notes note) w = w
noted_by (reports j) w = w
noted_by answers w = w
noted_by compares w = w

-- the node notes after these steps, in order
abbrev pub notes_after : NodeNotes → List StepKind → NodeNotes
notes_after w [] = w
notes_after w (kind ∷ kinds) = notes_after (noted_by kind w) kinds

-- the node that was born with the last key of this slot, by the steps that were seen
abbrev pub node_born : Seen → ℕ → Node
node_born seen slot = node_in ((notes_after no_notes seen.steps).born slot 0)
    ((notes_after no_notes seen.steps).born slot 1) ((notes_after no_notes seen.steps).born slot 2)

-- suppose that a key is linked in two tables of a run from an opening with at least one slot, and with at
-- most 65535 holds of a slot. Then in every table between the two, each word of its node is the word that was
-- there when the node was born
abbrev pub ReadAsBorn : Type 0
ReadAsBorn = (o : Opening) → 1 ≤ o.slots → o.holds ≤ 65535 → (first mid last : List StepKind) (t u v : Table)
    → WordRun (opened_as o) first t → WordRun t mid u → WordRun u last v
    → (key : Key) → is_linked (world t) key ≡ true → is_linked (world v) key ≡ true
    → (place : ℕ) → place < 5
    → slice_index u.words (node_index place key.slot)
    ≡ (notes_after no_notes ((first ++ mid) ++ last)).born key.slot place
