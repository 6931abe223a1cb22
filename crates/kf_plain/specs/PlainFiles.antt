-- What the commands on files do. A letter names an open file; texts and event numbers are those of slots.
use Rattle.std.specs.Prelude.{◌≡◌, ◌⊎◌, ℕ, ◌+◌, ◌-◌, ◌^◌, not, List, [], ◌∷◌, length, take, nat_lt, slice_set, slice_index, slice_index_or, is_some, Option, Some, None, Result, Ok, Err}
use Rattle.std.specs.Option.{ok_or}
use Rattle.kf_core.specs.declared.key.Key.{Key}
use Rattle.kf_core.specs.declared.records.Record.{Record}
use Rattle.kf_core.specs.declared.refusal.Refusal.{Refusal}
use Rattle.kf_core.specs.declared.refusal.Refusal.TheVariants.{NoEntry, Access, Busy, NoDevice, Invalid, TooManyHolds, NoSpace}
use Rattle.kf_core.specs.Refusals.{unless, first_cause}
use Rattle.kf_core.specs.Tree.{record_at}
use Rattle.kf_core.specs.Calls.{Visit}
use Rattle.kf_tree.specs.Paths.{and_then, walked, seen}
use Rattle.kf_tree.specs.Causes.{linked_cause}
use Rattle.kf_table.specs.Live.{live_in}
use Rattle.kf_pages.specs.declared.contents.Want.{Want}
use Rattle.kf_pages.specs.declared.ops.Fault.{Fault}
use Rattle.kf_pages.specs.Files.{ShowResult, open_cause, new_file}
use Rattle.kf_tree.specs.TreeLogs.{TreeLog}
use Rattle.kf_plain.specs.Plain.{Plain, OpenPlainFile, file_at, holder_count, with_text}
use Rattle.kf_plain.specs.Visits.{VisitsLive, kind_cause}
use Rattle.kf_plain.specs.Settled.{ok_unless}

-- ---- open

-- why a command on a file is refused: no record was found; or what is wrong with the kind of the record
abbrev pub record_cause : (ℕ → Option Refusal) → Option Record → Option Refusal
record_cause cause None = Some NoEntry
record_cause cause (Some r) = kind_cause cause r.node

-- why a node is not opened; the hold is taken before the node's kind is looked at
abbrev pub open_cause_at : TreeLog → (ℕ → ℕ) → ℕ → Want → Key → Option Refusal
open_cause_at log holds limit want key = first_cause (
    linked_cause log.tree key
    ∷ unless (nat_lt (holds key.slot) limit) TooManyHolds
    ∷ record_cause (λ mode. open_cause mode want (live_in log.tree key)) (record_at log.tree key)
    ∷ [])

-- the live node at a path, if it may be opened
abbrev pub opened_node : TreeLog → (ℕ → ℕ) → ℕ → List ℕ → Want → Result Key Refusal
opened_node log holds limit path want =
    and_then (seen log.tree log.root path) (λ key. ok_unless (open_cause_at log holds limit want key) key)

-- the node that is opened under a letter; the letter is looked at first
abbrev pub opened_key : Plain → ℕ → List ℕ → Want → Result Key Refusal
opened_key b file path want = and_then (ok_unless (unless (not (is_some (file_at b file))) Busy) file)
    (λ _. opened_node b.log (holder_count b) b.limit path want)

-- the node that an open takes its hold of, if the letter is free
abbrev pub open_held : Plain → ℕ → List ℕ → Result Key Refusal
open_held b file path = and_then (ok_unless (unless (not (is_some (file_at b file))) Busy) file)
    (λ _. seen b.log.tree b.log.root path)

-- a file that was just opened, by its key and what it was opened for
abbrev pub new_open : Key → Want → OpenPlainFile
new_open key want = record { key = key; kept = new_file want }

-- the open file of a letter
abbrev pub known_file : Plain → ℕ → Result OpenPlainFile Refusal
known_file b file = ok_or (file_at b file) Invalid

-- the open file of a letter, if it was opened for writing and its node is live, so that bytes can be stored
abbrev pub stored_file : Plain → ℕ → Result OpenPlainFile Refusal
stored_file b file = and_then (known_file b file) (λ opened. ok_unless (first_cause (
    unless opened.kept.want.write Access
    ∷ unless (live_in b.log.tree opened.key) NoDevice
    ∷ [])) opened)

-- ---- notify

-- the file at a path, if it may be notified; it may not if its slot's event number is 2^64 - 1
abbrev pub notified_key : Plain → List ℕ → Result Key Refusal
notified_key b path = and_then (walked b.log.tree b.log.root path) (λ key.
    ok_unless (record_cause (λ mode. unless (nat_lt (slice_index b.events key.slot) (2 ^ 64 - 1)) NoSpace)
    (record_at b.log.tree key)) key)

-- the board after a notify of a slot: its event number is one higher
abbrev pub with_event : Plain → ℕ → Plain
with_event b slot = record b { events = slice_set b.events slot (slice_index b.events slot + 1) }

-- ---- visits

-- what a visit to the key's node does, which depends on whether the node is live
abbrev pub VisitsNode : {Done : Type 0} → Plain → Key → Type 0 → (Done → Type 0) → Visit Done → Type 0
VisitsNode b key idle does visit = VisitsLive (live_in b.log.tree key) idle does visit

-- a show fills the page with the first 4,096 bytes of the slot's text, and the number that was taken for it
-- is the slot's event number
abbrev pub ShowsText : Plain → ℕ → ShowResult → Type 0
ShowsText b slot shown = (shown.number ≡ slice_index b.events slot)
    × (shown.filled ≡ Ok (take 4096 (slice_index_or b.texts slot [])))

-- a store replaces the slot's whole text with these bytes, and returns their number
abbrev pub StoresText : Plain → ℕ → List ℕ → Result ℕ Fault → Plain → Type 0
StoresText b slot bytes answer now = (answer ≡ Ok (length bytes)) × (now ≡ with_text b slot bytes)

-- the same, or the fault for lack of memory, which changes nothing
abbrev pub StoresOnBoard : Plain → ℕ → List ℕ → Result ℕ Fault → Plain → Type 0
StoresOnBoard b slot bytes answer now =
    StoresText b slot bytes answer now ⊎ ((answer ≡ Err (record { number = 12 })) × (now ≡ b))
