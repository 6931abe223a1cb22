-- Which records are live.
use Rattle.std.specs.Prelude.{Bool, false, not, ◌&&◌, Option, None, Some, if◌then◌else◌}
use Rattle.kf_core.specs.declared.key.Key.{Key}
use Rattle.kf_core.specs.declared.records.Record.{Record}
use Rattle.kf_core.specs.Marks.{are_live}
use Rattle.kf_core.specs.Tree.{Tree, record_at}

-- a record is live if it is activated, not doomed and not hidden
abbrev pub lives : Record → Bool
lives r = are_live (Some r.marks) && not r.hidden

-- whether the slot has a live record
abbrev pub lives_in : Option Record → Bool
lives_in None = false
lives_in (Some r) = lives r

-- whether the key is linked, and its record is live
abbrev pub live_in : Tree → Key → Bool
live_in t key = lives_in (record_at t key)

-- the key of a slot's record, if the record is live
abbrev pub live_key : Option Record → Option Key
live_key None = None
live_key (Some r) = if lives r then Some r.key else None
