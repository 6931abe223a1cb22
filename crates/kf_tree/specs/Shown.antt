-- A tree in which only the live records are shown.
use Rattle.std.specs.Prelude.{Bool, true, false, map, Option}
use Rattle.kf_core.specs.declared.records.Record.{Record}
use Rattle.kf_core.specs.Tree.{Tree}
use Rattle.kf_tree.specs.Paths.{only_live}

-- the tree without the records that are not live, if only live records count; otherwise the whole tree
abbrev pub shown : Bool → Tree → Tree
shown true t = map only_live t
shown false t = t

-- the record of a slot; if only live records count, none if it is not live
abbrev pub shown_record : Bool → Option Record → Option Record
shown_record true entry = only_live entry
shown_record false entry = entry
