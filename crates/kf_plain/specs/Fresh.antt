-- Which keys of a tree are fresh.
use Rattle.std.specs.Prelude.{Bool, false, not, ◌&&◌, Option, None, Some}
use Rattle.kf_core.specs.declared.key.Key.{Key}
use Rattle.kf_core.specs.declared.slot.NodeFlags.{NodeFlags}
use Rattle.kf_core.specs.Tree.{Tree, marks_of}

-- whether these are the marks of a linked node that is neither activated nor doomed
abbrev pub is_fresh_marked : Option NodeFlags → Bool
is_fresh_marked None = false
is_fresh_marked (Some m) = not m.activated && not m.doomed

-- whether the key's node is linked, and neither activated nor doomed
abbrev pub is_fresh_key : Tree → Key → Bool
is_fresh_key tree key = is_fresh_marked (marks_of tree key)
