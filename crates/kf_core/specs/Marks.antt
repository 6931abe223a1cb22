-- The marks of a node: its flags, and what they say.
use Rattle.std.specs.Prelude.{Bool, true, false, not, ◌&&◌, Option, None, Some}
use Rattle.kf_core.specs.declared.slot.NodeFlags.{NodeFlags}

-- the marks of a node that was just born
abbrev pub fresh_marks : NodeFlags
fresh_marks = record { activated = false; doomed = false }

-- the marks of a live node
abbrev pub live_marks : NodeFlags
live_marks = record { activated = true; doomed = false }

-- whether the node is linked, activated and not doomed; if so, it is live unless a caller hides it (a node
-- without marks is not linked)
abbrev pub are_live : Option NodeFlags → Bool
are_live None = false
are_live (Some m) = m.activated && not m.doomed

-- whether the node is doomed; a node that is not linked counts as doomed
abbrev pub are_doomed : Option NodeFlags → Bool
are_doomed None = true
are_doomed (Some m) = m.doomed
