-- A run with every kind of event: the whole life of a node, and of the next one in its slot.
use Rattle.std.specs.Prelude.{ℕ, true, false, List, [], ◌∷◌, Option, Some}
use Rattle.kf_core.specs.declared.key.Key.{Key}
use Rattle.kf_core.specs.declared.key.Node.{Node}
use Rattle.kf_core.specs.declared.key.Node.TheVariants.{File}
use Rattle.kf_core.specs.declared.caller.Phase.{Phase}
use Rattle.kf_core.specs.declared.caller.Caller.{Caller}
use Rattle.kf_core.specs.declared.slot.NodeFlags.{NodeFlags}
use Rattle.kf_core.specs.declared.records.Record.{Record}
use Rattle.kf_core.specs.declared.event.Event.{Event}
use Rattle.kf_core.specs.declared.event.Event.TheVariants.{Born, Rise, Mark, Move, Pin, Enter, Leave, Break, Restore, Look, Unlink, Part, Hide, LookHidden, Show, Release, Undo}
use Rattle.kf_core.specs.Worlds.{World}
use Rattle.kf_core.specs.Lawful.{root_record}

-- the key of the root, in slot 0
abbrev pub root : Key
root = record { slot = 0; generation = 1 }

-- the key of the first node of slot 1
abbrev pub first : Key
first = record { slot = 1; generation = 1 }

-- the key of the node that is born in slot 1 after the first is gone
abbrev pub second : Key
second = record { slot = 1; generation = 2 }

-- the name `a`, with which each node is born
abbrev pub a : List ℕ
a = 97 ∷ []

-- the name `b`, to which the first node moves
abbrev pub b : List ℕ
b = 98 ∷ []

-- what each node born in slot 1 is: a file of mode 0644 with the tag 7
abbrev pub file : Node
file = File 420 7

-- the record of this file, with this key, in the root under this name, with these marks
abbrev pub file_at : Key → List ℕ → NodeFlags → Record
file_at key name marks =
    record { key = key; parent = Some root; name = name; node = file; marks = marks; hidden = false }

-- a caller of the first node, in this phase
abbrev pub by : Phase → Caller
by phase = record { key = first; phase = phase }

-- the world of the root, of slot 1 with this last generation and this record, and of these callers
abbrev pub at : ℕ → Option Record → List Caller → World
at last linked callers = record {
  slots = record { last = 1; linked = Some (root_record root) }
      ∷ record { last = last; linked = linked } ∷ [];
  callers = callers;
}

-- the marks of a node that was activated, and then doomed
abbrev pub activated_and_doomed : NodeFlags
activated_and_doomed = record { activated = true; doomed = true }

-- caller 0 calls into the node, caller 1 hides it, shows it, and removes it
abbrev pub whole_life : List Event
whole_life =
    Born first root a file ∷ Rise first ∷ Move first root b ∷ Pin 0 first ∷ Pin 1 first
    ∷ Enter 0 ∷ Hide 1 ∷ Leave 0 ∷ LookHidden 1 ∷ Enter 0 ∷ Undo 0 ∷ Show 1
    ∷ Enter 0 ∷ Mark first ∷ Enter 1 ∷ Undo 1 ∷ Break 0 ∷ Look 1 ∷ Restore 0 ∷ Unlink 1 ∷ Part 1
    ∷ Leave 0 ∷ Release 0 ∷ Release 1 ∷ Born second root a file ∷ []
