-- The tree with its stored commands, and what a call does to them.
use Rattle.std.specs.Prelude.{◌≡◌, ℕ, List, [], ◌∷◌, ◌++◌, length, Option, None, Some}
use Rattle.kf_core.specs.declared.key.Key.{Key}
use Rattle.kf_core.specs.declared.records.Record.{Record}
use Rattle.kf_core.specs.declared.command.Command.{Command}
use Rattle.kf_core.specs.declared.refusal.Refusal.{Refusal}
use Rattle.kf_core.specs.Lawful.{Lawful}
use Rattle.kf_core.specs.Commands.{after, replay, root_alone}
use Rattle.kf_tree.specs.Canonical.{IsCanonical}
use Rattle.kf_tree.specs.Causes.{Refuses}

-- the tree with its root, the commands that make it, and the key that is ready to be hidden, if any
pub record TreeLog : Type 0 where
  pub root : Key
  pub tree : List (Option Record)  -- by slot
  -- the canonical list at the last compaction, if any, then what was accepted since
  pub commands : List Command
  pub ready : Option Key  -- the key for whose hiding there is room, from `may_hide` to the next change

-- the tree is lawful, and it is the replay of its commands
pub record IsKept (s : TreeLog) : Type 0 where
  pub lawful : Lawful s.tree s.root
  pub replayed : s.tree ≡ replay (root_alone (length s.tree) s.root) s.commands

-- a tree of only the root, with this many slots and no commands
pub record IsNew (slots : ℕ) (key : Key) (s : TreeLog) : Type 0 where
  pub root : s.root ≡ key
  pub tree : s.tree ≡ root_alone slots key
  pub commands : s.commands ≡ []
  pub not_ready : s.ready ≡ None
  pub kept : IsKept s

-- there was no cause against the command: it changed the tree, and it is stored
pub record IsAccepted (old new : TreeLog) (cause : Option Refusal) (command : Command) : Type 0 where
  pub no_cause : cause ≡ None
  pub same_root : new.root ≡ old.root
  pub changed : new.tree ≡ after old.tree command
  pub stored : new.commands ≡ old.commands ++ command ∷ []
  pub not_ready : new.ready ≡ None
  pub kept : IsKept new

-- these commands were stored, one after another, and the new tree is their replay on the old one
pub record Stores (old new : TreeLog) (commands : List Command) : Type 0 where
  pub same_root : new.root ≡ old.root
  pub changed : new.tree ≡ replay old.tree commands
  pub stored : new.commands ≡ old.commands ++ commands

-- there is no cause against hiding the key, and the key is now ready to be hidden; nothing else changed
pub record IsReadied (old new : TreeLog) (cause : Option Refusal) (key : Key) : Type 0 where
  pub no_cause : cause ≡ None
  pub same_root : new.root ≡ old.root
  pub same_tree : new.tree ≡ old.tree
  pub same_commands : new.commands ≡ old.commands
  pub ready : new.ready ≡ Some key

-- the tree is as it was, the commands are its canonical list, and the tree is their replay
pub record IsCompacted (old new : TreeLog) : Type 0 where
  pub same_root : new.root ≡ old.root
  pub same_tree : new.tree ≡ old.tree
  pub canonical : IsCanonical new.tree new.commands
  pub not_ready : new.ready ≡ None
  pub kept : IsKept new

-- the refusal is this cause or, if there is no cause, NoMemory; and nothing changed
pub record IsRefused (old new : TreeLog) (cause : Option Refusal) (refusal : Refusal) : Type 0 where
  pub named : Refuses cause refusal
  pub unchanged : new ≡ old
