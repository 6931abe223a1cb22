-- A reader that looks names up beside the tree's owner, and what it has seen.
use Rattle.std.specs.Prelude.{ℕ, List}
use Rattle.kf_core.specs.declared.key.Key.{Key}
use Rattle.kf_looks.specs.declared.view.Link.{Link}
use Rattle.kf_looks.specs.declared.view.LookView.{LookView}

-- the directory from which paths lead, how many slots have words, and what the looker knows of the words
pub record Onlooker : Type 0 where
  pub root : Key
  pub slots : ℕ
  pub view : LookView

-- the links that the looker has seen, the latest first
abbrev pub links_seen : Onlooker → List Link
links_seen looker = looker.view.seen
