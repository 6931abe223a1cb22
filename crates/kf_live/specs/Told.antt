-- The links that a tree's commands made, and what they led to when they were made.
use Rattle.std.specs.Prelude.{◌≡◌, ◌⊎◌, ℕ, List, [], ◌∷◌, ◌++◌, Option, None, Some}
use Rattle.kf_core.specs.declared.key.Key.{Key}
use Rattle.kf_core.specs.Tree.{Tree}
use Rattle.kf_tree.specs.TreeLogs.{TreeLog}
use Rattle.kf_looks.specs.declared.found.Found.{Found}
use Rattle.kf_looks.specs.declared.view.Link.{Link}
use Rattle.kf_looks.specs.declared.writer.Writer.{Writer}
use Rattle.kf_looks.specs.Paths.{led}
use Rattle.kf_looks.specs.Writing.{links_of}
use Rattle.kf_live.specs.Laws.{Leads}
use Rattle.kf_live.specs.Live.{AreSound}

-- the tree with its stored commands, and all links that were made of its names, the latest first
pub record LiveLog : Type 0 where
  pub log : TreeLog
  pub links : List Link

-- all links that the writer made; none if there is no writer
abbrev pub links_by : Option Writer → List Link
links_by None = []
links_by (Some writer) = links_of writer.seat

-- whatever the links lead to along a path, the tree has it there: the path names that node, and the node is
-- live and is what the links say
abbrev pub LeadAs : Tree → Key → List Link → Type 0
LeadAs t root links = (path : List ℕ) (found : Found) → led links root path ≡ Some found
    → Leads t root path found

-- after the links before, these links were made one after another, the latest first; and each time the fact
-- held of all links so far
abbrev pub AtEach : (List Link → Type 0) → List Link → List Link → Type 0
AtEach Fact before [] = Unit {0}
AtEach Fact before (l ∷ newer) = Fact (l ∷ newer ++ before) × AtEach Fact before newer

-- links were made, or none; and each time one was made, the fact held of all links so far
abbrev pub Grew : (List Link → Type 0) → List Link → List Link → Type 0
Grew Fact before now = (newer : List Link) × (now ≡ newer ++ before) × AtEach Fact before newer

-- links were made, or none; and each time one was made, all links so far were sound for this tree
abbrev pub GrewSound : Tree → List Link → List Link → Type 0
GrewSound t before now = Grew (λ links. AreSound links t) before now

-- links were made, or none; and each time one was made, all links so far led to what this tree has there
abbrev pub WereTold : List Link → List Link → TreeLog → Type 0
WereTold before now s = Grew (LeadAs s.tree s.root) before now

-- one link was made, or none
abbrev pub IsOneMore : List Link → List Link → Type 0
IsOneMore before now = (now ≡ before) ⊎ ((l : Link) × (now ≡ l ∷ before))
