-- A subtree in post-order or pre-order, from node to node.
use Rattle.std.specs.Prelude.{◌≡◌, ◌≢◌, ◌⊎◌, ◌↔◌, ℕ, List, Some, IsTrue}
use Rattle.kf_core.specs.declared.key.Key.{Key}
use Rattle.kf_core.specs.declared.records.Record.{Record}
use Rattle.kf_core.specs.Tree.{Tree, record_at, is_linked, IsIn, in_subtree}
use Rattle.kf_table.specs.Next.{AreNext}
use Rattle.kf_tree.specs.Canonical.{Precedes}
use Rattle.kf_core.specs.PostOrder.{AreApart, StandsBefore}

-- the siblings that come after the node, if the node is linked and in a directory
abbrev pub AreLater : Tree → Key → List (List ℕ × Key) → Type 0
AreLater t key later = (r : Record) (dir : Key) → record_at t key ≡ Some r → r.parent ≡ Some dir
    → AreNext t dir (Some r.name) later

-- the first leaf of the subtree: a key is apart from this leaf, and before it, if and only if the key is
-- apart from the top, and before the top
pub record IsFirstBelow (t : Tree) (top first : Key) : Type 0 where
  pub linked : IsTrue (is_linked t first)
  pub below : IsTrue (in_subtree t top first)
  pub childless : (c : Record) → IsIn t c → c.parent ≢ Some first
  pub left : (key : Key) → AreApart t key first ↔ AreApart t key top

-- the next is in the subtree, and in post-order it comes directly after the key: only the key, and what comes
-- before the key, come before the next
pub record IsNextInPostOrder (t : Tree) (top key next : Key) : Type 0 where
  pub linked : IsTrue (is_linked t next)
  pub below : IsTrue (in_subtree t top next)
  pub follows : (k : Key) → IsTrue (is_linked t k) → StandsBefore t k next
      ↔ ((k ≡ key) ⊎ StandsBefore t k key)

-- in pre-order, the next comes directly after the key: only the key, and what comes before the key, come
-- before the next
pub record IsNextInPreOrder (t : Tree) (key next : Key) : Type 0 where
  pub linked : IsTrue (is_linked t next)
  pub follows : (k : Key) → IsTrue (is_linked t k) → Precedes t k next ↔ ((k ≡ key) ⊎ Precedes t k key)

-- every other linked key comes before this one in pre-order
abbrev pub IsLastInPreOrder : Tree → Key → Type 0
IsLastInPreOrder t key = (k : Key) → IsTrue (is_linked t k) → (k ≡ key) ⊎ Precedes t k key
