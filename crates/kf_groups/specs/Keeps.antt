-- What several commands leave as it was.
use Rattle.std.specs.Prelude.{◌≡◌, ℕ, false, slice_get, Some}
use Rattle.kf_core.specs.declared.key.Key.{Key}
use Rattle.kf_core.specs.declared.records.Record.{Record}
use Rattle.kf_core.specs.Lawful.{Lawful}
use Rattle.kf_core.specs.Tree.{Tree, is_linked}

-- each record of the old tree is in the new tree, at the same slot and unchanged
abbrev pub Keeps : Tree → Tree → Type 0
Keeps old new = (slot : ℕ) (r : Record)
    → slice_get old slot ≡ Some (Some r) → slice_get new slot ≡ Some (Some r)

-- for each lawful tree in which the key is not linked: if the old tree has all of its records unchanged, so
-- has the new one
abbrev pub KeepsOlder : Key → Tree → Tree → Type 0
KeepsOlder key old new = (base : Tree) (root : Key)
    → Lawful base root → is_linked base key ≡ false → Keeps base old → Keeps base new
