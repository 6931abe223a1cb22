-- What the tests prove about the links that they make.
use Rattle.std.specs.Prelude.{◌≡◌, ℕ, ◌≤◌, List, None}
use Rattle.kf_core.specs.declared.key.Key.{Key}
use Rattle.kf_looks.specs.declared.view.Link.{Link}
use Rattle.kf_looks.specs.Links.{child_of}

-- no name has a child in a directory of this slot or a higher one
abbrev pub NoneFrom : List Link → ℕ → Type 0
NoneFrom links slot = (dir : Key) (name : List ℕ) → slot ≤ dir.slot → child_of links dir name ≡ None
