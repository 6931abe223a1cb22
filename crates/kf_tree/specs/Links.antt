-- The text of a link.
use Rattle.std.specs.Prelude.{◌≡◌, ◌⊎◌, ℕ, zero, suc, ◌<◌, List, [], ◌∷◌, ◌++◌, Some, Ok}
use Rattle.std.specs.List.{join_with_byte}
use Rattle.kf_core.specs.declared.key.Key.{Key}
use Rattle.kf_core.specs.declared.records.Record.{Record}
use Rattle.kf_core.specs.Tree.{Tree, record_at, ancestor}
use Rattle.kf_tree.specs.Paths.{walk}
use Rattle.kf_tree.specs.Causes.{link_target}

-- the base is the root, or a proper ancestor of the target
abbrev pub IsOver : Tree → Key → Key → Key → Type 0
IsOver t root target base = (base ≡ root) ⊎ ((n : ℕ) × (ancestor t (suc n) target ≡ Some base))

-- `../` this many times
abbrev pub ups : ℕ → List ℕ
ups zero = []
ups (suc n) = 46 ∷ 46 ∷ 47 ∷ ups n

-- the text is `../` for each step from the link's directory up to the first base over the target, and then
-- names that lead from that base to the target, joined by slashes
pub record IsLinkText (t : Tree) (root dir target : Key) (text : List ℕ) : Type 0 where
  pub up : ℕ
  pub base : Key
  pub is_base : ancestor t up dir ≡ Some base
  pub over : IsOver t root target base
  pub first : (n : ℕ) (lower : Key) → n < up → ancestor t n dir ≡ Some lower → ¬ IsOver t root target lower
  pub names : List (List ℕ)
  pub leads : walk t base names ≡ Ok target
  pub spelled : text ≡ ups up ++ join_with_byte 47 names

-- the text of the link at this key
pub record HasLinkText (t : Tree) (root key : Key) (text : List ℕ) : Type 0 where
  pub link : Record
  pub known : record_at t key ≡ Some link
  pub dir : Key
  pub in_dir : link.parent ≡ Some dir
  pub target : Key
  pub to_target : link_target t key ≡ Some target
  pub is_text : IsLinkText t root dir target text
