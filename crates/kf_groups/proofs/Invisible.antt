-- A group makes nothing if none of its attributes has a file.
use Rattle.std.proofs.Common.{◌≡◌, refl, ap, ◌∙◌, true, false, cond, List, [], ◌∷◌}
use Rattle.std.specs.Prelude.{◌||◌}
use Rattle.kf_core.specs.declared.key.Key.{Key}
use Rattle.kf_core.specs.Commands.{replay}
use Rattle.kf_tree.specs.TreeLogs.{TreeLog, Stores}
use Rattle.kf_groups.specs.declared.attribute.Attribute.{Attribute}
use Rattle.kf_groups.specs.Attributes.{has_files, is_shown, shown}
use Rattle.kf_groups.specs.Making.{live_creations}

none_shown : (attributes : List Attribute) → has_files attributes ≡ false → shown attributes ≡ []
none_shown [] none = refl
none_shown (a ∷ attributes) none = elim (is_shown a) as (λ b. (b || has_files attributes) ≡ false → cond b (a ∷ shown attributes) (shown attributes) ≡ []) [
  | true ↦ λ e. absurd (let no : true ≡ false = e in cc)
  | false ↦ λ e. none_shown attributes e
] none

pub nothing_made : (old new : TreeLog) (dir : Key) (attributes : List Attribute) (keys : List Key) → has_files attributes ≡ false
    → Stores old new (live_creations dir (shown attributes) keys) → new.tree ≡ old.tree
nothing_made old new dir attributes keys none stores =
    stores.changed ∙ ap (λ xs. replay old.tree (live_creations dir xs keys)) (none_shown attributes none)
