-- If a group with the attributes of a table was made, or was refused, the same is true of the table.
use Rattle.std.proofs.Common.{◌≡◌, ℕ}
use Rattle.std.specs.Prelude.{IfOk, IfErr, List, Option, Result, Ok, Err}
use denote.Ref.{Bor}
use Rattle.kf_core.specs.declared.key.Key.{Key}
use Rattle.kf_core.specs.declared.refusal.Refusal.{Refusal}
use Rattle.kf_groups.specs.declared.attribute.Attribute.{Attribute}
use Rattle.kf_groups.specs.declared.attribute.Group.{Group}
use Rattle.kf_groups.specs.Making.{GroupMade}
use Rattle.kf_groups.specs.TakenBack.{GroupRefused}
use Rattle.kf_shared.specs.Locked.{Locked}
use Rattle.kf_driver.specs.Tables.{IsGroup}

module _ (name : Option (Bor (List ℕ))) (attributes : List Attribute) (group : Group)
    (name_is : group.name ≡ name) (attributes_are : group.attributes.now ≡ attributes)
    (old new : Locked) (dir : Key) where
  is_group : IsGroup name attributes group
  is_group = record { name_is = name_is; attributes_are = attributes_are }

  pub made : (result : Result Key Refusal) → IfOk result (λ key. GroupMade old.state new.state dir group key)
      → IfOk result (λ key. (group : Group) × IsGroup name attributes group
      × GroupMade old.state new.state dir group key)
  made (Ok key) is_made = (group, is_group, is_made)
  made (Err why) is_made = tt

  pub refused : (result : Result Key Refusal)
      → IfErr result (λ refusal. GroupRefused old new dir group refusal)
      → IfErr result (λ refusal. (group : Group) × IsGroup name attributes group
      × GroupRefused old new dir group refusal)
  refused (Ok key) is_refused = tt
  refused (Err why) is_refused = (group, is_group, is_refused)
