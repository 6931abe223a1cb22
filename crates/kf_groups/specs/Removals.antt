-- Why groups are not removed, whatever the tree is.
use Rattle.std.specs.Prelude.{◌≡◌, ◌⊎◌, ℕ, List, Option, None, Some}
use denote.Ref.{Bor}
use Rattle.kf_core.specs.declared.refusal.Refusal.{Refusal}
use Rattle.kf_core.specs.declared.refusal.Refusal.TheVariants.{NoEntry, NotDir}
use Rattle.kf_shared.specs.Receipts.{HoldsRefusal}
use Rattle.kf_groups.specs.declared.attribute.Group.{Group}

-- why an entry that may be missing is not removed: the node in which it is looked for is not a directory, or
-- the holds were refused
abbrev pub EntryRefusal : Refusal → Type 0
EntryRefusal refusal = (refusal ≡ NotDir) ⊎ HoldsRefusal refusal

-- why an entry that must be there is not removed: it is not there, or for one of the reasons above
abbrev pub NameRefusal : Refusal → Type 0
NameRefusal refusal = (refusal ≡ NoEntry) ⊎ EntryRefusal refusal

-- why a group is not removed: its own directory must be there if it has a name, and otherwise each of its
-- files may be missing
abbrev pub RefusalByName : Option (Bor (List ℕ)) → Refusal → Type 0
RefusalByName None refusal = EntryRefusal refusal
RefusalByName (Some name) refusal = NameRefusal refusal

abbrev pub RemoveRefusal : Group → Refusal → Type 0
RemoveRefusal group refusal = RefusalByName group.name refusal
