-- Why a group is refused although nothing is wrong with it.
use Rattle.std.proofs.Common.{◌≡◌, ℕ, List, inr, subst, sym}
use Rattle.std.specs.Prelude.{None, Some, Result, Ok, Err, IfErr}
use denote.Ref.{Bor}
use Rattle.kf_core.specs.declared.key.Key.{Key}
use Rattle.kf_core.specs.declared.refusal.Refusal.{Refusal}
use Rattle.kf_shared.specs.Locked.{Locked}
use Rattle.kf_groups.specs.declared.attribute.Group.{Group}
use Rattle.kf_groups.specs.Attributes.{group_cause, own_name, shown}
use Rattle.kf_groups.specs.Keeps.{Keeps}
use Rattle.kf_groups.specs.TakenBack.{DirectoryTakenBack, FilesTakenBack, GroupRefused, LacksRoom, TakenBackByName}
use Rattle.kf_groups.proofs.Counts.{room_refused}
use Rattle.kf_groups.proofs.Lengths.{group_length}

module _ (old new : Locked) (dir : Key) (group : Group) (cause : group_cause old.state.tree old.state.root dir group ≡ None) (keeps : Keeps old.state.tree new.state.tree) where
  lacking : (refusal why : Refusal) → LacksRoom old.state.tree new.state.tree why refusal
      → TakenBackByName old new dir (shown group.attributes.now) (own_name group) why → GroupRefused old new dir group refusal
  lacking refusal why lacks back = inr (
    cause,
    why,
    room_refused old.state.tree new.state.tree why refusal (group_length old new dir (shown group.attributes.now) (own_name group) why back) keeps lacks,
    back,
  )

  pub in_place_refused : (refusal : Refusal) → own_name group ≡ None
      → (why : Refusal) × LacksRoom old.state.tree new.state.tree why refusal × FilesTakenBack old new dir (shown group.attributes.now) why
      → GroupRefused old new dir group refusal
  in_place_refused refusal name back = lacking refusal back.0 back.1
      (subst (λ n. TakenBackByName old new dir (shown group.attributes.now) n back.0) (sym name) back.2)

  pub directory_refused : {A : Type 0} (r : Result A Refusal) (name : Bor (List ℕ)) → own_name group ≡ Some name
      → IfErr r (λ refusal. (why : Refusal) × LacksRoom old.state.tree new.state.tree why refusal
      × DirectoryTakenBack old new dir name.now (shown group.attributes.now) why)
      → IfErr r (λ refusal. GroupRefused old new dir group refusal)
  directory_refused (Ok key) name is back = tt
  directory_refused (Err refusal) name is back = lacking refusal back.0 back.1
      (subst (λ n. TakenBackByName old new dir (shown group.attributes.now) n back.0) (sym is) back.2)
