-- The tree has as many slots after each step as before.
use Rattle.std.proofs.Common.{◌≡◌, inl, inr, ℕ, false, ap, ◌∙◌, List, [], ◌∷◌, length}
use Rattle.std.specs.Prelude.{Option, None, Some, Result, Ok, Err, IfOk, OnErr}
use denote.Ref.{Bor}
use Rattle.kf_core.specs.declared.command.Command.{Command}
use Rattle.kf_core.specs.declared.command.Command.TheVariants.{Create}
use Rattle.kf_core.specs.declared.key.Key.{Key}
use Rattle.kf_core.specs.declared.key.Node.{Node}
use Rattle.kf_core.specs.declared.key.Node.TheVariants.{Dir}
use Rattle.kf_core.specs.declared.refusal.Refusal.{Refusal}
use Rattle.kf_shared.specs.Locked.{Locked, Created, CreateRefused}
use Rattle.kf_tree.proofs.Opening.{length_after, length_replay}
use Rattle.kf_tree.specs.Paths.{found}
use Rattle.kf_tree.specs.TreeLogs.{TreeLog, Stores}
use Rattle.kf_groups.specs.declared.attribute.Attribute.{Attribute}
use Rattle.kf_groups.specs.declared.attribute.Group.{Group}
use Rattle.kf_groups.specs.Attributes.{file_of, own_name, shown}
use Rattle.kf_groups.specs.Groups.{GroupTakenBack, GroupsTakenBack}
use Rattle.kf_groups.specs.Making.{MadeByName}
use Rattle.kf_groups.specs.TakenBack.{EachTookBack, FilesTakenBack, LiveTakenBack, NameTookBack, TakenBackByName, TookBack}

stored : (old new : TreeLog) (commands : List Command) → Stores old new commands → length new.tree ≡ length old.tree
stored old new commands stores = ap length stores.changed ∙ length_replay old.tree commands

made : (old new : TreeLog) (dir key : Key) (attributes : List Attribute) (own : Option (Bor (List ℕ))) → MadeByName old new dir attributes own key
    → length new.tree ≡ length old.tree
made old new dir key attributes None m = stored old new _ m.1.2
made old new dir key attributes (Some own) m = stored old new _ m.1.2

pub created : (old new : Locked) (parent key : Key) (name : List ℕ) (node : Node) → Created old new parent name node false key
    → length new.state.tree ≡ length old.state.tree
created old new parent key name node m = ap length m.changed ∙ length_after old.state.tree (Create key parent name node false)

same : (old new : Locked) → new ≡ old → length new.state.tree ≡ length old.state.tree
same old new e = ap (λ (s : Locked). length s.state.tree) e

refused : (old new : Locked) (parent : Key) (name : List ℕ) (node : Node) (why : Refusal) → CreateRefused old new parent name node why
    → length new.state.tree ≡ length old.state.tree
refused old new parent name node why (inl c) = same old new c.1
refused old new parent name node why (inr r) = ap (λ (s : TreeLog). length s.tree) r.1.2.unchanged

pub took : (old new : Locked) (key : Key) → TookBack old new key → length new.state.tree ≡ length old.state.tree
took old new key (inl r) = ap length r.0.tree
took old new key (inr t) = stored old.state new.state _ t.4

named : (old new : Locked) (dir : Key) (name : List ℕ) → NameTookBack old new dir name → length new.state.tree ≡ length old.state.tree
named old new dir name t = go (found old.state.tree dir name) t.0 t.1
  where
    go : (r : Result Key Refusal) → IfOk r (λ key. TookBack old new key) → OnErr r (new ≡ old) → length new.state.tree ≡ length old.state.tree
    go (Ok key) back none = took old new key back
    go (Err refusal) back none = same old new none

each : (old new : Locked) (dir : Key) (attributes : List Attribute) → EachTookBack old new dir attributes → length new.state.tree ≡ length old.state.tree
each old new dir [] t = same old new t
each old new dir (a ∷ attributes) t = named t.0 new dir a.name.now t.2 ∙ each old t.0 dir attributes t.1

live : (old new : Locked) (dir : Key) (attributes : List Attribute) (why : Refusal) → LiveTakenBack old new dir attributes why
    → length new.state.tree ≡ length old.state.tree
live old new dir attributes why t = each t.1 new dir attributes t.3 ∙ stored old.state t.1.state _ t.2.2

files : (old new : Locked) (dir : Key) (attributes : List Attribute) (why : Refusal) → FilesTakenBack old new dir attributes why
    → length new.state.tree ≡ length old.state.tree
files old new dir [] why t = absurd t
files old new dir (a ∷ attributes) why (inl r) = refused old new dir a.name.now (file_of a) why r
files old new dir (a ∷ attributes) why (inr t) =
    let first = created old t.0 dir t.2 a.name.now (file_of a) t.3 in
    let last = took t.1 new t.2 t.5 in
    elim t.4 [
      | inl f ↦ last ∙ files t.0 t.1 dir attributes why f ∙ first
      | inr l ↦ last ∙ live t.0 t.1 dir attributes why l ∙ first
    ]

pub group_length : (old new : Locked) (dir : Key) (attributes : List Attribute) (own : Option (Bor (List ℕ))) (why : Refusal)
    → TakenBackByName old new dir attributes own why → length new.state.tree ≡ length old.state.tree
group_length old new dir attributes None why t = files old new dir attributes why t
group_length old new dir attributes (Some own) why (inl r) = refused old new dir own.now Dir why r
group_length old new dir attributes (Some own) why (inr t) =
    let first = created old t.0 dir t.2 own.now Dir t.3 in
    let last = took t.1 new t.2 t.5 in
    elim t.4 [
      | inl f ↦ last ∙ files t.0 t.1 t.2 attributes why f ∙ first
      | inr n ↦ last ∙ stored t.0.state t.1.state _ n.3 ∙ first
    ]

undone : (old new : Locked) (dir key : Key) (attributes : List Attribute) (own : Option (Bor (List ℕ))) → GroupTakenBack old new dir key attributes own
    → length new.state.tree ≡ length old.state.tree
undone old new dir key attributes None t = each old new dir attributes t
undone old new dir key attributes (Some own) t = took t.0 new key t.2 ∙ each old t.0 key attributes t.1

pub groups_length : (old new : Locked) (dir : Key) (groups : List Group) (why : Refusal) → GroupsTakenBack old new dir groups why
    → length new.state.tree ≡ length old.state.tree
groups_length old new dir [] why t = absurd t
groups_length old new dir (group ∷ groups) why (inl t) = group_length old new dir (shown group.attributes.now) (own_name group) why t
groups_length old new dir (group ∷ groups) why (inr t) =
    undone t.1 new dir t.2 (shown group.attributes.now) (own_name group) t.5
    ∙ groups_length t.0 t.1 dir groups why t.4
    ∙ made old.state t.0.state dir t.2 (shown group.attributes.now) (own_name group) t.3.made
