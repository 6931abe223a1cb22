-- The removals of files are begun one after another.
use denote.Ref.{Bor}
use Rattle.std.proofs.Common.{◌≡◌, ◌≤◌, ◌∙◌, ◌++◌, ℕ, List, [], ◌∷◌, length, get_or, refl, sym, ap, subst, inl, inr, append_assoc}
use Rattle.std.specs.Prelude.{Option, None, Some, Result, Ok, Err, IfErr, IfSome}
use Rattle.kf_core.specs.declared.key.Key.{Key}
use Rattle.kf_core.specs.declared.refusal.Refusal.{Refusal}
use Rattle.kf_tree.specs.Paths.{found}
use Rattle.kf_tree.specs.TreeLogs.{TreeLog}
use Rattle.kf_words.specs.Callers.{Handle, TableId}
use Rattle.kf_shared.specs.Locked.{IsWhole, Locked}
use Rattle.kf_shared.specs.Receipts.{KeyRefused, NamedRefused}
use Rattle.kf_groups.specs.declared.attribute.Attribute.{Attribute}
use Rattle.kf_groups.specs.Leavings.{FilesBegun, NameBegun, NameStopped, StoppedByName, ended}
use Rattle.kf_groups.specs.Removals.{NameRefusal, RefusalByName}
use Rattle.kf_groups.proofs.Makings.{later}
use Rattle.kf_groups.proofs.Removing.{name_refusal}
use Rattle.kf_groups.proofs.Several.{first_and_later}

-- the removals that a call began for these files and added to the list, and the refusal that ended it, if any
abbrev pub Adds : List (List Handle) → List (List Handle) → Locked → Locked → Key → List Attribute → Option Refusal → Type 0
Adds before after s s' dir attributes refused =
    (begun : List (List Handle)) × (after ≡ before ++ begun) × FilesBegun s s' dir attributes begun refused

-- if the removal of a key is refused, so is the removal by the name that leads to the key
pub key_named : (s : TreeLog) (place : Result Key Refusal) (key : Key) (why : Refusal) → place ≡ Ok key → KeyRefused s key why → NamedRefused s place why
key_named s place key why there refused = subst (λ p. NamedRefused s p why) (sym there) refused

-- if the removal of the key that a name leads to is refused, it is for one of the reasons of `NameRefusal`
pub key_refused : {A : Type 0} (table : TableId) (s : Locked) (dir : Key) (name : List ℕ) (key : Key) (r : Result A Refusal) → IsWhole table s
    → found s.state.tree dir name ≡ Ok key → IfErr r (λ why. KeyRefused s.state key why) → IfErr r (λ why. NameRefusal why)
key_refused table s dir name key (Ok a) whole there refused = tt
key_refused table s dir name key (Err why) whole there refused =
    name_refusal table s dir name why whole (key_named s.state (found s.state.tree dir name) key why there refused)

-- if no removal was begun for a group, it was for one of the reasons of `RefusalByName`
pub stopped_refusal : (table : TableId) (s : Locked) (dir : Key) (name : Option (Bor (List ℕ))) (why : Refusal) → IsWhole table s
    → StoppedByName s.state dir name why → RefusalByName name why
stopped_refusal table s dir None why whole none = inr (inr none)
stopped_refusal table s dir (Some name) why whole refused = name_refusal table s dir name.now why whole refused

-- what is true of the refusal that ended the removals is true of the error that is returned
pub ended_refused : (refused : Option Refusal) (r : Result (Unit {0}) Refusal) (P : Refusal → Type 0) → r ≡ ended refused → IfSome refused P → IfErr r P
ended_refused None r P is why = subst (λ x. IfErr x P) (sym is) tt
ended_refused (Some refusal) r P is why = subst (λ x. IfErr x P) (sym is) why

append_none : {A : Type 0} (xs : List A) → xs ≡ xs ++ []
append_none [] = refl
append_none (x ∷ xs) = ap (λ ys. x ∷ ys) (append_none xs)

module _ (s0 s1 : Locked) (dir : Key) (attributes : List Attribute) (d : Attribute) (some : 1 ≤ length attributes) where
  abbrev name : List ℕ
  name = (get_or attributes 0 d).name.now

  parts : attributes ≡ get_or attributes 0 d ∷ later attributes
  parts = first_and_later attributes d some

  -- the removal of the first file is begun, and then the removals of the later files
  pub one_more : (s2 : Locked) (before between after : List (List Handle)) (holds : List Handle) (refused : Option Refusal)
      → between ≡ before ++ holds ∷ [] → NameBegun s0.state s1.state dir name holds → Adds between after s1 s2 dir (later attributes) refused
      → Adds before after s0 s2 dir attributes refused
  one_more s2 before between after holds refused pushed first rest = (
    holds ∷ rest.0,
    rest.1 ∙ ap (λ xs. xs ++ rest.0) pushed ∙ append_assoc before (holds ∷ []) rest.0,
    subst (λ xs. FilesBegun s0 s2 dir xs (holds ∷ rest.0) refused) (sym parts) (inl (s1, holds, rest.0, refl, first, rest.2)),
  )

  -- the removal of the first file is refused
  pub refused_first : (files : List (List Handle)) (why : Refusal) → NameStopped s0 s1 dir name why → Adds files files s0 s1 dir attributes (Some why)
  refused_first files why stopped = (
    [],
    append_none files,
    subst (λ xs. FilesBegun s0 s1 dir xs [] (Some why)) (sym parts) (inr (inr (why, refl, refl, stopped))),
  )
