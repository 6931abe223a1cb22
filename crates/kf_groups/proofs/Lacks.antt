-- The activation of a linked node is refused only for lack of memory. A creation without a fault is refused
-- only for lack of a slot or of memory.
use Rattle.std.proofs.Common.{◌≡◌, inl, inr, ap, subst, sym, ◌∙◌, ℕ, true, List, [], ◌∷◌}
use Rattle.std.specs.Prelude.{Option, None, Some, is_some}
use Rattle.std.proofs.lemmas.Option.{none-some, same_Some}
use Rattle.kf_core.specs.declared.key.Key.{Key}
use Rattle.kf_core.specs.declared.key.Node.{Node}
use Rattle.kf_core.specs.declared.refusal.Refusal.{Refusal}
use Rattle.kf_core.specs.declared.refusal.Refusal.TheVariants.{NoEntry, NoMemory, NoSpace}
use Rattle.kf_core.specs.Refusals.{unless, first_cause}
use Rattle.kf_core.specs.Tree.{is_linked}
use Rattle.kf_shared.specs.Locked.{Locked, CreateRefused, Unchanged, creation_fault}
use Rattle.kf_tree.specs.Causes.{linked_cause}
use Rattle.kf_tree.specs.TreeLogs.{TreeLog, IsRefused}
use Rattle.kf_tree.specs.Subtrees.{linked_count}
use Rattle.kf_groups.specs.TakenBack.{LacksRoom}

pub activate_lacks : (old new : TreeLog) (key : Key) (refusal : Refusal) → is_linked old.tree key ≡ true
    → IsRefused old new (linked_cause old.tree key) refusal → refusal ≡ NoMemory
activate_lacks old new key refusal there refused = elim refused.named [
  | inl c ↦ absurd (none-some refusal (sym (ap (λ b. unless b NoEntry) there) ∙ c))
  | inr m ↦ m.1
]

-- if there is no other cause, the refusal is NoSpace, since there is no next key
lacks_key : (next : Option Key) (refusal : Refusal) → first_cause (None ∷ unless (is_some next) NoSpace ∷ []) ≡ Some refusal → refusal ≡ NoSpace
lacks_key None refusal h = sym (same_Some NoSpace refusal h)
lacks_key (Some key) refusal h = absurd (none-some refusal h)

pub create_lacks : (old new : Locked) (parent : Key) (name : List ℕ) (node : Node) (refusal : Refusal) → creation_fault old parent name node ≡ None
    → CreateRefused old new parent name node refusal → Unchanged old new → LacksRoom old.state.tree new.state.tree refusal refusal
create_lacks old new parent name node refusal free refused same = elim refused [
  | inl c ↦ absurd (none-some refusal (sym free ∙ c.0))
  | inr r ↦ elim r.1.2.named [
    | inl c ↦ (let next : Option Key = r.1.0 in
        let e : refusal ≡ NoSpace = lacks_key next refusal
        (subst (λ f. first_cause (f ∷ unless (is_some next) NoSpace ∷ []) ≡ Some refusal) free c) in
        inl (e, e, ap (λ t. linked_count t) same.tree))
    | inr m ↦ inr m.1
  ]
]
