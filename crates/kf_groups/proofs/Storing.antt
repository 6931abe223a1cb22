-- What the unlink of a drained node stores.
use Rattle.std.proofs.Common.{◌≡◌, Bool, true, false, List, [], ◌∷◌, ap, inl, inr}
use Rattle.std.specs.Prelude.{map, All, Result, Ok, Err, IfOk, IfErr}
use Rattle.std.proofs.lemmas.List.Elements.{All-nil, All-cons}
use Rattle.kf_core.specs.declared.command.Command.TheVariants.{Unlink}
use Rattle.kf_core.specs.declared.key.Key.{Key}
use Rattle.kf_core.specs.declared.refusal.Refusal.{Refusal}
use Rattle.kf_tree.specs.TreeLogs.{Stores}
use Rattle.kf_tree.proofs.Storing.{none, none_same, one}
use Rattle.kf_shared.specs.Locked.{Locked, UnlinkDone, UnlinkRefused}

-- the unlink is stored, or nothing is
pub unlinks : (old new : Locked) (key drained : Key) (r : Result Bool Refusal) → drained ≡ key
    → IfOk r (λ unlinked. UnlinkDone old new drained unlinked)
    → IfErr r (λ refusal. UnlinkRefused old new drained refusal)
    → (keys : List Key) × All (λ k. k ≡ key) keys × Stores old.state new.state (map Unlink keys)
unlinks old new key drained (Ok true) same done refused =
    (drained ∷ [], All-cons (λ k. k ≡ key) drained [] same (All-nil (λ k. k ≡ key)), one _ _ _ _ done)
unlinks old new key drained (Ok false) same done refused =
    ([], All-nil (λ k. k ≡ key), none_same _ _ (ap (λ (s : Locked). s.state) done))
unlinks old new key drained (Err refusal) same done refused = elim refused [
  | inl r ↦ ([], All-nil (λ k. k ≡ key), none_same _ _ (ap (λ (s : Locked). s.state) r.1))
  | inr r ↦ ([], All-nil (λ k. k ≡ key), none old.state new.state r.3.root r.3.tree r.3.commands)
]
