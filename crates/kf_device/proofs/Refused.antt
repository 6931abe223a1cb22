-- Why a node that was found by its name is not removed.
use Rattle.std.proofs.Common.{◌≡◌, ◌≢◌, inl, inr, refl, ap, sym, ◌∙◌, true, false, [], ◌∷◌}
use Rattle.std.specs.Prelude.{None, not, Result, Ok, Err, IfOk, IfErr, OnErr, MatchResult}
use Rattle.std.proofs.lemmas.Option.{none-some}
use Rattle.kf_core.specs.declared.key.Key.{Key}
use Rattle.kf_core.specs.declared.refusal.Refusal.{Refusal}
use Rattle.kf_core.specs.declared.refusal.Refusal.TheVariants.{NoEntry, Invalid}
use Rattle.kf_core.specs.Keys.{same_key}
use Rattle.kf_core.specs.Refusals.{first_cause, unless}
use Rattle.kf_core.specs.Tree.{is_linked}
use Rattle.kf_core.proofs.Climbs.{same_key_is}
use Rattle.kf_tree.specs.Causes.{doom_cause}
use Rattle.kf_tree.specs.TreeLogs.{TreeLog}
use Rattle.kf_shared.specs.Receipts.{HoldsRefusal, KeyRefused}

-- a linked key that is not the root has no cause against its doom
no_cause : (s : TreeLog) (key : Key) → is_linked s.tree key ≡ true → s.root.slot ≡ 0 → key.slot ≢ 0 → doom_cause s.tree s.root key ≡ None
no_cause s key linked root other = elim (same_key key s.root) as (λ b. same_key key s.root ≡ b → first_cause (unless (is_linked s.tree key) NoEntry ∷ unless (not b) Invalid ∷ []) ≡ None) [
  | true ↦ λ e. absurd (other (ap (λ (k : Key). k.slot) (same_key_is key s.root e) ∙ root))
  | false ↦ λ e. ap (λ b. first_cause (unless b NoEntry ∷ unless (not false) Invalid ∷ [])) linked
] refl

-- such a removal is refused only because a node has no room for another hold, or for lack of memory
pub holds_refused : (s : TreeLog) (key : Key) (refusal : Refusal) → is_linked s.tree key ≡ true → s.root.slot ≡ 0 → key.slot ≢ 0 → KeyRefused s key refusal → HoldsRefusal refusal
holds_refused s key refusal linked root other (inl h) = absurd (none-some refusal (sym (no_cause s key linked root other) ∙ h))
holds_refused s key refusal linked root other (inr h) = h.1

-- what was begun, or why nothing was, as one fact
pub begun_or_refused : {A E : Type 0} (P : A → Type 0) (Q : E → Type 0) (R : Type 0) (r : Result A E) → IfOk r P → IfErr r Q → OnErr r R → MatchResult r P (λ e. Q e × R)
begun_or_refused P Q R (Ok a) begun refused same = begun
begun_or_refused P Q R (Err e) begun refused same = (refused, same)
