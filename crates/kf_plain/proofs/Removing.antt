-- What a removal by a path leads to.
use Rattle.std.proofs.Common.{◌≡◌, ◌⊎◌, inl, inr, ℕ, refl, ap, sym, ◌∙◌, subst, Bool, true, false, List, [], ◌∷◌}
use Rattle.std.specs.Prelude.{Option, None, Some, Result, Ok, Err, IfOk, IfErr, map, not}
use Rattle.kf_core.specs.declared.key.Key.{Key}
use Rattle.kf_core.specs.declared.refusal.Refusal.{Refusal}
use Rattle.kf_core.specs.declared.refusal.Refusal.TheVariants.{NoMemory, TooManyHolds}
use Rattle.kf_core.specs.declared.command.Command.TheVariants.{Doom, Unlink}
use Rattle.kf_core.specs.Refusals.{unless, first_cause}
use Rattle.kf_core.specs.PostOrder.{IsPostOrder}
use Rattle.kf_tree.specs.TreeLogs.{TreeLog}
use Rattle.kf_tree.specs.Paths.{and_then, walked}
use Rattle.kf_tree.specs.Causes.{doom_cause}
use Rattle.kf_world.specs.Bounded.{hold_count}
use Rattle.kf_plain.specs.Nodes.{Nodes, logged, with_spent, has_full_below}
use Rattle.kf_plain.specs.PlainRemove.{remove_cause, remove_held, removed_key}
use Rattle.kf_plain.specs.Settled.{ok_unless, IsWhyFrom}

cause_of : Option Refusal → Bool → Option Refusal
cause_of doom full = first_cause (doom ∷ unless (not full) TooManyHolds ∷ [])

cause_told : (n : Nodes) (key : Key) (doom : Option Refusal) (full : Bool) → doom_cause n.log.tree n.log.root key ≡ doom → has_full_below n key ≡ full → remove_cause n.log (hold_count n.callers) n.limit key ≡ first_cause (doom ∷ unless (not full) TooManyHolds ∷ [])
cause_told n key doom full d f = ap (λ x. first_cause (x ∷ unless (not (has_full_below n key)) TooManyHolds ∷ [])) d
    ∙ ap (λ x. first_cause (doom ∷ unless (not x) TooManyHolds ∷ [])) f

some_first : (refusal : Refusal) (full : Bool) → first_cause (Some refusal ∷ unless (not full) TooManyHolds ∷ []) ≡ Some refusal
some_first refusal full = refl

led : (n : Nodes) (seen : TreeLog) (path : List ℕ) (key : Key) → seen ≡ n.log → walked seen.tree seen.root path ≡ Ok key → removed_key n.log (hold_count n.callers) n.limit path ≡ ok_unless (remove_cause n.log (hold_count n.callers) n.limit key) key
led n seen path key same w = ap (λ (r : Result Key Refusal). and_then r (λ k. ok_unless (remove_cause n.log (hold_count n.callers) n.limit k) k)) (subst (λ (l : TreeLog). walked l.tree l.root path ≡ Ok key) same w)

held_led : (n : Nodes) (seen : TreeLog) (path : List ℕ) (key : Key) → seen ≡ n.log → walked seen.tree seen.root path ≡ Ok key → remove_held n.log path ≡ ok_unless (doom_cause n.log.tree n.log.root key) key
held_led n seen path key same w = ap (λ (r : Result Key Refusal). and_then r (λ k. ok_unless (doom_cause n.log.tree n.log.root k) k)) (subst (λ (l : TreeLog). walked l.tree l.root path ≡ Ok key) same w)

Refusing : Nodes → Key → Refusal → Type 0
Refusing n key refusal = (doom_cause n.log.tree n.log.root key ≡ Some refusal) ⊎ ((doom_cause n.log.tree n.log.root key ≡ None) × (refusal ≡ TooManyHolds) × (has_full_below n key ≡ true)) ⊎ ((doom_cause n.log.tree n.log.root key ≡ None) × (refusal ≡ NoMemory))

pub removed_at : (n n' : Nodes) (seen : TreeLog) (path : List ℕ) (key : Key) (result : Result (Unit {0}) Refusal) → seen ≡ n.log → walked seen.tree seen.root path ≡ Ok key →
    IfOk result (λ _. doom_cause n.log.tree n.log.root key ≡ None) → IfOk result (λ _. has_full_below n key ≡ false) →
    IfOk result (λ _. (keys : List Key) × IsPostOrder n.log.tree key keys × (n' ≡ with_spent (record { log = logged n.log (Doom key ∷ map Unlink keys); last = n.last; limit = n.limit; callers = n.callers }) keys)) →
    IfOk result (λ _. (key : Key) × (removed_key n.log (hold_count n.callers) n.limit path ≡ Ok key) × ((keys : List Key) × IsPostOrder n.log.tree key keys × (n' ≡ with_spent (record { log = logged n.log (Doom key ∷ map Unlink keys); last = n.last; limit = n.limit; callers = n.callers }) keys)))
removed_at n n' seen path key (Ok x) same w none room done = (key, led n seen path key same w ∙ ap (λ c. ok_unless c key) (cause_told n key None false none room), done)
removed_at n n' seen path key (Err refusal) same w none room done = tt

pub not_removed_at : (n n' : Nodes) (seen : TreeLog) (path : List ℕ) (key : Key) (result : Result (Unit {0}) Refusal) → seen ≡ n.log → walked seen.tree seen.root path ≡ Ok key →
    IfErr result (λ refusal. ((doom_cause n.log.tree n.log.root key ≡ Some refusal) ⊎ ((doom_cause n.log.tree n.log.root key ≡ None) × (refusal ≡ TooManyHolds) × (has_full_below n key ≡ true)) ⊎ ((doom_cause n.log.tree n.log.root key ≡ None) × (refusal ≡ NoMemory))) × ((spent : List Key) × (n' ≡ with_spent n spent))) →
    IfErr result (λ refusal. IsWhyFrom (remove_held n.log path) (removed_key n.log (hold_count n.callers) n.limit path) refusal × ((spent : List Key) × (n' ≡ with_spent n spent)))
not_removed_at n n' seen path key (Ok x) same w refused = tt
not_removed_at n n' seen path key (Err refusal) same w refused = (go refused.0, refused.1)
  where
    go : (doom_cause n.log.tree n.log.root key ≡ Some refusal) ⊎ ((doom_cause n.log.tree n.log.root key ≡ None) × (refusal ≡ TooManyHolds) × (has_full_below n key ≡ true)) ⊎ ((doom_cause n.log.tree n.log.root key ≡ None) × (refusal ≡ NoMemory)) → IsWhyFrom (remove_held n.log path) (removed_key n.log (hold_count n.callers) n.limit path) refusal
    go (inl d) = inl (led n seen path key same w ∙ ap (λ c. ok_unless c key) (cause_told n key (Some refusal) (has_full_below n key) d refl))
    go (inr (inl f)) = inl (led n seen path key same w ∙ ap (λ c. ok_unless c key) (cause_told n key None true f.0 f.2) ∙ ap (λ (x : Refusal). let r : Result Key Refusal = Err x in r) (sym f.1))
    go (inr (inr m)) = inr (m.1, (key, held_led n seen path key same w ∙ ap (λ c. ok_unless c key) m.0))
