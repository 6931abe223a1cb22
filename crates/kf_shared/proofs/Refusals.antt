-- Why removals are refused, as it is said of what the lock guarded, and as it is said without knowing that.
use Rattle.std.proofs.Common.{◌≡◌, ◌⊎◌, inl, inr, refl, ap, ◌∙◌, subst, Bool, true, false}
use Rattle.std.specs.Prelude.{MatchBool, Result, Ok, Err, IfErr}
use Rattle.kf_core.specs.declared.key.Key.{Key}
use Rattle.kf_core.specs.declared.command.Command.TheVariants.{Doom}
use Rattle.kf_core.specs.declared.refusal.Refusal.{Refusal}
use Rattle.kf_core.specs.declared.refusal.Refusal.TheVariants.{Invalid, NoEntry, NoMemory, TooManyHolds}
use Rattle.kf_core.specs.Keys.{same_key}
use Rattle.kf_core.specs.Tree.{Tree, is_linked}
use Rattle.kf_core.proofs.Climbs.{same_key_is}
use Rattle.kf_tree.specs.Causes.{doom_cause}
use Rattle.kf_tree.specs.TreeLogs.{IsAccepted}
use Rattle.kf_words.specs.Callers.{TableId}
use Rattle.kf_words.specs.Nodes.{IsLastKey}
use Rattle.kf_shared.specs.Locked.{Locked, IsWhole}
use Rattle.kf_shared.specs.Removal.{DoomMarked, DoomRefused, HoldsBelowRefused, HoldsInRefused, SelfRemovalRefused}
use Rattle.kf_shared.specs.Receipts.{HasBelow, RemovalRefused, HoldsRefusal, SelfRefused, RemovalRefusal, SelfRemovalRefusal, MayBeDoomed}

pub removal_refused : (old new : Locked) (key : Key) (why : Refusal) → DoomRefused old new key why → RemovalRefused old.state.tree old.state.root key why
removal_refused old new key why h = go (is_linked old.state.tree key) (same_key key old.state.root) h
  where
    go : (a b : Bool) → MatchBool a (MatchBool b (why ≡ Invalid) (HoldsBelowRefused old.state.tree key new.master.view why)) (why ≡ NoMemory)
        → MatchBool a (MatchBool b (why ≡ Invalid) (((why ≡ TooManyHolds) × HasBelow old.state.tree key) ⊎ (why ≡ NoMemory))) (why ≡ NoMemory)
    go true true p = p
    go true false p = elim p [ inl f ↦ inl (f.0, (f.1.0, f.1.1, f.1.2)) | inr m ↦ inr m.0 ]
    go false b p = p

pub self_refused : (old new : Locked) (key : Key) (why : Refusal) → SelfRemovalRefused old new key why → SelfRefused old key why
self_refused old new key why h = go (same_key key old.state.root) h
  where
    go : (b : Bool) → MatchBool b (why ≡ Invalid) (((why ≡ NoEntry) × (¬ IsLastKey old.master.view key)) ⊎ (IsLastKey old.master.view key × HoldsInRefused old.state.tree key new.master.view why))
        → MatchBool b (why ≡ Invalid) (((why ≡ NoEntry) × (¬ IsLastKey old.master.view key)) ⊎ (IsLastKey old.master.view key × HoldsRefusal why))
    go true p = p
    go false p = elim p [ inl n ↦ inl n | inr q ↦ inr (q.0, elim q.1 [ inl f ↦ inl f.0 | inr m ↦ inr m.0 ]) ]

-- if the doom of a linked key was done, no cause was against it
pub may_be_doomed : (old new : Locked) (key : Key) → DoomMarked old new key → MayBeDoomed old.state key
may_be_doomed old new key h linked = (subst (λ b. MatchBool b (IsAccepted old.state new.state (doom_cause old.state.tree old.state.root key) (Doom key)) (new.state ≡ old.state)) linked h).no_cause

-- why a removal was refused, whatever the tree is
any_refused : (t : Tree) (root key : Key) (why : Refusal) → RemovalRefused t root key why → RemovalRefusal why
any_refused t root key why h = go (is_linked t key) (same_key key root) h
  where
    go : (a b : Bool) → MatchBool a (MatchBool b (why ≡ Invalid) (((why ≡ TooManyHolds) × HasBelow t key) ⊎ (why ≡ NoMemory))) (why ≡ NoMemory) → RemovalRefusal why
    go true true p = inl p
    go true false p = inr (elim p [ inl f ↦ inl f.0 | inr m ↦ inr m ])
    go false b p = inr (inr p)

any_self_refused : (s : Locked) (key : Key) (why : Refusal) → SelfRefused s key why → SelfRemovalRefusal why
any_self_refused s key why h = go (same_key key s.state.root) h
  where
    go : (b : Bool) → MatchBool b (why ≡ Invalid) (((why ≡ NoEntry) × (¬ IsLastKey s.master.view key)) ⊎ (IsLastKey s.master.view key × HoldsRefusal why)) → SelfRemovalRefusal why
    go true p = inr (inl p)
    go false p = elim p [ inl n ↦ inl n.0 | inr q ↦ inr (inr q.1) ]

-- a removal that is refused as invalid is that of the root, which has slot 0
invalid_root : (table : TableId) (s : Locked) (key : Key) (why : Refusal) → IsWhole table s → RemovalRefused s.state.tree s.state.root key why → why ≡ Invalid → key.slot ≡ 0
invalid_root table s key why whole h e = go (is_linked s.state.tree key) (same_key key s.state.root) refl h
  where
    go : (a b : Bool) → same_key key s.state.root ≡ b → MatchBool a (MatchBool b (why ≡ Invalid) (((why ≡ TooManyHolds) × HasBelow s.state.tree key) ⊎ (why ≡ NoMemory))) (why ≡ NoMemory) → key.slot ≡ 0
    go true true is p = ap (λ (k : Key). k.slot) (same_key_is key s.state.root is) ∙ whole.tied.root
    go true false is p = elim p [ inl f ↦ absurd (cc (e, f.0)) | inr m ↦ absurd (cc (e, m)) ]
    go false b is p = absurd (cc (e, p))

invalid_self_root : (table : TableId) (s : Locked) (key : Key) (why : Refusal) → IsWhole table s → SelfRefused s key why → why ≡ Invalid → key.slot ≡ 0
invalid_self_root table s key why whole h e = go (same_key key s.state.root) refl h
  where
    go : (b : Bool) → same_key key s.state.root ≡ b → MatchBool b (why ≡ Invalid) (((why ≡ NoEntry) × (¬ IsLastKey s.master.view key)) ⊎ (IsLastKey s.master.view key × HoldsRefusal why)) → key.slot ≡ 0
    go true is p = ap (λ (k : Key). k.slot) (same_key_is key s.state.root is) ∙ whole.tied.root
    go false is p = elim p [ inl n ↦ absurd (cc (e, n.0)) | inr q ↦ elim q.1 [ inl f ↦ absurd (cc (e, f)) | inr m ↦ absurd (cc (e, m)) ] ]

module _ {X E : Type 0} (table : TableId) (s : Locked) (key : Key) (whole : IsWhole table s) (why : E → Refusal) where
  pub refusal_of : (r : Result X E) → IfErr r (λ e. RemovalRefused s.state.tree s.state.root key (why e)) → IfErr r (λ e. RemovalRefusal (why e))
  refusal_of (Ok x) h = tt
  refusal_of (Err e) h = any_refused s.state.tree s.state.root key (why e) h

  pub root_alone_invalid : (r : Result X E) → IfErr r (λ e. RemovalRefused s.state.tree s.state.root key (why e)) → IfErr r (λ e. why e ≡ Invalid → key.slot ≡ 0)
  root_alone_invalid (Ok x) h = tt
  root_alone_invalid (Err e) h = invalid_root table s key (why e) whole h

  pub self_refusal_of : (r : Result X E) → IfErr r (λ e. SelfRefused s key (why e)) → IfErr r (λ e. SelfRemovalRefusal (why e))
  self_refusal_of (Ok x) h = tt
  self_refusal_of (Err e) h = any_self_refused s key (why e) h

  pub root_alone_self_invalid : (r : Result X E) → IfErr r (λ e. SelfRefused s key (why e)) → IfErr r (λ e. why e ≡ Invalid → key.slot ≡ 0)
  root_alone_self_invalid (Ok x) h = tt
  root_alone_self_invalid (Err e) h = invalid_self_root table s key (why e) whole h
