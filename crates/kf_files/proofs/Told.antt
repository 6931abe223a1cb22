-- One slot is notified, or several slots are notified one after another.
use Rattle.std.proofs.Common.{◌≡◌, inl, inr, ℕ, ◌+◌, ◌-◌, ◌^◌, ◌<◌, ◌≤◌, List, [], ◌∷◌, ◌++◌, length, take, get_or, refl, sym, ◌∙◌, subst}
use Rattle.std.specs.Prelude.{Result, Ok, Err, IfOk, IfErr}
use Rattle.std.proofs.lemmas.List.{map_more}
use Rattle.kf_core.specs.declared.key.Key.{Key}
use Rattle.kf_words.specs.Callers.{Handle}
use Rattle.kf_shared.specs.Removal.{keys_of}
use Rattle.kf_notify.specs.PostStates.{Numbers, HandleRaised, HandleFound, id_of}
use Rattle.kf_files.specs.Telling.{WasTold, WereTold}

-- a slot was notified, by the result of the handle's notify
pub told_by : {E : Type 0} (old new : Numbers) (slot : ℕ) (result : Result ℕ E) → slot < old.slots → id_of new ≡ id_of old
    → IfOk result (λ number. HandleRaised old slot number new) → IfErr result (λ _. HandleFound old slot (2 ^ 64 - 1) new) → WasTold old slot new
told_by old new slot (Ok number) near same raised full = record { same = same; told = inl (near, (number, raised)) }
told_by old new slot (Err why) near same raised full = record { same = same; told = inr (inl (near, full)) }

-- notifying a slot that has no number changes nothing
pub told_nothing : (old : Numbers) (slot : ℕ) → old.slots ≤ slot → WasTold old slot old
told_nothing old slot past = record { same = refl; told = inr (inr (past, refl)) }

-- one more slot
one_more : (old between new : Numbers) (keys : List Key) (key : Key) → WereTold old keys between → WasTold between key.slot new → WereTold old (keys ++ key ∷ []) new
one_more old between new [] key told one = (new, subst (λ (n : Numbers). WasTold n key.slot new) told one, refl)
one_more old between new (k ∷ ks) key told one = (told.0, told.1, one_more told.0 between new ks key told.2 one)

-- the slot of the next hold was notified, too
pub told_more : (old between new : Numbers) (holds : List Handle) (i : ℕ) (d : Handle) (key : Key) → i < length holds → key ≡ (get_or holds i d).key → WereTold old (keys_of (take i holds)) between
    → WasTold between key.slot new → WereTold old (keys_of (take (i + 1) holds)) new
told_more old between new holds i d key near is told one =
    subst (λ (keys : List Key). WereTold old keys new) (sym (map_more (λ (h : Handle). h.key) holds i d near))
    (one_more old between new (keys_of (take i holds)) (get_or holds i d).key told (subst (λ (k : Key). WasTold between k.slot new) is one))

-- the event numbers are still the same ones
pub told_same : (old new : Numbers) (keys : List Key) → WereTold old keys new → id_of new ≡ id_of old
told_same old new [] told = let is : new ≡ old = told in subst (λ (n : Numbers). id_of n ≡ id_of old) (sym is) refl
told_same old new (k ∷ ks) told = told_same told.0 new ks told.2 ∙ told.1.same
