-- What the result of a hiding says, whatever tree the lock guarded.
use Rattle.std.proofs.Common.{◌≡◌, ◌⊎◌, inl, inr, refl, sym, Bool, true, false, [], ◌∷◌}
use Rattle.std.specs.Prelude.{Option, None, Some, Result, Ok, Err, IfErr, OnOk, not}
use Rattle.std.proofs.lemmas.Option.{same_Some, none-some}
use Rattle.kf_core.specs.declared.refusal.Refusal.{Refusal}
use Rattle.kf_core.specs.declared.refusal.Refusal.TheVariants.{Busy, IsDir, Invalid, NoEntry}
use Rattle.kf_core.specs.Refusals.{first_cause, unless}
use Rattle.kf_core.specs.Tree.{Tree, is_linked}
use Rattle.kf_tree.specs.Causes.{hide_cause, is_directory, is_link, doomed_in, hidden_in}
use Rattle.kf_words.specs.Callers.{Handle}
use Rattle.kf_shared.specs.Hiding.{kind_cause, hold_cause, HideRefused, IsHideRefusal, HidingRefused}

-- the first of these causes is one of those that a hiding may be refused for
hide_refusal : (a b c d e : Bool) (why : Refusal) → first_cause (unless a NoEntry ∷ unless b IsDir ∷ unless c Invalid ∷ unless d NoEntry ∷ unless e Busy ∷ []) ≡ Some why → IsHideRefusal why
hide_refusal false b c d e why h = inl (sym (same_Some _ _ h))
hide_refusal true false c d e why h = inr (inl (sym (same_Some _ _ h)))
hide_refusal true true false d e why h = inr (inr (inl (sym (same_Some _ _ h))))
hide_refusal true true true false e why h = inl (sym (same_Some _ _ h))
hide_refusal true true true true false why h = inr (inr (inr (inl (sym (same_Some _ _ h)))))
hide_refusal true true true true true why h = absurd (none-some why h)

-- the hiding of a hold is refused because of the node's kind, or if the kind is right, because of what the
-- tree says
told : (kind rest : Option Refusal) (why : Refusal) → (rest ≡ Some why → IsHideRefusal why) → first_cause (kind ∷ rest ∷ []) ≡ Some why → (kind ≡ Some why) ⊎ ((kind ≡ None) × IsHideRefusal why)
told (Some x) rest why f h = inl h
told None (Some x) why f h = inr (refl, f h)
told None None why f h = absurd (none-some why h)

no_kind : (kind rest : Option Refusal) → first_cause (kind ∷ rest ∷ []) ≡ None → kind ≡ None
no_kind (Some x) rest h = absurd (none-some x (sym h))
no_kind None rest h = refl

module _ (t : Tree) (hold : Handle) where
  its_file : hold_cause t hold ≡ None → kind_cause hold.node ≡ None
  its_file h = no_kind (kind_cause hold.node) (hide_cause t hold.key) h

  its_cause : (why : Refusal) → hold_cause t hold ≡ Some why → (kind_cause hold.node ≡ Some why) ⊎ ((kind_cause hold.node ≡ None) × IsHideRefusal why)
  its_cause why h = told (kind_cause hold.node) (hide_cause t hold.key) why
      (hide_refusal (is_linked t hold.key) (not (is_directory t hold.key)) (not (is_link t hold.key)) (not (doomed_in t hold.key)) (not (hidden_in t hold.key)) why) h

  any_refused : (back : Handle) (why : Refusal) → HideRefused t hold back why → HidingRefused hold back why
  any_refused back why h = elim h [
    | inl a ↦ elim a.0 [
      | inl cause ↦ elim (its_cause why cause) [ inl kind ↦ inl (kind, a.1) | inr said ↦ inr (inl (said.0, said.1, a.1)) ]
      | inr memory ↦ inr (inl (its_file memory.0, inr (inr (inr (inr memory.1))), a.1))
    ]
    | inr b ↦ inr (inr (its_file b.0, b.1, b.2, b.3, b.4))
  ]

  pub file_hidden : {X E : Type 0} (r : Result X E) → OnOk r (hold_cause t hold ≡ None) → OnOk r (kind_cause hold.node ≡ None)
  file_hidden (Ok x) h = its_file h
  file_hidden (Err e) h = tt

  pub hiding_refused : {X : Type 0} (r : Result X (Handle × Refusal)) → IfErr r (λ e. HideRefused t hold e.0 e.1) → IfErr r (λ e. HidingRefused hold e.0 e.1)
  hiding_refused (Ok x) h = tt
  hiding_refused (Err e) h = any_refused e.0 e.1 h
