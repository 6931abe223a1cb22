-- Which caller holds what when a token is put on the board, or is spent.
use Rattle.std.proofs.Common.{◌≡◌, ◌≢◌, inl, inr, ℕ, ◌+◌, ◌<◌, refl, ap, arith, sym, ◌∙◌, subst, Bool, true, false, cond, List, [], ◌∷◌, ◌++◌, length, slice_set}
use Rattle.std.specs.Prelude.{Option, None, Some, slice_get, count_by, ◌==◌, ◌&&◌, not}
use Rattle.std.specs.Option.{option_map}
use Rattle.std.proofs.lemmas.Option.{same_Some, none-some, slice_get_within, slice_get-map}
use Rattle.std.proofs.lemmas.Bool.Decides.{eqb_tells}
use Rattle.kf_core.specs.declared.key.Key.{Key}
use Rattle.kf_core.specs.declared.caller.Caller.{Caller}
use Rattle.kf_core.specs.declared.caller.Phase.TheVariants.{Hidden, Spent}
use Rattle.kf_core.specs.Phases.{has_reference, is_spent}
use Rattle.kf_core.proofs.Lists.{slice_get-set_same, slice_get-set_other, after_set, after_push}
use Rattle.kf_plain.specs.declared.nodes.visits.BoardFile.{BoardFile}
use Rattle.kf_plain.specs.declared.nodes.hiding.BoardToken.{BoardToken}
use Rattle.kf_world.specs.Bounded.{hold_count}
use Rattle.kf_plain.specs.Nodes.{NoneHides, hidden_on, spent_on}
use Rattle.kf_plain.specs.Plain.{is_on, token_count}
use Rattle.kf_plain.specs.PlainInside.{plain_files, plain_token, plain_tokens, IsHeldToken}
use Rattle.kf_plain.proofs.BoardVisits.{last_there}
use Rattle.kf_plain.proofs.Counts.{count_push, count_set}
use Rattle.kf_plain.proofs.Holding.{AreHeld, kept_left, not_the_hider, spent_counts}
use Rattle.kf_plain.proofs.Ties.{some_at}

abbrev on_slot : ℕ → Caller → Bool
on_slot slot c = (c.key.slot == slot) && not (is_spent c.phase)

hider_counts : (slot : ℕ) (key : Key) → ◌≡◌ {A = ℕ} (cond ((key.slot == slot) && true) 1 0) (cond (key.slot == slot) 1 0)
hider_counts slot key = both (key.slot == slot)
  where
    both : (b : Bool) → ◌≡◌ {A = ℕ} (cond (b && true) 1 0) (cond b 1 0)
    both true = refl
    both false = refl

-- the tokens that contracts see, by slot
plain_at : (tokens : List (Option BoardToken)) (slot : ℕ) (o : Option BoardToken) → slice_get tokens slot ≡ Some o → slice_get (plain_tokens tokens) slot ≡ Some (option_map plain_token o)
plain_at tokens slot o e = slice_get-map (option_map plain_token) tokens slot ∙ ap (option_map (option_map plain_token)) e

plain_other : (tokens : List (Option BoardToken)) (at slot : ℕ) (o : Option BoardToken) → slot ≢ at → slice_get (plain_tokens (slice_set tokens at o)) slot ≡ slice_get (plain_tokens tokens) slot
plain_other tokens at slot o ne = slice_get-map (option_map plain_token) (slice_set tokens at o) slot ∙ ap (option_map (option_map plain_token)) (slice_get-set_other tokens at slot o ne) ∙ sym (slice_get-map (option_map plain_token) tokens slot)

module _ (callers : List Caller) (files : List (Option BoardFile)) (tokens : List (Option BoardToken)) (h : AreHeld callers files tokens) where
  -- one more caller, which hides the file of its token
  module _ (t : BoardToken) (first : NoneHides callers t.key.slot) (last : t.hold ≡ length callers) (inside : t.key.slot < length tokens) where
    no_token : slice_get tokens t.key.slot ≡ Some None
    no_token = let found = some_at tokens t.key.slot inside in found.1 ∙ ap (λ o. Some o) (none found.0 found.1)
      where
        none : (o : Option BoardToken) → slice_get tokens t.key.slot ≡ Some o → o ≡ None
        none None e = refl
        none (Some u) e = let old = h.hidden t.key.slot u e in absurd (first u.hold u.key Hidden old.hides refl old.in_slot)

    there : slice_get (callers ++ hidden_on t.key ∷ []) t.hold ≡ Some (hidden_on t.key)
    there = ap (slice_get (callers ++ hidden_on t.key ∷ [])) last ∙ last_there callers (hidden_on t.key)

    one_more : (slot : ℕ) → token_count (slice_get (plain_tokens (slice_set tokens t.key.slot (Some t))) slot) ≡ token_count (slice_get (plain_tokens tokens) slot) + cond (t.key.slot == slot) 1 0
    one_more slot = elim (eqb_tells t.key.slot slot) [
      | inl e ↦ (let now = ap token_count (plain_at (slice_set tokens t.key.slot (Some t)) t.key.slot (Some t) (slice_get-set_same tokens t.key.slot (Some t) inside)) in
          let was = ap token_count (plain_at tokens t.key.slot None no_token) in
          let its : ◌≡◌ {A = ℕ} (cond (t.key.slot == slot) 1 0) 1 = ap (λ (b : Bool). cond {A = ℕ} b 1 0) e.0 in
          subst (λ i. token_count (slice_get (plain_tokens (slice_set tokens t.key.slot (Some t))) i) ≡ token_count (slice_get (plain_tokens tokens) i) + cond (t.key.slot == slot) 1 0) e.1 (sum _ _ _ now was its))
      | inr n ↦ (let its : ◌≡◌ {A = ℕ} (cond (t.key.slot == slot) 1 0) 0 = ap (λ (b : Bool). cond {A = ℕ} b 1 0) n.0 in
          same _ _ _ (ap token_count (plain_other tokens t.key.slot slot (Some t) (λ x. n.1 (sym x)))) its)
    ]
      where
        sum : (a b c : ℕ) → a ≡ 1 → b ≡ 0 → c ≡ 1 → a ≡ b + c
        sum a b c x y z = omega (arith, x, y, z)

        same : (a b c : ℕ) → a ≡ b → c ≡ 0 → a ≡ b + c
        same a b c x y = omega (arith, x, y)

    pub held_hidden : AreHeld (callers ++ hidden_on t.key ∷ []) files (slice_set tokens t.key.slot (Some t))
    held_hidden = record {
      idle = λ id key p e. elim (after_push callers id (hidden_on t.key) (record { key = key; phase = p }) e) [
        | inl new ↦ ap has_reference (ap (λ (x : Caller). x.phase) (sym new))
        | inr old ↦ h.idle id key p old
      ];
      held = λ file f e. let old = h.held file f e in record {
        waits = record { phase = old.waits.phase; there = kept_left callers _ f.file.hold _ old.waits.there; waits = old.waits.waits };
        tag = old.tag;
        short = old.short;
      };
      apart = h.apart;
      hidden = λ slot u e. elim (after_set tokens t.key.slot slot (Some t) (Some u) e) [
        | inl new ↦ its slot u (same_Some t u new) e
        | inr old ↦ (let was = h.hidden slot u old in record { hides = kept_left callers _ u.hold _ was.hides; in_slot = was.in_slot })
      ];
      counted = λ slot.
          let more = count_push (on_slot slot) callers (hidden_on t.key) ∙ ap (λ n. hold_count callers slot + n) (hider_counts slot t.key) in
          sums _ (hold_count callers slot) (count_by (is_on slot) (plain_files files)) (token_count (slice_get (plain_tokens tokens) slot)) _ _ more (h.counted slot) (one_more slot);
    }
      where
        its : (slot : ℕ) (u : BoardToken) → t ≡ u → slice_get (slice_set tokens t.key.slot (Some t)) slot ≡ Some (Some u) → IsHeldToken (callers ++ hidden_on t.key ∷ []) slot u
        its slot u e at = elim (eqb_tells slot t.key.slot) [
          | inl s ↦ subst (λ x. IsHeldToken (callers ++ hidden_on t.key ∷ []) slot x) e (record { hides = there; in_slot = sym s.1 })
          | inr n ↦ (let was = h.hidden slot u (sym (slice_get-set_other tokens t.key.slot slot (Some t) n.1) ∙ at) in record { hides = kept_left callers _ u.hold _ was.hides; in_slot = was.in_slot })
        ]

        sums : (a b f t p q : ℕ) → a ≡ b + p → b ≡ f + t → q ≡ t + p → a ≡ f + q
        sums a b f t p q x y z = omega (arith, x, y, z)

  -- one token fewer, with its caller spent
  module _ (slot : ℕ) (t : BoardToken) (at : slice_get tokens slot ≡ Some (Some t)) where
    own : IsHeldToken callers slot t
    own = h.hidden slot t at

    inside_now : slot < length tokens
    inside_now = slice_get_within tokens slot (Some t) at

    one_less : (i : ℕ) → token_count (slice_get (plain_tokens (slice_set tokens slot None)) i) + cond (t.key.slot == i) 1 0 ≡ token_count (slice_get (plain_tokens tokens) i)
    one_less i = elim (eqb_tells t.key.slot i) [
      | inl e ↦ (let now = ap token_count (plain_at (slice_set tokens slot None) slot None (slice_get-set_same tokens slot None inside_now)) in
          let was = ap token_count (plain_at tokens slot (Some t) at) in
          let its : ◌≡◌ {A = ℕ} (cond (t.key.slot == i) 1 0) 1 = ap (λ (b : Bool). cond {A = ℕ} b 1 0) e.0 in
          subst (λ j. token_count (slice_get (plain_tokens (slice_set tokens slot None)) j) + cond (t.key.slot == i) 1 0 ≡ token_count (slice_get (plain_tokens tokens) j)) (sym own.in_slot ∙ e.1) (sum _ _ _ now was its))
      | inr n ↦ (let its : ◌≡◌ {A = ℕ} (cond (t.key.slot == i) 1 0) 0 = ap (λ (b : Bool). cond {A = ℕ} b 1 0) n.0 in
          same _ _ _ (ap token_count (plain_other tokens slot i None (λ x. n.1 (own.in_slot ∙ sym x)))) its)
    ]
      where
        sum : (a b c : ℕ) → a ≡ 0 → b ≡ 1 → c ≡ 1 → a + c ≡ b
        sum a b c x y z = omega (arith, x, y, z)

        same : (a b c : ℕ) → a ≡ b → c ≡ 0 → a + c ≡ b
        same a b c x y = omega (arith, x, y)

    -- a token that is left is another one, and was there before
    old_token : (i : ℕ) (u : BoardToken) → slice_get (slice_set tokens slot None) i ≡ Some (Some u) → (i ≢ slot) × (slice_get tokens i ≡ Some (Some u))
    old_token i u e = elim (eqb_tells i slot) [
      | inl s ↦ absurd (none-some u (same_Some None (Some u) (sym (slice_get-set_same tokens slot None inside_now) ∙ ap (slice_get (slice_set tokens slot None)) (sym s.1) ∙ e)))
      | inr n ↦ (n.1, sym (slice_get-set_other tokens slot i None n.1) ∙ e)
    ]

    pub held_shown : AreHeld (slice_set callers t.hold (spent_on t.key)) files (slice_set tokens slot None)
    held_shown = record {
      idle = λ id key p e. elim (after_set callers t.hold id (spent_on t.key) (record { key = key; phase = p }) e) [
        | inl new ↦ ap has_reference (ap (λ (x : Caller). x.phase) (sym new))
        | inr old ↦ h.idle id key p old
      ];
      held = λ file f e. let old = h.held file f e in record {
        waits = record {
          phase = old.waits.phase;
          there = slice_get-set_other callers t.hold f.file.hold (spent_on t.key) (λ x. not_the_hider callers f.file.hold f.key t.hold t.key old.waits own.hides (sym x)) ∙ old.waits.there;
          waits = old.waits.waits;
        };
        tag = old.tag;
        short = old.short;
      };
      apart = h.apart;
      hidden = λ i u e.
          let was = old_token i u e in
          let old = h.hidden i u was.1 in
          record { hides = slice_get-set_other callers t.hold u.hold (spent_on t.key) (λ x. was.0 (same_slot i u x old)) ∙ old.hides; in_slot = old.in_slot };
      counted = λ i.
          let set = count_set (on_slot i) callers t.hold (hidden_on t.key) (spent_on t.key) own.hides in
          let one = hider_counts i t.key in
          let none : ◌≡◌ {A = ℕ} (cond ((t.key.slot == i) && not (is_spent Spent)) 1 0) 0 = ap (λ (b : Bool). cond {A = ℕ} b 1 0) (spent_counts i t.key) in
          sums _ (hold_count callers i) (count_by (is_on i) (plain_files files)) (token_count (slice_get (plain_tokens tokens) i)) _ _ _ _ set one none (h.counted i) (one_less i);
    }
      where
        -- a caller hides only one key
        same_slot : (i : ℕ) (u : BoardToken) → u.hold ≡ t.hold → IsHeldToken callers i u → i ≡ slot
        same_slot i u x old = sym old.in_slot ∙ ap (λ (c : Caller). c.key.slot) (same_Some (hidden_on u.key) (hidden_on t.key) (sym old.hides ∙ ap (slice_get callers) x ∙ own.hides)) ∙ own.in_slot

        sums : (a b f t p q r s : ℕ) → a + p ≡ b + q → p ≡ r → q ≡ 0 → b ≡ f + t → s + r ≡ t → a ≡ f + s
        sums a b f t p q r s x y z c o = omega (arith, x, y, z, c, o)
