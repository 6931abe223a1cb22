-- Which caller holds what: callers, open files and tokens always fit each other.
use Rattle.std.proofs.Common.{◌≡◌, ◌≢◌, ◌⊎◌, inl, inr, ℕ, zero, suc, ◌+◌, refl, ap, arith, sym, ◌∙◌, subst, Bool, true, false, cond, List, [], ◌∷◌, ◌++◌, length, slice_set}
use Rattle.std.specs.Prelude.{Option, None, Some, slice_get, IsTrue, map, count_by, ◌==◌, ◌&&◌, not}
use Rattle.std.specs.Option.{option_map}
use Rattle.std.proofs.lemmas.Option.{same_Some, none-some, slice_get_within, slice_get-map}
use Rattle.std.proofs.lemmas.List.{map-set}
use Rattle.std.proofs.lemmas.List.Sums.{sum_by-append}
use Rattle.std.proofs.lemmas.Bool.Decides.{eqb_tells}
use Rattle.kf_core.specs.declared.key.Key.{Key}
use Rattle.kf_core.specs.declared.caller.Caller.{Caller}
use Rattle.kf_core.specs.declared.caller.Phase.{Phase}
use Rattle.kf_core.specs.declared.caller.Phase.TheVariants.{Still, Turned, Running, Broken, Restored, Drained, Parted, Hiding, Hidden, Spent}
use Rattle.kf_core.specs.Phases.{is_waiting, has_reference, is_spent}
use Rattle.kf_core.proofs.Lists.{slice_get-set_same, slice_get-set_other, after_set, after_push}
use Rattle.kf_plain.specs.declared.nodes.visits.BoardFile.{BoardFile}
use Rattle.kf_plain.specs.declared.nodes.hiding.BoardToken.{BoardToken}
use Rattle.kf_world.specs.Bounded.{hold_count}
use Rattle.kf_plain.specs.Nodes.{Waits, StillWaits, AllIdle, hidden_on, spent_on}
use Rattle.kf_plain.specs.Plain.{count_on, is_on, token_count}
use Rattle.kf_plain.specs.PlainInside.{plain_file, plain_files, plain_tokens, IsHeldFile, IsHeldToken, IsShort}
use Rattle.kf_plain.proofs.Counts.{none_counted, count_push, count_set}
use Rattle.kf_plain.proofs.BoardVisits.{last_there}

-- what a whole board requires of its callers, open files and tokens
pub record AreHeld (callers : List Caller) (files : List (Option BoardFile)) (tokens : List (Option BoardToken)) : Type 0 where
  pub idle : AllIdle callers
  pub held : (file : ℕ) (f : BoardFile) → slice_get files file ≡ Some (Some f) → IsHeldFile callers f
  pub apart : (one other : ℕ) (f g : BoardFile) → slice_get files one ≡ Some (Some f) → slice_get files other ≡ Some (Some g) → f.file.hold ≡ g.file.hold → one ≡ other
  pub hidden : (slot : ℕ) (t : BoardToken) → slice_get tokens slot ≡ Some (Some t) → IsHeldToken callers slot t
  pub counted : (slot : ℕ) → hold_count callers slot ≡ count_on (plain_files files) (plain_tokens tokens) slot

waits_idle : (p : Phase) → is_waiting p ≡ true → has_reference p ≡ false
waits_idle Still h = refl
waits_idle Turned h = refl
waits_idle Running h = absurd (cc)
waits_idle Broken h = absurd (cc)
waits_idle Restored h = absurd (cc)
waits_idle Drained h = absurd (cc)
waits_idle Parted h = absurd (cc)
waits_idle Hiding h = absurd (cc)
waits_idle Hidden h = absurd (cc)
waits_idle Spent h = absurd (cc)

waits_holds : (p : Phase) → is_waiting p ≡ true → is_spent p ≡ false
waits_holds Still h = refl
waits_holds Turned h = refl
waits_holds Running h = absurd (cc)
waits_holds Broken h = absurd (cc)
waits_holds Restored h = absurd (cc)
waits_holds Drained h = absurd (cc)
waits_holds Parted h = absurd (cc)
waits_holds Hiding h = absurd (cc)
waits_holds Hidden h = absurd (cc)
waits_holds Spent h = absurd (cc)

phase_in : (c : Caller) (key : Key) (phase : Phase) → ◌≡◌ {A = Caller} c (record { key = key; phase = phase }) → c.phase ≡ phase
phase_in c key phase e = ap (λ (x : Caller). x.phase) e

on_slot : ℕ → Caller → Bool
on_slot slot c = (c.key.slot == slot) && not (is_spent c.phase)

-- a waiting caller counts only on the slot of its key, and a spent one on none
waiting_counts : (slot : ℕ) (key : Key) (phase : Phase) → is_waiting phase ≡ true → ◌≡◌ {A = ℕ} (cond ((key.slot == slot) && not (is_spent phase)) 1 0) (cond (key.slot == slot) 1 0)
waiting_counts slot key phase w = let e = waits_holds phase w in rw e (both (key.slot == slot))
  where
    both : (b : Bool) → ◌≡◌ {A = ℕ} (cond (b && true) 1 0) (cond b 1 0)
    both true = refl
    both false = refl

pub spent_counts : (slot : ℕ) (key : Key) → ((key.slot == slot) && not (is_spent Spent)) ≡ false
spent_counts slot key = neither (key.slot == slot)
  where
    neither : (b : Bool) → (b && false) ≡ false
    neither true = refl
    neither false = refl

pub kept_left : {X : Type 0} (xs ys : List X) (i : ℕ) (x : X) → slice_get xs i ≡ Some x → slice_get (xs ++ ys) i ≡ Some x
kept_left [] ys i x e = absurd (none-some x e)
kept_left (y ∷ xs) ys zero x e = e
kept_left (y ∷ xs) ys (suc i) x e = kept_left xs ys i x e

in_either : {X : Type 0} (xs ys : List X) (i : ℕ) (x : X) → slice_get (xs ++ ys) i ≡ Some x → (slice_get xs i ≡ Some x) ⊎ ((j : ℕ) × (slice_get ys j ≡ Some x))
in_either [] ys i x e = inr (i, e)
in_either (y ∷ xs) ys zero x e = inl e
in_either (y ∷ xs) ys (suc i) x e = in_either xs ys i x e

spent_there : (keys : List Key) (i : ℕ) (c : Caller) → slice_get (map spent_on keys) i ≡ Some c → c.phase ≡ Spent
spent_there [] i c e = absurd (none-some c e)
spent_there (k ∷ keys) zero c e = ap (λ (x : Caller). x.phase) (sym (same_Some (spent_on k) c e))
spent_there (k ∷ keys) (suc i) c e = spent_there keys i c e

none_spent : (slot : ℕ) (c : Caller) → c.phase ≡ Spent → ((c.key.slot == slot) && not (is_spent c.phase)) ≡ false
none_spent slot c e = ap (λ p. (c.key.slot == slot) && not (is_spent p)) e ∙ spent_counts slot c.key

-- a waiting caller is not one that hides
pub not_the_hider : (callers : List Caller) (id : ℕ) (key : Key) (d : ℕ) (k : Key) → Waits callers id key → slice_get callers d ≡ Some (hidden_on k) → d ≢ id
not_the_hider callers id key d k w hides e = clash w.phase w.waits (ap (λ (c : Caller). c.phase) (same_Some (record { key = key; phase = w.phase }) (hidden_on k) (sym w.there ∙ ap (slice_get callers) (sym e) ∙ hides)))
  where
    clash : (p : Phase) → is_waiting p ≡ true → p ≡ Hidden → ⊥
    clash p waits is = let x : false ≡ true = ap is_waiting (sym is) ∙ waits in cc

-- a token is still held after a waiting caller has changed
hidden_still : (callers : List Caller) (id : ℕ) (key : Key) (c : Caller) (slot : ℕ) (t : BoardToken) → Waits callers id key → IsHeldToken callers slot t → IsHeldToken (slice_set callers id c) slot t
hidden_still callers id key c slot t w h = record { hides = slice_get-set_other callers id t.hold c (not_the_hider callers id key t.hold t.key w h.hides) ∙ h.hides; in_slot = h.in_slot }

module _ (callers : List Caller) (files : List (Option BoardFile)) (tokens : List (Option BoardToken)) (h : AreHeld callers files tokens) where
  -- the board still fits with more callers, which have already released what they held
  pub held_spent : (keys : List Key) → AreHeld (callers ++ map spent_on keys) files tokens
  held_spent keys = record {
    idle = λ id key phase e. elim (in_either callers (map spent_on keys) id _ e) [
      | inl old ↦ h.idle id key phase old
      | inr new ↦ ap has_reference (spent_there keys new.0 (record { key = key; phase = phase }) new.1)
    ];
    held = λ file f e. let old = h.held file f e in record {
      waits = record { phase = old.waits.phase; there = kept_left callers (map spent_on keys) f.file.hold _ old.waits.there; waits = old.waits.waits };
      tag = old.tag;
      short = old.short;
    };
    apart = h.apart;
    hidden = λ slot t e. let old = h.hidden slot t e in record { hides = kept_left callers (map spent_on keys) t.hold _ old.hides; in_slot = old.in_slot };
    counted = λ slot.
        let none = none_counted (λ (c : Caller). (c.key.slot == slot) && not (is_spent c.phase)) (map spent_on keys) (λ i c e. none_spent slot c (spent_there keys i c e)) in
        let all = sum_by-append (λ (c : Caller). cond ((c.key.slot == slot) && not (is_spent c.phase)) 1 0) callers (map spent_on keys) in
        all ∙ ap (λ n. hold_count callers slot + n) none ∙ plus_none (hold_count callers slot) ∙ h.counted slot;
  }
    where
      plus_none : (n : ℕ) → n + 0 ≡ n
      plus_none n = omega arith

  -- one more caller, and the file that it is for
  pub held_opened : (file : ℕ) (f : BoardFile) (phase : Phase) → slice_get files file ≡ Some None → IsTrue (is_waiting phase) → f.file.hold ≡ length callers → f.file.tag ≡ f.key.slot → IsShort f.file.state.text →
      AreHeld (callers ++ record { key = f.key; phase = phase } ∷ []) (slice_set files file (Some f)) tokens
  held_opened file f phase empty w hold tag short = record {
    idle = λ id key p e. elim (after_push callers id (record { key = f.key; phase = phase }) (record { key = key; phase = p }) e) [
      | inl new ↦ ap has_reference (ap (λ (x : Caller). x.phase) (sym new)) ∙ waits_idle phase w
      | inr old ↦ h.idle id key p old
    ];
    held = λ at g e. elim (eqb_tells at file) [
      | inl s ↦ (let same = is_new at g s.1 e in subst (λ x. IsHeldFile (callers ++ record { key = f.key; phase = phase } ∷ []) x) same
          (record { waits = record { phase = phase; there = ap (slice_get (callers ++ record { key = f.key; phase = phase } ∷ [])) hold ∙ last_there callers (record { key = f.key; phase = phase }); waits = w }; tag = tag; short = short }))
      | inr d ↦ (let old = h.held at g (is_old at g d.1 e) in record {
        waits = record { phase = old.waits.phase; there = kept_left callers _ g.file.hold _ old.waits.there; waits = old.waits.waits };
        tag = old.tag;
        short = old.short;
      })
    ];
    apart = λ one other g k e d same. elim (eqb_tells one file) [
      | inl a ↦ (elim (eqb_tells other file) [
        | inl b ↦ a.1 ∙ sym b.1
        | inr b ↦ absurd (too_far k (h.held other k (is_old other k b.1 d)) (sym same ∙ ap (λ (x : BoardFile). x.file.hold) (sym (is_new one g a.1 e)) ∙ hold))
      ])
      | inr a ↦ (elim (eqb_tells other file) [
        | inl b ↦ absurd (too_far g (h.held one g (is_old one g a.1 e)) (same ∙ ap (λ (x : BoardFile). x.file.hold) (sym (is_new other k b.1 d)) ∙ hold))
        | inr b ↦ h.apart one other g k (is_old one g a.1 e) (is_old other k b.1 d) same
      ])
    ];
    hidden = λ slot t e. let old = h.hidden slot t e in record { hides = kept_left callers _ t.hold _ old.hides; in_slot = old.in_slot };
    counted = λ slot.
        let old = h.counted slot in
        let more = count_push (λ (c : Caller). (c.key.slot == slot) && not (is_spent c.phase)) callers (record { key = f.key; phase = phase }) ∙ ap (λ n. hold_count callers slot + n) (waiting_counts slot f.key phase w) in
        let there : slice_get (plain_files files) file ≡ Some None = slice_get-map (option_map plain_file) files file ∙ ap (option_map (option_map plain_file)) empty in
        let set = count_set (is_on slot) (plain_files files) file None (Some (plain_file f)) there in
        let shape = map-set (option_map plain_file) files file (Some f) in
        more ∙ sums (hold_count callers slot) (count_by (is_on slot) (plain_files files)) (token_count (slice_get (plain_tokens tokens) slot)) _ _ old set ∙ ap (λ fs. count_on fs (plain_tokens tokens) slot) (sym shape);
  }
    where
      is_new : (at : ℕ) (g : BoardFile) → at ≡ file → slice_get (slice_set files file (Some f)) at ≡ Some (Some g) → f ≡ g
      is_new at g s e = same_Some f g (same_Some (Some f) (Some g) (sym (slice_get-set_same files file (Some f) (slice_get_within files file None empty)) ∙ ap (slice_get (slice_set files file (Some f))) (sym s) ∙ e))

      is_old : (at : ℕ) (g : BoardFile) → at ≢ file → slice_get (slice_set files file (Some f)) at ≡ Some (Some g) → slice_get files at ≡ Some (Some g)
      is_old at g d e = sym (slice_get-set_other files file at (Some f) d) ∙ e

      too_far : (g : BoardFile) → IsHeldFile callers g → g.file.hold ≡ length callers → ⊥
      too_far g x e = let inside = slice_get_within callers g.file.hold _ x.waits.there in omega (arith, inside, e)

      sums : (a b t c d : ℕ) → a ≡ b + t → c + 0 ≡ b + d → a + d ≡ c + t
      sums a b t c d e s = omega (arith, e, s)

  -- one file fewer, with its caller spent
  pub held_closed : (file : ℕ) (f : BoardFile) → slice_get files file ≡ Some (Some f) → AreHeld (slice_set callers f.file.hold (spent_on f.key)) (slice_set files file None) tokens
  held_closed file f there = record {
    idle = λ id key p e. elim (after_set callers f.file.hold id (spent_on f.key) (record { key = key; phase = p }) e) [
      | inl new ↦ ap has_reference (ap (λ (x : Caller). x.phase) (sym new))
      | inr old ↦ h.idle id key p old
    ];
    held = λ at g e. let other = not_closed at g e in let old = h.held at g other.1 in record {
      waits = record { phase = old.waits.phase; there = slice_get-set_other callers f.file.hold g.file.hold (spent_on f.key) (λ same. other.0 (h.apart at file g f other.1 there same)) ∙ old.waits.there; waits = old.waits.waits };
      tag = old.tag;
      short = old.short;
    };
    apart = λ one other g k e d same. h.apart one other g k (not_closed one g e).1 (not_closed other k d).1 same;
    hidden = λ slot t e. hidden_still callers f.file.hold f.key (spent_on f.key) slot t (h.held file f there).waits (h.hidden slot t e);
    counted = λ slot.
        let old = h.counted slot in
        let was = h.held file f there in
        let callers_set = count_set (λ (c : Caller). (c.key.slot == slot) && not (is_spent c.phase)) callers f.file.hold (record { key = f.key; phase = was.waits.phase }) (spent_on f.key) was.waits.there in
        let file_there : slice_get (plain_files files) file ≡ Some (Some (plain_file f)) = slice_get-map (option_map plain_file) files file ∙ ap (option_map (option_map plain_file)) there in
        let files_set = count_set (is_on slot) (plain_files files) file (Some (plain_file f)) None file_there in
        let shape = map-set (option_map plain_file) files file None in
        let one = waiting_counts slot f.key was.waits.phase was.waits.waits in
        let none : ◌≡◌ {A = ℕ} (cond ((f.key.slot == slot) && not (is_spent Spent)) 1 0) 0 = ap (λ (b : Bool). cond {A = ℕ} b 1 0) (spent_counts slot f.key) in
        sums _ (hold_count callers slot) _ (count_by (is_on slot) (plain_files files)) _ _ _ (token_count (slice_get (plain_tokens tokens) slot)) callers_set one none files_set old ∙ ap (λ fs. count_on fs (plain_tokens tokens) slot) (sym shape);
  }
    where
      not_closed : (at : ℕ) (g : BoardFile) → slice_get (slice_set files file None) at ≡ Some (Some g) → (at ≢ file) × (slice_get files at ≡ Some (Some g))
      not_closed at g e = elim (eqb_tells at file) [
        | inl s ↦ absurd (none-some g (same_Some None (Some g) (sym (slice_get-set_same files file None (slice_get_within files file (Some f) there)) ∙ ap (slice_get (slice_set files file None)) (sym s.1) ∙ e)))
        | inr d ↦ (d.1, sym (slice_get-set_other files file at None d.1) ∙ e)
      ]

      sums : (a b c d p q r t : ℕ) → a + p ≡ b + q → p ≡ r → q ≡ 0 → c + r ≡ d + 0 → b ≡ d + t → a ≡ c + t
      sums a b c d p q r t x y z s e = omega (arith, x, y, z, s, e)

-- the caller of a file goes from one waiting phase to another
pub held_moved : (callers : List Caller) (files : List (Option BoardFile)) (tokens : List (Option BoardToken)) (h : AreHeld callers files tokens) (file : ℕ) (f : BoardFile) (phase : Phase) → slice_get files file ≡ Some (Some f) → IsTrue (is_waiting phase) → AreHeld (slice_set callers f.file.hold (record { key = f.key; phase = phase })) files tokens
held_moved callers files tokens h file f phase there w = record {
  idle = λ id key p e. elim (after_set callers f.file.hold id (record { key = f.key; phase = phase }) (record { key = key; phase = p }) e) [
    | inl new ↦ ap has_reference (ap (λ (x : Caller). x.phase) (sym new)) ∙ waits_idle phase w
    | inr old ↦ h.idle id key p old
  ];
  held = λ at g e. let old = h.held at g e in elim (eqb_tells g.file.hold f.file.hold) [
    | inl s ↦ (let own = h.held file f there in
        let same : ◌≡◌ {A = Caller} (record { key = f.key; phase = own.waits.phase }) (record { key = g.key; phase = old.waits.phase }) = same_Some _ _ (sym own.waits.there ∙ ap (slice_get callers) (sym s.1) ∙ old.waits.there) in
        let key : f.key ≡ g.key = ap (λ (c : Caller). c.key) same in record {
          waits = record { phase = phase; there = ap (slice_get (slice_set callers f.file.hold (record { key = f.key; phase = phase }))) s.1 ∙ slice_get-set_same callers f.file.hold _ (slice_get_within callers f.file.hold _ own.waits.there) ∙ ap (λ (k : Key). let c : Option Caller = Some (record { key = k; phase = phase }) in c) key; waits = w };
          tag = old.tag;
          short = old.short;
        })
    | inr d ↦ record {
      waits = record { phase = old.waits.phase; there = slice_get-set_other callers f.file.hold g.file.hold _ d.1 ∙ old.waits.there; waits = old.waits.waits };
      tag = old.tag;
      short = old.short;
    }
  ];
  apart = h.apart;
  hidden = λ slot t e. hidden_still callers f.file.hold f.key (record { key = f.key; phase = phase }) slot t (h.held file f there).waits (h.hidden slot t e);
  counted = λ slot.
      let own = h.held file f there in
      let set = count_set (λ (c : Caller). (c.key.slot == slot) && not (is_spent c.phase)) callers f.file.hold (record { key = f.key; phase = own.waits.phase }) (record { key = f.key; phase = phase }) own.waits.there in
      let was = waiting_counts slot f.key own.waits.phase own.waits.waits in
      let now = waiting_counts slot f.key phase w in
      equal _ _ _ _ _ set was now ∙ h.counted slot;
}
  where
    equal : (a b p q r : ℕ) → a + p ≡ b + q → p ≡ r → q ≡ r → a ≡ b
    equal a b p q r x y z = omega (arith, x, y, z)

-- the caller of a file does nothing, and the file's state changes
pub held_same : (callers : List Caller) (files : List (Option BoardFile)) (tokens : List (Option BoardToken)) (h : AreHeld callers files tokens) (file : ℕ) (f f' : BoardFile) → slice_get files file ≡ Some (Some f) → f'.key ≡ f.key → f'.file.hold ≡ f.file.hold → f'.file.tag ≡ f.file.tag → IsShort f'.file.state.text →
    AreHeld callers (slice_set files file (Some f')) tokens
held_same callers files tokens h file f f' there key hold tag short = record {
  idle = h.idle;
  held = λ at g e. elim (eqb_tells at file) [
    | inl s ↦ subst (λ x. IsHeldFile callers x) (is_new at g s.1 e) kept
    | inr d ↦ h.held at g (is_old at g d.1 e)
  ];
  apart = λ one other g k e d same. h.apart one other (was one g e).0 (was other k d).0 (was one g e).1 (was other k d).1 ((was one g e).2 ∙ same ∙ sym (was other k d).2);
  hidden = h.hidden;
  counted = λ slot. h.counted slot ∙ ap (λ n. n + token_count (slice_get (plain_tokens tokens) slot)) (same_count slot);
}
  where
    is_new : (at : ℕ) (g : BoardFile) → at ≡ file → slice_get (slice_set files file (Some f')) at ≡ Some (Some g) → f' ≡ g
    is_new at g s e = same_Some f' g (same_Some (Some f') (Some g) (sym (slice_get-set_same files file (Some f') (slice_get_within files file (Some f) there)) ∙ ap (slice_get (slice_set files file (Some f'))) (sym s) ∙ e))

    is_old : (at : ℕ) (g : BoardFile) → at ≢ file → slice_get (slice_set files file (Some f')) at ≡ Some (Some g) → slice_get files at ≡ Some (Some g)
    is_old at g d e = sym (slice_get-set_other files file at (Some f') d) ∙ e

    was : (at : ℕ) (g : BoardFile) → slice_get (slice_set files file (Some f')) at ≡ Some (Some g) → (k : BoardFile) × (slice_get files at ≡ Some (Some k)) × (k.file.hold ≡ g.file.hold)
    was at g e = elim (eqb_tells at file) [
      | inl s ↦ (f, ap (slice_get files) s.1 ∙ there, sym hold ∙ ap (λ (x : BoardFile). x.file.hold) (is_new at g s.1 e))
      | inr d ↦ (g, is_old at g d.1 e, refl)
    ]

    kept : IsHeldFile callers f'
    kept = let old = h.held file f there in record {
      waits = subst (λ i. Waits callers i f'.key) (sym hold) (subst (λ k. Waits callers f.file.hold k) (sym key) old.waits);
      tag = tag ∙ old.tag ∙ ap (λ (k : Key). k.slot) (sym key);
      short = short;
    }

    same_count : (slot : ℕ) → count_by (is_on slot) (plain_files files) ≡ count_by (is_on slot) (plain_files (slice_set files file (Some f')))
    same_count slot =
        let file_there : slice_get (plain_files files) file ≡ Some (Some (plain_file f)) = slice_get-map (option_map plain_file) files file ∙ ap (option_map (option_map plain_file)) there in
        let set = count_set (is_on slot) (plain_files files) file (Some (plain_file f)) (Some (plain_file f')) file_there in
        let e : ◌≡◌ {A = ℕ} (cond (f'.key.slot == slot) 1 0) (cond (f.key.slot == slot) 1 0) = ap (λ (k : Key). cond {A = ℕ} (k.slot == slot) 1 0) key in
        equal _ _ _ _ set e ∙ ap (count_by (is_on slot)) (sym (map-set (option_map plain_file) files file (Some f')))
      where
        equal : (a b p q : ℕ) → a + p ≡ b + q → q ≡ p → b ≡ a
        equal a b p q x e = omega (arith, x, e)

pub held_visited : (callers : List Caller) (files : List (Option BoardFile)) (tokens : List (Option BoardToken)) (h : AreHeld callers files tokens) (file : ℕ) (f f' : BoardFile) (callers' : List Caller) → slice_get files file ≡ Some (Some f) → StillWaits callers f.file.hold f.key callers' → f'.key ≡ f.key → f'.file.hold ≡ f.file.hold → f'.file.tag ≡ f.file.tag → IsShort f'.file.state.text →
    AreHeld callers' (slice_set files file (Some f')) tokens
held_visited callers files tokens h file f f' callers' there (inl same) key hold tag short = subst (λ cs. AreHeld cs (slice_set files file (Some f')) tokens) (sym same) (held_same callers files tokens h file f f' there key hold tag short)
held_visited callers files tokens h file f f' callers' there (inr moved) key hold tag short =
    subst (λ cs. AreHeld cs (slice_set files file (Some f')) tokens) (sym moved.2) (held_same (slice_set callers f.file.hold (record { key = f.key; phase = moved.0 })) files tokens (held_moved callers files tokens h file f moved.0 there moved.1) file f f' there key hold tag short)
