-- Which keys are hidden, and which stay hidden after a step of a caller.
use Rattle.std.proofs.Common.{◌≡◌, ◌≢◌, ◌⊎◌, inl, inr, ℕ, zero, suc, List, [], ◌∷◌, ◌++◌, refl, ap, sym, ◌∙◌, subst, Bool, true, false, cond, slice_set}
use Rattle.std.specs.Prelude.{slice_get, Some, ◌&&◌, not, IsTrue}
use Rattle.std.proofs.lemmas.Option.{same_Some, none-some}
use Rattle.kf_core.specs.declared.key.Key.{Key}
use Rattle.kf_core.specs.declared.caller.Phase.{Phase}
use Rattle.kf_core.specs.declared.caller.Phase.TheVariants.{Still, Turned, Running, Broken, Restored, Drained, Parted, Hiding, Hidden, Spent}
use Rattle.kf_core.specs.declared.caller.Caller.{Caller}
use Rattle.kf_core.specs.Keys.{same_key}
use Rattle.kf_core.specs.Bare.{BareWorld, IsCaller, marks, hides, any_hides, is_hidden, is_live}
use Rattle.kf_core.specs.Marks.{are_live}
use Rattle.kf_core.specs.Phases.{saw_drain, saw_unused, is_hiding}
use Rattle.kf_core.proofs.Climbs.{same_key_self, same_key_is}
use Rattle.kf_core.proofs.Lists.{after_write}

-- one caller of the list hides the key
pub record HiddenBy (cs : List Caller) (key : Key) : Type 0 where
  pub place : ℕ
  pub item : Caller
  pub there : slice_get cs place ≡ Some item
  pub hiding : hides key item ≡ true

pub hider_hides : (cs : List Caller) (key : Key) (c : ℕ) (x : Caller) → slice_get cs c ≡ Some x → hides key x ≡ true → any_hides key cs ≡ true
hider_hides [] key c x h e = absurd (none-some x h)
hider_hides (y ∷ ys) key zero x h e = ap (λ b. cond b true (any_hides key ys)) (ap (hides key) (same_Some y x h) ∙ e)
hider_hides (y ∷ ys) key (suc c) x h e = elim (hides key y) as (λ b. cond b true (any_hides key ys) ≡ true) [ true ↦ refl | false ↦ hider_hides ys key c x h e ]

pub hidden_by : (cs : List Caller) (key : Key) → any_hides key cs ≡ true → HiddenBy cs key
hidden_by [] key e = absurd (let x : false ≡ true = e in cc)
hidden_by (y ∷ ys) key e = elim (hides key y) as (λ b. hides key y ≡ b → cond b true (any_hides key ys) ≡ true → HiddenBy (y ∷ ys) key) [
  | true ↦ λ its _. record { place = 0; item = y; there = refl; hiding = its }
  | false ↦ λ _ rest. (let r = hidden_by ys key rest in record { place = suc r.place; item = r.item; there = r.there; hiding = r.hiding })
] refl e

pub hides_set : (cs : List Caller) (key : Key) (c : ℕ) (x v : Caller) → slice_get cs c ≡ Some x → hides key v ≡ hides key x → any_hides key (slice_set cs c v) ≡ any_hides key cs
hides_set [] key c x v h e = refl
hides_set (y ∷ ys) key zero x v h e = ap (λ b. cond b true (any_hides key ys)) (e ∙ ap (hides key) (sym (same_Some y x h)))
hides_set (y ∷ ys) key (suc c) x v h e = ap (λ b. cond (hides key y) true b) (hides_set ys key c x v h e)

pub hides_push : (cs : List Caller) (key : Key) (v : Caller) → hides key v ≡ false → any_hides key (cs ++ v ∷ []) ≡ any_hides key cs
hides_push [] key v e = ap (λ b. cond b true false) e
hides_push (y ∷ ys) key v e = ap (λ b. cond (hides key y) true b) (hides_push ys key v e)

both : (a b : Bool) → (a && b) ≡ true → (a ≡ true) × (b ≡ true)
both true b h = (refl, h)
both false b h = cc

pub not_false : (b : Bool) → (b ≡ true → ⊥) → b ≡ false
not_false true none = absurd (none refl)
not_false false none = refl

pub not_both : (b : Bool) → b ≡ true → b ≡ false → ⊥
not_both b h g = let x : true ≡ false = sym h ∙ g in cc

-- a key that a caller hides is hidden
pub hider_hidden : (w : BareWorld) (c : ℕ) (key : Key) (p : Phase) → IsCaller w c key p → is_hiding p ≡ true → is_hidden w key ≡ true
hider_hidden w c key p there hiding = hider_hides w.callers key c (record { key = key; phase = p }) there (ap (λ b. b && is_hiding p) (same_key_self key) ∙ hiding)

-- a hidden key has a caller that hides it
pub hidden_has : (w : BareWorld) (key : Key) → is_hidden w key ≡ true → (c : ℕ) × (p : Phase) × IsCaller w c key p × (is_hiding p ≡ true)
hidden_has w key e =
    let r = hidden_by w.callers key e in
    let b = both (same_key r.item.key key) (is_hiding r.item.phase) r.hiding in
    (r.place, r.item.phase, r.there ∙ ap (λ (k : Key). let x : Caller = record { key = k; phase = r.item.phase } in Some x) (same_key_is r.item.key key b.0), b.1)

-- a key that no caller hides is not hidden
pub none_hides : (w : BareWorld) (key : Key) → ((c : ℕ) (p : Phase) → IsCaller w c key p → is_hiding p ≡ true → ⊥) → is_hidden w key ≡ false
none_hides w key none = not_false (is_hidden w key) (λ e. let r = hidden_has w key e in none r.0 r.1 r.2 r.3)

-- a live node has the marks of a live node, and is not hidden
pub live_has_marks : (w : BareWorld) (key : Key) → is_live w key ≡ true → are_live (marks w key) ≡ true
live_has_marks w key e = (both (are_live (marks w key)) (not (is_hidden w key)) e).0

pub live_is_shown : (w : BareWorld) (key : Key) → is_live w key ≡ true → is_hidden w key ≡ false
live_is_shown w key e = go (is_hidden w key) (both (are_live (marks w key)) (not (is_hidden w key)) e).1
  where
    go : (b : Bool) → not b ≡ true → b ≡ false
    go true h = cc
    go false h = refl

-- the key of a hider is not live
pub hider_not_live : (w : BareWorld) (c : ℕ) (key : Key) (p : Phase) → IsCaller w c key p → is_hiding p ≡ true → is_live w key ≡ false
hider_not_live w c key p there hiding = not_false (is_live w key) (λ live. not_both (is_hidden w key) (hider_hidden w c key p there hiding) (live_is_shown w key live))

-- what follows from a caller's phase
pub drain_unused : (p : Phase) → saw_drain p ≡ true → saw_unused p ≡ true
drain_unused Still h = cc
drain_unused Turned h = cc
drain_unused Running h = cc
drain_unused Broken h = cc
drain_unused Restored h = cc
drain_unused Drained h = refl
drain_unused Parted h = refl
drain_unused Hiding h = cc
drain_unused Hidden h = cc
drain_unused Spent h = cc

pub unused_why : (p : Phase) → saw_unused p ≡ true → (saw_drain p ≡ true) ⊎ (is_hiding p ≡ true)
unused_why Still h = cc
unused_why Turned h = cc
unused_why Running h = cc
unused_why Broken h = cc
unused_why Restored h = cc
unused_why Drained h = inl refl
unused_why Parted h = inl refl
unused_why Hiding h = cc
unused_why Hidden h = inr refl
unused_why Spent h = cc

pub hiding_holds : (p : Phase) → is_hiding p ≡ true → p ≢ Spent
hiding_holds p h e = let x : is_hiding Spent ≡ true = subst (λ q. is_hiding q ≡ true) e h in cc

-- at most one of the callers hides a key
abbrev pub OneHides : List Caller → Type 0
OneHides cs = (c : ℕ) (key : Key) (p : Phase) → slice_get cs c ≡ Some (record { key = key; phase = p }) → IsTrue (is_hiding p) → (d : ℕ) (q : Phase) → slice_get cs d ≡ Some (record { key = key; phase = q }) → IsTrue (is_hiding q) → d ≡ c

-- a caller goes to another phase; if it hides its key there, it did so before, or nobody did
pub one_after_set : (w : BareWorld) (c : ℕ) (key : Key) (from to : Phase) → OneHides w.callers → IsCaller w c key from → (is_hiding to ≡ true → (is_hiding from ≡ true) ⊎ (is_hidden w key ≡ false)) → OneHides (slice_set w.callers c (record { key = key; phase = to }))
one_after_set w c key from to one was hiding a k p ha pa b q hb qb =
    elim (after_write w.callers c a (moved to) (record { key = k; phase = p }) ha) [
      | inl x ↦ elim (after_write w.callers c b (moved to) (record { key = k; phase = q }) hb) [
        | inl y ↦ sym y.0 ∙ x.0
        | inr y ↦ absurd (apart b k p q x.1 pa y.0 y.1 qb)
      ]
      | inr x ↦ elim (after_write w.callers c b (moved to) (record { key = k; phase = q }) hb) [
        | inl y ↦ absurd (apart a k q p y.1 qb x.0 x.1 pa)
        | inr y ↦ one a k p x.1 pa b q y.1 qb
      ]
    ]
  where
    moved : Phase → Caller
    moved phase = record { key = key; phase = phase }

    -- another caller does not hide the key that this one hides
    apart : (d : ℕ) (k : Key) (p q : Phase) → moved to ≡ record { key = k; phase = p } → is_hiding p ≡ true → c ≢ d → slice_get w.callers d ≡ Some (record { key = k; phase = q }) → is_hiding q ≡ true → ⊥
    apart d k p q e hides_now ne there hides_too =
        let same : k ≡ key = sym (ap (λ (x : Caller). x.key) e) in
        let its : IsCaller w d key q = subst (λ (x : Key). IsCaller w d x q) same there in
        elim (hiding (ap (λ (x : Caller). is_hiding x.phase) e ∙ hides_now)) [
          | inl before ↦ ne (sym (one c key from was before d q its hides_too))
          | inr none ↦ not_both (is_hidden w key) (hider_hidden w d key q its hides_too) none
        ]

-- a new caller, which hides nothing
pub one_after_push : (cs : List Caller) (v : Caller) → is_hiding v.phase ≡ false → OneHides cs → OneHides (cs ++ v ∷ [])
one_after_push cs v idle one c key p hc pc d q hd qd = one c key p (old c p hc pc) pc d q (old d q hd qd) qd
  where
    within : (xs : List Caller) (i : ℕ) (y : Caller) → slice_get (xs ++ v ∷ []) i ≡ Some y → (v ≡ y) ⊎ (slice_get xs i ≡ Some y)
    within [] zero y h = inl (same_Some v y h)
    within [] (suc i) y h = absurd (none-some y h)
    within (x ∷ xs) zero y h = inr h
    within (x ∷ xs) (suc i) y h = within xs i y h

    old : (i : ℕ) (r : Phase) → slice_get (cs ++ v ∷ []) i ≡ Some (record { key = key; phase = r }) → is_hiding r ≡ true → slice_get cs i ≡ Some (record { key = key; phase = r })
    old i r h hiding = elim (within cs i (record { key = key; phase = r }) h) [
      | inl e ↦ absurd (not_both (is_hiding r) hiding (sym (ap (λ (x : Caller). is_hiding x.phase) e) ∙ idle))
      | inr e ↦ e
    ]
