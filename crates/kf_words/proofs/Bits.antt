-- What a word says about its slot.
use Rattle.std.proofs.Common.{◌≡◌, ◌≢◌, ◌⊎◌, inl, inr, ℕ, ◌+◌, ◌*◌, ◌/◌, ◌%◌, ◌-◌, ◌<◌, ◌≤◌, ◌||◌, zero, suc, Bool, true, false, not, refl, sym, ap, ◌∙◌, subst, eq-eqb, ne_eqb, bit_and, arith}
use Rattle.std.specs.Prelude.{Option, None, Some, is_some, IsTrue}
use Rattle.std.proofs.lemmas.Nat.{bit_set_by_shift, and_mask, and_or_self, or_disjoint}
use Rattle.std.specs.Int.Bits.{bit_or, or_add_and}
use Rattle.std.proofs.lemmas.Bool.{eqb-true}
use Rattle.std.proofs.lemmas.Bool.Decides.{eqb_tells}
use Rattle.std.specs.Prelude.{nat_eq}
use Rattle.kf_core.specs.declared.slot.NodeFlags.{NodeFlags}
use Rattle.kf_core.specs.declared.slot.SlotState.{SlotState}
use Rattle.kf_core.specs.declared.caller.Phase.{Phase}
use Rattle.kf_core.specs.declared.caller.Phase.TheVariants.{Still, Turned, Running, Broken, Restored, Drained, Parted, Hiding, Hidden, Spent}
use Rattle.kf_core.specs.Marks.{are_live, are_doomed}
use Rattle.kf_core.specs.Phases.{has_reference, is_waiting, is_hiding, is_spent}
use Rattle.kf_words.specs.Layout.{bit, bias, doom, hide, linked, has_bias, has_doom, has_hide, is_drained, is_unused, has_linked, IsFree}
use Rattle.kf_words.specs.Rule.{ShowsMarks, ShowsHolds}

pub bool_cases : (b : Bool) → (b ≡ true) ⊎ (b ≡ false)
bool_cases true = inl refl
bool_cases false = inr refl

pub bit≤ : (b : Bool) (n : ℕ) → bit b n ≤ n
bit≤ true n = omega arith
bit≤ false n = omega arith

word_small : (b d : Bool) (n h : ℕ) → n ≤ 65535 → h ≤ 1 → n + bit b bias + bit d doom + h * hide < 34359738368
word_small b d n h small one = let x = bit≤ b bias in let y = bit≤ d doom in omega arith

has_bias_of : (b d : Bool) (n h : ℕ) → n ≤ 65535 → has_bias (n + bit b bias + bit d doom + h * hide) ≡ b
has_bias_of true true n h small = eq-eqb _ _ (omega arith)
has_bias_of true false n h small = eq-eqb _ _ (omega arith)
has_bias_of false true n h small = ne_eqb _ _ (λ e. omega arith)
has_bias_of false false n h small = ne_eqb _ _ (λ e. omega arith)

-- HIDE is set if one caller hides the key, and clear if none does
has_hide_one : (b d : Bool) (n h : ℕ) → n ≤ 65535 → h ≡ 1 → has_hide (n + bit b bias + bit d doom + h * hide) ≡ true
has_hide_one b d n h small one = let x = bit≤ b bias in let y = bit≤ d doom in eq-eqb _ _ (omega arith)

has_hide_none : (b d : Bool) (n h : ℕ) → n ≤ 65535 → h ≡ 0 → has_hide (n + bit b bias + bit d doom + h * hide) ≡ false
has_hide_none b d n h small none = let x = bit≤ b bias in let y = bit≤ d doom in ne_eqb _ _ (λ e. omega arith)

pub not_not : (b : Bool) → not (not b) ≡ b
not_not true = refl
not_not false = refl

-- BIAS is clear if and only if the node has the marks of a live one
pub bias_shows : (word : ℕ) (o : Option NodeFlags) (n h : ℕ) → n ≤ 65535 → ShowsMarks word o n h → has_bias word ≡ not (are_live o)
bias_shows word o n h small s = ap has_bias s.1 ∙ has_bias_of (not (are_live o)) s.0 n h small

-- HIDE is set if and only if a caller hides the key
pub hide_set : (word : ℕ) (o : Option NodeFlags) (n h : ℕ) → n ≤ 65535 → ShowsMarks word o n h → 1 ≤ h → has_hide word ≡ true
hide_set word o n h small s one = let most = s.3 in ap has_hide s.1 ∙ has_hide_one (not (are_live o)) s.0 n h small (omega arith)

pub hide_clear : (word : ℕ) (o : Option NodeFlags) (n h : ℕ) → n ≤ 65535 → ShowsMarks word o n h → h ≡ 0 → has_hide word ≡ false
hide_clear word o n h small s none = ap has_hide s.1 ∙ has_hide_none (not (are_live o)) s.0 n h small none

pub hiders_one : (word : ℕ) (o : Option NodeFlags) (n h : ℕ) → n ≤ 65535 → ShowsMarks word o n h → has_hide word ≡ true → h ≡ 1
hiders_one word o n zero small s e = absurd (let x : true ≡ false = sym e ∙ hide_clear word o n 0 small s refl in cc)
hiders_one word o n (suc h) small s e = let most = s.3 in omega arith

pub hiders_none : (word : ℕ) (o : Option NodeFlags) (n h : ℕ) → n ≤ 65535 → ShowsMarks word o n h → has_hide word ≡ false → h ≡ 0
hiders_none word o n zero small s e = refl
hiders_none word o n (suc h) small s e = absurd (let x : true ≡ false = sym (hide_set word o n (suc h) small s (omega arith)) ∙ e in cc)

or_is : (a b : Bool) → (a || b) ≡ true → (a ≡ true) ⊎ (b ≡ true)
or_is true b e = inl refl
or_is false b e = inr e

drained_of : (b d : Bool) (n h : ℕ) → n ≤ 65535 → (n + bit b bias + bit d doom + h * hide ≡ bias + doom) ⊎ (n + bit b bias + bit d doom + h * hide ≡ bias + doom + hide) → (n ≡ 0) × (d ≡ true)
drained_of true true n h small (inl e) = (omega arith, refl)
drained_of true true n h small (inr e) = (omega arith, refl)
drained_of true false n h small (inl e) = absurd (omega arith)
drained_of true false n h small (inr e) = absurd (omega arith)
drained_of false true n h small (inl e) = absurd (omega arith)
drained_of false true n h small (inr e) = absurd (omega arith)
drained_of false false n h small (inl e) = absurd (omega arith)
drained_of false false n h small (inr e) = absurd (omega arith)

doomed_by : (o : Option NodeFlags) → (IsTrue (is_some o) → are_doomed o ≡ true) → are_doomed o ≡ true
doomed_by None h = refl
doomed_by (Some m) h = h refl

-- a drained word has no user, and its node is doomed
pub drained_shows : (word : ℕ) (o : Option NodeFlags) (n h : ℕ) → n ≤ 65535 → ShowsMarks word o n h → is_drained word ≡ true → (n ≡ 0) × (are_doomed o ≡ true)
drained_shows word o n h small s e =
    let which : (word ≡ bias + doom) ⊎ (word ≡ bias + doom + hide) = elim (or_is (nat_eq word (bias + doom)) (nat_eq word (bias + doom + hide)) e) [ inl x ↦ inl (eqb-true word (bias + doom) x) | inr x ↦ inr (eqb-true word (bias + doom + hide) x) ] in
    let x = drained_of (not (are_live o)) s.0 n h small (elim which [ inl y ↦ inl (sym s.1 ∙ y) | inr y ↦ inr (sym s.1 ∙ y) ]) in
    (x.0, doomed_by o (λ linked. sym (s.2 linked) ∙ x.1))

-- an unused word counts no user
unused_of : (b d : Bool) (n h : ℕ) → n ≤ 65535 → (n + bit b bias + bit d doom + h * hide) % bias ≡ 0 → n ≡ 0
unused_of true true n h small e = omega arith
unused_of true false n h small e = omega arith
unused_of false true n h small e = omega arith
unused_of false false n h small e = omega arith

pub unused_shows : (word : ℕ) (o : Option NodeFlags) (n h : ℕ) → n ≤ 65535 → ShowsMarks word o n h → is_unused word ≡ true → n ≡ 0
unused_shows word o n h small s e = unused_of (not (are_live o)) s.0 n h small (sym (ap (λ (w : ℕ). w % bias) s.1) ∙ eqb-true (word % bias) 0 e)

-- one more user, and one fewer, in 64-bit arithmetic
pub one_more : (word : ℕ) (o : Option NodeFlags) (n m h : ℕ) → n ≤ 65535 → m ≡ n + 1 → ShowsMarks word o n h → ShowsMarks ((word + 1) % 18446744073709551616) o m h
one_more word o n m h few e s =
    let small = word_small (not (are_live o)) s.0 n h few s.3 in
    let is = s.1 in
    (s.0, omega arith, s.2, s.3)

pub one_less : (word : ℕ) (o : Option NodeFlags) (n m h : ℕ) → n ≤ 65535 → n ≡ m + 1 → ShowsMarks word o n h → ShowsMarks ((word + 18446744073709551615) % 18446744073709551616) o m h
one_less word o n m h few e s =
    let small = word_small (not (are_live o)) s.0 n h few s.3 in
    let is = s.1 in
    (s.0, omega arith, s.2, s.3)

-- whether HIDE is set, and what masking the word with HIDE gives
no_hide : (n : ℕ) → bit_and n hide ≡ 0 → has_hide n ≡ false
no_hide n e = ne_eqb _ _ (λ one. (bit_set_by_shift n 34).0 (and_mask (n / 17179869184) 1 ∙ one) e)

some_hide : (n : ℕ) → bit_and n hide ≢ 0 → has_hide n ≡ true
some_hide n ne = eq-eqb _ _ (sym (and_mask (n / 17179869184) 1) ∙ (bit_set_by_shift n 34).1 ne)

clear_and : (n : ℕ) → has_hide n ≡ false → bit_and n hide ≡ 0
clear_and n e = elim (eqb_tells (bit_and n hide) 0) [
  | inl x ↦ x.1
  | inr x ↦ absurd (let y : true ≡ false = sym (some_hide n x.1) ∙ e in cc)
]

set_and : (n : ℕ) → has_hide n ≡ true → bit_and n hide ≡ hide
set_and n e =
    let odd : (n / hide) % 2 ≡ 1 = eqb-true ((n / hide) % 2) 1 e in
    let rest : ℕ = n - hide in
    let clear : has_hide (n - hide) ≡ false = ne_eqb _ _ (λ x. omega arith) in
    let whole : bit_or (n - hide) hide ≡ n = or_disjoint (n - hide) hide (clear_and (n - hide) clear) ∙ omega arith in
    subst (λ (k : ℕ). bit_and k hide ≡ hide) whole (and_or_self hide (n - hide))

-- setting HIDE in a word that did not have it counts one more caller that hides the key
pub hide_comes : (word : ℕ) (o : Option NodeFlags) (n h h' : ℕ) → n ≤ 65535 → ShowsMarks word o n h → has_hide word ≡ false → h' ≡ h + 1 → ShowsMarks (bit_or word hide) o n h'
hide_comes word o n h h' few s clear more =
    let none : h ≡ 0 = hiders_none word o n h few s clear in
    let apart : bit_and word hide ≡ 0 = clear_and word clear in
    let is = s.1 in
    (s.0, or_disjoint word hide apart ∙ ap (λ (w : ℕ). w + hide) s.1 ∙ omega arith, s.2, omega arith)

-- setting HIDE again changes nothing
pub hide_again : (word : ℕ) → has_hide word ≡ true → word < 18446744073709551616 → bit_or word hide ≡ word
hide_again word set small =
    let all : bit_and word hide ≡ hide = set_and word set in
    let sum : bit_or word hide + bit_and word hide ≡ word + hide = or_add_and word hide in
    omega arith

-- taking HIDE off leaves a word that counts no caller that hides the key
pub hide_taken : (word : ℕ) (o : Option NodeFlags) (n h : ℕ) → n ≤ 65535 → ShowsMarks word o n h → h ≡ 1 → ShowsMarks (word - hide) o n 0
hide_taken word o n h few s one = let is = s.1 in (s.0, omega arith, s.2, omega arith)

pub hide_goes : (word : ℕ) (o : Option NodeFlags) (n h h' : ℕ) → n ≤ 65535 → ShowsMarks word o n h → h ≡ h' + 1 → ShowsMarks ((word + 18446744056529682432) % 18446744073709551616) o n h'
hide_goes word o n h h' few s less =
    let small = word_small (not (are_live o)) s.0 n h few s.3 in
    let is = s.1 in
    let one = s.3 in
    (s.0, omega arith, s.2, omega arith)

no_bias : (n : ℕ) → bit_and n bias ≡ 0 → has_bias n ≡ false
no_bias n e = ne_eqb _ _ (λ one. (bit_set_by_shift n 32).0 (and_mask (n / 4294967296) 1 ∙ one) e)

some_bias : (n : ℕ) → bit_and n bias ≢ 0 → has_bias n ≡ true
some_bias n ne = eq-eqb _ _ (sym (and_mask (n / 4294967296) 1) ∙ (bit_set_by_shift n 32).1 ne)

pub waiting_is : (p : Phase) → is_waiting p ≡ true → (p ≢ Spent) × (has_reference p ≡ false)
waiting_is Still e = ((λ x. cc), refl)
waiting_is Turned e = ((λ x. cc), refl)
waiting_is Running e = absurd (let x : false ≡ true = e in cc)
waiting_is Broken e = absurd (let x : false ≡ true = e in cc)
waiting_is Restored e = absurd (let x : false ≡ true = e in cc)
waiting_is Drained e = absurd (let x : false ≡ true = e in cc)
waiting_is Parted e = absurd (let x : false ≡ true = e in cc)
waiting_is Hiding e = absurd (let x : false ≡ true = e in cc)
waiting_is Hidden e = absurd (let x : false ≡ true = e in cc)
waiting_is Spent e = absurd (let x : false ≡ true = e in cc)

pub counted_is : (p : Phase) → has_reference p ≡ true → p ≢ Spent
counted_is p e x = let y : has_reference Spent ≡ true = subst (λ (q : Phase). has_reference q ≡ true) x e in cc

-- what a hold word says about its slot
count_of : (b : Bool) (g n : ℕ) → n ≤ 65535 → (g * 4294967296 + bit b linked + n) % 2147483648 ≡ n
count_of true g n h = omega arith
count_of false g n h = omega arith

pub count_shows : (limit word : ℕ) (place : SlotState) (n : ℕ) → limit ≤ 65535 → ShowsHolds limit word place n → word % 2147483648 ≡ n
count_shows limit word place n few s = let small = s.1 in ap (λ w. w % 2147483648) s.0 ∙ count_of (is_some place.marks) place.generation n (omega arith)

free_of : (b : Bool) (g n word : ℕ) → n ≤ 65535 → word ≡ g * 4294967296 + bit b linked + n → IsFree word → (n ≡ 0) × (b ≡ false) × (g < 4294967295)
free_of true g n word h e f = absurd (let a = f.0 in omega arith)
free_of false g n word h e f = let a = f.0 in let b = f.1 in (omega arith, refl, omega arith)

pub free_shows : (limit word : ℕ) (place : SlotState) (n : ℕ) → limit ≤ 65535 → ShowsHolds limit word place n → IsFree word → (n ≡ 0) × (is_some place.marks ≡ false) × (place.generation < 4294967295)
free_shows limit word place n few s free = let small = s.1 in free_of (is_some place.marks) place.generation n word (omega arith) s.0 free

pub held_not_free : (limit word : ℕ) (place : SlotState) (n : ℕ) → limit ≤ 65535 → ShowsHolds limit word place n → 1 ≤ n → IsFree word → ⊥
held_not_free limit word place n few s one free = let x = (free_shows limit word place n few s free).0 in omega arith

linked_of : (b : Bool) (g n : ℕ) → n ≤ 65535 → has_linked (g * 4294967296 + bit b linked + n) ≡ b
linked_of true g n h = eq-eqb _ _ (omega arith)
linked_of false g n h = ne_eqb _ _ (λ e. omega arith)

pub linked_shows : (limit word : ℕ) (place : SlotState) (n : ℕ) → limit ≤ 65535 → ShowsHolds limit word place n → has_linked word ≡ is_some place.marks
linked_shows limit word place n few s = let small = s.1 in ap has_linked s.0 ∙ linked_of (is_some place.marks) place.generation n (omega arith)

-- one hold fewer
pub hold_less : (limit word : ℕ) (place : SlotState) (n m : ℕ) → word < 18446744073709551616 → n ≡ m + 1 → ShowsHolds limit word place n → ShowsHolds limit ((word + 18446744073709551615) % 18446744073709551616) place m
hold_less limit word place n m small e s = let is = s.0 in let few = s.1 in let b : ℕ = bit (is_some place.marks) linked in let g : ℕ = place.generation in let is' : word ≡ g * 4294967296 + b + n = is in
    let now : (word + 18446744073709551615) % 18446744073709551616 ≡ g * 4294967296 + b + m = omega arith in (now, omega arith)

-- one more hold, if the word is below 2 ^ 64 and the slot has room
pub hold_more : (limit word : ℕ) (place : SlotState) (n : ℕ) → limit ≤ 65535 → word < 18446744073709551616 → n < limit → ShowsHolds limit word place n → ShowsHolds limit ((word + 1) % 18446744073709551616) place (n + 1)
hold_more limit word place n few small room s = let is = s.0 in let g : ℕ = place.generation in (more (is_some place.marks) g n word few small room is, omega arith)
  where
    more : (b : Bool) (g n word : ℕ) → limit ≤ 65535 → word < 18446744073709551616 → n < limit → word ≡ g * 4294967296 + bit b linked + n → (word + 1) % 18446744073709551616 ≡ g * 4294967296 + bit b linked + (n + 1)
    more true g n word few small room is = omega arith
    more false g n word few small room is = omega arith

pub not_spent : (p : Phase) → p ≢ Spent → is_spent p ≡ false
not_spent Still n = refl
not_spent Turned n = refl
not_spent Running n = refl
not_spent Broken n = refl
not_spent Restored n = refl
not_spent Drained n = refl
not_spent Parted n = refl
not_spent Hiding n = refl
not_spent Hidden n = refl
not_spent Spent n = absurd (n refl)

pub hiding_unspent : (p : Phase) → is_hiding p ≡ true → is_spent p ≡ false
hiding_unspent p e = not_spent p (λ s. let y : is_hiding Spent ≡ true = subst (λ (q : Phase). is_hiding q ≡ true) s e in cc)

pub counted_unspent : (p : Phase) → has_reference p ≡ true → is_spent p ≡ false
counted_unspent p e = not_spent p (counted_is p e)

no_linked : (n : ℕ) → bit_and n linked ≡ 0 → has_linked n ≡ false
no_linked n e = ne_eqb _ _ (λ one. (bit_set_by_shift n 31).0 (and_mask (n / 2147483648) 1 ∙ one) e)

some_linked : (n : ℕ) → bit_and n linked ≢ 0 → has_linked n ≡ true
some_linked n ne = eq-eqb _ _ (sym (and_mask (n / 2147483648) 1) ∙ (bit_set_by_shift n 31).1 ne)

no_doom : (n : ℕ) → bit_and n doom ≡ 0 → has_doom n ≡ false
no_doom n e = ne_eqb _ _ (λ one. (bit_set_by_shift n 33).0 (and_mask (n / 8589934592) 1 ∙ one) e)

some_doom : (n : ℕ) → bit_and n doom ≢ 0 → has_doom n ≡ true
some_doom n ne = eq-eqb _ _ (sym (and_mask (n / 8589934592) 1) ∙ (bit_set_by_shift n 33).1 ne)

-- each test of a bit, as the code writes it with a mask, says whether the bit is set
pub has_doom_test : (n : ℕ) → not (nat_eq (bit_and n doom) 0) ≡ has_doom n
has_doom_test n = elim (eqb_tells (bit_and n doom) 0) [
  | inl e ↦ ap not e.0 ∙ sym (no_doom n e.1)
  | inr e ↦ ap not e.0 ∙ sym (some_doom n e.1)
]

pub has_hide_test : (n : ℕ) → not (nat_eq (bit_and n hide) 0) ≡ has_hide n
has_hide_test n = elim (eqb_tells (bit_and n hide) 0) [
  | inl e ↦ ap not e.0 ∙ sym (no_hide n e.1)
  | inr e ↦ ap not e.0 ∙ sym (some_hide n e.1)
]

pub has_bias_test : (n : ℕ) → not (nat_eq (bit_and n bias) 0) ≡ has_bias n
has_bias_test n = elim (eqb_tells (bit_and n bias) 0) [
  | inl e ↦ ap not e.0 ∙ sym (no_bias n e.1)
  | inr e ↦ ap not e.0 ∙ sym (some_bias n e.1)
]

pub has_linked_test : (n : ℕ) → not (nat_eq (bit_and n linked) 0) ≡ has_linked n
has_linked_test n = elim (eqb_tells (bit_and n linked) 0) [
  | inl e ↦ ap not e.0 ∙ sym (no_linked n e.1)
  | inr e ↦ ap not e.0 ∙ sym (some_linked n e.1)
]

-- no node is linked in a free slot
pub free_unlinked : (n : ℕ) → IsFree n → has_linked n ≡ false
free_unlinked n free = let a = free.0 in ne_eqb _ _ (λ e. omega arith)
