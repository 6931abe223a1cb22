-- Byte order, by the lengths of what is left, and by the numbers that equally many bytes make.
use Rattle.std.proofs.Common.{◌≡◌, ◌≢◌, ℕ, zero, suc, ◌+◌, ◌*◌, ◌<◌, List, [], ◌∷◌, ◌++◌, length, drop, take, min, get_or, ap, sym, refl, subst, ◌∙◌, arith, inl, inr, ◌≤◌}
use Rattle.std.specs.declared.cmp.Ordering.{Ordering}
use Rattle.std.specs.declared.cmp.Ordering.TheVariants.{Less, Equal, Greater}
use Rattle.std.proofs.lemmas.Bool.{cases_order}
use Rattle.std.specs.Int.{w32, w64, from_be_bytes}
use Rattle.std.specs.Ordering.{nat_cmp, ordering_then}
use Rattle.std.specs.Cmp.{nat_cmp_is}
use Rattle.std.specs.Cmp.Lexicographic.{slice_cmp}
use Rattle.std.proofs.lemmas.List.{take-append-drop, length-take-le, length-drop}
use Rattle.std.proofs.Math.Seq.{take-add}

one_more : (m n : ℕ) → nat_cmp m n ≡ nat_cmp (suc m) (suc n)
one_more m n = elim (cases_order m n) [
  | inl same ↦ sym (nat_cmp_is m n Equal same) ∙ nat_cmp_is (suc m) (suc n) Equal (omega (arith, same))
  | inr (inl less) ↦ sym (nat_cmp_is m n Less less) ∙ nat_cmp_is (suc m) (suc n) Less (omega (arith, less))
  | inr (inr more) ↦ sym (nat_cmp_is m n Greater more) ∙ nat_cmp_is (suc m) (suc n) Greater (omega (arith, more))
]

-- if one text has no byte left, the lengths decide
pub lengths_tell : (xs ys : List ℕ) (n : ℕ) → n ≡ min (length xs) (length ys) → slice_cmp nat_cmp (drop n xs) (drop n ys) ≡ nat_cmp (length xs) (length ys)
lengths_tell [] [] zero is = refl
lengths_tell [] [] (suc n) is = refl
lengths_tell [] (y ∷ ys) zero is = nat_cmp_is 0 (length (y ∷ ys)) Less (omega arith)
lengths_tell [] (y ∷ ys) (suc n) is = absurd (omega (arith, is))
lengths_tell (x ∷ xs) [] zero is = nat_cmp_is (length (x ∷ xs)) 0 Greater (omega arith)
lengths_tell (x ∷ xs) [] (suc n) is = absurd (omega (arith, is))
lengths_tell (x ∷ xs) (y ∷ ys) zero is = absurd (omega (arith, is))
lengths_tell (x ∷ xs) (y ∷ ys) (suc n) is = lengths_tell xs ys n (omega (arith, is)) ∙ one_more (length xs) (length ys)

-- what a number becomes when bytes are appended to it
pub number : ℕ → List ℕ → ℕ
number a [] = a
number a (x ∷ xs) = number (a * 256 + x) xs

abbrev pub AreBytes : List ℕ → Type 0
AreBytes xs = (i : ℕ) → get_or xs i 0 < 256

later_bytes : (x : ℕ) (xs : List ℕ) → AreBytes (x ∷ xs) → AreBytes xs
later_bytes x xs small i = small (suc i)

front_bytes : (xs ys : List ℕ) → AreBytes (xs ++ ys) → AreBytes xs
front_bytes [] ys small i = omega arith
front_bytes (x ∷ xs) ys small zero = small 0
front_bytes (x ∷ xs) ys small (suc i) = front_bytes xs ys (λ k. small (suc k)) i

back_bytes : (xs ys : List ℕ) → AreBytes (xs ++ ys) → AreBytes ys
back_bytes [] ys small = small
back_bytes (x ∷ xs) ys small = back_bytes xs ys (λ k. small (suc k))

rises : (a b : ℕ) (xs ys : List ℕ) → length xs ≡ length ys → AreBytes xs → a < b → number a xs < number b ys
unfolding number
rises a b [] [] same small less = less
rises a b [] (y ∷ ys) same small less = absurd (omega (arith, same))
rises a b (x ∷ xs) [] same small less = absurd (omega (arith, same))
rises a b (x ∷ xs) (y ∷ ys) same small less =
    let low : x < 256 = small 0 in
    rises (a * 256 + x) (b * 256 + y) xs ys (omega (arith, same)) (later_bytes x xs small) (omega (arith, low, less))

-- lists of equally many bytes, whose numbers differ, are in the order of the numbers, whatever follows them
module _ (rs ss : List ℕ) where
  abbrev then_rest : List ℕ → List ℕ → Ordering → Ordering
  then_rest xs ys r = ordering_then r (slice_cmp nat_cmp (xs ++ rs) (ys ++ ss))

  stands : (a : ℕ) (xs ys : List ℕ) → length xs ≡ length ys → AreBytes xs → AreBytes ys → number a xs ≢ number a ys
      → slice_cmp nat_cmp (xs ++ rs) (ys ++ ss) ≡ nat_cmp (number a xs) (number a ys)
  unfolding number
  stands a [] [] same small low differ = absurd (differ refl)
  stands a [] (y ∷ ys) same small low differ = absurd (omega (arith, same))
  stands a (x ∷ xs) [] same small low differ = absurd (omega (arith, same))
  stands a (x ∷ xs) (y ∷ ys) same small low differ = elim (cases_order x y) [
    | inl is ↦ ap (then_rest xs ys) (sym (nat_cmp_is x y Equal is))
        ∙ stands (a * 256 + x) xs ys (omega (arith, same)) (later_bytes x xs small) (later_bytes y ys low)
        (λ e. differ (e ∙ ap (λ z. number (a * 256 + z) ys) is))
        ∙ ap (λ z. nat_cmp (number (a * 256 + x) xs) (number (a * 256 + z) ys)) is
    | inr (inl less) ↦ ap (then_rest xs ys) (sym (nat_cmp_is x y Less less))
        ∙ nat_cmp_is _ _ Less (rises (a * 256 + x) (a * 256 + y) xs ys (omega (arith, same)) (later_bytes x xs small) (omega (arith, less)))
    | inr (inr more) ↦ ap (then_rest xs ys) (sym (nat_cmp_is x y Greater more))
        ∙ nat_cmp_is _ _ Greater (rises (a * 256 + y) (a * 256 + x) ys xs (omega (arith, same)) (later_bytes y ys low) (omega (arith, more)))
  ]

as_word : (bs : List ℕ) → length bs ≡ 8 → from_be_bytes w64 bs ≡ number 0 bs
unfolding number
as_word [] l = absurd (omega (arith, l))
as_word (a ∷ []) l = absurd (omega (arith, l))
as_word (a ∷ b ∷ []) l = absurd (omega (arith, l))
as_word (a ∷ b ∷ c ∷ []) l = absurd (omega (arith, l))
as_word (a ∷ b ∷ c ∷ d ∷ []) l = absurd (omega (arith, l))
as_word (a ∷ b ∷ c ∷ d ∷ e ∷ []) l = absurd (omega (arith, l))
as_word (a ∷ b ∷ c ∷ d ∷ e ∷ f ∷ []) l = absurd (omega (arith, l))
as_word (a ∷ b ∷ c ∷ d ∷ e ∷ f ∷ g ∷ []) l = absurd (omega (arith, l))
as_word (a ∷ b ∷ c ∷ d ∷ e ∷ f ∷ g ∷ h ∷ []) l = omega arith
as_word (a ∷ b ∷ c ∷ d ∷ e ∷ f ∷ g ∷ h ∷ x ∷ bs) l = absurd (omega (arith, l))

as_half : (bs : List ℕ) → length bs ≡ 4 → from_be_bytes w32 bs ≡ number 0 bs
unfolding number
as_half [] l = absurd (omega (arith, l))
as_half (a ∷ []) l = absurd (omega (arith, l))
as_half (a ∷ b ∷ []) l = absurd (omega (arith, l))
as_half (a ∷ b ∷ c ∷ []) l = absurd (omega (arith, l))
as_half (a ∷ b ∷ c ∷ d ∷ []) l = omega arith
as_half (a ∷ b ∷ c ∷ d ∷ x ∷ bs) l = absurd (omega (arith, l))

same_bytes : (a : ℕ) (xs ys : List ℕ) → length xs ≡ length ys → AreBytes xs → AreBytes ys → number a xs ≡ number a ys → xs ≡ ys
unfolding number
same_bytes a [] [] same small low e = refl
same_bytes a [] (y ∷ ys) same small low e = absurd (omega (arith, same))
same_bytes a (x ∷ xs) [] same small low e = absurd (omega (arith, same))
same_bytes a (x ∷ xs) (y ∷ ys) same small low e = elim (cases_order x y) [
  | inl is ↦ ap (λ z. z ∷ xs) is ∙ ap (λ l. y ∷ l) (same_bytes (a * 256 + x) xs ys (omega (arith, same)) (later_bytes x xs small) (later_bytes y ys low)
      (e ∙ ap (λ z. number (a * 256 + z) ys) (sym is)))
  | inr (inl less) ↦ (let over = rises (a * 256 + x) (a * 256 + y) xs ys (omega (arith, same)) (later_bytes x xs small) (omega (arith, less)) in absurd (omega (arith, over, e)))
  | inr (inr more) ↦ (let over = rises (a * 256 + y) (a * 256 + x) ys xs (omega (arith, same)) (later_bytes y ys low) (omega (arith, more)) in absurd (omega (arith, over, e)))
]

-- ---- texts that are the same up to a place

after_same : (front xs ys : List ℕ) → slice_cmp nat_cmp (front ++ xs) (front ++ ys) ≡ slice_cmp nat_cmp xs ys
after_same [] xs ys = refl
after_same (c ∷ front) xs ys = ap (λ r. ordering_then r (slice_cmp nat_cmp (front ++ xs) (front ++ ys))) (sym (nat_cmp_is c c Equal refl)) ∙ after_same front xs ys

take_less : (m n : ℕ) (xs : List ℕ) → m ≤ n → take m (take n xs) ≡ take m xs
take_less zero n xs low = refl
take_less (suc m) zero xs low = absurd (omega (arith, low))
take_less (suc m) (suc n) [] low = refl
take_less (suc m) (suc n) (x ∷ xs) low = ap (λ l. x ∷ l) (take_less m n xs (omega (arith, low)))

pub same_less : (a b : List ℕ) (m n : ℕ) → m ≤ n → take n a ≡ take n b → take m a ≡ take m b
same_less a b m n low same = sym (take_less m n a low) ∙ ap (take m) same ∙ take_less m n b low

module _ (a b : List ℕ) (at : ℕ) (same : take at a ≡ take at b) where
  from_there : slice_cmp nat_cmp a b ≡ slice_cmp nat_cmp (drop at a) (drop at b)
  from_there =
      ap (λ l. slice_cmp nat_cmp l b) (sym (take-append-drop at a)) ∙ ap (slice_cmp nat_cmp (take at a ++ drop at a)) (sym (take-append-drop at b))
      ∙ ap (λ l. slice_cmp nat_cmp (take at a ++ drop at a) (l ++ drop at b)) (sym same) ∙ after_same (take at a) (drop at a) (drop at b)

  -- if the texts are the same to the end of one of them, the lengths decide
  pub ends_tell : at ≡ min (length a) (length b) → slice_cmp nat_cmp a b ≡ nat_cmp (length a) (length b)
  ends_tell is = from_there ∙ lengths_tell a b at is

  module _ (size : ℕ) (a_long : at + size ≤ length a) (b_long : at + size ≤ length b) (small : AreBytes a) (low : AreBytes b)
      (m n : ℕ) (m_is : m ≡ number 0 (take size (drop at a))) (n_is : n ≡ number 0 (take size (drop at b))) where
    part_small : (text : List ℕ) → AreBytes text → AreBytes (take size (drop at text))
    part_small text are =
        let later = back_bytes (take at text) (drop at text) (subst AreBytes (sym (take-append-drop at text)) are) in
        front_bytes (take size (drop at text)) (drop size (drop at text)) (subst AreBytes (sym (take-append-drop size (drop at text))) later)

    as_long : (text : List ℕ) → at + size ≤ length text → length (take size (drop at text)) ≡ size
    as_long text long = length-take-le size (drop at text) (omega (arith, length-drop at text, long))

    one_length : length (take size (drop at a)) ≡ length (take size (drop at b))
    one_length = as_long a a_long ∙ sym (as_long b b_long)

    pub numbers_stand : m ≢ n → slice_cmp nat_cmp a b ≡ nat_cmp m n
    numbers_stand differ =
        from_there
        ∙ ap (λ l. slice_cmp nat_cmp l (drop at b)) (sym (take-append-drop size (drop at a)))
        ∙ ap (slice_cmp nat_cmp (take size (drop at a) ++ drop size (drop at a))) (sym (take-append-drop size (drop at b)))
        ∙ stands (drop size (drop at a)) (drop size (drop at b)) 0 (take size (drop at a)) (take size (drop at b)) one_length (part_small a small) (part_small b low)
        (λ e. differ (m_is ∙ e ∙ sym n_is))
        ∙ ap (λ k. nat_cmp k (number 0 (take size (drop at b)))) (sym m_is) ∙ ap (nat_cmp m) (sym n_is)

    pub numbers_pass : m ≡ n → take (at + size) a ≡ take (at + size) b
    numbers_pass one =
        take-add at size a ∙ ap (λ l. l ++ take size (drop at a)) same
        ∙ ap (λ l. take at b ++ l) (same_bytes 0 (take size (drop at a)) (take size (drop at b)) one_length (part_small a small) (part_small b low) (sym m_is ∙ one ∙ n_is))
        ∙ sym (take-add at size b)

pub word_is : (text : List ℕ) (at m : ℕ) → at + 8 ≤ length text → m ≡ from_be_bytes w64 (take 8 (drop at text)) → m ≡ number 0 (take 8 (drop at text))
word_is text at m long is = is ∙ as_word (take 8 (drop at text)) (length-take-le 8 (drop at text) (omega (arith, length-drop at text, long)))

pub half_is : (text : List ℕ) (at m : ℕ) → at + 4 ≤ length text → m ≡ from_be_bytes w32 (take 4 (drop at text)) → m ≡ number 0 (take 4 (drop at text))
half_is text at m long is = is ∙ as_half (take 4 (drop at text)) (length-take-le 4 (drop at text) (omega (arith, length-drop at text, long)))
