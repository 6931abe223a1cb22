-- The entries of all chunks, one after another, when one chunk is read, replaced, removed or split.
use Rattle.std.proofs.Common.{◌≡◌, ◌≢◌, ℕ, zero, suc, ◌+◌, ◌<◌, ◌≤◌, List, [], ◌∷◌, ◌++◌, length, get_or, take, drop, set, sym, ap, ◌∙◌, refl, arith, append_assoc}
use Rattle.std.specs.List.{insert, remove}
use Rattle.std.proofs.lemmas.List.{length-append}
use Rattle.std.proofs.lemmas.List.Elements.{All-cons, All-head, All-tail}
use Rattle.kf_index.specs.Pairs.{Pairs}
use Rattle.kf_index.specs.Chunks.{joined, HaveSome}

-- the entries of the chunk with this number, among all entries
pub joined_at : (chunks : List Pairs) (k : ℕ) → k < length chunks
    → joined chunks ≡ joined (take k chunks) ++ (get_or chunks k [] ++ joined (drop (suc k) chunks))
joined_at [] k within = absurd (omega (arith, within))
joined_at (c ∷ chunks) zero within = refl
joined_at (c ∷ chunks) (suc k) within =
    ap (λ l. c ++ l) (joined_at chunks k (omega (arith, within))) ∙ sym (append_assoc c (joined (take k chunks)) _)

-- the same after that chunk is replaced
pub joined_set : (chunks : List Pairs) (k : ℕ) (chunk : Pairs) → k < length chunks
    → joined (set chunks k chunk) ≡ joined (take k chunks) ++ (chunk ++ joined (drop (suc k) chunks))
joined_set [] k chunk within = absurd (omega (arith, within))
joined_set (c ∷ chunks) zero chunk within = refl
joined_set (c ∷ chunks) (suc k) chunk within =
    ap (λ l. c ++ l) (joined_set chunks k chunk (omega (arith, within))) ∙ sym (append_assoc c (joined (take k chunks)) _)

-- removing an empty chunk removes no entry
pub joined_remove : (chunks : List Pairs) (k : ℕ) (chunk : Pairs) → chunk ≡ [] → k < length chunks
    → joined (remove (set chunks k chunk) k) ≡ joined (set chunks k chunk)
joined_remove [] k chunk none within = absurd (omega (arith, within))
joined_remove (c ∷ chunks) zero chunk none within = ap (λ (l : Pairs). l ++ joined chunks) (sym none)
joined_remove (c ∷ chunks) (suc k) chunk none within = ap (λ l. c ++ l) (joined_remove chunks k chunk none (omega (arith, within)))

-- a chunk that is split in two has the same entries as before
split_in_two : (chunks : List Pairs) (k : ℕ) (lower upper : Pairs) → k < length chunks → get_or chunks k [] ≡ lower ++ upper
    → joined (insert (set chunks k lower) (suc k) upper) ≡ joined chunks
split_in_two [] k lower upper within is = absurd (omega (arith, within))
split_in_two (c ∷ chunks) zero lower upper within is =
    sym (append_assoc lower upper (joined chunks)) ∙ ap (λ l. l ++ joined chunks) (sym is)
split_in_two (c ∷ chunks) (suc k) lower upper within is =
    ap (λ l. c ++ l) (split_in_two chunks k lower upper (omega (arith, within)) is)

pub joined_split : (chunks : List Pairs) (k : ℕ) (lower upper : Pairs) → k < length chunks → get_or chunks k [] ≡ lower ++ upper
    → joined (insert (set chunks k lower) (k + 1) upper) ≡ joined chunks
joined_split chunks k lower upper within is =
    ap (λ at. joined (insert (set chunks k lower) at upper)) {x = k + 1} {y = suc k} (omega arith) ∙ split_in_two chunks k lower upper within is

-- one more chunk adds as many entries as the chunk has
pub length_more : (chunks : List Pairs) (k : ℕ) (chunk : Pairs) → k < length chunks → chunk ≡ get_or chunks k chunk
    → length (joined (take (k + 1) chunks)) ≡ length (joined (take k chunks)) + length chunk
length_more [] k chunk within is = absurd (omega (arith, within))
length_more (c ∷ chunks) zero chunk within is = omega (arith, length-append c [], ap (λ (l : Pairs). length l) is)
length_more (c ∷ chunks) (suc k) chunk within is =
    let rest = length_more chunks k chunk (omega (arith, within)) is in
    ap (λ n. length (joined (take n (c ∷ chunks)))) {x = suc k + 1} {y = suc (k + 1)} (omega arith)
    ∙ omega (arith, rest, length-append c (joined (take (k + 1) chunks)), length-append c (joined (take k chunks)))

-- the first chunks have at most as many entries as all chunks
pub length_few : (chunks : List Pairs) (k : ℕ) → length (joined (take k chunks)) ≤ length (joined chunks)
length_few chunks zero = omega arith
length_few [] (suc k) = omega arith
length_few (c ∷ chunks) (suc k) =
    omega (arith, length_few chunks k, length-append c (joined (take k chunks)), length-append c (joined chunks))

-- after one chunk is removed, none of the others is empty
pub some_left : (chunks : List Pairs) (k : ℕ) (chunk : Pairs) → HaveSome chunks → HaveSome (remove (set chunks k chunk) k)
some_left [] zero chunk some = some
some_left [] (suc k) chunk some = some
some_left (c ∷ chunks) zero chunk some = All-tail (λ (l : Pairs). l ≢ []) c chunks some
some_left (c ∷ chunks) (suc k) chunk some =
    All-cons (λ (l : Pairs). l ≢ []) c _ (All-head (λ (l : Pairs). l ≢ []) c chunks some) (some_left chunks k chunk (All-tail (λ (l : Pairs). l ≢ []) c chunks some))

-- if no chunk is empty and there are no entries, there are no chunks
pub some_entries : (chunks : List Pairs) → HaveSome chunks → length (joined chunks) ≡ 0 → chunks ≡ []
some_entries [] some none = refl
some_entries ([] ∷ chunks) some none = absurd (All-head (λ (l : Pairs). l ≢ []) [] chunks some refl)
some_entries ((e ∷ c) ∷ chunks) some none = absurd (omega (arith, none))
