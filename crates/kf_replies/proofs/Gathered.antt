-- A byte and a name are put after what is gathered.
use Rattle.std.proofs.Common.{◌≡◌, ℕ, ◌+◌, ◌<◌, List, [], ◌∷◌, ◌++◌, length, length-append, take, set, ap, ◌∙◌, arith, append_assoc}
use Rattle.std.proofs.lemmas.List.{take_more_set, take_at, length-take-le}

pub behind : (bytes name later : List ℕ) (len first : ℕ) → len < length bytes
    → take (len + 1 + length name) (take (len + 1) (set bytes len first) ++ (name ++ later)) ≡ take len bytes ++ first ∷ name
behind bytes name later len first low =
    rw (front, ← append_assoc (take len bytes ++ first ∷ []) name later) (take_at ((take len bytes ++ first ∷ []) ++ name) later (len + 1 + length name) long)
    ∙ append_assoc (take len bytes) (first ∷ []) name
  where
    front : take (len + 1) (set bytes len first) ≡ take len bytes ++ first ∷ []
    front = take_more_set bytes len first low

    before : length (take len bytes) ≡ len
    before = length-take-le len bytes (omega (arith, low))

    long : length ((take len bytes ++ first ∷ []) ++ name) ≡ len + 1 + length name
    long = length-append (take len bytes ++ first ∷ []) name ∙ ap (λ n. n + length name) (length-append (take len bytes) (first ∷ []) ∙ ap (λ n. n + 1) before)
