-- Texts are put at the end of a buffer, one after another, and are taken from its front.
use Rattle.std.proofs.Common.{◌≡◌, ℕ, ◌+◌, ◌-◌, ◌≤◌, List, [], ◌∷◌, ◌++◌, length, take, drop, refl, ap, ap₂, ◌∙◌, arith}
use Rattle.std.proofs.lemmas.List.{take-append-le, drop-append-le, length-drop, length-append, take_all}
use Rattle.kf_rounds.specs.Pieces.{pieces, total}

pub total_push : (counts : List ℕ) (count : ℕ) → total (counts ++ count ∷ []) ≡ total counts + count
total_push [] count = omega arith
total_push (n ∷ counts) count = let r = total_push counts count in omega arith

none_left : (bytes : List ℕ) → 0 ≡ length bytes → bytes ≡ []
none_left [] e = refl
none_left (b ∷ bytes) e = absurd (omega arith)

pub pieces_push : (bytes text counts : List ℕ) → total counts ≡ length bytes
    → pieces (bytes ++ text) (counts ++ length text ∷ []) ≡ pieces bytes counts ++ text ∷ []
pieces_push bytes text [] e =
    ap (λ b. take (length text) (b ++ text) ∷ []) (none_left bytes e) ∙ ap (λ t. t ∷ []) (take_all (length text) text (omega arith))
pieces_push bytes text (n ∷ counts) e =
    let fits : n ≤ length bytes = omega arith in
    let left : length (drop n bytes) ≡ length bytes - n = length-drop n bytes in
    let rest : total counts ≡ length (drop n bytes) = omega arith in
    ap (λ p. p ∷ pieces (drop n (bytes ++ text)) (counts ++ length text ∷ [])) (take-append-le n bytes text fits)
    ∙ ap (λ b. take n bytes ∷ pieces b (counts ++ length text ∷ [])) (drop-append-le n bytes text fits)
    ∙ ap (λ ps. take n bytes ∷ ps) (pieces_push (drop n bytes) text counts rest)

-- a text is put after those that were not yet taken
pub added_fits : (from taken : ℕ) (bytes text counts bytes' counts' : List ℕ) → from + total (drop taken counts) ≡ length bytes → taken ≤ length counts
    → bytes' ≡ bytes ++ text → counts' ≡ counts ++ length text ∷ [] → (from + total (drop taken counts') ≡ length bytes') × (taken ≤ length counts')
added_fits from taken bytes text counts bytes' counts' whole near b c =
    let more : total (drop taken counts') ≡ total (drop taken counts) + length text =
    ap (λ l. total (drop taken l)) c ∙ ap total (drop-append-le taken counts (length text ∷ []) near) ∙ total_push (drop taken counts) (length text) in
    let long : length bytes' ≡ length bytes + length text = ap length b ∙ length-append bytes text in
    let longer : length counts' ≡ length counts + 1 = ap length c ∙ length-append counts (length text ∷ []) in
    (omega arith, omega arith)

pub added_pieces : (from taken : ℕ) (bytes text counts bytes' counts' : List ℕ) → from + total (drop taken counts) ≡ length bytes → taken ≤ length counts
    → bytes' ≡ bytes ++ text → counts' ≡ counts ++ length text ∷ []
    → pieces (drop from bytes') (drop taken counts') ≡ pieces (drop from bytes) (drop taken counts) ++ text ∷ []
added_pieces from taken bytes text counts bytes' counts' whole near b c =
    let inside : from ≤ length bytes = omega arith in
    let left : length (drop from bytes) ≡ length bytes - from = length-drop from bytes in
    let same : total (drop taken counts) ≡ length (drop from bytes) = omega arith in
    ap₂ pieces (ap (drop from) b ∙ drop-append-le from bytes text inside) (ap (drop taken) c ∙ drop-append-le taken counts (length text ∷ []) near)
    ∙ pieces_push (drop from bytes) text (drop taken counts) same
