-- Filling a page twice is filling it once with both texts, one after the other.
use Rattle.std.proofs.Common.{◌≡◌, ◌<◌, ◌-◌, ◌+◌, ◌++◌, ℕ, List, [], ◌∷◌, zero, suc, length, replicate, take, refl, ap, ◌≤◌, ◌∙◌, sym, append_assoc, arith, get_or}
use Rattle.std.proofs.lemmas.List.{length-append, length-take}
use Rattle.std.proofs.lemmas.List.{append-nil, take_more, take-replicate}
use Rattle.std.proofs.lemmas.Grind.{flat_map-append}
use Rattle.kf_text.specs.declared.part.Part.{Part}
use Rattle.kf_text.specs.Texts.{emitted, part_text, text_of, to_width}

-- the front of two lists, one after the other
take-append : (k : ℕ) (one other : List ℕ) → take k (one ++ other) ≡ take k one ++ take (k - length one) other
take-append zero [] other = refl
take-append zero (byte ∷ one) other = let none : zero - length (byte ∷ one) ≡ zero = omega arith in rw none refl
take-append (suc k) [] other = let all : suc k - 0 ≡ suc k = omega arith in rw all refl
take-append (suc k) (byte ∷ one) other =
    let same : suc k - length (byte ∷ one) ≡ k - length one = omega arith in
    rw same (ap (λ rest. byte ∷ rest) (take-append k one other))

-- how much room is left
room : (page one : List ℕ) (most : ℕ)
    → most - length (page ++ take (most - length page) one) ≡ (most - length page) - length one
room page one most = simp (length-append, length-take) (omega arith)

pub emitted-emitted : (page one other : List ℕ) → emitted (emitted page one) other ≡ emitted page (one ++ other)
emitted-emitted page one other =
    rw (room page one 4095, append_assoc, take-append (4095 - length page) one other) refl

-- one more part, after the parts before it
pub one_more : (parts : List Part) (i : ℕ) (d : Part) (page page' page'' : List ℕ) → i < length parts
    → page' ≡ emitted page (text_of (take i parts)) → page'' ≡ emitted page' (part_text (get_or parts i d))
    → page'' ≡ emitted page (text_of (take (i + 1) parts))
one_more parts i d page page' page'' inside before here =
    here ∙ ap (λ p. emitted p (part_text (get_or parts i d))) before
    ∙ emitted-emitted page (text_of (take i parts)) (part_text (get_or parts i d))
    ∙ ap (emitted page) (sym (rw (take_more parts i d inside, flat_map-append part_text, append-nil) refl))

-- digits after the zeros that were put first
pub behind_zeros : (page page' page'' digits : List ℕ) (width missing : ℕ) → missing ≤ 255
    → missing ≡ width - length digits → page' ≡ emitted page (take missing (replicate 255 48))
    → page'' ≡ emitted page' digits → page'' ≡ emitted page (to_width width digits)
behind_zeros page page' page'' digits width missing within same zeros here =
    here ∙ ap (λ p. emitted p digits)
    (zeros ∙ ap (emitted page) (take-replicate missing 255 48 within ∙ ap (λ n. replicate n 48) same))
    ∙ emitted-emitted page (replicate (width - length digits) 48) digits
