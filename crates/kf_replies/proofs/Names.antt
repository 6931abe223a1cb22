-- Names joined by one space.
use Rattle.std.proofs.Common.{◌≡◌, ℕ, List, [], ◌∷◌, ◌++◌, ap, sym, ◌∙◌, append_assoc, refl}
use Rattle.kf_script.specs.ReplyText.{names_text}

-- one more name at the end
pub names_text-push : (first : List ℕ) (names : List (List ℕ)) (last : List ℕ) → names_text (first ∷ (names ++ last ∷ [])) ≡ names_text (first ∷ names) ++ 32 ∷ last
names_text-push first [] last = refl
names_text-push first (next ∷ names) last =
    let longer : names_text (first ∷ next ∷ (names ++ last ∷ [])) ≡ first ++ (32 ∷ (names_text (next ∷ names) ++ 32 ∷ last)) =
    ap (λ l. first ++ (32 ∷ l)) (names_text-push next names last) in
    longer ∙ sym (append_assoc first (32 ∷ names_text (next ∷ names)) (32 ∷ last))
