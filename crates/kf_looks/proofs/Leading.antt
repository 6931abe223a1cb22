-- Paths that begin with a slash.
use Rattle.std.proofs.Common.{◌≡◌, ℕ, ◌-◌, List, [], ◌∷◌, length, take, drop, get_or, Some, false, sym, ap, ◌∙◌, refl, subst, arith}
use Rattle.std.specs.List.{list_any, slice_split}
use Rattle.std.proofs.lemmas.List.{take_rest}
use Rattle.kf_core.specs.declared.key.Key.{Key}
use Rattle.kf_looks.specs.declared.found.Found.{Found}
use Rattle.kf_looks.specs.declared.view.Link.{Link}
use Rattle.kf_looks.specs.Links.{top, walked}
use Rattle.kf_core.specs.Paths.{is_slash, is_empty}
use Rattle.kf_looks.specs.Paths.{led}

-- if no part of a path is empty, its names lead to the same node as the path
from_parts : (links : List Link) (root : Key) (rest : List ℕ) (last : Found) → (length rest ≡ 0 → ⊥)
    → list_any is_empty (slice_split is_slash rest) ≡ false → walked links (top root) (slice_split is_slash rest) ≡ Some last
    → led links root (47 ∷ rest) ≡ Some last
from_parts links root [] last some named is = absurd (some refl)
from_parts links root (byte ∷ rest) last some named is = rw named is

pub led_on : (links : List Link) (root : Key) (path : List ℕ) (last : Found) → get_or path 0 0 ≡ 47
    → (length (take (length path - 1) (drop 1 path)) ≡ 0 → ⊥)
    → list_any is_empty (slice_split is_slash (take (length path - 1) (drop 1 path))) ≡ false
    → walked links (top root) (slice_split is_slash (take (length path - 1) (drop 1 path))) ≡ Some last
    → led links root path ≡ Some last
led_on links root [] last slash some named is = absurd (omega (arith, slash))
led_on links root (byte ∷ rest) last slash some named is =
    let same : take (length (byte ∷ rest) - 1) (drop 1 (byte ∷ rest)) ≡ rest = take_rest (byte ∷ rest) 1 in
    subst (λ (b : ℕ). led links root (b ∷ rest) ≡ Some last) (sym slash)
    (from_parts links root rest last (λ none. some (ap length same ∙ none)) (sym (ap (λ (l : List ℕ). list_any is_empty (slice_split is_slash l)) same) ∙ named)
    (sym (ap (λ (l : List ℕ). walked links (top root) (slice_split is_slash l)) same) ∙ is))
