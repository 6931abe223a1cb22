-- The path of a key is a text of the names from the root.
use Rattle.std.proofs.Common.{◌≡◌, inl, refl, ap, sym, ◌∙◌, subst, arith, ℕ, zero, suc, ◌<◌, List, [], ◌∷◌, ◌++◌}
use Rattle.std.specs.Prelude.{Ok}
use Rattle.std.specs.List.{join_with_byte}
use Rattle.std.proofs.lemmas.Option.{same_Some}
use Rattle.std.proofs.lemmas.List.{append-nil}
use Rattle.kf_core.specs.declared.key.Key.{Key}
use Rattle.kf_core.specs.Tree.{Tree, ancestor}
use Rattle.kf_tree.specs.Paths.{walk}
use Rattle.kf_tree.specs.Links.{ups}
use Rattle.kf_tree.specs.Ways.{HasUps, IsPathOf}

-- a climb from the root to the root takes no step
no_ups : (t : Tree) (root key base : Key) (old new : List ℕ) → HasUps t root root key base old new → (base ≡ root) × (new ≡ old)
no_ups t root key base old new h = go h.up refl
  where
    go : (n : ℕ) → h.up ≡ n → (base ≡ root) × (new ≡ old)
    go zero e = (same_Some base root (sym h.is_base ∙ ap (λ n. ancestor t n root) e), h.pushed ∙ ap (λ n. old ++ ups n) e ∙ append-nil old)
    go (suc n) e = absurd (h.first 0 root (subst (λ m. 0 < m) (sym e) (omega arith)) refl (inl refl))

pub path_is : (t : Tree) (root key base : Key) (names : List (List ℕ)) (old climbed new : List ℕ) → old ≡ 47 ∷ [] → HasUps t root root key base old climbed → walk t base names ≡ Ok key
    → new ≡ climbed ++ join_with_byte 47 names → IsPathOf t root key new
path_is t root key base names old climbed new slash h leads pushed =
    let n = no_ups t root key base old climbed h in
    (names, subst (λ b. walk t b names ≡ Ok key) n.0 leads, pushed ∙ ap (λ xs. xs ++ join_with_byte 47 names) (n.1 ∙ slash))
