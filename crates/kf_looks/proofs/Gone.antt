-- Keys to which no name leads any longer.
use Rattle.std.proofs.Common.{◌≡◌, ◌≢◌, ℕ, true, false, List, [], ◌∷◌, ◌++◌, Some, None, refl, sym, ◌∙◌, subst, cond}
use Rattle.std.specs.Option.{option_and_then}
use Rattle.kf_core.specs.declared.key.Key.{Key}
use Rattle.kf_looks.specs.declared.found.Found.{Found}
use Rattle.kf_looks.specs.declared.view.Link.{Link}
use Rattle.kf_looks.specs.Links.{link, is_of, child_of, walked, top}
use Rattle.kf_looks.specs.Laws.{NeverGives, OnlyAt, NeverFoundAgain}
use Rattle.kf_looks.proofs.Naming.{of_own}

none_some : (x : Found) → None ≡ Some x → ⊥
none_some x e = cc

some_is : (x y : Found) → Some x ≡ Some y → x ≡ y
some_is x y e = cc

no : true ≡ false → ⊥
no e = cc

-- no name leads to the key
abbrev IsGone : List Link → Key → Type 0
IsGone links key = (d : Key) (n : List ℕ) (child : Found) → child_of links d n ≡ Some child → child.key ≢ key

-- after its only name was taken away, no name leads to a key
gone_once_taken : (older : List Link) (dir : Key) (name : List ℕ) (key : Key) → OnlyAt older dir name key → IsGone (link dir name None ∷ older) key
gone_once_taken older dir name key only d n child is =
    elim (is_of d n (link dir name None)) as (λ b. is_of d n (link dir name None) ≡ b → cond b None (child_of older d n) ≡ Some child → child.key ≢ key) [
      | true ↦ λ of led. absurd (none_some child led)
      | false ↦ λ of led its. let at = only d n child led its in
          absurd (no (sym (subst (λ (x : Key × List ℕ). is_of x.0 x.1 (link dir name None) ≡ true) (λ i. (sym at.0 i, sym at.1 i)) (of_own (link dir name None))) ∙ of))
    ] refl is

-- no name leads to the key after later links, if none of them gives it one
gone_after : (newer links : List Link) (key : Key) → NeverGives newer key → IsGone links key → IsGone (newer ++ links) key
gone_after [] links key never gone d n child is = gone d n child is
gone_after (l ∷ newer) links key never gone d n child is =
    elim (is_of d n l) as (λ b. cond b l.child (child_of (newer ++ links) d n) ≡ Some child → child.key ≢ key) [
      | true ↦ λ led. never.0 child led
      | false ↦ λ led. gone_after newer links key never.1 gone d n child led
    ] is

walk_misses : (links : List Link) (key : Key) → IsGone links key → (names : List (List ℕ)) (here found : Found) → here.key ≢ key
    → walked links here names ≡ Some found → found.key ≢ key
walk_misses links key gone [] here found other is = subst (λ (f : Found). f.key ≢ key) (some_is here found is) other
walk_misses links key gone (name ∷ names) here found other is =
    elim (child_of links here.key name) as (λ o. child_of links here.key name ≡ o → option_and_then (λ next. walked links next names) o ≡ Some found → found.key ≢ key) [
      | None ↦ λ led rest. absurd (none_some found rest)
      | Some next ↦ λ led rest. walk_misses links key gone names next found (gone here.key name next led) rest
    ] refl is

pub never_found : NeverFoundAgain
never_found older newer dir name key only never from names found other is =
    walk_misses (newer ++ link dir name None ∷ older) key (gone_after newer (link dir name None ∷ older) key never (gone_once_taken older dir name key only)) names (top from) found other is
