-- What holds of every list of links.
use Rattle.std.specs.Prelude.{◌≡◌, ◌≢◌, ℕ, List, [], ◌∷◌, ◌++◌, Some, None}
use Rattle.kf_core.specs.declared.key.Key.{Key}
use Rattle.kf_looks.specs.declared.found.Found.{Found}
use Rattle.kf_looks.specs.declared.view.Link.{Link}
use Rattle.kf_looks.specs.Links.{link, child_of, walked, top}

-- no link gives this key to a name
abbrev pub NeverGives : List Link → Key → Type 0
NeverGives [] key = Unit {0}
NeverGives (l ∷ older) key = ((child : Found) → l.child ≡ Some child → child.key ≢ key) × NeverGives older key

-- only this name in this directory may have this key for its child
abbrev pub OnlyAt : List Link → Key → List ℕ → Key → Type 0
OnlyAt links dir name key = (d : Key) (n : List ℕ) (child : Found) → child_of links d n ≡ Some child
    → child.key ≡ key → (d ≡ dir) × (n ≡ name)

-- if a key's only name was taken away, and no later link gives the key a name, then no names lead to the key
-- from any other directory than the key itself. Keys are born once, so no later link does
abbrev pub NeverFoundAgain : Type 0
NeverFoundAgain = (older newer : List Link) (dir : Key) (name : List ℕ) (key : Key)
    → OnlyAt older dir name key → NeverGives newer key
    → (from : Key) (names : List (List ℕ)) (found : Found) → from ≢ key
    → walked (newer ++ link dir name None ∷ older) (top from) names ≡ Some found → found.key ≢ key

-- the last link of a name is what the name leads to
abbrev pub LastLinkLeads : Type 0
LastLinkLeads = (links : List Link) (l : Link) → child_of (l ∷ links) l.dir l.name ≡ l.child

-- a link does not change what any other name leads to
abbrev pub OthersStay : Type 0
OthersStay = (links : List Link) (l : Link) (dir : Key) (name : List ℕ) → (l.dir ≡ dir → l.name ≡ name → ⊥)
    → child_of (l ∷ links) dir name ≡ child_of links dir name
