-- What a list of links says. The last link is the first of the list.
use Rattle.std.specs.Prelude.{◌≡◌, ℕ, ◌&&◌, Bool, List, [], ◌∷◌, ◌++◌, Option, None, Some, if◌then◌else◌}
use Rattle.std.specs.Option.{option_and_then}
use Rattle.std.specs.Str.{bytes_eq}
use Rattle.kf_core.specs.declared.key.Key.{Key}
use Rattle.kf_core.specs.Keys.{same_key}
use Rattle.kf_core.specs.declared.key.Node.TheVariants.{Dir}
use Rattle.kf_looks.specs.declared.found.Found.{Found}
use Rattle.kf_looks.specs.declared.view.Link.{Link}

-- in this directory the name was given this child; if the child is None, the name was taken away
abbrev pub link : Key → List ℕ → Option Found → Link
link dir name child = record { dir = dir; name = name; child = child }

-- whether the link is that of this name in this directory
abbrev pub is_of : Key → List ℕ → Link → Bool
is_of dir name l = same_key l.dir dir && bytes_eq l.name name

-- the child that the last link of the name gave it
abbrev pub child_of : List Link → Key → List ℕ → Option Found
child_of [] dir name = None
child_of (l ∷ older) dir name = if is_of dir name l then l.child else child_of older dir name

-- a directory, as the start of a walk, to which no name has led
abbrev pub top : Key → Found
top key = record { key = key; node = Dir }

-- what the names lead to from here, one after another
abbrev pub walked : List Link → Found → List (List ℕ) → Option Found
walked links here [] = Some here
walked links here (name ∷ names) =
    option_and_then (λ next. walked links next names) (child_of links here.key name)

-- the links now are those before, with newer ones in front
abbrev pub IsLater : List Link → List Link → Type 0
IsLater now before = (newer : List Link) × (now ≡ newer ++ before)

-- if the name has a child, the child has this slot
abbrev pub IsOfSlot : List Link → Key → List ℕ → ℕ → Type 0
IsOfSlot links dir name slot = (child : Found) → child_of links dir name ≡ Some child → child.key.slot ≡ slot
