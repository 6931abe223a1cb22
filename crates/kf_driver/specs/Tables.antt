-- What a table's callbacks may return, and which attributes it has.
use Rattle.std.specs.Prelude.{◌≡◌, ◌+◌, ℕ, Bool, List, [], ◌∷◌, length, Option, Result, Ok, Err, if◌then◌else◌}
use denote.Ref.{Bor}
use Rattle.kf_pages.specs.declared.ops.Fault.{Fault}
use Rattle.kf_groups.specs.declared.attribute.Attribute.{Attribute}
use Rattle.kf_groups.specs.declared.attribute.Group.{Group}

-- the fault of a show or a store for which there is no callback
abbrev pub no_callback : Fault
no_callback = record { number = 5 }

-- the attribute took all of the bytes, and this is their number; or it failed with this fault
abbrev pub TakesAll : (Result (Unit {0}) Fault → Type 0) → List ℕ → Result ℕ Fault → Type 0
TakesAll takes bytes (Ok count) = takes (Ok tt) × (count ≡ length bytes)
TakesAll takes bytes (Err fault) = takes (Err fault)

-- the attribute, with mode 0 if it is not visible
abbrev pub visible_if : Bool → Attribute → Attribute
visible_if is_visible attribute =
    record attribute { mode = if is_visible then attribute.mode else 0 }

-- the attributes, in their order, with tags that count up from this one
abbrev pub numbered : ℕ → List Attribute → List Attribute
numbered first [] = []
numbered first (attribute ∷ attributes) =
    record attribute { tag = first } ∷ numbered (first + 1) attributes

-- the group has this name (or no name, if this is None), and exactly these attributes
pub record IsGroup (name : Option (Bor (List ℕ))) (attributes : List Attribute) (group : Group) : Type 0 where
  pub name_is : group.name ≡ name
  pub attributes_are : group.attributes.now ≡ attributes
