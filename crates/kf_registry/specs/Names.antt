-- Which paths a value may be published under.
use Rattle.std.specs.Prelude.{ℕ, Bool, false, not, ◌==◌, ◌&&◌, nat_le, List, [], ◌∷◌, length, drop, Result, Ok, Err, if◌then◌else◌}
use Rattle.kf_core.specs.declared.refusal.Refusal.{Refusal}
use Rattle.kf_core.specs.declared.refusal.Refusal.TheVariants.{Invalid, NameTooLong}

-- whether the path is a slash, and then at least one byte, of which the first is not a dot
abbrev pub has_name : List ℕ → Bool
has_name [] = false
has_name (slash ∷ []) = false
has_name (slash ∷ first ∷ others) = (slash == 47) && not (first == 46)

-- the name in the root to which a path of a registry leads, or why the path is refused
abbrev pub name_in : List ℕ → Result (List ℕ) Refusal
name_in path =
    if has_name path
    then (if nat_le (length path) 256 then Ok (drop 1 path) else Err NameTooLong)
    else Err Invalid
