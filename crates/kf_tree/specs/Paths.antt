-- What a name in a directory leads to, and what a path does.
use Rattle.std.specs.Prelude.{ℕ, List, [], ◌∷◌, map, Option, None, Some, Result, Ok, Err, if◌then◌else◌}
use Rattle.std.specs.List.{list_any}
use Rattle.std.specs.Option.{option_and_then, ok_or}
use Rattle.kf_core.specs.declared.key.Key.{Key}
use Rattle.kf_core.specs.declared.records.Record.{Record}
use Rattle.kf_core.specs.declared.refusal.Refusal.{Refusal}
use Rattle.kf_core.specs.declared.refusal.Refusal.TheVariants.{NoEntry, NotDir, Invalid}
use Rattle.kf_core.specs.Paths.{is_empty, parts, after_slash, names_of}
use Rattle.kf_core.specs.Tree.{Tree, record_at, is_dir}
use Rattle.kf_table.specs.Children.{child}
use Rattle.kf_table.specs.Live.{lives}

-- what follows, if nothing was refused before
abbrev pub and_then : {X Y : Type 0} → Result X Refusal → (X → Result Y Refusal) → Result Y Refusal
and_then (Ok x) next = next x
and_then (Err refusal) next = Err refusal

-- ---- names

-- the key of an entry in a directory, if both records are there and the first is a directory
abbrev pub entry_key : Option Record → Option Record → Result Key Refusal
entry_key None entry = Err NoEntry
entry_key (Some dir) entry =
    if is_dir dir.node then ok_or (option_and_then (λ r. Some r.key) entry) NoEntry else Err NotDir

-- what a name in a directory leads to
abbrev pub found : Tree → Key → List ℕ → Result Key Refusal
found t dir name = entry_key (record_at t dir) (child t dir name)

-- what the names lead to one after another, from a key on
abbrev pub walk : Tree → Key → List (List ℕ) → Result Key Refusal
walk t key [] = Ok key
walk t key (name ∷ names) = and_then (found t key name) (λ next. walk t next names)

-- ---- paths

-- the node that a path names, live or not
abbrev pub walked : Tree → Key → List ℕ → Result Key Refusal
walked t root path = and_then (ok_or (names_of path) Invalid) (walk t root)

-- the record of a slot if it is live, otherwise none
abbrev pub only_live : Option Record → Option Record
only_live None = None
only_live (Some r) = if lives r then Some r else None

-- the live node that a path names; every record that is not live counts as missing
abbrev pub seen : Tree → Key → List ℕ → Result Key Refusal
seen t root path = walked (map only_live t) root path

-- ---- all names of a path except the last, and the last

-- all names except the last
abbrev pub front : List (List ℕ) → List (List ℕ)
front [] = []
front (name ∷ []) = []
front (name ∷ next ∷ names) = name ∷ front (next ∷ names)

-- the last of the names; if there is none, the empty name
abbrev pub final : List (List ℕ) → List ℕ
final [] = []
final (name ∷ []) = name
final (name ∷ next ∷ names) = final (next ∷ names)

-- the names before the last, if none of them is empty, and the last, which may be empty
abbrev pub but_last : List (List ℕ) → Option (List (List ℕ) × List ℕ)
but_last [] = None
but_last (name ∷ names) =
    if list_any is_empty (front (name ∷ names)) then None else Some
    (front (name ∷ names), final (name ∷ names))

-- the names of a path before the last, and the last; `/` has no last name
abbrev pub parent_names : List ℕ → Option (List (List ℕ) × List ℕ)
parent_names path = option_and_then (λ bytes. but_last (parts bytes)) (after_slash path)

-- the node that all names except the last lead to, and the last name
abbrev pub walked_parent : Tree → Key → List ℕ → Result (Key × List ℕ) Refusal
walked_parent t root path =
    and_then (ok_or (parent_names path) Invalid) (λ p. and_then (walk t root p.0) (λ dir. Ok (dir, p.1)))
