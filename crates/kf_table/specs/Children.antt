-- The children of a directory.
use Rattle.std.specs.Prelude.{ℕ, Bool, true, false, ◌&&◌, List, Option, None, Some, count_by}
use Rattle.std.specs.List.{find as first, list_any}
use Rattle.std.specs.Option.{option_and_then, option_map_or}
use Rattle.std.specs.Str.{bytes_eq}
use Rattle.kf_core.specs.declared.key.Key.{Key}
use Rattle.kf_core.specs.declared.records.Record.{Record}
use Rattle.kf_core.specs.Keys.{same_key}
use Rattle.kf_core.specs.Tree.{Tree, record_at, is_dir}

-- whether there is a parent, and it is this directory
abbrev pub is_key : Key → Option Key → Bool
is_key dir None = false
is_key dir (Some parent) = same_key parent dir

-- whether the slot has a record in this directory that passes the test
abbrev pub is_under : Key → (Record → Bool) → Option Record → Bool
is_under dir test None = false
is_under dir test (Some r) = is_key dir r.parent && test r

-- the record with this name in this directory
abbrev pub child : Tree → Key → List ℕ → Option Record
child t dir name = option_and_then (λ slot. slot) (first (is_under dir (λ r. bytes_eq r.name name)) t)

-- whether any record is in this directory, live or not
abbrev pub has_child : Tree → Key → Bool
has_child t dir = list_any (is_under dir (λ r. true)) t

-- the number of child directories, live or not
abbrev pub subdirs : Tree → Key → ℕ
subdirs t dir = count_by (is_under dir (λ r. is_dir r.node)) t

-- whether the key's record is in this directory under this name
abbrev pub is_there_already : Tree → Key → Key → List ℕ → Bool
is_there_already t key dir name =
    option_map_or (λ r. is_key dir r.parent && bytes_eq r.name name) (record_at t key) false
