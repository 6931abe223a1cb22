-- Why each call is refused: the first cause in order. Lack of memory comes after all of these.
use Rattle.std.specs.Prelude.{◌≡◌, ◌⊎◌, ℕ, Bool, false, not, List, [], ◌∷◌, Option, None, Some, is_some, if◌then◌else◌}
use Rattle.std.specs.Option.{option_map_or, option_and_then}
use Rattle.kf_core.specs.declared.key.Key.{Key}
use Rattle.kf_core.specs.declared.key.Node.{Node}
use Rattle.kf_core.specs.declared.key.Node.TheVariants.{Dir, File, Link}
use Rattle.kf_core.specs.declared.refusal.Refusal.{Refusal}
use Rattle.kf_core.specs.declared.refusal.Refusal.TheVariants.{NoEntry, NoMemory, Busy, Exists, NotDir, IsDir, Invalid, NoSpace}
use Rattle.kf_core.specs.Refusals.{unless, first_cause}
use Rattle.kf_core.specs.Names.{name_fault}
use Rattle.kf_core.specs.Keys.{same_key}
use Rattle.kf_core.specs.Marks.{are_doomed}
use Rattle.kf_core.specs.Tree.{Tree, record_at, marks_of, is_linked, is_dir, in_subtree}
use Rattle.kf_table.specs.Children.{child, has_child, is_there_already}
use Rattle.kf_table.specs.Live.{live_in}

-- the refusal is this cause or, if there is no cause, NoMemory
abbrev pub Refuses : Option Refusal → Refusal → Type 0
Refuses cause refusal = (cause ≡ Some refusal) ⊎ ((cause ≡ None) × (refusal ≡ NoMemory))

-- ---- what the causes ask

-- whether the key is doomed; a key that is not linked counts as doomed
abbrev pub doomed_in : Tree → Key → Bool
doomed_in t key = are_doomed (marks_of t key)

-- whether the key is linked, and its record is a directory
abbrev pub is_directory : Tree → Key → Bool
is_directory t key = option_map_or (λ r. is_dir r.node) (record_at t key) false

-- whether the directory has a child of this name, live or not
abbrev pub has_entry : Tree → Key → List ℕ → Bool
has_entry t dir name = is_some (child t dir name)

-- the target of a link; a directory and a file have none
abbrev pub target_of : Node → Option Key
target_of Dir = None
target_of (File mode tag) = None
target_of (Link target) = Some target

-- the target of a key's record, if that is a link
abbrev pub link_target : Tree → Key → Option Key
link_target t key = option_and_then (λ r. target_of r.node) (record_at t key)

-- whether the key is linked, and its record is a link
abbrev pub is_link : Tree → Key → Bool
is_link t key = is_some (link_target t key)

-- whether the key's record is hidden; a key that is not linked counts as shown
abbrev pub hidden_in : Tree → Key → Bool
hidden_in t key = option_map_or (λ r. r.hidden) (record_at t key) false

-- ---- the causes, in order

-- what is wrong with a link's target: it is not linked, or is the root; nothing if there is no target
abbrev pub target_fault : Tree → Key → Option Key → Option Refusal
target_fault t root None = None
target_fault t root (Some target) = first_cause (
    unless (is_linked t target) NoEntry
    ∷ unless (not (same_key target root)) Invalid
    ∷ [])

-- what is wrong with a create, whichever key is next
abbrev pub create_fault : Tree → Key → Key → List ℕ → Node → Option Refusal
create_fault t root parent name node = first_cause (
    unless (is_linked t parent) NoEntry
    ∷ name_fault name
    ∷ unless (is_directory t parent) NotDir
    ∷ unless (not (doomed_in t parent)) NoEntry
    ∷ target_fault t root (target_of node)
    ∷ unless (not (has_entry t parent name)) Exists
    ∷ [])

-- why a create is refused: what is wrong with it, and after that the lack of a next key
abbrev pub create_cause : Tree → Key → Key → List ℕ → Node → Option Key → Option Refusal
create_cause t root parent name node next = first_cause (
    create_fault t root parent name node
    ∷ unless (is_some next) NoSpace
    ∷ [])

-- why an activation, a post-order or a path is refused: the key is not linked
abbrev pub linked_cause : Tree → Key → Option Refusal
linked_cause t key = unless (is_linked t key) NoEntry

-- why a doom is refused: the key is not linked, or is the root
abbrev pub doom_cause : Tree → Key → Key → Option Refusal
doom_cause t root key = first_cause (
    unless (is_linked t key) NoEntry
    ∷ unless (not (same_key key root)) Invalid
    ∷ [])

-- why the unlink of a linked key is refused: it is not doomed, or has a child. The unlink of any other key is
-- not refused
abbrev pub unlink_cause : Tree → Key → Option Refusal
unlink_cause t key = first_cause (
    unless (doomed_in t key) Invalid
    ∷ unless (not (has_child t key)) Busy
    ∷ [])

-- why a hiding is refused: the key is not linked, is a directory or a link, is doomed, or is hidden already
abbrev pub hide_cause : Tree → Key → Option Refusal
hide_cause t key = first_cause (
    unless (is_linked t key) NoEntry
    ∷ unless (not (is_directory t key)) IsDir
    ∷ unless (not (is_link t key)) Invalid
    ∷ unless (not (doomed_in t key)) NoEntry
    ∷ unless (not (hidden_in t key)) Busy
    ∷ [])

-- why a rename is refused, before the question whether the record is there already under that name
abbrev pub early_rename_cause : Tree → Key → Key → Key → List ℕ → Option Refusal
early_rename_cause t root key dir name = first_cause (
    unless (not (same_key key root)) Invalid
    ∷ unless (is_linked t key) NoEntry
    ∷ unless (is_linked t dir) NoEntry
    ∷ name_fault name
    ∷ unless (is_directory t dir) NotDir
    ∷ unless (live_in t key) NoEntry
    ∷ unless (live_in t dir) NoEntry
    ∷ [])

-- why a rename is refused, after that question: the directory is in the record's own subtree, or the name is
-- taken
abbrev pub late_rename_cause : Tree → Key → Key → List ℕ → Option Refusal
late_rename_cause t key dir name = first_cause (
    unless (not (in_subtree t key dir)) Invalid
    ∷ unless (not (has_entry t dir name)) Exists
    ∷ [])

-- why a rename is refused. A record that is there already stays, and that is not a refusal
abbrev pub rename_cause : Tree → Key → Key → Key → List ℕ → Option Refusal
rename_cause t root key dir name = first_cause (
    early_rename_cause t root key dir name
    ∷ (if is_there_already t key dir name then None else late_rename_cause t key dir name)
    ∷ [])

-- why a listing is refused: the key is not linked, or is not a directory
abbrev pub list_cause : Tree → Key → Option Refusal
list_cause t dir = first_cause (
    unless (is_linked t dir) NoEntry
    ∷ unless (is_directory t dir) NotDir
    ∷ [])

-- why the text of a link is refused: the key is not linked, or is not a link, or its target is not linked
abbrev pub text_cause : Tree → Key → Option Refusal
text_cause t key = first_cause (
    unless (is_linked t key) NoEntry
    ∷ unless (is_some (link_target t key)) Invalid
    ∷ unless (option_map_or (is_linked t) (link_target t key) false) NoEntry
    ∷ [])
