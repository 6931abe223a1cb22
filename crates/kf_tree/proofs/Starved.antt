-- Lack of memory is never among the causes of a refusal.
use Rattle.std.proofs.Common.{◌≡◌, ◌≢◌, ℕ, Bool, true, false, cond, not, List, [], ◌∷◌, length}
use Rattle.std.specs.Prelude.{Option, None, Some, nat_le}
use Rattle.std.specs.Str.{bytes_eq}
use Rattle.std.proofs.lemmas.Option.{same_Some, none-some}
use Rattle.kf_core.specs.declared.key.Key.{Key}
use Rattle.kf_core.specs.declared.refusal.Refusal.{Refusal}
use Rattle.kf_core.specs.declared.refusal.Refusal.TheVariants.{NoEntry, NoMemory, Exists, NotDir, Invalid, NameTooLong}
use Rattle.kf_core.specs.Refusals.{unless, first_cause}
use Rattle.kf_core.specs.Names.{has_byte, name_fault}
use Rattle.kf_core.specs.Keys.{same_key}
use Rattle.kf_core.specs.Tree.{Tree, is_linked, in_subtree}
use Rattle.kf_tree.specs.Causes.{is_directory, has_entry, early_rename_cause, late_rename_cause, rename_cause}
use Rattle.kf_table.specs.Live.{live_in}
use Rattle.kf_table.specs.Children.{is_there_already}

abbrev IsFed : Option Refusal → Type 0
IsFed cause = cause ≢ Some NoMemory

no_cause : IsFed None
no_cause h = none-some NoMemory h

fed_unless : (b : Bool) (refusal : Refusal) → refusal ≢ NoMemory → IsFed (unless b refusal)
fed_unless true refusal n h = none-some NoMemory h
fed_unless false refusal n h = n (same_Some refusal NoMemory h)

abbrev EachFed : List (Option Refusal) → Type 0
EachFed [] = Unit {0}
EachFed (cause ∷ causes) = IsFed cause × EachFed causes

fed_first : (causes : List (Option Refusal)) → EachFed causes → IsFed (first_cause causes)
fed_first [] each = no_cause
fed_first (None ∷ causes) each = fed_first causes each.1
fed_first (Some refusal ∷ causes) each = each.0

invalid : Invalid ≢ NoMemory
invalid h = (let x : Invalid ≡ NoMemory = h in cc)

no_entry : NoEntry ≢ NoMemory
no_entry h = (let x : NoEntry ≡ NoMemory = h in cc)

not_dir : NotDir ≢ NoMemory
not_dir h = (let x : NotDir ≡ NoMemory = h in cc)

exists : Exists ≢ NoMemory
exists h = (let x : Exists ≡ NoMemory = h in cc)

too_long : NameTooLong ≢ NoMemory
too_long h = (let x : NameTooLong ≡ NoMemory = h in cc)

fed_name : (name : List ℕ) → IsFed (name_fault name)
fed_name name = fed_first (
    unless (nat_le (length name) 255) NameTooLong
    ∷ unless (nat_le 1 (length name)) Invalid
    ∷ unless (not (has_byte name 47)) Invalid
    ∷ unless (not (has_byte name 0)) Invalid
    ∷ unless (not (bytes_eq name (46 ∷ []))) Invalid
    ∷ unless (not (bytes_eq name (46 ∷ 46 ∷ []))) Invalid
    ∷ [])
    (fed_unless _ NameTooLong too_long, (fed_unless _ Invalid invalid, (fed_unless _ Invalid invalid, (fed_unless _ Invalid invalid, (fed_unless _ Invalid invalid, (fed_unless _ Invalid invalid, tt))))))

fed_early : (t : Tree) (root key dir : Key) (name : List ℕ) → IsFed (early_rename_cause t root key dir name)
fed_early t root key dir name = fed_first (
    unless (not (same_key key root)) Invalid
    ∷ unless (is_linked t key) NoEntry
    ∷ unless (is_linked t dir) NoEntry
    ∷ name_fault name
    ∷ unless (is_directory t dir) NotDir
    ∷ unless (live_in t key) NoEntry
    ∷ unless (live_in t dir) NoEntry
    ∷ [])
    (fed_unless _ Invalid invalid, (fed_unless _ NoEntry no_entry, (fed_unless _ NoEntry no_entry, (fed_name name, (fed_unless _ NotDir not_dir, (fed_unless _ NoEntry no_entry, (fed_unless _ NoEntry no_entry, tt)))))))

fed_late : (t : Tree) (key dir : Key) (name : List ℕ) → IsFed (late_rename_cause t key dir name)
fed_late t key dir name = fed_first (
    unless (not (in_subtree t key dir)) Invalid
    ∷ unless (not (has_entry t dir name)) Exists
    ∷ [])
    (fed_unless _ Invalid invalid, (fed_unless _ Exists exists, tt))

pub never_starved : (t : Tree) (root key dir : Key) (name : List ℕ) → rename_cause t root key dir name ≡ Some NoMemory → ⊥
never_starved t root key dir name = fed_first (
    early_rename_cause t root key dir name
    ∷ cond (is_there_already t key dir name) None (late_rename_cause t key dir name)
    ∷ [])
    (fed_early t root key dir name, (choice (is_there_already t key dir name), tt))
  where
    choice : (b : Bool) → IsFed (cond b None (late_rename_cause t key dir name))
    choice true = no_cause
    choice false = fed_late t key dir name
