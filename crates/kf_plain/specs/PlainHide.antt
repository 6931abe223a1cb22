-- What hiding a file does, and what showing it again does.
use Rattle.std.specs.Prelude.{ℕ, Bool, false, nat_lt, List, [], ◌∷◌, Option, Some, None, Result}
use Rattle.std.specs.Option.{option_map_or}
use Rattle.kf_core.specs.declared.key.Key.{Key}
use Rattle.kf_core.specs.declared.command.Command.TheVariants.{Hide, Show}
use Rattle.kf_core.specs.declared.refusal.Refusal.{Refusal}
use Rattle.kf_core.specs.declared.refusal.Refusal.TheVariants.{Invalid, TooManyHolds}
use Rattle.kf_core.specs.Keys.{same_key}
use Rattle.kf_core.specs.Refusals.{unless, first_cause}
use Rattle.kf_tree.specs.TreeLogs.{TreeLog}
use Rattle.kf_tree.specs.Paths.{and_then, walked}
use Rattle.kf_tree.specs.Causes.{hide_cause, linked_cause}
use Rattle.kf_plain.specs.Plain.{Plain, token_at, with_commands, with_token}
use Rattle.kf_plain.specs.Settled.{ok_unless}

-- ---- hide

-- why a node is not hidden; the hold is taken before the node is looked at
abbrev pub hidden_cause : TreeLog → (ℕ → ℕ) → ℕ → Key → Option Refusal
hidden_cause log holds limit key = first_cause (
    linked_cause log.tree key
    ∷ unless (nat_lt (holds key.slot) limit) TooManyHolds
    ∷ hide_cause log.tree key
    ∷ [])

-- the file at a path, if it may be hidden
abbrev pub hidden_key : TreeLog → (ℕ → ℕ) → ℕ → List ℕ → Result Key Refusal
hidden_key log holds limit path = and_then (walked log.tree log.root path) (λ key.
    ok_unless (hidden_cause log holds limit key) key)

-- the node that a hide takes its hold of
abbrev pub hide_held : TreeLog → List ℕ → Result Key Refusal
hide_held log path = walked log.tree log.root path

-- the file is hidden, and the board keeps its token
abbrev pub with_hidden : Plain → Key → Plain
with_hidden b key = with_token (with_commands b (Hide key ∷ [])) key.slot (Some key)

-- ---- show

-- whether the board has a token for this very key
abbrev pub has_token : Plain → Key → Bool
has_token b key = option_map_or (λ token. same_key token key) (token_at b key.slot) false

-- why a key may not be shown: it is not linked, or the board has no token for it
abbrev pub shown_cause : Plain → Key → Option Refusal
shown_cause b key = first_cause (linked_cause b.log.tree key ∷ unless (has_token b key) Invalid ∷ [])

-- the node at a path, if the board has its token
abbrev pub shown_key : Plain → List ℕ → Result Key Refusal
shown_key b path = and_then (walked b.log.tree b.log.root path) (λ key. ok_unless (shown_cause b key) key)

-- the file is shown again, and its token is spent
abbrev pub with_shown : Plain → Key → Plain
with_shown b key = with_token (with_commands b (Show key ∷ [])) key.slot None
