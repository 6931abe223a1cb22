use Rattle.std.proofs.Common.{◌≡◌, ℕ, List, ◌∷◌, ◌++◌, length}
use Rattle.kf_script.specs.ReplyText.{names_text}
use Rattle.kf_replies.proofs.nodes.tell_names.Given as goal

-- the text, and then what is gathered, is the first name and those put after it; the other names are left
abbrev pub invariant-names : goal.invariant-names
invariant-names l = (first : List ℕ) × (told : List (List ℕ)) × (first ∷ (told ++ l.later) ≡ l.fn.names) × (l.reply ++ l.part ≡ names_text (first ∷ told))

abbrev pub decreases-names : goal.decreases-names
decreases-names l = length l.later
