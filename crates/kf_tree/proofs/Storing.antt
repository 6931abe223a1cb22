-- Commands that are stored one after another.
use Rattle.std.proofs.Common.{◌≡◌, List, [], ◌∷◌, ◌++◌, ap, ◌∙◌, sym, append_assoc}
use Rattle.std.specs.Prelude.{Option}
use Rattle.std.proofs.lemmas.List.{append-nil}
use Rattle.kf_core.specs.declared.command.Command.{Command}
use Rattle.kf_core.specs.declared.refusal.Refusal.{Refusal}
use Rattle.kf_core.specs.Commands.{replay}
use Rattle.kf_tree.specs.TreeLogs.{TreeLog, IsAccepted, Stores}
use Rattle.kf_tree.proofs.Replays.{replay_append}

pub none : (old new : TreeLog) → new.root ≡ old.root → new.tree ≡ old.tree → new.commands ≡ old.commands → Stores old new []
none old new root tree commands = record {
  same_root = root;
  changed = tree;
  stored = commands ∙ sym (append-nil old.commands);
}

pub none_same : (old new : TreeLog) → new ≡ old → Stores old new []
none_same old new same = none old new (ap (λ (s : TreeLog). s.root) same) (ap (λ (s : TreeLog). s.tree) same) (ap (λ (s : TreeLog). s.commands) same)

pub one : (old new : TreeLog) (cause : Option Refusal) (c : Command) → IsAccepted old new cause c → Stores old new (c ∷ [])
one old new cause c accepted = record {
  same_root = accepted.same_root;
  changed = accepted.changed;
  stored = accepted.stored;
}

-- two lists of commands, stored one after the other, are stored as one list
pub join : (a b c : TreeLog) (xs ys : List Command) → Stores a b xs → Stores b c ys → Stores a c (xs ++ ys)
join a b c xs ys first other = record {
  same_root = other.same_root ∙ first.same_root;
  changed = other.changed ∙ ap (λ t. replay t ys) first.changed ∙ sym (replay_append a.tree xs ys);
  stored = other.stored ∙ ap (λ cs. cs ++ ys) first.stored ∙ append_assoc a.commands xs ys;
}
