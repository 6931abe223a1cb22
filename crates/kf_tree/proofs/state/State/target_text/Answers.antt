use Rattle.std.proofs.Common.{subst}
use Rattle.std.specs.Prelude.{Ok, Err}
use Rattle.std.specs.Result.{IfOk}
use Rattle.kf_tree.specs.Links.{IsLinkText, HasLinkText}
use Rattle.kf_tree.specs.TreeLogs.{TreeLog}
use Rattle.kf_tree.proofs.Over.{parent_linked}
use Rattle.kf_tree.proofs.Down.{has_text}
use Rattle.kf_tree.proofs.state.State.target_text.Goals as goal

pub link_text-requires-clause-there : goal.link_text-requires-clause-there
link_text-requires-clause-there c = parent_linked c.self.inside.table c.self.inside.root c.self.invariant.kept.lawful c.args.key c.in_ok-dir.dir c.in_ok-dir.ensures.checked.1

pub returns-clause-text : goal.returns-clause-text
returns-clause-text c = elim c.link_text.result as (λ r. IfOk r (λ text. IsLinkText c.self.inside.table c.self.inside.root c.in_ok-dir.dir c.in_ok-dir.target text.items) → IfOk r (λ text. HasLinkText c.args.self.now.tree c.args.self.now.root c.args.key text.items)) [
  | Ok text ↦ λ h. subst (λ (s : TreeLog). HasLinkText s.tree s.root c.args.key text.items) c.self.view_is
      (has_text c.self.inside.table c.self.inside.root c.args.key c.in_ok-dir.dir c.in_ok-dir.target text.items c.in_ok-dir.ensures.checked.1 c.in_ok-dir.ensures.checked.2 h)
  | Err refusal ↦ λ h. tt
] c.link_text.ensures.text
