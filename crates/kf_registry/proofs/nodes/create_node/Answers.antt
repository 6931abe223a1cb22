use Rattle.std.proofs.Common.{◌∙◌, ap, subst}
use Rattle.kf_core.specs.declared.key.Key.{Key}
use Rattle.kf_tree.specs.TreeLogs.{TreeLog}
use Rattle.kf_shared.specs.Locked.{CreateRefused}
use Rattle.kf_registry.proofs.Refusals.{stand_cause}
use Rattle.kf_registry.proofs.nodes.create_node.Goals as goal

pub returns-in-Err-clause-refused : goal.returns-in-Err-clause-refused
returns-in-Err-clause-refused g c =
    stand_cause c.args.editor.now c.create.new.self c.args.name.now c.args.node c.in-Err.why
    (subst (λ (root : Key). CreateRefused c.args.editor.now c.create.new.self root c.args.name.now c.args.node c.in-Err.why)
    (c.root-root.ensures.known ∙ ap (λ (s : TreeLog). s.root) c.state.ensures.same) c.in-Err.ensures.refused)
