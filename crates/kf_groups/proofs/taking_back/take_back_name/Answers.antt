use Rattle.std.proofs.Common.{◌≡◌, ◌∙◌, ap, sym}
use Rattle.std.specs.Prelude.{Ok}
use Rattle.kf_tree.specs.Paths.{found}
use Rattle.kf_tree.specs.TreeLogs.{TreeLog}
use Rattle.kf_groups.proofs.Named.{found_younger}
use Rattle.kf_groups.proofs.taking_back.take_back_name.Goals as goal

pub returns-in-Ok-clause-older : goal.returns-in-Ok-clause-older
returns-in-Ok-clause-older g c base root lawful none keeps =
    let there : found c.args.editor.now.state.tree c.args.dir c.args.name.now ≡ Ok c.in-Ok.key =
    ap (λ (s : TreeLog). found s.tree c.args.dir c.args.name.now) (sym c.state.ensures.same) ∙ sym c.in-Ok.ensures.found in
    c.take_back.ensures.older base root lawful
    (found_younger base c.args.editor.now.state.tree c.args.editor.now.state.root c.args.dir c.in-Ok.key c.args.name.now
    c.state.ensures.whole.kept.lawful keeps none there) keeps
