use Rattle.std.proofs.Common.{ap, sym, ◌∙◌}
use Rattle.std.specs.Option.{option_map}
use Rattle.kf_tree.specs.Paths.{walk}
use Rattle.kf_tree.specs.Shown.{shown}
use Rattle.kf_core.specs.Paths.{later_parts}
use Rattle.kf_tree.proofs.Unnamed.{walked_named}
use Rattle.kf_tree.proofs.paths.walk_parts.Goals as goal

pub returns-clause-named : goal.returns-clause-named
returns-clause-named c = walked_named c.args.table.now c.requires.lawful.0 c.requires.lawful.1 c.args.live_only _ c.args.start c.loop-rest.dir
    (sym c.loop-rest.invariant.0 ∙ ap (λ o. walk (shown c.args.live_only c.args.table.now) c.loop-rest.dir (later_parts (option_map (λ rest. rest.now) o))) c.in_default.is)
