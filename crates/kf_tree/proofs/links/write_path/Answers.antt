use Rattle.std.proofs.Common.{ap, ◌∙◌, [], ◌∷◌, ◌++◌}
use Rattle.std.specs.Prelude.{map, reverse}
use Rattle.kf_tree.specs.Ways.{name_at}
use Rattle.kf_tree.proofs.PathOf.{path_is}
use Rattle.kf_tree.proofs.links.write_path.Goals as goal

pub returns : goal.returns
returns c = record {
  path = path_is c.args.table.now c.args.root c.args.key c.in_ok-_base._base (reverse (map (name_at c.args.table.now) c.push_ups.new.keys.items)) c.push.new.self.items c.push_ups.new.text.items c.push_names.new.text.items
      (c.in_ok-push.ensures.items ∙ ap (λ xs. xs ++ 47 ∷ []) c.new-path.ensures.items) c.in_ok-_base.ensures.climbed c.in_ok-_base.ensures.lead c.in_ok-push_names.ensures.pushed;
}
