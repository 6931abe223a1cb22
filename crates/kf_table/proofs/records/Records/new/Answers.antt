use Rattle.std.proofs.Common.{◌∙◌, sym, ap, map}
use Rattle.std.specs.Prelude.{count_by, is_some}
use Rattle.kf_core.specs.Tree.{Tree}
use Rattle.kf_table.specs.Live.{live_key}
use Rattle.kf_table.proofs.LiveKeys.{none_live}
use Rattle.kf_table.proofs.LinkedCounts.{none_counted}
use Rattle.kf_table.proofs.records.Records.new.Goals as goal

pub invariant_of-result : goal.invariant_of-result
invariant_of-result c = (
  c.in_ok-new-2.ensures.made ∙ none_live c.args.slots ∙ sym (ap (map live_key) c.in_ok-new.ensures.made),
  sym (ap (λ (t : Tree). count_by is_some t) c.in_ok-new.ensures.made ∙ none_counted c.args.slots),
)
