use Rattle.std.proofs.Common.{◌∙◌, ap, sym}
use Rattle.kf_groups.specs.Attributes.{is_shown, shown}
use Rattle.kf_groups.specs.Groups.{makes, shares_by_name}
use Rattle.kf_groups.proofs.Names.{any_filter}
use Rattle.kf_groups.proofs.checks.shares.Goals as goal

pub returns-in-None : goal.returns-in-None
returns-in-None c = record {
  known = c.makes_any.ensures.known
      ∙ any_filter (λ a. makes a.name.now c.args.group.now) is_shown c.args.other.now.attributes.now
      ∙ ap (shares_by_name c.args.group.now (shown c.args.other.now.attributes.now)) (sym c.in-None.is ∙ c.own_name.ensures.known);
}
