use Rattle.std.proofs.Common.{◌≡◌, ◌+◌}
use Rattle.std.specs.Prelude.{◌≤◌, ◌*◌, Ok, map, reverse, vec_len, vec_capacity}
use Rattle.kf_tree.specs.Paths.{walk}
use Rattle.kf_tree.specs.Ways.{name_at}
use Rattle.kf_tree.proofs.Over.{HasClimbed}
use Rattle.kf_tree.proofs.OneClimb.{IsBeside, StandsAt}
use Rattle.kf_tree.proofs.links.push_ups.Given as goal

abbrev pub invariant-up : goal.invariant-up
invariant-up l = record {
  climbed : HasClimbed l.table l.fn.root l.fn.dir l.fn.target l.base l.initial.text.items l.text.items;
  beside : IsBeside l.table l.fn.root l.fn.target l.base l.other l.base_depth l.other_depth;
  on_from : StandsAt l.from.items l.base_depth l.base;
  on_to : StandsAt l.to.items l.other_depth l.other;
  room : vec_len l.text + 3 * l.base_depth ≤ vec_capacity l.text;
  lead : walk l.table l.other (reverse (map (name_at l.table) l.keys.items)) ≡ Ok l.fn.target;
}

abbrev pub decreases-up : goal.decreases-up
decreases-up l = l.base_depth + l.other_depth
