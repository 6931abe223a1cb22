use Rattle.kf_gates.proofs.Allowed.{inside_on_last, closed_is_empty, shut_lets_nobody_in, open_lets_in}
use Rattle.kf_gates.proofs.Runs.{opens_well, rule_kept, nobody_past_the_mark, closed_for_good}
use Rattle.kf_gates.proofs.laws.gates_tell.Goals as goal

pub returns : goal.returns
returns c = record {
  inside_on_last = inside_on_last;
  closed_is_empty = closed_is_empty;
  shut_lets_nobody_in = shut_lets_nobody_in;
  open_lets_in = open_lets_in;
  opens_well = opens_well;
  rule_kept = rule_kept;
  nobody_past_the_mark = nobody_past_the_mark;
  closed_for_good = closed_for_good;
}
