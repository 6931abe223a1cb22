use Rattle.kf_tree.proofs.RenameRule.{may_move_exactly}
use Rattle.kf_tree.proofs.laws.renames_have_one_rule.Goals as goal

pub returns : goal.returns
returns c = record { one_rule = λ t root key dir name l. may_move_exactly t root key dir name l }
