use Rattle.std.proofs.Common.{rules}
use Rattle.kf_handles.proofs.answers.answer.Goals as goal

-- each question gets its own result
pub returns-in-Ok : goal.returns-in-Ok
returns-in-Ok g c = rw c.in-Create.is (search rules)

pub returns-in-Err : goal.returns-in-Err
returns-in-Err g c = rw c.in-Create.is (search rules)

pub returns-in-Ok-rename : goal.returns-in-Ok-rename
returns-in-Ok-rename g c = rw c.in-Rename.is (search rules)

pub returns-in-Err-rename : goal.returns-in-Err-rename
returns-in-Err-rename g c = rw c.in-Rename.is (search rules)
