-- Which event each step is: each clause follows from the lemma of its name.
use Rattle.kf_words.proofs.Events.{try_is_enter, undo_is_undo, look_is_look, part_is_part, leave_is_leave, break_is_break, restore_is_restore, release_is_release, hide_is_hide, look_hidden_is_look, show_is_show, miss_is_nothing, rise_is_rise, mark_is_mark, birth_is_born, unlink_is_unlink, split_is_pin, held_split_is_pin, share_is_pin, rest_is_nothing, report_passes, answer_passes, count_at_is_pin}
use Rattle.kf_words.proofs.laws.words_step.Goals as goal

pub returns-clause-try_is_enter : goal.returns-clause-try_is_enter
returns-clause-try_is_enter c = try_is_enter

pub returns-clause-undo_is_undo : goal.returns-clause-undo_is_undo
returns-clause-undo_is_undo c = undo_is_undo

pub returns-clause-look_is_look : goal.returns-clause-look_is_look
returns-clause-look_is_look c = look_is_look

pub returns-clause-part_is_part : goal.returns-clause-part_is_part
returns-clause-part_is_part c = part_is_part

pub returns-clause-leave_is_leave : goal.returns-clause-leave_is_leave
returns-clause-leave_is_leave c = leave_is_leave

pub returns-clause-break_is_break : goal.returns-clause-break_is_break
returns-clause-break_is_break c = break_is_break

pub returns-clause-restore_is_restore : goal.returns-clause-restore_is_restore
returns-clause-restore_is_restore c = restore_is_restore

pub returns-clause-release_is_release : goal.returns-clause-release_is_release
returns-clause-release_is_release c = release_is_release

pub returns-clause-miss_is_nothing : goal.returns-clause-miss_is_nothing
returns-clause-miss_is_nothing c = miss_is_nothing

pub returns-clause-rise_is_rise : goal.returns-clause-rise_is_rise
returns-clause-rise_is_rise c = rise_is_rise

pub returns-clause-mark_is_mark : goal.returns-clause-mark_is_mark
returns-clause-mark_is_mark c = mark_is_mark

pub returns-clause-birth_is_born : goal.returns-clause-birth_is_born
returns-clause-birth_is_born c = birth_is_born

pub returns-clause-unlink_is_unlink : goal.returns-clause-unlink_is_unlink
returns-clause-unlink_is_unlink c = unlink_is_unlink

pub returns-clause-split_is_pin : goal.returns-clause-split_is_pin
returns-clause-split_is_pin c = split_is_pin

pub returns-clause-held_split_is_pin : goal.returns-clause-held_split_is_pin
returns-clause-held_split_is_pin c = held_split_is_pin

pub returns-clause-rest_is_nothing : goal.returns-clause-rest_is_nothing
returns-clause-rest_is_nothing c = rest_is_nothing

pub returns-clause-hide_is_hide : goal.returns-clause-hide_is_hide
returns-clause-hide_is_hide c = hide_is_hide

pub returns-clause-look_hidden_is_look : goal.returns-clause-look_hidden_is_look
returns-clause-look_hidden_is_look c = look_hidden_is_look

pub returns-clause-show_is_show : goal.returns-clause-show_is_show
returns-clause-show_is_show c = show_is_show

pub returns-clause-share_is_pin : goal.returns-clause-share_is_pin
returns-clause-share_is_pin c = share_is_pin

pub returns-clause-report_passes : goal.returns-clause-report_passes
returns-clause-report_passes c = report_passes

pub returns-clause-answer_passes : goal.returns-clause-answer_passes
returns-clause-answer_passes c = answer_passes

pub returns-clause-count_at_is_pin : goal.returns-clause-count_at_is_pin
returns-clause-count_at_is_pin c = count_at_is_pin
