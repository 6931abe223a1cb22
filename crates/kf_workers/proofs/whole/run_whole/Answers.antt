use Rattle.std.proofs.Common.{subst}
use Rattle.kf_script.specs.Lines.{lines_of}
use Rattle.kf_script.specs.Progress.{WrittenOrCut}
use Rattle.kf_workers.specs.Replied.{RepliedInForm}
use Rattle.kf_workers.proofs.Written.{ran_whole, cut_whole}
use Rattle.kf_workers.proofs.whole.run_whole.Goals as goal

pub returns-clause-ran : goal.returns-clause-ran
returns-clause-ran g c =
    ran_whole c.args.workers _ _ _ _ c.in_ok-script.script.items c.in_ok-replies.replies.items c.write_whole.result
    c.in_ok-script.ensures.read
    c.in_ok-script.ensures.end
    (subst (λ s. RepliedInForm c.args.workers (lines_of s) c.in_ok-replies.replies.items) c.as_slice.ensures.value c.in_ok-replies.ensures.replied)
    (subst (λ b. WrittenOrCut (g.W.Write.contents c.args.writer.now) (g.W.Write.contents c.write_whole.new.writer) c.write_whole.result b) c.as_slice-2.ensures.value c.write_whole.ensures.written)

pub returns-clause-stopped : goal.returns-clause-stopped
returns-clause-stopped g c =
    cut_whole c.args.workers _ _ _ _ c.in_ok-script.script.items c.in_ok-replies.replies.items c.write_whole.result
    c.in_ok-script.ensures.read
    (subst (λ s. RepliedInForm c.args.workers (lines_of s) c.in_ok-replies.replies.items) c.as_slice.ensures.value c.in_ok-replies.ensures.replied)
    (subst (λ b. WrittenOrCut (g.W.Write.contents c.args.writer.now) (g.W.Write.contents c.write_whole.new.writer) c.write_whole.result b) c.as_slice-2.ensures.value c.write_whole.ensures.written)
    c.write_whole.ensures.fault
