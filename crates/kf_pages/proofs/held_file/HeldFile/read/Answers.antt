use Rattle.std.proofs.Common.{ap, sym, ◌∙◌, ◌++◌, length, drop, Ok}
use Rattle.kf_pages.proofs.Answering.{reads_answered, gives_error, gives_bytes}
use Rattle.kf_pages.proofs.held_file.HeldFile.read.Goals as goal

pub returns-in-Err-clause-reads : goal.returns-in-Err-clause-reads
returns-in-Err-clause-reads g c = reads_answered (λ answer is. gives_error c.args.out.now c.in-Err.error answer is) (c.in-Err.ensures.reads (length c.args.out.now))

pub returns-in-Ok-clause-reads : goal.returns-in-Ok-clause-reads
returns-in-Ok-clause-reads g c = reads_answered
    (λ answer is. gives_bytes c.args.out.now c.text_from-text.result.now _ answer (is ∙ ap Ok (sym c.text_from-text.ensures.bytes))
    (ap (λ front. front ++ drop (length c.text_from-text.result.now) c.args.out.now) c.copy_from_slice.ensures.after))
    (c.in-Ok.ensures.reads (length c.args.out.now))
