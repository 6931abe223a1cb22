use Rattle.std.proofs.Common.{rules, ◌≡◌, ℕ, List, [], ◌++◌, take, ap, ◌∙◌, subst, append-nil, refl}
use Rattle.std.specs.Io.KnownBytes.{Consumes}
use Rattle.std.proofs.KnownBytes.{Consumes-nil, Consumes-trans, Consumes-kept}
use Rattle.kf_script.proofs.Running.{running-start, running-ended, stopped-here, end-answered, end-stopped}
use Rattle.kf_script.proofs.Kept.{answered-all, answered-kept, cut-reached, cut-running, flushed-cut, flushed-ok, grown-given, grows-none, grows-trans, running-kept, running-known, same-given}
use Rattle.kf_script.proofs.script.read_lines.Goals as goal

-- no bytes are left
no_more : (read bytes : List ℕ) (n : ℕ) → n ≡ 0 → read ++ take n bytes ≡ read
no_more read bytes n e = ap (λ k. read ++ take k bytes) e ∙ append-nil read

pub reads-init : goal.reads-init
reads-init g c = ([], Consumes-nil _, running-known _ _ _ c.requires.unkept (running-start _ c.requires.unread), refl, refl, grows-none _)

pub reads-preserved : goal.reads-preserved
reads-preserved g c =
    let (read, took, running, same_reader, same_writer, grew) = c.reads.invariant in
    let lent = rw (← c.read.ensures.output) at c.flush.ensures.lent in
    let given = rw (← c.read.ensures.output) at c.flush.ensures.given in
    let (more, last) = c.in-Ok.ensures.bytes in
    let here = running-kept _ _ _ (same-given _ _ _ _ given) running in (
      _,
      Consumes-trans _ _ _ _ _ took more,
      c.in_ok-take_bytes.ensures.runs _ _ _ here,
      c.in-Ok.ensures.lent ∙ same_reader,
      c.in_ok-take_bytes.ensures.lent ∙ lent ∙ same_writer,
      grows-trans _ _ _ (grows-trans _ _ _ grew (grown-given _ _ _ _ given)) c.in_ok-take_bytes.ensures.grew,
    )

-- The search here is short: if the goal does not hold, the search ends at once.
pub read-requires-clause-told : goal.read-requires-clause-told
read-requires-clause-told g c = search rules

pub returns-in_err-flush-clause-write : goal.returns-in_err-flush-clause-write
returns-in_err-flush-clause-write g c = λ _.
    let (read, took, running, same_reader, same_writer, grew) = c.reads.invariant in
    (read, took, cut-reached _ _ _ (grows-trans _ _ _ grew (grown-given _ _ _ _ c.flush.ensures.given)) (cut-running _ _ (running-kept _ _ _ (same-given _ _ _ _ c.flush.ensures.given) running)))

pub returns-in_err-end_line-in-Ok-eq0-clause-write :
    goal.returns-in_err-end_line-in-Ok-eq0-clause-write
returns-in_err-end_line-in-Ok-eq0-clause-write g c = λ _.
    let (read, took, running, same_reader, same_writer, grew) = c.reads.invariant in
    let given = rw (← c.read.ensures.output) at c.flush.ensures.given in
    let (more, last) = c.in-Ok-eq0.ensures.bytes in
    let all = subst (Consumes _ _) (no_more read c.read.new.chunk c.in-Ok-eq0.field-0 c.in-Ok-eq0.field-0-test) (Consumes-trans _ _ _ _ _ took more) in
    let here = running-kept _ _ _ (same-given _ _ _ _ given) running in
    let stopped = c.in_err-end_line-in-Ok-eq0.ensures.answered here.pending (c.get.ensures.line ∙ here.buffered) in
    (read, all, cut-reached _ _ _ (grows-trans _ _ _ (grows-trans _ _ _ grew (grown-given _ _ _ _ given)) c.end_line.ensures.grew) (end-stopped _ _ _ _ here stopped))

pub returns-in-Ok-eq0-clause-ok : goal.returns-in-Ok-eq0-clause-ok
returns-in-Ok-eq0-clause-ok g c =
    let (read, took, running, same_reader, same_writer, grew) = c.reads.invariant in
    let given = rw (← c.read.ensures.output) at c.flush.ensures.given in
    let (more, last) = c.in-Ok-eq0.ensures.bytes in
    let all = subst (Consumes _ _) (no_more read c.read.new.chunk c.in-Ok-eq0.field-0 c.in-Ok-eq0.field-0-test) (Consumes-trans _ _ _ _ _ took more) in
    let here = running-kept _ _ _ (same-given _ _ _ _ given) running in
    let answered = c.in_ok-end_line-in-Ok-eq0.ensures.answered here.pending (c.get.ensures.line ∙ here.buffered) in
    let told = answered-kept _ _ _ (same-given _ _ _ _ c.flush-in-Ok-eq0.ensures.given) (end-answered _ _ _ _ here answered) in
    flushed-ok read _ _ _ _ _ c.flush-in-Ok-eq0.result c.flush-in-Ok-eq0.ensures.empty told all (last c.in-Ok-eq0.field-0-test)

pub returns-in-Ok-eq0-clause-write : goal.returns-in-Ok-eq0-clause-write
returns-in-Ok-eq0-clause-write g c = λ _.
    let (read, took, running, same_reader, same_writer, grew) = c.reads.invariant in
    let given = rw (← c.read.ensures.output) at c.flush.ensures.given in
    let (more, last) = c.in-Ok-eq0.ensures.bytes in
    let all = subst (Consumes _ _) (no_more read c.read.new.chunk c.in-Ok-eq0.field-0 c.in-Ok-eq0.field-0-test) (Consumes-trans _ _ _ _ _ took more) in
    let here = running-kept _ _ _ (same-given _ _ _ _ given) running in
    let answered = c.in_ok-end_line-in-Ok-eq0.ensures.answered here.pending (c.get.ensures.line ∙ here.buffered) in
    let told = answered-kept _ _ _ (same-given _ _ _ _ c.flush-in-Ok-eq0.ensures.given) (end-answered _ _ _ _ here answered) in
    flushed-cut read _ _ _ _ _ told (grows-trans _ _ _ (grows-trans _ _ _ (grows-trans _ _ _ grew (grown-given _ _ _ _ given)) c.end_line.ensures.grew) (grown-given _ _ _ _ c.flush-in-Ok-eq0.ensures.given)) all

pub returns-in-Err-clause-read : goal.returns-in-Err-clause-read
returns-in-Err-clause-read g c = λ _.
    let (read, took, running, same_reader, same_writer, grew) = c.reads.invariant in
    let empty = rw (← c.read.ensures.output) at c.in_ok-flush.ensures.empty in
    let given = rw (← c.read.ensures.output) at c.flush.ensures.given in
    let here = running-kept _ _ _ (same-given _ _ _ _ given) running in
    (read, Consumes-kept _ _ _ read took c.in-Err.ensures.bytes, answered-all _ _ _ empty (running-ended here))

pub returns-in_err-take_bytes-clause-write : goal.returns-in_err-take_bytes-clause-write
returns-in_err-take_bytes-clause-write g c = λ _.
    let (read, took, running, same_reader, same_writer, grew) = c.reads.invariant in
    let given = rw (← c.read.ensures.output) at c.flush.ensures.given in
    let (more, last) = c.in-Ok.ensures.bytes in
    let here = running-kept _ _ _ (same-given _ _ _ _ given) running in
    let stopped = stopped-here (read ++ take c.in-Ok.count c.read.new.chunk) (c.in_err-take_bytes.ensures.runs _ _ _ here) in
    (_, Consumes-trans _ _ _ _ _ took more, cut-reached _ _ _ (grows-trans _ _ _ (grows-trans _ _ _ grew (grown-given _ _ _ _ given)) c.in_err-take_bytes.ensures.grew) stopped)
