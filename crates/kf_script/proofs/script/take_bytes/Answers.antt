-- What the bytes of one read do to the lines.
use Rattle.std.proofs.Common.{◌≡◌, ◌+◌, ◌++◌, ◌∷◌, [], ℕ, List, Some, take, drop, position, sym, ap, ◌∙◌, append_assoc, append-nil, refl}
use Rattle.std.proofs.lemmas.List.{take_rest}
use Rattle.std.proofs.lemmas.Result.{err_from_is_err_and}
use Rattle.kf_script.specs.Lines.{is_newline}
use Rattle.kf_script.proofs.Places.{around, all_before, all_fail}
use Rattle.kf_script.proofs.Running.{running-bytes, stopped-more}
use Rattle.kf_script.proofs.Kept.{grows-none, grows-trans}
use Rattle.kf_script.proofs.script.take_bytes.Goals as goal

-- the bytes up to the first newline of the rest, and those after it
past_newline : (all done rest : List ℕ) (at : ℕ) → all ≡ done ++ rest → Some at ≡ position is_newline rest
    → all ≡ (done ++ (take at rest ++ 10 ∷ [])) ++ drop (at + 1) rest
past_newline all done rest at e found =
    e ∙ ap (λ l. done ++ l) (around 10 rest at found) ∙ sym (append_assoc done (take at rest ++ 10 ∷ []) (drop (at + 1) rest))

pub loop-at-preserved : goal.loop-at-preserved
loop-at-preserved g c =
    let (done, split, runs, lent, grew) = c.loop-at.invariant in
    let rest = c.loop-at.rest.now in
    let at = c.in-Some.at in (
      done ++ (take at rest ++ 10 ∷ []),
      past_newline _ done rest at split c.in-Some.ensures ∙ ap (λ l. (done ++ (take at rest ++ 10 ∷ [])) ++ l) (sym (take_rest rest (at + 1))),
      λ first read start s.
          let more = c.in_ok-take_line.ensures.runs first (read ++ done) start (runs first read start s) in
          rw (append_assoc read done (take at rest ++ 10 ∷ [])) at more,
      c.in_ok-take_line.ensures.lent ∙ lent,
      grows-trans _ _ _ grew c.in_ok-take_line.ensures.grew,
    )

pub loop-at-init : goal.loop-at-init
loop-at-init g c = ([], refl, λ first read start s. rw append-nil s, refl, grows-none _)

pub take_line-requires : goal.take_line-requires
take_line-requires g c = all_before is_newline c.loop-at.rest.now c.in-Some.at c.in-Some.ensures

pub returns-in_err-take_line-clause-runs : goal.returns-in_err-take_line-clause-runs
returns-in_err-take_line-clause-runs g c = λ first read start s.
    let (done, split, runs, lent, grew) = c.loop-at.invariant in
    let p = err_from_is_err_and c.from_residual.result c.from_residual.ensures.1 in
    let rest = c.loop-at.rest.now in
    let at = c.in-Some.at in
    let taken = done ++ (take at rest ++ 10 ∷ []) in
    let stopped = c.in_err-take_line.ensures.runs first (read ++ done) start (runs first read start s) in
    let here = rw (append_assoc read done (take at rest ++ 10 ∷ [])) at stopped in
    let later = stopped-more (read ++ taken) (drop (at + 1) rest) here in
    let whole : (read ++ taken) ++ drop (at + 1) rest ≡ read ++ c.args.bytes.now =
    append_assoc read taken (drop (at + 1) rest) ∙ ap (λ l. read ++ l) (sym (past_newline _ done rest at split c.in-Some.ensures)) in
    rw p.1 (rw whole at later)

pub returns-clause-runs : goal.returns-clause-runs
returns-clause-runs g c = λ first read start s.
    let (done, split, runs, lent, grew) = c.loop-at.invariant in
    let rest = c.loop-at.rest.now in
    let more = running-bytes rest (all_fail is_newline rest c.in_default.ensures) (runs first read start s) in
    let whole : (read ++ done) ++ rest ≡ read ++ c.args.bytes.now = append_assoc read done rest ∙ ap (λ l. read ++ l) (sym split) in
    rw c.extend.ensures (rw whole at more)

pub returns-in_err-take_line-clause-grew : goal.returns-in_err-take_line-clause-grew
returns-in_err-take_line-clause-grew g c =
    let (done, split, runs, lent, grew) = c.loop-at.invariant in
    grows-trans _ _ _ grew c.in_err-take_line.ensures.grew

pub returns-clause-grew : goal.returns-clause-grew
returns-clause-grew g c =
    let (done, split, runs, lent, grew) = c.loop-at.invariant in
    grew
