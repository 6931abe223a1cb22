use Rattle.std.proofs.Common.{take, drop, sym, take-append-drop}
use Rattle.kf_script.proofs.output.write_whole.Goals as goal

pub returns-then-give-bytes-clause-written : goal.returns-then-give-bytes-clause-written
returns-then-give-bytes-clause-written g c =
    let bytes = c.args.bytes.now in
    (take c.give.result bytes, (drop c.give.result bytes, sym (take-append-drop c.give.result bytes)), c.give.ensures.written)
