use Rattle.std.proofs.Common.{◌<◌, ◌≡◌, ◌+◌, length, arith, rules}
use Rattle.std.proofs.lemmas.List.{length-map}
use Rattle.kf_script.specs.Lines.{lines_of}
use Rattle.kf_rounds.specs.Seats.{board_of, boards}
use Rattle.kf_workers.proofs.Weaker.{replied_so}
use Rattle.kf_workers.proofs.run.run_seats.Goals as goal

pub returns : goal.returns
returns g c =
    let seats = c.as_mut_slice.result.now in
    let all : length seats ≡ c.args.workers + 1 = search rules in
    let same : length (boards seats) ≡ length seats = length-map seats board_of in
    let some : 0 < length (boards seats) = omega (arith, all, same) in
    replied_so _ c.args.workers (lines_of c.args.script.now) (boards seats) _ c.in_ok-out.out.items some c.in_ok-out.ensures.replied
