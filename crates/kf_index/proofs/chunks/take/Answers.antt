use Rattle.std.proofs.Common.{◌-◌, ◌+◌, subst, arith}
use Rattle.kf_index.specs.Chunks.{ReachTo}
use Rattle.kf_index.proofs.Belongs.{rising_after, lower_front}
use Rattle.kf_index.proofs.Chunked.{taken_behind, lacks_behind}
use Rattle.kf_index.proofs.chunks.take.Goals as goal

pub take_later-requires-clause-rising : goal.take_later-requires-clause-rising
take_later-requires-clause-rising c = rising_after c.args.first.now _ c.requires.rising

pub returns-clause-taken : goal.returns-clause-taken
returns-clause-taken c = taken_behind c.args.first.now _ _ _ c.take_later.result c.take_later.ensures.taken

pub returns-clause-absent : goal.returns-clause-absent
returns-clause-absent c =
    let reach = subst (ReachTo c.args.later.now.items c.args.name.now) {x = c.chunks_to-count.result} {y = c.chunks_to-count.result - 1 + 1} (omega (arith, c.if-count-eq0.false))
    (rw (c.deref.ensures.value) at c.chunks_to-count.ensures.known) in
    let lower = lower_front c.args.first.now c.args.later.now.items (c.chunks_to-count.result - 1) c.args.name.now c.requires.rising c.requires.some reach in
    lacks_behind c.args.first.now _ _ lower c.take_later.result c.take_later.ensures.absent
