use Rattle.std.proofs.Common.{◌-◌, ◌+◌, subst, arith}
use Rattle.std.proofs.lemmas.Result.{on_ok_weaker, IfErr-weaker}
use Rattle.kf_index.specs.Chunks.{ReachTo}
use Rattle.kf_index.proofs.Belongs.{rising_after, lower_front}
use Rattle.kf_index.proofs.Chunked.{put_behind, refused_behind}
use Rattle.kf_index.proofs.chunks.put.Goals as goal

pub put_later-requires-clause-rising : goal.put_later-requires-clause-rising
put_later-requires-clause-rising c = rising_after c.args.first.now _ c.requires.rising

pub returns-clause-put : goal.returns-clause-put
returns-clause-put c =
    let reach = subst (ReachTo c.args.later.now.items c.args.name) {x = c.chunks_to-count.result} {y = c.chunks_to-count.result - 1 + 1} (omega (arith, c.if-count-eq0.false))
    (rw (c.deref.ensures.value, c.bytes.ensures.same) at c.chunks_to-count.ensures.known) in
    let lower = lower_front c.args.first.now c.args.later.now.items (c.chunks_to-count.result - 1) c.args.name c.requires.rising c.requires.some reach in
    on_ok_weaker c.put_later.result (put_behind c.args.first.now _ c.args.name lower c.args.key _) c.put_later.ensures.put

pub returns-clause-refused : goal.returns-clause-refused
returns-clause-refused c =
    let reach = subst (ReachTo c.args.later.now.items c.args.name) {x = c.chunks_to-count.result} {y = c.chunks_to-count.result - 1 + 1} (omega (arith, c.if-count-eq0.false))
    (rw (c.deref.ensures.value, c.bytes.ensures.same) at c.chunks_to-count.ensures.known) in
    let lower = lower_front c.args.first.now c.args.later.now.items (c.chunks_to-count.result - 1) c.args.name c.requires.rising c.requires.some reach in
    IfErr-weaker c.put_later.result _ _ (refused_behind c.args.first.now _ c.args.name lower) c.put_later.ensures.refused
