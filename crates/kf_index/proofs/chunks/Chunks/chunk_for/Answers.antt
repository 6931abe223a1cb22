use Rattle.std.proofs.Common.{sym, subst}
use Rattle.std.proofs.lemmas.List.{take_rest}
use Rattle.kf_index.specs.Pairs.{IsRising}
use Rattle.kf_index.proofs.Belongs.{part_first, part_counted}
use Rattle.kf_index.proofs.chunks.Chunks.chunk_for.Goals as goal

pub returns-then-count-eq0-clause-part : goal.returns-then-count-eq0-clause-part
returns-then-count-eq0-clause-part c =
    let rising = subst IsRising (sym c.self.view_is) c.requires.rising in
    let reach = rw (c.deref.ensures.value, c.if-count-eq0.true) at c.chunks_to-count.ensures.known in
    rw (c.deref-then-count-eq0.ensures.value, ← c.self.view_is) (part_first _ _ _ rising c.self.invariant.1.1.0 reach)

pub returns-clause-part : goal.returns-clause-part
returns-clause-part c =
    let rising = subst IsRising (sym c.self.view_is) c.requires.rising in
    let reach = rw c.deref.ensures.value at c.chunks_to-count.ensures.known in
    rw (take_rest, c.deref-2.ensures.value, ← c.self.view_is) (part_counted _ _ _ _ _ rising c.self.invariant.1.1.0 c.if-count-eq0.false reach c.index.ensures)
