use Rattle.std.proofs.Common.{[], sym, ◌∙◌, subst}
use Rattle.std.proofs.lemmas.List.{get_or_read, get_or-set_same}
use Rattle.kf_index.specs.Pairs.{IsRising}
use Rattle.kf_index.specs.Chunks.{LacksName, IsTakenOut}
use Rattle.kf_index.proofs.Joined.{joined_remove}
use Rattle.kf_index.proofs.Chunked.{within_later, rising_later, lacks_in_later, taken_in_later}
use Rattle.kf_index.proofs.chunks.take_later.Goals as goal

pub remove_from-requires : goal.remove_from-requires
remove_from-requires c =
    let within = within_later c.args.later.now.items c.args.chunk c.args.name.now c.requires.rising c.requires.some c.requires.here in
    let read = get_or_read c.args.later.now.items c.args.chunk c.index_mut.result.now within c.index_mut.ensures.value [] in
    record { rising = subst IsRising (sym read) (rising_later _ _ c.args.name.now c.requires.rising c.requires.some c.requires.here) }

pub returns-in_err-key-clause-absent : goal.returns-in_err-key-clause-absent
returns-in_err-key-clause-absent c =
    let within = within_later c.args.later.now.items c.args.chunk c.args.name.now c.requires.rising c.requires.some c.requires.here in
    let read = get_or_read c.args.later.now.items c.args.chunk c.index_mut.result.now within c.index_mut.ensures.value [] in
    let lacks = subst (λ old. LacksName old c.args.name.now) read c.in_err-key.ensures.absent in
    rw c.from_residual.ensures (lacks_in_later _ _ _ c.requires.rising c.requires.some c.requires.here lacks)

pub returns-then-is_empty-clause-taken : goal.returns-then-is_empty-clause-taken
returns-then-is_empty-clause-taken c =
    let within = within_later c.args.later.now.items c.args.chunk c.args.name.now c.requires.rising c.requires.some c.requires.here in
    let read = get_or_read c.args.later.now.items c.args.chunk c.index_mut.result.now within c.index_mut.ensures.value [] in
    let out = subst (λ old. IsTakenOut old c.args.name.now c.in_ok-key.key c.remove_from.new.chunk) read c.in_ok-key.ensures.taken in
    let none = sym (get_or-set_same c.args.later.now.items c.args.chunk c.remove_from.new.chunk c.index.result.now within) ∙ sym c.index.ensures
    ∙ sym c.all.ensures.listed ∙ c.is_empty.ensures.known.0 c.if-is_empty.true in
    rw (c.thin.ensures.same, c.remove.ensures.items, joined_remove c.args.later.now.items c.args.chunk c.remove_from.new.chunk none within)
    (taken_in_later _ _ _ c.requires.rising c.requires.some c.requires.here _ _ out)

pub returns-else-is_empty-clause-taken : goal.returns-else-is_empty-clause-taken
returns-else-is_empty-clause-taken c =
    let within = within_later c.args.later.now.items c.args.chunk c.args.name.now c.requires.rising c.requires.some c.requires.here in
    let read = get_or_read c.args.later.now.items c.args.chunk c.index_mut.result.now within c.index_mut.ensures.value [] in
    let out = subst (λ old. IsTakenOut old c.args.name.now c.in_ok-key.key c.remove_from.new.chunk) read c.in_ok-key.ensures.taken in
    taken_in_later _ _ _ c.requires.rising c.requires.some c.requires.here _ _ out
