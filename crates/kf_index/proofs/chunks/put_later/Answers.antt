use Rattle.std.proofs.Common.{[], length, sym, ap, subst, arith}
use Rattle.std.proofs.lemmas.List.{get_or_read}
use Rattle.std.proofs.lemmas.Result.{err_from_is_err_and}
use Rattle.kf_index.specs.Pairs.{Pairs, IsRising}
use Rattle.kf_index.specs.Chunks.{IsPut, WasRefused}
use Rattle.kf_index.proofs.Chunked.{within_later, rising_later, few_later, put_in_later, refused_in_later, some_set}
use Rattle.kf_index.proofs.chunks.put_later.Goals as goal

pub insert_into-requires-clause-rising : goal.insert_into-requires-clause-rising
insert_into-requires-clause-rising c =
    let within = within_later c.args.later.now.items c.args.chunk c.args.name c.requires.rising c.requires.some c.requires.here in
    let read = get_or_read c.args.later.now.items c.args.chunk c.index_mut.result.now within c.index_mut.ensures.value [] in
    subst IsRising (sym read) (rising_later _ _ c.args.name c.requires.rising c.requires.some c.requires.here)

pub insert_into-requires-clause-few : goal.insert_into-requires-clause-few
insert_into-requires-clause-few c =
    let within = within_later c.args.later.now.items c.args.chunk c.args.name c.requires.rising c.requires.some c.requires.here in
    let read = get_or_read c.args.later.now.items c.args.chunk c.index_mut.result.now within c.index_mut.ensures.value [] in
    omega (arith, ap (λ (l : Pairs). length l) read, few_later _ _ c.args.name c.requires.rising c.requires.some c.requires.here, c.requires.few)

pub returns-in_err-insert_into-clause-refused : goal.returns-in_err-insert_into-clause-refused
returns-in_err-insert_into-clause-refused c =
    let within = within_later c.args.later.now.items c.args.chunk c.args.name c.requires.rising c.requires.some c.requires.here in
    let read = get_or_read c.args.later.now.items c.args.chunk c.index_mut.result.now within c.index_mut.ensures.value [] in
    let p = err_from_is_err_and c.from_residual.result c.from_residual.ensures.1 in
    let why = subst (λ old. WasRefused old c.args.name c.in_err-insert_into.field-0.0) read c.in_err-insert_into.ensures.refused in
    rw (p.1, p.2) (refused_in_later _ _ _ c.requires.rising c.requires.some c.requires.here _ why)

pub split_later-requires-clause-some : goal.split_later-requires-clause-some
split_later-requires-clause-some c =
    let within = within_later c.args.later.now.items c.args.chunk c.args.name c.requires.rising c.requires.some c.requires.here in
    let read = get_or_read c.args.later.now.items c.args.chunk c.index_mut.result.now within c.index_mut.ensures.value [] in
    let put = subst (λ old. IsPut old c.args.name c.args.key c.insert_into.new.chunk) read c.in_ok-insert_into.ensures.put in
    some_set _ _ _ c.requires.rising c.requires.some c.requires.here _ _ put

pub returns-clause-put : goal.returns-clause-put
returns-clause-put c =
    let within = within_later c.args.later.now.items c.args.chunk c.args.name c.requires.rising c.requires.some c.requires.here in
    let read = get_or_read c.args.later.now.items c.args.chunk c.index_mut.result.now within c.index_mut.ensures.value [] in
    let put = subst (λ old. IsPut old c.args.name c.args.key c.insert_into.new.chunk) read c.in_ok-insert_into.ensures.put in
    rw c.split_later.ensures.same (put_in_later _ _ _ c.requires.rising c.requires.some c.requires.here _ _ put)
