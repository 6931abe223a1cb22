use Rattle.std.proofs.Common.{◌≡◌, ◌≤◌, None, replicate, vec_len, vec_capacity}
use Rattle.kf_handles.proofs.tokens.no_tokens.Given as goal

abbrev pub invariant-loop : goal.invariant-loop
invariant-loop l = (l.tokens.items ≡ replicate l.counter None) × (vec_len l.tokens ≡ l.counter)
    × (l.slots ≤ vec_capacity l.tokens)
