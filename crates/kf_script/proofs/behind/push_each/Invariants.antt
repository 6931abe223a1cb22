use Rattle.std.proofs.Common.{◌≡◌, ◌+◌, ◌++◌, take, vec_len, vec_capacity}
use Rattle.kf_script.proofs.behind.push_each.Given as goal

-- the bytes so far come after the others
abbrev pub invariant-loop-byte : goal.invariant-loop-byte
invariant-loop-byte l = (l.text.items ≡ l.fn.text.items ++ take l.byte-index l.bytes)
    × (vec_len l.text ≡ vec_len l.fn.text + l.byte-index)
    × (vec_capacity l.text ≡ vec_capacity l.fn.text)
