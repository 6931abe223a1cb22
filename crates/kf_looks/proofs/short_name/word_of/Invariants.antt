use Rattle.std.proofs.Common.{◌≡◌, ◌<◌, ◌^◌, ◌++◌, ℕ, List, take}
use Rattle.kf_looks.specs.ShortNames.{bytes_before}
use Rattle.kf_looks.proofs.short_name.word_of.Given as goal

-- the word has exactly the bytes so far
abbrev pub invariant-loop-byte : goal.invariant-loop-byte
invariant-loop-byte l = record {
  bytes : (later : List ℕ) → bytes_before l.byte-index l.word later ≡ take l.byte-index l.bytes ++ later;
  below : l.word < 256 ^ l.byte-index;
}
