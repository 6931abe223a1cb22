use Rattle.std.proofs.Common.{ℕ, ◌<◌, List, ◌∷◌, get_or, sym, ◌∙◌, arith}
use Rattle.kf_looks.proofs.Unpacked.{one_more, below_more, room, take_more}
use Rattle.kf_looks.proofs.short_name.word_of.Goals as goal

pub overflow_mul-word : goal.overflow_mul-word
overflow_mul-word c = let few = c.requires in let r = room c.loop-byte.byte-index c.loop-byte.word (omega arith) c.loop-byte.invariant.below in omega (arith, r)

pub overflow_add-word : goal.overflow_add-word
overflow_add-word c = let few = c.requires in let r = room c.loop-byte.byte-index c.loop-byte.word (omega arith) c.loop-byte.invariant.below in let small = c.type_inv.bytes c.loop-byte.byte-index in omega (arith, r, small)

pub loop-byte-preserved : goal.loop-byte-preserved
loop-byte-preserved c =
    let xs : List ℕ = c.args.bytes.now in let i : ℕ = c.loop-byte.byte-index in let word : ℕ = c.loop-byte.word in
    let small : get_or xs i 0 < 256 = omega (arith, c.type_inv.bytes i) in
    record {
      bytes = λ later. one_more i word (get_or xs i 0) later small
          ∙ (c.loop-byte.invariant.bytes (get_or xs i 0 ∷ later) ∙ sym (take_more xs i later c.loop-byte-test.true));
      below = below_more i word (get_or xs i 0) c.loop-byte.invariant.below small;
    }
