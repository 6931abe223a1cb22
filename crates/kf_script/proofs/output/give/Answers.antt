-- The bytes are given to the writer in several writes, each of which writes the front of what is left.
use Rattle.std.proofs.Common.{◌≡◌, ◌≤◌, ◌-◌, ◌+◌, ◌++◌, ℕ, List, length, take, drop, sym, ap, ◌∙◌, subst, arith, length-drop}
use Rattle.std.proofs.Math.Seq.{take-add}
use Rattle.std.proofs.lemmas.List.{take_rest}
use Rattle.std.specs.Io.KnownBytes.{Appends}
use Rattle.std.proofs.KnownBytes.{Appends-trans}
use Rattle.kf_script.proofs.output.give.Goals as goal

-- the front that was written and then the front of the rest are a longer front
further : (bytes : List ℕ) (given n : ℕ) → take given bytes ++ take n (take (length bytes - given) (drop given bytes)) ≡ take (given + n) bytes
further bytes given n =
    ap (λ l. take given bytes ++ take n l) (take_rest bytes given) ∙ sym (take-add given n bytes)

pub loop-given-preserved : goal.loop-given-preserved
loop-given-preserved g c =
    let (inside, appended) = c.loop-given.invariant in
    let given = c.loop-given.given in
    let n = c.in-Ok.count in
    let bytes = c.args.bytes.now in
    let fits = subst (λ l. n ≤ length l) (take_rest bytes given) c.in-Ok.ensures.bound in
    let inside_more : given + n ≤ length bytes = omega (arith, inside, fits, length-drop given bytes) in
    (inside_more, subst (Appends _ _) (further bytes given n) (Appends-trans _ _ _ _ _ appended c.in-Ok.ensures.bytes))
