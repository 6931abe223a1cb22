use Rattle.std.proofs.Common.{◌≡◌, ◌≤◌, ◌∙◌, arith, subst, sym, refl}
use Rattle.std.specs.Prelude.{Some, IsSome}
use Rattle.std.specs.Str.Parse.{ParsesUnsigned, ExplainsUnsignedError, HasUnsignedDigitsIfOk}
use Rattle.kf_core.specs.Limits.{most_slots}
use Rattle.clap.specs.Words.{without_minus}
use Rattle.clap.proofs.CallerReads.{signed_reads}
use Rattle.kf_run.proofs.arguments.slots_in.Goals as goal

pub unwrap-requires : goal.unwrap-requires
unwrap-requires c =
    let t = c.requires.given in
    let n = signed_reads _ (λ bs r. ParsesUnsigned 32 10 bs r × ExplainsUnsignedError 10 bs r × HasUnsignedDigitsIfOk bs r) 32 1 most_slots t.0 c.get_one.result
    (c.get_one.ensures.value (without_minus t.0) t.1) (λ u x g. g.0) (omega arith) t.2 in
    subst IsSome (sym n.1) refl

pub returns : goal.returns
returns c =
    let t = c.requires.given in
    let read = c.get_one.ensures.value (without_minus t.0) t.1 in
    let n = signed_reads _ (λ bs r. ParsesUnsigned 32 10 bs r × ExplainsUnsignedError 10 bs r × HasUnsignedDigitsIfOk bs r) 32 1 most_slots t.0 c.get_one.result read (λ u x g. g.0) (omega arith) t.2 in
    let same : Some n.0 ≡ Some c.unwrap.result = sym n.1 ∙ c.unwrap.ensures in
    let is : n.0 ≡ c.unwrap.result = cc in
    let got = rw c.unwrap.ensures at read in
    record { value = (without_minus t.0, t.1, got.0.1); some = subst (λ v. 1 ≤ v) is n.2; few = subst (λ v. v ≤ most_slots) is n.3 }
