use Rattle.std.proofs.Common.{◌∙◌, subst}
use Rattle.kf_shared.specs.Finding.{PathHolderState}
use Rattle.kf_handles.specs.Lookers.{MakesNone}
use Rattle.kf_handles.proofs.looking.pin_by.Goals as goal

-- why the looker makes no hold of the key
pub returns-in-Err-clause-refused : goal.returns-in-Err-clause-refused
returns-in-Err-clause-refused c =
    let Why : PathHolderState → Type 0 = λ l. MakesNone l.holds.by c.args.key c.pin.new.self.by c.in-Err.refusal in
    rw c.in-Looker.is (subst Why (c.behind-looker.view_is ∙ c.as_mut.ensures.value) (c.in-Err.ensures.refused, c.in-Err.ensures.beyond))
