use Rattle.std.proofs.Common.{refl, subst}
use Rattle.kf_core.specs.declared.refusal.Refusal.TheVariants.{NoMemory}
use Rattle.kf_handles.specs.Lookers.{LookerRefused}
use Rattle.kf_handles.specs.declared.object.Place.{Place}
use Rattle.kf_handles.proofs.Refusals.{looker_wants_memory}
use Rattle.kf_handles.proofs.looking.looker.Goals as goal

-- the looker was made, but there was no memory for its box
pub returns-clause-why : goal.returns-clause-why
returns-clause-why c = λ empty refused.
    let Why : Place → Type 0 = λ p. LookerRefused p.object c.looker_of.new.object NoMemory in (
      NoMemory,
      subst Why c.place_mut.ensures.value
          (looker_wants_memory c.place_mut.result.now.object c.looker_of.new.object c.in-Ok.looker c.in-Ok.ensures.made c.in-Ok.ensures.tree),
      refl,
    )
