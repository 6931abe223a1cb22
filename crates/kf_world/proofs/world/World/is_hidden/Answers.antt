-- A caller that hides a key holds it, so the key is the last of its slot.
use Rattle.std.proofs.Common.{◌≡◌, ◌<◌, ◌≤◌, length, ap, sym, ◌∙◌, subst, arith, true, false}
use Rattle.std.proofs.lemmas.Bool.Decides.{Decides-ltb, Decides-eqb}
use Rattle.kf_core.specs.Safe.{Safe}
use Rattle.std.specs.Prelude.{slice_get, Some}
use Rattle.kf_world.specs.Bounded.{BoundedWorld}
use Rattle.kf_world.specs.Counts.{hiders}
use Rattle.kf_core.proofs.Lists.{past_end}
use Rattle.kf_world.proofs.Kept.{none_last, other_last}
use Rattle.kf_core.proofs.Tallies.{same_bool}
use Rattle.kf_world.proofs.CallerCounts.{hidden_exact, past_shown}
use Rattle.kf_world.proofs.world.World.is_hidden.Goals as goal

pub returns-then-state-key : goal.returns-then-state-key
returns-then-state-key c =
    let safe = subst (λ (b : BoundedWorld). Safe b.world) c.self.view_is c.self.invariant.safe in
    let is = subst (λ l. slice_get l c.args.key.slot ≡ Some c.in-Some.state) (ap (λ (b : BoundedWorld). b.world.slots) c.self.view_is) (sym c.get.ensures.known ∙ c.in-Some.is) in
    let exact = hidden_exact c.args.self.now.world c.args.key safe (c.in-Some.state, is, c.if-state-key.true) in
    let same = c.counts_of.ensures.hiders in
    same_bool _ _
    (λ told. let some : 0 < c.counts_of.result.hiders = (Decides-ltb 0 c.counts_of.result.hiders).0 told in exact.0 (omega arith))
    (λ hidden. let some : 1 ≤ hiders c.args.self.now.world c.args.key.slot = exact.1 hidden in (Decides-ltb 0 c.counts_of.result.hiders).1 (omega arith))

pub returns-else-state-key : goal.returns-else-state-key
returns-else-state-key c =
    let safe = subst (λ (b : BoundedWorld). Safe b.world) c.self.view_is c.self.invariant.safe in
    let is = subst (λ l. slice_get l c.args.key.slot ≡ Some c.in-Some.state) (ap (λ (b : BoundedWorld). b.world.slots) c.self.view_is) (sym c.get.ensures.known ∙ c.in-Some.is) in
    same_bool _ _
    (λ told. absurd (c.if-state-key.false ((Decides-eqb _ _).0 told)))
    (λ hidden. absurd (let x : false ≡ true = sym (past_shown c.args.self.now.world c.args.key safe (other_last c.args.self.now.world c.args.key c.in-Some.state is c.if-state-key.false)) ∙ hidden in cc))

pub returns-in-None : goal.returns-in-None
returns-in-None c =
    let safe = subst (λ (b : BoundedWorld). Safe b.world) c.self.view_is c.self.invariant.safe in
    let past = subst (λ xs. length xs ≤ c.args.key.slot) (ap (λ (b : BoundedWorld). b.world.slots) c.self.view_is) (past_end _ _ (sym c.get.ensures.known ∙ c.in-None.is)) in
    sym (past_shown c.args.self.now.world c.args.key safe (none_last c.args.self.now.world c.args.key past))
