-- A caller that waits holds the key, so the key is the last of its slot, and the slot's count of references
-- says whether somebody has one to the node.
use Rattle.std.proofs.Common.{sym, ◌∙◌}
use Rattle.std.proofs.lemmas.Bool.Decides.{Decides-eqb}
use Rattle.kf_world.proofs.CallerCounts.{unused_exact}
use Rattle.kf_core.proofs.Keeping.{waiting_holds}
use Rattle.kf_world.proofs.world.World.sees_drain.Goals as goal

pub returns-then-is_doomed : goal.returns-then-is_doomed
returns-then-is_doomed c =
    let waits = sym c.is_waiting.ensures.known ∙ c.if-not-is_waiting.false in
    let last = c.counts_of.ensures.safe.held_last c.requires.there.0 c.args.key c.args.phase c.requires.there.1 (waiting_holds c.args.phase waits) in
    let exact = unused_exact c.args.self.now.world c.args.key c.counts_of.ensures.safe last in (
      (λ told. (waits, sym c.is_doomed.ensures ∙ c.if-is_doomed.true, exact.0 (sym c.counts_of.ensures.references ∙ (Decides-eqb c.counts_of.result.references 0).0 told))),
      (λ p. (Decides-eqb c.counts_of.result.references 0).1 (c.counts_of.ensures.references ∙ exact.1 p.2)),
    )
