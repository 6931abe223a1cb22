-- A caller holds the key, so the key is the last of its slot, and the slot's count of references says whether
-- somebody has one to the node.
use Rattle.std.proofs.Common.{sym, ◌∙◌}
use Rattle.std.proofs.lemmas.Bool.Decides.{Decides-eqb}
use Rattle.kf_world.proofs.CallerCounts.{unused_exact}
use Rattle.kf_world.proofs.world.World.is_unused.Goals as goal

pub returns : goal.returns
returns c =
    let last = c.counts_of-counts.ensures.safe.held_last c.requires.there.0 c.args.key c.args.phase c.requires.there.1 c.requires.holds in
    let exact = unused_exact c.args.self.now.world c.args.key c.counts_of-counts.ensures.safe last in (
      (λ told. exact.0 (sym c.counts_of-counts.ensures.references ∙ (Decides-eqb c.counts_of-counts.result.references 0).0 told)),
      (λ none. (Decides-eqb c.counts_of-counts.result.references 0).1 (c.counts_of-counts.ensures.references ∙ exact.1 none)),
    )
