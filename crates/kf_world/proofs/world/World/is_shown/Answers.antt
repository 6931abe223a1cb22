-- A live node has the last key of its slot, so a caller that hides the slot's key hides this node.
use Rattle.std.proofs.Common.{ap, ◌∙◌, nat_eq}
use Rattle.kf_core.proofs.Keeping.{live_last}
use Rattle.kf_world.proofs.CallerCounts.{shown_exact}
use Rattle.kf_world.proofs.world.World.is_shown.Goals as goal

pub returns : goal.returns
returns c =
    ap (λ n. nat_eq n 0) c.counts_of.ensures.hiders ∙ shown_exact c.args.self.now.world c.args.key c.counts_of.ensures.safe (live_last c.args.self.now.world c.args.key c.requires.live)
