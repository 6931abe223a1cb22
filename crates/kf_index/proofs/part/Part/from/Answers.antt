use Rattle.std.proofs.Common.{sym}
use Rattle.std.proofs.lemmas.List.{take_rest, drop-map}
use Rattle.kf_index.specs.Places.{entry_at}
use Rattle.kf_index.proofs.part.Part.from.Goals as goal

pub returns : goal.returns
returns c =
    let listed = c.self.inside in
    rw (take_rest, ← c.self.view_is) (record { left = sym (drop-map (entry_at listed.entries.now) c.args.at listed.order.now) })
