use Rattle.std.proofs.Common.{arith}
use Rattle.std.proofs.lemmas.List.{length-take-le}
use Rattle.kf_replies.proofs.Gathered.{behind}
use Rattle.kf_replies.proofs.part.Part.push_after.Goals as goal

pub returns : goal.returns
returns c =
    let gathered = length-take-le c.self.inside.len c.self.inside.bytes (omega (arith, c.self.invariant)) in
    let room = rw (← c.self.view_is, gathered) at c.requires.room in
    let all = behind c.self.inside.bytes c.args.name.now _ c.self.inside.len c.args.first (omega (arith, room)) in
    record { pushed = rw (← c.self.view_is, c.copy_from_slice.ensures.after) all }
