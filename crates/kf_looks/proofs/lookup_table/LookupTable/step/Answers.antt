use Rattle.std.proofs.Common.{rules, ◌≡◌, ℕ, ◌<◌, List, Some}
use Rattle.std.specs.Prelude.{⊤}
use Rattle.kf_core.specs.declared.key.Key.{Key}
use Rattle.kf_looks.specs.declared.found.Found.{Found}
use Rattle.kf_looks.specs.Lines.{link_at, bytes_in}
use Rattle.kf_looks.specs.Links.{link, child_of}
use Rattle.kf_looks.specs.Packed.{key_of, found_of}
use Rattle.kf_looks.specs.Reading.{Tells}
use Rattle.kf_looks.proofs.Following.{goes_on, line_says}
use Rattle.kf_looks.proofs.lookup_table.LookupTable.step.Goals as goal

pub returns-clause-found : goal.returns-clause-found
returns-clause-found c =
    let slots : ℕ = c.args.self.now.slots in let line : ℕ = c.in_ok-line.line in let dir : Key = key_of c.args.dir.now.key in
    let name : List ℕ = bytes_in c.args.name.now in
    let child : Found = found_of c.in_ok-child.child.key c.in_ok-child.child.more c.in_ok-child.child.shape in
    let inside : line < slots = search rules in
    goes_on c.args.seat.now.me.0.role c.hinted.new.seat.me.0.role c.child_at.new.seat.me.0.role (λ content. ⊤)
    (λ content. link_at content line ≡ link dir name (Some child))
    (Tells slots (λ links. child_of links dir name ≡ Some child))
    (λ content none is. line_says slots line dir name child content inside is)
    c.in_ok-line.ensures.read c.in_ok-child.ensures.read
