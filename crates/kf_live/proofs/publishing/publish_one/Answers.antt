use Rattle.std.proofs.Common.{arith, ◌∙◌, sym, subst, List, [], ◌∷◌}
use Rattle.kf_looks.specs.declared.view.Link.{Link}
use Rattle.kf_live.specs.Live.{AreSound, SayBut}
use Rattle.kf_looks.specs.Writing.{links_of}
use Rattle.kf_live.specs.Told.{GrewSound, links_by}
use Rattle.kf_live.proofs.Grown.{grew_one}
use Rattle.kf_live.proofs.Writers.{writer_there}
use Rattle.kf_live.proofs.publishing.publish_one.Goals as goal

pub returns : goal.returns
returns c =
    let at = writer_there c.args.looks.now (λ (links : List Link). SayBut (c.args.key ∷ []) links c.args.state.now.tree) c.args.writer c.in-Some.writer c.in-Some.is c.requires.says (omega arith) in
    record {
      says = λ _. (c.tell_one.ensures.table ∙ at.0, c.tell_one.ensures.told [] at.1);
      told = subst (λ o. GrewSound c.args.state.now.tree (links_by o) (links_of c.tell_one.result.seat)) (sym c.in-Some.is)
          (grew_one (λ links. AreSound links c.args.state.now.tree) (links_of c.in-Some.writer.seat) (links_of c.tell_one.result.seat) c.tell_one.ensures.one (c.tell_one.ensures.told [] at.1).known);
    }
