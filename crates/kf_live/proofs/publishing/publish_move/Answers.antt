use Rattle.std.proofs.Common.{◌≡◌, rules, arith, ap, sym, ◌∙◌, subst, List, [], ◌∷◌}
use Rattle.std.specs.Prelude.{IfSome}
use Rattle.kf_looks.specs.declared.view.Link.{Link}
use Rattle.kf_looks.specs.Lines.{bytes_in}
use Rattle.kf_looks.specs.Links.{IsOfSlot}
use Rattle.kf_looks.specs.Writing.{links_of}
use Rattle.kf_live.specs.Live.{AreSound, SayBut, IsMove, without}
use Rattle.kf_live.specs.Told.{GrewSound, links_by}
use Rattle.kf_live.proofs.Grown.{grew_on, grew_one, without_one}
use Rattle.kf_live.proofs.Said.{told_none}
use Rattle.kf_live.proofs.Single.{move_slot, move_says, move_sound}
use Rattle.kf_live.proofs.Writers.{writer_there}
use Rattle.kf_live.proofs.publishing.publish_move.Goals as goal

pub withdraw-section-requires-clause-of_slot : goal.withdraw-section-requires-clause-of_slot
withdraw-section-requires-clause-of_slot c =
    let at = writer_there c.args.looks.now (λ links. IsMove links c.args.key c.args.was c.args.state.now.tree) c.args.writer c.in-Some.writer c.in-Some.is c.requires.says (omega arith) in
    subst (λ (links : List Link). IfSome c.args.was (λ spot. IsOfSlot links spot.dir (bytes_in spot.name) c.args.key.slot)) (sym c.start.ensures.links)
    (move_slot (links_of c.in-Some.writer.seat) c.args.key c.args.was c.args.state.now.tree at.1)

pub tell-requires-clause-says : goal.tell-requires-clause-says
tell-requires-clause-says c =
    let at = writer_there c.args.looks.now (λ links. IsMove links c.args.key c.args.was c.args.state.now.tree) c.args.writer c.in-Some.writer c.in-Some.is c.requires.says (omega arith) in (
      c.args.key ∷ [],
      subst (λ (links : List Link). SayBut (c.args.key ∷ []) links c.args.state.now.tree) (sym c.withdraw-section.ensures.links)
          (subst (λ (links : List Link). SayBut (c.args.key ∷ []) (without c.args.was links) c.args.state.now.tree) (sym c.start.ensures.links)
          (move_says (links_of c.in-Some.writer.seat) c.args.key c.args.was c.args.state.now.tree at.1)),
    )

pub returns-in-Some-place : goal.returns-in-Some-place
returns-in-Some-place c =
    let t = c.args.state.now.tree in
    let w0 = links_of c.in-Some.writer.seat in
    let w1 = links_of c.withdraw-section.result.seat in
    let w2 = links_of c.tell.result.seat in
    let gone : w1 ≡ without c.args.was w0 = c.withdraw-section.ensures.links ∙ ap (without c.args.was) c.start.ensures.links in
    let at = writer_there c.args.looks.now (λ links. IsMove links c.args.key c.args.was c.args.state.now.tree) c.args.writer c.in-Some.writer c.in-Some.is c.requires.says (omega arith) in
    record {
      says = λ _. (
        c.publish.ensures.table ∙ c.tell.ensures.table ∙ c.withdraw-section.ensures.table ∙ c.start.ensures.table ∙ at.0,
        subst (λ (links : List Link). SayBut [] links c.args.state.now.tree) (sym c.publish.ensures.links)
            (c.tell.ensures.told []
            (subst (λ (links : List Link). SayBut (c.args.key ∷ []) links c.args.state.now.tree) (sym c.withdraw-section.ensures.links)
            (subst (λ (links : List Link). SayBut (c.args.key ∷ []) (without c.args.was links) c.args.state.now.tree) (sym c.start.ensures.links)
            (move_says (links_of c.in-Some.writer.seat) c.args.key c.args.was c.args.state.now.tree at.1)))),
      );
      told = subst (λ o. GrewSound t (links_by o) (links_of c.publish.result.seat)) (sym c.in-Some.is)
          (subst (GrewSound t w0) (sym c.publish.ensures.links)
          (grew_on (λ links. AreSound links t) w0 w1 w2
          (subst (GrewSound t w0) (sym gone) (grew_one (λ links. AreSound links t) w0 (without c.args.was w0) (without_one c.args.was w0) (move_sound w0 c.args.key c.args.was t at.1)))
          (grew_one (λ links. AreSound links t) w1 w2 c.tell.ensures.one (c.tell.ensures.sound (subst (λ links. AreSound links t) (sym gone) (move_sound w0 c.args.key c.args.was t at.1))))));
    }

pub returns-in-None : goal.returns-in-None
returns-in-None c =
    let t = c.args.state.now.tree in
    let w0 = links_of c.in-Some.writer.seat in
    let w1 = links_of c.withdraw-section.result.seat in
    let gone : w1 ≡ without c.args.was w0 = c.withdraw-section.ensures.links ∙ ap (without c.args.was) c.start.ensures.links in
    let at = writer_there c.args.looks.now (λ links. IsMove links c.args.key c.args.was c.args.state.now.tree) c.args.writer c.in-Some.writer c.in-Some.is c.requires.says (omega arith) in
    record {
      says = λ _. (
        c.publish-in-None.ensures.table ∙ c.withdraw-section.ensures.table ∙ c.start.ensures.table ∙ at.0,
        subst (λ (links : List Link). SayBut [] links c.args.state.now.tree) (sym c.publish-in-None.ensures.links)
            (subst (λ (links : List Link). SayBut [] links c.args.state.now.tree) (sym c.withdraw-section.ensures.links)
            (subst (λ (links : List Link). SayBut [] (without c.args.was links) c.args.state.now.tree) (sym c.start.ensures.links)
            (told_none c.args.state.now.tree (without c.args.was (links_of c.in-Some.writer.seat)) [] c.args.key
            (move_says (links_of c.in-Some.writer.seat) c.args.key c.args.was c.args.state.now.tree at.1) (search rules)))),
      );
      told = subst (λ o. GrewSound t (links_by o) (links_of c.publish-in-None.result.seat)) (sym c.in-Some.is)
          (subst (GrewSound t w0) (sym (c.publish-in-None.ensures.links ∙ gone))
          (grew_one (λ links. AreSound links t) w0 (without c.args.was w0) (without_one c.args.was w0) (move_sound w0 c.args.key c.args.was t at.1)));
    }
