use Rattle.std.proofs.Common.{◌∷◌, inr, sym, ◌∙◌, subst}
use Rattle.std.specs.Prelude.{Option}
use Rattle.kf_looks.specs.declared.found.Found.{Found}
use Rattle.kf_looks.specs.Lines.{bytes_in}
use Rattle.kf_looks.specs.Links.{link}
use Rattle.kf_looks.specs.Writing.{links_of}
use Rattle.kf_live.specs.Live.{AreSound, SayBut}
use Rattle.kf_live.proofs.Grown.{given_one}
use Rattle.kf_live.proofs.Said.{told_one, told_live, sound_one, sound_live}
use Rattle.kf_live.proofs.telling.tell.Goals as goal

pub returns-in-Some-clause-told : goal.returns-in-Some-clause-told
returns-in-Some-clause-told c owed says =
    let s = c.requires.stands in
    told_live c.args.state.now.tree c.args.state.now.root c.root.ensures.kept.lawful (links_of c.args.section.seat) owed c.args.key c.args.spot.now.dir (bytes_in c.args.spot.now.name) s.0 s.1 s.2
    c.in-Some.found (links_of c.give_once.result.seat) (sym s.3 ∙ c.in-Some.is) c.give_once.ensures.given says

pub returns-in-Some-clause-sound : goal.returns-in-Some-clause-sound
returns-in-Some-clause-sound c sound =
    let s = c.requires.stands in
    sound_live c.args.state.now.tree c.args.state.now.root c.root.ensures.kept.lawful (links_of c.args.section.seat) c.args.key c.args.spot.now.dir (bytes_in c.args.spot.now.name) s.0 s.1 s.2
    c.in-Some.found (links_of c.give_once.result.seat) (sym s.3 ∙ c.in-Some.is) c.give_once.ensures.given sound

pub returns-in-None-clause-told : goal.returns-in-None-clause-told
returns-in-None-clause-told c owed says =
    let s = c.requires.stands in
    subst (λ links. SayBut owed links c.args.state.now.tree) (sym c.take.ensures.linked)
    (subst (λ (child : Option Found). SayBut owed (link c.args.spot.now.dir (bytes_in c.args.spot.now.name) child ∷ links_of c.args.section.seat) c.args.state.now.tree) (sym s.3 ∙ c.in-None.is)
    (told_one c.args.state.now.tree c.args.state.now.root c.root.ensures.kept.lawful (links_of c.args.section.seat) owed c.args.key c.args.spot.now.dir (bytes_in c.args.spot.now.name) s.0 s.1 s.2 says))

pub returns-in-None-clause-sound : goal.returns-in-None-clause-sound
returns-in-None-clause-sound c sound =
    let s = c.requires.stands in
    subst (λ links. AreSound links c.args.state.now.tree) (sym c.take.ensures.linked)
    (subst (λ (child : Option Found). AreSound (link c.args.spot.now.dir (bytes_in c.args.spot.now.name) child ∷ links_of c.args.section.seat) c.args.state.now.tree) (sym s.3 ∙ c.in-None.is)
    (sound_one c.args.state.now.tree c.args.state.now.root c.root.ensures.kept.lawful (links_of c.args.section.seat) c.args.key c.args.spot.now.dir (bytes_in c.args.spot.now.name) s.0 s.1 s.2 sound))

pub returns-in-Some-clause-one : goal.returns-in-Some-clause-one
returns-in-Some-clause-one c = given_one c.args.spot.now.dir (bytes_in c.args.spot.now.name) c.in-Some.found (links_of c.args.section.seat) (links_of c.give_once.result.seat) c.give_once.ensures.given

pub returns-in-None-clause-one : goal.returns-in-None-clause-one
returns-in-None-clause-one c = inr (_, c.take.ensures.linked)
