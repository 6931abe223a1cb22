use Rattle.std.proofs.Common.{rules, ◌∷◌, sym, subst}
use Rattle.kf_looks.specs.Writing.{links_of}
use Rattle.kf_live.specs.Live.{AreSound, SayBut}
use Rattle.kf_live.specs.Told.{IsOneMore}
use Rattle.kf_live.proofs.Said.{told_none}
use Rattle.kf_live.proofs.telling.tell_one.Goals as goal

pub returns-in_default-clause-told : goal.returns-in_default-clause-told
returns-in_default-clause-told c owed says =
    told_none c.args.state.now.tree (links_of c.args.writer.seat) owed c.args.key says (search rules)

pub returns-clause-told : goal.returns-clause-told
returns-clause-told c owed says =
    subst (λ links. SayBut owed links c.args.state.now.tree) (sym c.publish.ensures.links)
    (c.tell-section.ensures.told owed (subst (λ links. SayBut (c.args.key ∷ owed) links c.args.state.now.tree) (sym c.start.ensures.links) says))

pub returns-clause-sound : goal.returns-clause-sound
returns-clause-sound c sound =
    subst (λ links. AreSound links c.args.state.now.tree) (sym c.publish.ensures.links)
    (c.tell-section.ensures.sound (subst (λ links. AreSound links c.args.state.now.tree) (sym c.start.ensures.links) sound))

pub returns-clause-one : goal.returns-clause-one
returns-clause-one c =
    subst (λ now. IsOneMore (links_of c.args.writer.seat) now) (sym c.publish.ensures.links)
    (subst (λ before. IsOneMore before (links_of c.tell-section.result.seat)) c.start.ensures.links c.tell-section.ensures.one)
