use Rattle.std.proofs.Common.{◌≡◌, inr, arith, ap, sym, ◌∙◌, subst, List, ◌∷◌}
use Rattle.std.specs.Prelude.{None}
use Rattle.kf_looks.specs.declared.view.Link.{Link}
use Rattle.kf_looks.specs.Lines.{bytes_in}
use Rattle.kf_looks.specs.Links.{link}
use Rattle.kf_looks.specs.Writing.{links_of}
use Rattle.kf_live.specs.Live.{AreSound, Say, without}
use Rattle.kf_live.specs.Told.{GrewSound, links_by}
use Rattle.kf_live.proofs.Grown.{grew_one}
use Rattle.kf_live.proofs.Writers.{writer_there}
use Rattle.kf_live.proofs.publishing.publish_gone.Goals as goal

pub returns-clause-told : goal.returns-clause-told
returns-clause-told c t says =
    let w0 = links_of c.in-Some-writer.writer.seat in
    let w2 = links_of c.publish.result.seat in
    let gone : Link = link c.in-Some.spot.dir (bytes_in c.in-Some.spot.name) None in
    let made : w2 ≡ gone ∷ w0 = c.publish.ensures.links ∙ c.take-section.ensures.linked ∙ ap (λ links. gone ∷ links) c.start.ensures.links in
    let at = writer_there c.args.looks.now (λ (links : List Link). Say (without c.args.left links) t) c.args.writer c.in-Some-writer.writer c.in-Some-writer.is says (omega arith) in
    subst (λ o. GrewSound t (links_by o) w2) (sym c.in-Some-writer.is)
    (grew_one (λ links. AreSound links t) w0 w2 (inr (gone, made)) (subst (λ links. AreSound links t) (sym made) (subst (λ o. Say (without o w0) t) c.in-Some.is at.1).known))
