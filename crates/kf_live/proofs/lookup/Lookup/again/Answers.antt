use Rattle.std.proofs.Common.{◌≡◌, Some, sym, subst}
use Rattle.kf_looks.specs.Paths.{led}
use Rattle.kf_looks.specs.Reading.{Stands}
use Rattle.kf_live.specs.Lookers.{Onlooker}
use Rattle.kf_live.proofs.lookup.Lookup.again.Goals as goal

pub again-requires-clause-stands : goal.again-requires-clause-stands
again-requires-clause-stands c =
    subst (λ (s : Onlooker). Stands s.view c.args.sight.now.version (λ links. led links s.root c.args.path.now ≡ Some c.args.sight.now.found)) (sym c.self.view_is) c.requires.stands
