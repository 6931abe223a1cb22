use Rattle.std.proofs.Common.{rules, ◌≡◌, ◌∙◌, ℕ, List, Some, ap, subst, sym}
use Rattle.kf_looks.specs.declared.view.Link.{Link}
use Rattle.kf_looks.specs.declared.view.Role.TheVariants.{Reading}
use Rattle.kf_looks.specs.Paths.{led}
use Rattle.kf_looks.specs.Reading.{Tells}
use Rattle.kf_looks.proofs.lookup_table.LookupTable.again.Goals as goal

pub returns-clause-kept : goal.returns-clause-kept
returns-clause-kept c = let stands = c.requires.stands in (
  stands.0,
  c.check.ensures.passed.role_is ∙ stands.1,
  λ content all. subst (λ (n : ℕ). Tells n (λ (links : List Link). led links c.args.root c.args.path.now ≡ Some c.args.sight.now.found) content) (sym c.check.ensures.passed.slots_are) (stands.2 content all),
)

pub returns-clause-found : goal.returns-clause-found
returns-clause-found c true' =
    let stands = c.requires.stands in
    let same : c.check.result ≡ c.args.sight.now.version = search rules in
    let p = c.check.ensures.passed.at_once stands.0 (stands.1 ∙ ap (λ (v : ℕ). Reading v stands.0) (sym same)) in
    stands.2 p.0 p.1 c.check.new.seat.me.0.seen p.2
