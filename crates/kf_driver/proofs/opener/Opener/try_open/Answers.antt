use Rattle.std.proofs.Common.{rules, ◌≡◌, ◌∙◌, Some, ap, sym, subst}
use Rattle.kf_shared.specs.Finding.{LedTo}
use Rattle.kf_driver.specs.Opening.{IsOpened}
use Rattle.kf_driver.proofs.Openings.{of_hold}
use Rattle.kf_driver.proofs.opener.Opener.try_open.Goals as goal
use Rattle.kf_driver.proofs.opener.Opener.try_open.Goals.{in-Ok-open_held, in-Err}

pub returns-clause-found : goal.returns-clause-found
returns-clause-found g c = elim c.match-open_held.branch [
  | in-Ok-open_held w ↦ rw w.result-is
      (let h = of_hold _ c.args.want c.in_ok-hold.hold c.in-File.mode c.in-File.tag w.in-Ok-open_held.file (search rules)
      w.in-Ok-open_held.ensures.held w.in-Ok-open_held.ensures.fresh w.in-Ok-open_held.ensures.new in
      let same : c.try_hold.new.self.looker ≡ c.self-2.inside.holder.looker = search rules in
      subst (λ looker. LedTo looker c.args.path.now w.in-Ok-open_held.file.hold.key) same (c.in_ok-hold.ensures.found ∙ ap Some (sym h.0)))
  | in-Err w ↦ rw w.result-is tt
]

pub returns-clause-opened : goal.returns-clause-opened
returns-clause-opened g c = elim c.match-open_held.branch [
  | in-Ok-open_held w ↦ rw w.result-is
      (let h = of_hold _ c.args.want c.in_ok-hold.hold c.in-File.mode c.in-File.tag w.in-Ok-open_held.file (search rules)
      w.in-Ok-open_held.ensures.held w.in-Ok-open_held.ensures.fresh w.in-Ok-open_held.ensures.new in
      let same : c.self-2.inside.posts ≡ c.args.self.now.posts = search rules in
      subst (λ posts. IsOpened posts c.args.want w.in-Ok-open_held.file) same h.1)
  | in-Err w ↦ rw w.result-is tt
]
