use Rattle.std.proofs.Common.{rules, ◌≡◌, subst}
use Rattle.std.specs.Prelude.{IfErr}
use Rattle.kf_notify.specs.PostStates.{Numbers}
use Rattle.kf_driver.specs.Opening.{RefusedLocked}
use Rattle.kf_driver.proofs.Locked.{refused_locked}
use Rattle.kf_driver.proofs.opener.Opener.open_locked.Goals as goal

pub returns-clause-refused : goal.returns-clause-refused
returns-clause-refused g c =
    let told = c.learn.ensures in
    let same : c.self.inside.posts ≡ c.args.self.now.posts = search rules in
    subst (λ (p : Numbers). IfErr c.open_path_on.result (λ why. RefusedLocked c.learn.new.self.holds.by p.slots c.args.path.now c.args.want why)) same
    (refused_locked _ _ c.learn.new.editor _ c.learn.new.self.holds.by _ c.args.path.now c.args.want c.open_path_on.result c.requires.whole c.requires.taken told.known told.state told.words.history c.open_path_on.ensures.refused)
