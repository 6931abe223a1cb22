use Rattle.std.proofs.Common.{rules, subst}
use Rattle.std.proofs.lemmas.List.{take_all}
use Rattle.kf_shared.specs.Removal.{keys_of}
use Rattle.kf_files.specs.Telling.{WereTold}
use Rattle.kf_files.proofs.Told.{told_more}
use Rattle.kf_files.proofs.telling.tell_each.Goals as goal

pub loop-hold-preserved : goal.loop-hold-preserved
loop-hold-preserved c = told_more _ _ _ c.args.holds.now c.loop-hold.hold-index c.hold-item.result c.key.result c.loop-hold-test.true (search rules) c.loop-hold.invariant c.tell.ensures.told

pub returns : goal.returns
returns c = record {
  told = subst (λ hs. WereTold c.args.posts.now (keys_of hs) c.loop-hold.posts) (take_all c.loop-hold.hold-index c.args.holds.now c.loop-hold-test.false) c.loop-hold.invariant;
}
