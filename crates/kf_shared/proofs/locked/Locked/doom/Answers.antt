use Rattle.std.proofs.Common.{◌≡◌, rules, subst}
use Rattle.kf_shared.specs.Removal.{DoomRefused}
use Rattle.std.proofs.lemmas.Result.{IfOk-weaker}
use Rattle.kf_shared.proofs.Pins.{same_refused}
use Rattle.kf_shared.proofs.Receipts.{alone_holds}
use Rattle.kf_shared.proofs.locked.Locked.doom.Goals as goal

pub returns-in-Err-clause-refused : goal.returns-in-Err-clause-refused
returns-in-Err-clause-refused g c =
    let stayed : c.doom_linked.new.self.state ≡ c.args.self.now.state = search rules in
    same_refused c.args.self.now c.doom_linked.new.self c.memory_last_below.new.self c.args.hold.key c.memory_last_below.result stayed
    (subst (λ k. DoomRefused c.doom_linked.new.self c.memory_last_below.new.self k c.memory_last_below.result) c.key-key.ensures.value c.memory_last_below.ensures.refused)

pub returns-then-not-is_linked-clause-holds : goal.returns-then-not-is_linked-clause-holds
returns-then-not-is_linked-clause-holds g c = IfOk-weaker c.alone.result _ _ (λ holds e. alone_holds c.args.self.now.master c.args.hold holds.items e) c.alone.ensures.holds
