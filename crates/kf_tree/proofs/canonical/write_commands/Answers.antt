use Rattle.std.proofs.Common.{arith}
use Rattle.kf_tree.proofs.Collected.{all_collected, only_created}
use Rattle.kf_tree.proofs.CanonicalLengths.{none_owed, root_counted}
use Rattle.kf_tree.proofs.canonical.write_commands.Goals as goal

pub overflow_sub-linked : goal.overflow_sub-linked
overflow_sub-linked c = (let some = root_counted c.args.table.now c.args.root c.requires.lawful in omega (arith, some, c.linked.ensures.known))

pub returns-then-later-eq0 : goal.returns-then-later-eq0
returns-then-later-eq0 c = record {
  canonical = only_created c.args.table.now c.in_ok-keys.keys.items _ _ _ c.in_ok-keys.ensures.ordered c.deref.ensures.value c.in_ok-commands.ensures.items c.in_ok-push_creates.ensures.pushed
      (none_owed c.args.table.now c.args.root c.requires.lawful c.in_ok-keys.keys.items c.in_ok-keys.ensures.ordered (omega (arith, c.requires.counted, c.if-later-eq0.true)));
}

pub returns : goal.returns
returns c = record { canonical = all_collected c.args.table.now c.in_ok-keys.keys.items _ _ _ _ _ _ _ c.in_ok-keys.ensures.ordered c.deref.ensures.value c.deref-2.ensures.value c.deref-3.ensures.value c.in_ok-commands.ensures.items c.in_ok-push_creates.ensures.pushed c.in_ok-push_dooms.ensures.pushed c.in_ok-push_hides.ensures.pushed }
