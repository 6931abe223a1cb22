use Rattle.kf_registry.proofs.Backs.{was_swapped}
use Rattle.kf_registry.proofs.registry.Registry.swap.Goals as goal

pub returns-in-Ok-exchange-clause-swapped : goal.returns-in-Ok-exchange-clause-swapped
returns-in-Ok-exchange-clause-swapped g c = was_swapped g.N.Naming.table c.lock-editor.result c.exchange.new.editor c.args.path.now c.in-Ok.name.now c.in-Ok-exchange.old c.take_back.result.receipt
    c.lock-editor.ensures.whole c.lock-editor.ensures.taken c.in-Ok-exchange.ensures.named c.in-Ok-exchange.ensures.plain c.in-Ok.ensures.name c.in-Ok-exchange.ensures.done c.take_back.ensures.key c.take_back.ensures.parted
    c.take_back.ensures.saw
