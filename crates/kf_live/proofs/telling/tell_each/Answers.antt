use Rattle.std.proofs.Common.{drop, ◌+◌, ◌∙◌, refl, subst}
use Rattle.std.proofs.lemmas.List.{drop_all}
use Rattle.kf_looks.specs.Writing.{links_of}
use Rattle.kf_live.specs.Live.{AreSound, SayBut}
use Rattle.kf_live.proofs.Grown.{grew_none, grew_one, grew_on}
use Rattle.kf_live.proofs.Said.{drop_one}
use Rattle.kf_live.proofs.telling.tell_each.Goals as goal

pub loop-key-preserved : goal.loop-key-preserved
loop-key-preserved c = record {
  table = c.tell_one-writer.ensures.table ∙ c.loop-key.invariant.table;
  says = c.tell_one-writer.ensures.told (drop (c.loop-key.key-index + 1) c.args.keys.now)
      (subst (λ ks. SayBut ks (links_of c.loop-key.writer.seat) c.args.state.now.tree) (drop_one c.args.keys.now c.loop-key.key-index (record { slot = 0; generation = 0 }) c.loop-key-test.true) c.loop-key.invariant.says);
  sound = c.tell_one-writer.ensures.sound c.loop-key.invariant.sound;
  told = grew_on (λ links. AreSound links c.args.state.now.tree) (links_of c.args.writer.seat) (links_of c.loop-key.writer.seat) (links_of c.tell_one-writer.result.seat) c.loop-key.invariant.told
      (grew_one (λ links. AreSound links c.args.state.now.tree) (links_of c.loop-key.writer.seat) (links_of c.tell_one-writer.result.seat) c.tell_one-writer.ensures.one
      (c.tell_one-writer.ensures.sound c.loop-key.invariant.sound));
}

pub loop-key-init : goal.loop-key-init
loop-key-init c = record {
  table = refl;
  says = c.requires.says;
  sound = c.requires.sound;
  told = grew_none (λ links. AreSound links c.args.state.now.tree) (links_of c.args.writer.seat) (links_of c.args.writer.seat) refl;
}

pub tell_one-writer-requires : goal.tell_one-writer-requires
tell_one-writer-requires c = record {
  table = c.loop-key.invariant.table ∙ c.requires.table;
  says = (drop c.loop-key.key-index c.args.keys.now, c.loop-key.invariant.says);
}

pub returns : goal.returns
returns c = record {
  table = c.loop-key.invariant.table;
  says = subst (λ ks. SayBut ks (links_of c.loop-key.writer.seat) c.args.state.now.tree) (drop_all c.loop-key.key-index c.args.keys.now c.loop-key-test.false) c.loop-key.invariant.says;
  told = c.loop-key.invariant.told;
}
