use Rattle.std.proofs.Common.{refl}
use Rattle.std.proofs.lemmas.List.Elements.{Contains-get_or}
use Rattle.kf_core.specs.declared.key.Key.{Key}
use Rattle.kf_handles.proofs.Ends.{both_ends, ends_of_more, no_end_same}
use Rattle.kf_handles.proofs.removal.take_all.Goals as goal

abbrev no_key : Key
no_key = record { slot = 0; generation = 0 }

pub loop-key-init : goal.loop-key-init
loop-key-init g c = record {
  ends = no_end_same c.args.keys.now c.args.locked.now c.args.locked.now refl;
  tokens = c.requires;
}

pub loop-key-preserved : goal.loop-key-preserved
loop-key-preserved g c =
    let i = c.loop-key.invariant in
    record {
      ends = both_ends c.args.keys.now c.args.locked.now c.loop-key.locked c.take_marked.new.locked i.ends
          (ends_of_more c.args.keys.now _ c.loop-key.locked c.take_marked.new.locked
          (Contains-get_or c.args.keys.now c.loop-key.key-index no_key c.loop-key-test.true) c.take_marked.ensures.ends);
      tokens = c.take_marked.ensures.tokens;
    }
