use Rattle.kf_handles.specs.Kept.{AreTokensOf}
use Rattle.kf_handles.specs.Removing.{Ends}
use Rattle.kf_handles.proofs.removal.take_all.Given as goal

-- some of these nodes were shown or taken out, and no others
abbrev pub invariant-loop-key : goal.invariant-loop-key
invariant-loop-key g l = record {
  ends : Ends l.keys l.fn.locked l.locked;
  tokens : AreTokensOf g.N.Naming.table l.tokens.items;
}
