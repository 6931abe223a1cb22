use Rattle.std.proofs.Common.{take}
use Rattle.kf_handles.specs.Hiding.{HasNoHiding}
use Rattle.kf_handles.proofs.tokens.has_hiding.Given as goal

-- each token so far has seen that nobody is inside its file
abbrev pub invariant-loop-place : goal.invariant-loop-place
invariant-loop-place l = HasNoHiding (take l.place-index l.tokens)
