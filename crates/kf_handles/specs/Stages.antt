-- How far the token of a hidden file is.
use Rattle.std.specs.Prelude.{◌≡◌, true}
use Rattle.kf_core.specs.declared.caller.Phase.TheVariants as phase_of
use Rattle.kf_words.specs.Callers.{Handle}
use Rattle.kf_words.specs.Layout.{is_unused}
use Rattle.kf_handles.specs.declared.token.Stage.{Stage}
use Rattle.kf_handles.specs.declared.token.Stage.TheVariants as stage

-- what contracts see of a token
abbrev pub handle_of : Stage → Handle
handle_of (stage.Hiding hiding) = hiding
handle_of (stage.Hidden hidden) = hidden

-- the token has not yet seen that nobody is inside; or the word that it found says that nobody is
abbrev pub IsStage : Stage → Type 0
IsStage (stage.Hiding hiding) = hiding.phase ≡ phase_of.Hiding
IsStage (stage.Hidden hidden) = (hidden.phase ≡ phase_of.Hidden) × (is_unused hidden.found ≡ true)
