-- Visits to a node by the only caller.
use Rattle.std.specs.Prelude.{ℕ, Bool, Option, Some, None, IsTrue, IsFalse}
use Rattle.kf_core.specs.declared.key.Node.{Node}
use Rattle.kf_core.specs.declared.key.Node.TheVariants.{Dir, File, Link}
use Rattle.kf_core.specs.declared.refusal.Refusal.{Refusal}
use Rattle.kf_core.specs.declared.refusal.Refusal.TheVariants.{IsDir, Invalid}
use Rattle.kf_core.specs.Calls.{Visit, unvisited, tried}
use Rattle.kf_pages.specs.declared.contents.Want.{Want}
use Rattle.kf_pages.specs.Files.{open_cause}

-- a visit to a node by the only caller: a try gives a call if and only if the node is live
abbrev pub VisitsLive : {Done : Type 0} → Bool → Type 0 → (Done → Type 0) → Visit Done → Type 0
VisitsLive live idle does unvisited = idle
VisitsLive live idle does (tried None) = IsFalse live × idle
VisitsLive live idle does (tried (Some done)) = IsTrue live × does done

-- why a command on a file is refused, by the kind of the node: IsDir for a directory, Invalid for a link, and
-- for a file what `cause` says about its mode, if anything
abbrev pub kind_cause : (ℕ → Option Refusal) → Node → Option Refusal
kind_cause cause Dir = Some IsDir
kind_cause cause (File mode tag) = cause mode
kind_cause cause (Link target) = Some Invalid

-- why a file at this node is not opened
abbrev pub file_cause : Node → Want → Bool → Option Refusal
file_cause node want live = kind_cause (λ mode. open_cause mode want live) node
