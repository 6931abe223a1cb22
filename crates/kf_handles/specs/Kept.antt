-- What contracts see of a tree and of an open file.
use Rattle.std.specs.Prelude.{◌≡◌, List, Option, All, IfSome}
use Rattle.kf_notify.specs.PostStates.{Numbers, PostState}
use Rattle.kf_pages.specs.Files.{FileState}
use Rattle.kf_words.specs.Callers.{TableId, Handle}
use Rattle.kf_shared.specs.Locked.{Locked}

-- an open file: its post, and its state (what it was opened for, its text, and its event number)
pub record FileKept : Type 0 where
  pub post : PostState
  pub state : FileState

-- the tree, its event numbers, and for each slot the token of its file, if the file is hidden
pub record TreeKept : Type 0 where
  pub nodes : Locked
  pub posts : Numbers
  pub hidden : List (Option Handle)

-- all tokens are of this table
abbrev pub AreTokensOf : TableId → List (Option Handle) → Type 0
AreTokensOf table tokens = All (λ place. IfSome place (λ token. token.table ≡ table)) tokens
