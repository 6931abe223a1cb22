-- When a tree and a list of slots agree.
use Rattle.std.specs.Prelude.{◌≡◌}
use Rattle.kf_core.specs.declared.key.Key.{Key}
use Rattle.kf_core.specs.declared.records.Record.{Record}
use Rattle.kf_core.specs.Bare.{BareWorld, marks, is_hidden}
use Rattle.kf_core.specs.Tree.{Tree, IsIn, marks_of}

-- the tree and the slots agree on every key: whether it is linked, activated, doomed
abbrev pub Agrees : Tree → BareWorld → Type 0
Agrees t w = (key : Key) → marks_of t key ≡ marks w key

-- a record of the tree is hidden if and only if a caller hides its key
abbrev pub AgreesHidden : Tree → BareWorld → Type 0
AgreesHidden t w = (r : Record) → IsIn t r → r.hidden ≡ is_hidden w r.key
