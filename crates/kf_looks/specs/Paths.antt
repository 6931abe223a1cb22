-- What a path leads to.
use Rattle.std.specs.Prelude.{ℕ, List, Option}
use Rattle.std.specs.Option.{option_and_then}
use Rattle.kf_core.specs.Paths.{names_of}
use Rattle.kf_core.specs.declared.key.Key.{Key}
use Rattle.kf_looks.specs.declared.found.Found.{Found}
use Rattle.kf_looks.specs.declared.view.Link.{Link}
use Rattle.kf_looks.specs.Links.{top, walked}

-- what a path leads to from a directory; `/` leads to the directory itself
abbrev pub led : List Link → Key → List ℕ → Option Found
led links root path = option_and_then (walked links (top root)) (names_of path)
