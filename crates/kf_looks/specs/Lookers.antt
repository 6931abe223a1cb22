-- What a reader has seen.
use Rattle.std.specs.Prelude.{List}
use Rattle.kf_looks.specs.declared.reader.Looker.{Looker}
use Rattle.kf_looks.specs.declared.view.Link.{Link}

-- the links that the reader has seen, the last one first
abbrev pub seen : Looker → List Link
seen looker = looker.seat.me.0.seen
