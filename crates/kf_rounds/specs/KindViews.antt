-- A line's kind in the code, without the address of its bytes.
use Rattle.kf_rounds.specs.Kinds.{KindOfLine, bad, ends_round, of_seat}
use Rattle.kf_rounds.specs.declared.kind.LineKind.{LineKind}
use Rattle.kf_rounds.specs.declared.kind.LineKind.TheVariants.{Bad, EndsRound, Command}

-- the kind of line that the code's kind stands for
abbrev pub kind_view : LineKind → KindOfLine
kind_view Bad = bad
kind_view EndsRound = ends_round
kind_view (Command seat text) = of_seat seat text.bytes.now
