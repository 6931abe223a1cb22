use Rattle.std.proofs.Common.{◌+◌, ◌∷◌, ◌∙◌, take, sym, ap}
use Rattle.std.specs.List.{slice_split}
use Rattle.std.proofs.lemmas.List.{take_rest}
use Rattle.kf_script.specs.Lines.{is_newline}
use Rattle.kf_rounds.proofs.Cuts.{split_some, split_none}
use Rattle.kf_rounds.proofs.cut.cut_line.Goals as goal

pub returns-in-Some-clause-cut : goal.returns-in-Some-clause-cut
returns-in-Some-clause-cut c = split_some is_newline c.args.script.now c.in-Some.at c.in-Some.ensures
    ∙ ap (λ l. take c.in-Some.at c.args.script.now ∷ slice_split is_newline l) (sym (take_rest c.args.script.now (c.in-Some.at + 1)))

pub returns-in-None-clause-cut : goal.returns-in-None-clause-cut
returns-in-None-clause-cut c = split_none is_newline c.args.script.now c.in-None.ensures
