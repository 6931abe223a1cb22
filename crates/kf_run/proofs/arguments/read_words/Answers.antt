use Rattle.std.proofs.Common.{◌≡◌, ◌∙◌, ap, List, map, sym, subst, codes}
use Rattle.clap.specs.Words.{App, Text, HasKind, Kinds, fault_of, first_of, is_simple, one_of, matches_of, found_of, rows_of}
use Rattle.clap.specs.Faults.{is_simple_and_free}
use Rattle.clap.proofs.WalkLemmas.{first_value-rows, one_text-rows}
use Rattle.kf_run.specs.Asking.{IsNumber, found_in}
use Rattle.kf_run.proofs.Options.{faults_are, found_is, options_given, program_is_free, program_is_simple}
use Rattle.kf_run.proofs.arguments.read_words.Goals as goal

pub slots_in-requires : goal.slots_in-requires
slots_in-requires g c = record { given = (options_given c.in_ok-command.command c.in-Ok.matches c.in_ok-command.ensures.made c.in-Ok.ensures.parsed).0 }

pub workers_in-requires : goal.workers_in-requires
workers_in-requires g c = record { given = (options_given c.in_ok-command.command c.in-Ok.matches c.in_ok-command.ensures.made c.in-Ok.ensures.parsed).1 }

pub returns-in-Ok-clause-asked : goal.returns-in-Ok-clause-asked
returns-in-Ok-clause-asked g c =
    let is = c.in_ok-command.ensures.made in
    let m = c.in-Ok.matches in
    let words : List Text = map g.S.AsStr.text c.args.words.now in
    let rows : rows_of (found_of m) ≡ found_in words =
    (c.in-Ok.ensures.matches (ap is_simple is ∙ program_is_simple)).0 ∙ ap (λ (a : App). matches_of a words) is ∙ found_is words in
    record {
      slots_are = subst (λ n. IsNumber (one_of (codes "slots") (found_in words)) n) (sym c.limits_of.ensures.slots) (subst (λ f. IsNumber f c.slots_in.result) (one_text-rows (found_of m) (codes "slots") ∙ ap (one_of (codes "slots")) rows) c.slots_in.ensures.value);
      workers_are = subst (λ f. IsNumber f c.workers_in.result) (one_text-rows (found_of m) (codes "workers") ∙ ap (one_of (codes "workers")) rows) c.workers_in.ensures.value;
      script_is = c.get_str.ensures ∙ first_value-rows (found_of m) (codes "SCRIPT") ∙ ap (first_of (codes "SCRIPT")) rows;
    }

pub returns-in-Ok-clause-lawful : goal.returns-in-Ok-clause-lawful
returns-in-Ok-clause-lawful g c =
    let is = c.in_ok-command.ensures.made in
    let words : List Text = map g.S.AsStr.text c.args.words.now in
    sym (faults_are words) ∙ sym (ap (λ (a : App). fault_of a words) is) ∙ c.in-Ok.ensures.kinds (ap is_simple_and_free is ∙ program_is_free)

pub returns-in-Err-clause-lawful : goal.returns-in-Err-clause-lawful
returns-in-Err-clause-lawful g c =
    let is = c.in_ok-command.ensures.made in
    let words : List Text = map g.S.AsStr.text c.args.words.now in
    subst (λ (ks : Kinds). HasKind ks c.in-Err.error) (ap (λ (a : App). fault_of a words) is ∙ faults_are words)
    (c.in-Err.ensures.kinds (ap is_simple_and_free is ∙ program_is_free))
