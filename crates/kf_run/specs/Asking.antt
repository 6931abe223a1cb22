-- What a command line asks for, as clap parses it.
use Rattle.std.specs.Prelude.{◌≡◌, ◌≢◌, ℕ, Bool, true, List, [], ◌∷◌, Option, Some, pos, codes}
use Rattle.std.specs.Str.Parse.{digits_value, without_leading_plus}
use Rattle.kf_core.specs.Limits.{most_slots}
use Rattle.clap.specs.Words.{Accepts, App, Kinds, Rule, Row, Text, fault_of, first_of, matches_of, new_app, new_rule, one_of}
use Rattle.clap.specs.Words.{one_text, read_as, reading_of, with_rule}
use Rattle.clap.specs.Simple.{on_top}
use Rattle.clap.specs.declared.builder.action.ArgAction.TheVariants.{Set}
use Rattle.clap.specs.declared.builder.value_parser.ValueParser.{ValueParser}
use Rattle.clap.specs.declared.builder.value_parser.ValueParser.TheVariants.{Signed}
use Rattle.clap.specs.declared.error.kind.ErrorKind.{ErrorKind}
use Rattle.clap.specs.declared.error.kind.ErrorKind.TheVariants.{DisplayHelp, DisplayVersion}
use Rattle.clap.specs.declared.parser.matches.Found.{Found}

-- `--slots N`: 1 to the most slots, 1024 by default
abbrev pub slots_rule : Rule
slots_rule = record (new_rule (codes "slots")) {
  long = Some (codes "slots");
  action = Some Set;
  value_names = 1;
  parser = Some (Signed (pos 1) (pos most_slots));
  defaults = codes "1024" ∷ [];
}

-- `--workers N`: 0 to 16, 0 by default
abbrev pub workers_rule : Rule
workers_rule = record (new_rule (codes "workers")) {
  long = Some (codes "workers");
  action = Some Set;
  value_names = 1;
  parser = Some (Signed (pos 0) (pos 16));
  defaults = codes "0" ∷ [];
}

-- the script's file
abbrev pub script_rule : Rule
script_rule = record (new_rule (codes "SCRIPT")) { value_names = 1 }

-- the program's command line, as clap knows it
abbrev pub program : App
program = with_rule (with_rule (with_rule
    (on_top (λ top. record top { has_version = true }) (new_app (codes "kernfs_run")))
    slots_rule) workers_rule) script_rule

-- what clap finds in the arguments, the first of which is the program's name
unfoldable pub found_in : List Text → List Row
found_in words = matches_of program words

-- how clap refuses the arguments, or replies to a request for help: nothing if it accepts them
unfoldable pub faults_in : List Text → Kinds
faults_in words = fault_of program words

-- there is a text, and this is the number that it spells in decimal, after a leading plus if it has one
abbrev pub IsNumber : Option Text → ℕ → Type 0
IsNumber found number =
    (text : Text) × (found ≡ Some text) × (number ≡ digits_value 10 (without_leading_plus text))

-- these arguments ask for this number of slots, for this number of workers, and for this script's file, if
-- they name one
pub record AskFor (words : List Text) (slots workers : ℕ) (script : Option Text) : Type 0 where
  pub slots_are : IsNumber (one_of (codes "slots") (found_in words)) slots
  pub workers_are : IsNumber (one_of (codes "workers") (found_in words)) workers
  pub script_is : script ≡ first_of (codes "SCRIPT") (found_in words)

-- what a parse that succeeded has under an id: a text that this parser accepts, as the typed getters read it
abbrev pub HasText : Found → Text → Bool → ValueParser → Type 0
HasText found id ignore_case parser = (text : Text)
    × (one_text found id ≡ Some (read_as (reading_of parser) text)) × Accepts ignore_case parser text

-- the arguments are refused: they ask neither for help nor for the version
abbrev pub IsMistake : ErrorKind → Type 0
IsMistake kind = (kind ≢ DisplayHelp) × (kind ≢ DisplayVersion)
