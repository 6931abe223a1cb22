-- The options of a command line, after a parse that succeeded.
use Rattle.std.proofs.Common.{◌≡◌, ◌⊎◌, ◌∙◌, ◌<◌, ap, ◌&&◌, ℕ, Bool, true, false, not, List, [], ◌∷◌, length, map, is_some, Option, Some, None, refl, sym, subst, inl, inr, arith, zero, suc, codes, pos, eqb-true, slice_index}
use Rattle.std.specs.List.{All, slice_index_or}
use Rattle.std.specs.Str.{bytes_eq}
use Rattle.std.proofs.lemmas.Bool.{false≢true}
use Rattle.std.specs.Borrow.{Bor}
use Rattle.kf_core.specs.Limits.{most_slots}
use Rattle.clap.specs.Facts.{args_of, groups_of}
use Rattle.clap.specs.Built.{IsPlain, IsPlainArg, IsParsedFrom}
use Rattle.clap.specs.Matches.{found_of}
use Rattle.clap.specs.Simple.{App, app_of, is_simple, matches_of}
use Rattle.clap.specs.Faults.{fault_of, is_simple_and_free}
use Rattle.clap.proofs.OnLiterals.{clap_on_literals}
use Rattle.clap.specs.Walk.{Rule, Text, rule_of, is_empty, is_simple_arg, is_free_arg}
use Rattle.clap.specs.declared.builder.action.ArgAction.TheVariants.{Set}
use Rattle.clap.specs.declared.builder.arg.Arg.{Arg}
use Rattle.clap.specs.declared.builder.command.Command.{Command}
use Rattle.clap.specs.declared.builder.command.Command.TheViews.{out-Command}
use Rattle.clap.specs.declared.parser.matches.Found.{Found}
use Rattle.clap.specs.declared.builder.value_parser.ValueParser.{ValueParser}
use Rattle.clap.specs.declared.builder.value_parser.ValueParser.TheVariants.{Signed}
use Rattle.clap.specs.declared.parser.matches.ArgMatches.{ArgMatches}
use Rattle.kf_run.specs.Asking.{HasText, faults_in, found_in, program, slots_rule, workers_rule, script_rule}
use Rattle.kf_run.proofs.Given.{TakesOne, default_text}

both : (a b : Bool) → (a && b) ≡ true → (a ≡ true) × (b ≡ true)
both true b e = (refl, e)
both false b e = absurd (false≢true e)

none_of : {X : Type 0} (xs : List X) → is_empty xs ≡ true → xs ≡ []
none_of [] e = refl
none_of (x ∷ xs) e = let far : length (x ∷ xs) ≡ 0 = eqb-true _ _ e in absurd (omega arith)

not_so : (b : Bool) → not b ≡ true → b ≡ false
not_so false e = refl
not_so true e = absurd (false≢true e)

no_value : {X : Type 0} (o : Option X) → not (is_some o) ≡ true → o ≡ None
no_value None e = refl
no_value (Some x) e = absurd (false≢true e)

-- what a simple argument has if its rules do not involve others
record IsLone (a : Arg) : Type 0 where
  plain : IsPlainArg a
  default_ifs : a.default_vals_ifs.items ≡ []
  delimiter : a.val_delim ≡ None

lone : (a : Arg) → is_simple_arg a ≡ true → is_free_arg a ≡ true → IsLone a
lone a simple free =
    let s = both _ _ simple in
    let t = both _ _ s.1 in
    let u = both _ _ t.1 in
    let v = both _ _ u.1 in
    let f = both _ _ free in
    let g = both _ _ f.1 in
    record {
      plain = (not_so _ f.0, none_of _ g.0, none_of _ s.0, none_of _ u.0);
      default_ifs = none_of _ t.0;
      delimiter = no_value _ v.0;
    }

is_lone : (a : Arg) (r : Rule) → rule_of a ≡ r → r.is_simple ≡ true → r.is_free ≡ true → IsLone a
is_lone a r e simple free = lone a (ap (λ (x : Rule). x.is_simple) e ∙ simple) (ap (λ (x : Rule). x.is_free) e ∙ free)

three : (l : List Arg) (r s t : Rule) → map rule_of l ≡ r ∷ s ∷ t ∷ []
    → (a : Arg) × (b : Arg) × (c : Arg) × (l ≡ a ∷ b ∷ c ∷ []) × (rule_of a ≡ r) × (rule_of b ≡ s) × (rule_of c ≡ t)
three [] r s t e = let n = ap length e in absurd (omega arith)
three (a ∷ []) r s t e = let n = ap length e in absurd (omega arith)
three (a ∷ b ∷ []) r s t e = let n = ap length e in absurd (omega arith)
three (a ∷ b ∷ c ∷ []) r s t e = (a, b, c, refl, cc, cc, cc)
three (a ∷ b ∷ c ∷ d ∷ l) r s t e = let n = ap length e in absurd (omega arith)

some_default : (xs : List (Bor (List ℕ))) (t : List ℕ) → map (λ s. s.now) xs ≡ t ∷ [] → 0 < length xs
some_default [] t e = let n = ap length e in absurd (omega arith)
some_default (x ∷ xs) t e = omega arith

takes_one : (a : Arg) (r : Rule) (q : ValueParser) (t : List ℕ) → rule_of a ≡ r → r.is_simple ≡ true → r.is_free ≡ true
    → r.action ≡ Some Set → r.range ≡ None → r.parser ≡ Some q → r.defaults ≡ t ∷ [] → TakesOne a q
takes_one a r q t e simple free set range parser default =
    let is = is_lone a r e simple free in
    let none : a.num_vals ≡ None = ap (λ (x : Rule). x.range) e ∙ range in
    record {
      default = (is.default_ifs, some_default _ t (ap (λ (x : Rule). x.defaults) e ∙ default));
      set = ap (λ (x : Rule). x.action) e ∙ set;
      whole = is.delimiter;
      least = rw none (omega arith);
      parser = ap (λ (x : Rule). x.parser) e ∙ parser;
    }

all_three : (P : Arg → Type 0) (a b c : Arg) → P a → P b → P c → All P (a ∷ b ∷ c ∷ [])
all_three P a b c x y z zero d lt = x
all_three P a b c x y z (suc zero) d lt = y
all_three P a b c x y z (suc (suc zero)) d lt = z
all_three P a b c x y z (suc (suc (suc k))) d lt = absurd (omega arith)

id_of : (a : Arg) (r : Rule) → rule_of a ≡ r → a.id.now ≡ r.id
id_of a r e = ap (λ (x : Rule). x.id) e

plain_command : (c : Command) → (app_of c).top.is_plain ≡ true → (groups_of c ≡ []) × ((out-Command c).has_globals ≡ false)
plain_command c e =
    let s = both _ _ e in
    let t = both _ _ s.1 in
    let u = both _ _ t.1 in
    (none_of _ s.0, not_so _ u.0)

-- an id that begins with this byte is not one that building the command adds, and is not empty
not_auto : (id : List ℕ) (byte : ℕ) → slice_index id 0 ≡ byte → (byte ≡ 104 → ⊥) → (byte ≡ 118 → ⊥) → (id ≡ codes "help") ⊎ (id ≡ codes "version") → ⊥
not_auto id byte first no_h no_v (inl help) = no_h (sym first ∙ ap (λ t. slice_index t 0) help)
not_auto id byte first no_h no_v (inr version) = no_v (sym first ∙ ap (λ t. slice_index t 0) version)

not_empty : (id : List ℕ) (byte : ℕ) → slice_index id 0 ≡ byte → 0 < byte → id ≡ [] → ⊥
not_empty id byte first some empty = let none : slice_index id 0 ≡ 0 = ap (λ t. slice_index t 0) empty in omega arith

only_slots : (a b s : Arg) → rule_of a ≡ slots_rule → rule_of b ≡ workers_rule → rule_of s ≡ script_rule → (j : ℕ) (d : Arg) → j < length (a ∷ b ∷ s ∷ [])
    → bytes_eq (slice_index_or (a ∷ b ∷ s ∷ []) j d).id.now a.id.now ≡ true → j ≡ 0
only_slots a b s ra rb rs zero d lt same = refl
only_slots a b s ra rb rs (suc zero) d lt same =
    let ia : a.id.now ≡ codes "slots" = id_of a slots_rule ra in
    let ib : b.id.now ≡ codes "workers" = id_of b workers_rule rb in
    absurd (false≢true (rw (ib, ia) at same))
only_slots a b s ra rb rs (suc (suc zero)) d lt same =
    let ia : a.id.now ≡ codes "slots" = id_of a slots_rule ra in
    let ib : s.id.now ≡ codes "SCRIPT" = id_of s script_rule rs in
    absurd (false≢true (rw (ib, ia) at same))
only_slots a b s ra rb rs (suc (suc (suc j))) d lt same = absurd (omega arith)

only_workers : (a b s : Arg) → rule_of a ≡ slots_rule → rule_of b ≡ workers_rule → rule_of s ≡ script_rule → (j : ℕ) (d : Arg) → j < length (a ∷ b ∷ s ∷ [])
    → bytes_eq (slice_index_or (a ∷ b ∷ s ∷ []) j d).id.now b.id.now ≡ true → j ≡ 1
only_workers a b s ra rb rs zero d lt same =
    let ia : a.id.now ≡ codes "slots" = id_of a slots_rule ra in
    let ib : b.id.now ≡ codes "workers" = id_of b workers_rule rb in
    absurd (false≢true (rw (ia, ib) at same))
only_workers a b s ra rb rs (suc zero) d lt same = refl
only_workers a b s ra rb rs (suc (suc zero)) d lt same =
    let ia : b.id.now ≡ codes "workers" = id_of b workers_rule rb in
    let ib : s.id.now ≡ codes "SCRIPT" = id_of s script_rule rs in
    absurd (false≢true (rw (ib, ia) at same))
only_workers a b s ra rb rs (suc (suc (suc j))) d lt same = absurd (omega arith)

text_at : (f : Found) (x a : Arg) (q : ValueParser) (r : Rule) → x ≡ a → rule_of a ≡ r → r.ignore_case ≡ false
    → HasText f x.id.now x.ignore_case q → HasText f r.id false q
text_at f x a q r there e exact h =
    subst (λ (b : Bool). HasText f r.id b q) (ap (λ (y : Arg). y.ignore_case) there ∙ ap (λ (y : Rule). y.ignore_case) e ∙ exact)
    (subst (λ (i : List ℕ). HasText f i x.ignore_case q) (ap (λ (y : Arg). y.id.now) there ∙ id_of a r e) h)

-- after a parse that succeeded, both options have a number in their range
pub options_given : (c : Command) (m : ArgMatches) → app_of c ≡ program → IsParsedFrom c m
    → HasText (found_of m) (codes "slots") false (Signed (pos 1) (pos most_slots)) × HasText (found_of m) (codes "workers") false (Signed (pos 0) (pos 16))
options_given c m e p =
    let t = three (args_of c) slots_rule workers_rule script_rule (ap (λ (x : App). x.top.rules) e) in
    let (a, b, s, args, ra, rb, rs) = t in
    let simple = plain_command c (ap (λ (x : App). x.top.is_plain) e) in
    let plain : IsPlain c = (
      subst (All IsPlainArg) (sym args) (all_three IsPlainArg a b s
          (is_lone a slots_rule ra refl refl).plain (is_lone b workers_rule rb refl refl).plain (is_lone s script_rule rs refl refl).plain),
      simple.0,
    ) in
    let count : length (args_of c) ≡ 3 = ap length args in
    let first : slice_index_or (args_of c) 0 a ≡ a = ap (λ l. slice_index_or l 0 a) args in
    let second : slice_index_or (args_of c) 1 b ≡ b = ap (λ l. slice_index_or l 1 b) args in
    let of_slots : slice_index (slice_index_or (args_of c) 0 a).id.now 0 ≡ 115 = ap (λ (x : Arg). slice_index x.id.now 0) first ∙ ap (λ i. slice_index i 0) (id_of a slots_rule ra) in
    let of_workers : slice_index (slice_index_or (args_of c) 1 b).id.now 0 ≡ 119 = ap (λ (x : Arg). slice_index x.id.now 0) second ∙ ap (λ i. slice_index i 0) (id_of b workers_rule rb) in (
      text_at (found_of m) _ a (Signed (pos 1) (pos most_slots)) slots_rule first ra refl
          (default_text c m p plain simple.1 0 a (omega arith) (Signed (pos 1) (pos most_slots))
          (subst (λ (x : Arg). TakesOne x (Signed (pos 1) (pos most_slots))) (sym first) (takes_one a slots_rule _ _ ra refl refl refl refl refl refl))
          (subst (λ (l : List Arg). (j : ℕ) (d : Arg) → j < length l → bytes_eq (slice_index_or l j d).id.now (slice_index_or l 0 a).id.now ≡ true → j ≡ 0) (sym args) (only_slots a b s ra rb rs))
          (not_empty (slice_index_or (args_of c) 0 a).id.now 115 of_slots (omega arith)) (not_auto (slice_index_or (args_of c) 0 a).id.now 115 of_slots (λ bad. absurd (omega arith)) (λ bad. absurd (omega arith)))),
      text_at (found_of m) _ b (Signed (pos 0) (pos 16)) workers_rule second rb refl
          (default_text c m p plain simple.1 1 b (omega arith) (Signed (pos 0) (pos 16))
          (subst (λ (x : Arg). TakesOne x (Signed (pos 0) (pos 16))) (sym second) (takes_one b workers_rule _ _ rb refl refl refl refl refl refl))
          (subst (λ (l : List Arg). (j : ℕ) (d : Arg) → j < length l → bytes_eq (slice_index_or l j d).id.now (slice_index_or l 1 b).id.now ≡ true → j ≡ 1) (sym args) (only_workers a b s ra rb rs))
          (not_empty (slice_index_or (args_of c) 1 b).id.now 119 of_workers (omega arith)) (not_auto (slice_index_or (args_of c) 1 b).id.now 119 of_workers (λ bad. absurd (omega arith)) (λ bad. absurd (omega arith)))),
    )

-- the program's command is one for which clap's contracts state the matches and the faults
pub program_is_simple : is_simple program ≡ true
unfolding clap_on_literals
program_is_simple = refl

pub program_is_free : is_simple_and_free program ≡ true
unfolding clap_on_literals
program_is_free = refl

pub found_is : (words : List Text) → matches_of program words ≡ found_in words
unfolding found_in
found_is words = refl

pub faults_are : (words : List Text) → fault_of program words ≡ faults_in words
unfolding faults_in
faults_are words = refl
