-- An option with a default has a number after each parse that succeeds.
use Rattle.std.proofs.Common.{◌≡◌, ◌∙◌, ◌<◌, ◌≤◌, ap, ℕ, Bool, true, false, List, [], ◌∷◌, length, is_some, Option, Some, None, refl, sym, subst, inl, inr, arith, zero, suc}
use Rattle.std.specs.List.{All, slice_index_or}
use Rattle.std.specs.Str.{bytes_eq}
use Rattle.std.specs.Prelude.{find, option_map, slice_get}
use Rattle.std.specs.Borrow.{Bor}
use Rattle.std.proofs.lemmas.List.Elements.{All-get_or}
use Rattle.std.proofs.lemmas.Slice.Eq.{bytes_eq-Decides}
use Rattle.clap.specs.Facts.{args_of, groups_of, IsParsed, Entry, EntryPasses, HasIn, PassesArg, WantsDefault, least_values, parser_of, parser_of_value}
use Rattle.clap.specs.Built.{IsPlain, IsParsedFrom, IsAuto, SameRules}
use Rattle.clap.specs.Matches.{matched_of, found_of, has_subcommand}
use Rattle.clap.specs.Values.{Accepts, read_as, reading_of}
use Rattle.clap.specs.declared.builder.action.ArgAction.TheVariants.{Count, Set}
use Rattle.clap.specs.declared.builder.arg.Arg.{Arg}
use Rattle.clap.specs.declared.builder.command.Command.{Command}
use Rattle.clap.specs.declared.builder.command.Command.TheViews.{out-Command}
use Rattle.clap.specs.declared.builder.value_parser.ValueParser.{ValueParser}
use Rattle.clap.specs.declared.builder.value_parser.Reading.{Reading}
use Rattle.clap.specs.declared.parser.matches.ArgMatches.{ArgMatches}
use Rattle.clap.specs.declared.parser.matches.MatchedArg.{MatchedArg}
use Rattle.kf_run.specs.Asking.{HasText}
use Rattle.clap.proofs.CallerLemmas.{default_present, entry_by_id, same_rules_by_id}

-- an id that is among the entries is found there
found_among : (xs : List Entry) (id : List ℕ) → HasIn xs id → is_some (option_map (λ e. e.1) (find (λ e. bytes_eq e.0.now id) xs)) ≡ true
found_among [] id has = let below = has.1 in absurd (omega arith)
found_among (x ∷ xs) id has = go (bytes_eq x.0.now id) refl has.0 has.1 has.2 (found_among xs id)
  where
    go : (b : Bool) → bytes_eq x.0.now id ≡ b → (i : ℕ) → i < length (x ∷ xs)
        → ((d : Entry) → bytes_eq (slice_index_or (x ∷ xs) i d).0.now id ≡ true)
        → (HasIn xs id → is_some (option_map (λ e. e.1) (find (λ e. bytes_eq e.0.now id) xs)) ≡ true)
        → is_some (option_map (λ e. e.1) (find (λ e. bytes_eq e.0.now id) (x ∷ xs))) ≡ true
    go true e i below at later = rw e refl
    go false e zero below at later = let hit : bytes_eq x.0.now id ≡ true = at x in cc
    go false e (suc i) below at later = rw e (later (i, omega arith, at))

-- the first of some values, and what holds for it
first_of_some : (P : Bor (List ℕ) → Type 0) (how : Reading) (vs : List (Bor (List ℕ))) → All P vs → 0 < length vs
    → (v : Bor (List ℕ)) × (option_map (λ s. read_as how s.now) (slice_get vs 0) ≡ Some (read_as how v.now)) × P v
first_of_some P how [] all some = absurd (omega arith)
first_of_some P how (v ∷ vs) all some = (v, refl, All-get_or P (v ∷ vs) 0 v (omega arith) all)

-- the argument takes one value, which passes this parser, and has a default
pub record TakesOne (a : Arg) (q : ValueParser) : Type 0 where
  pub default : WantsDefault a
  pub set : a.action ≡ Some Set
  pub whole : a.val_delim ≡ None
  pub least : 1 ≤ least_values a
  pub parser : a.value_parser ≡ Some q

accepted : (a y : Arg) (q : ValueParser) (t : List ℕ) → SameRules a y → a.value_parser ≡ Some q
    → Accepts y.ignore_case (parser_of y) t → Accepts a.ignore_case q t
accepted a y q t s parser read =
    let is_q : parser_of y ≡ q = ap parser_of_value (s.parser q parser) in
    let as_q : Accepts y.ignore_case q t = subst (λ (w : ValueParser). Accepts y.ignore_case w t) is_q read in
    subst (λ (b : Bool). Accepts b q t) s.ignore_case as_q

-- an argument that has a default, and an id that no other has, has a value after each parse that succeeds
pub default_text : (old : Command) (m : ArgMatches) (p : IsParsedFrom old m) → IsPlain old → (out-Command old).has_globals ≡ false
    → (k : ℕ) (d : Arg) → k < length (args_of old) → (q : ValueParser) → TakesOne (slice_index_or (args_of old) k d) q
    → ((j : ℕ) (e : Arg) → j < length (args_of old)
    → bytes_eq (slice_index_or (args_of old) j e).id.now (slice_index_or (args_of old) k d).id.now ≡ true → j ≡ k)
    → ((slice_index_or (args_of old) k d).id.now ≡ [] → ⊥) → (IsAuto (slice_index_or (args_of old) k d) → ⊥)
    → HasText (found_of m) (slice_index_or (args_of old) k d).id.now (slice_index_or (args_of old) k d).ignore_case q
default_text old m p plain globals k d lt q takes unique named own =
    go (matched_of (found_of m) (slice_index_or (args_of old) k d).id.now) refl
    (found_among (found_of m).entries.items (slice_index_or (args_of old) k d).id.now (default_present old m p globals k d lt takes.default))
    (p.parsed (p.from.globals ∙ globals))
  where
    -- each argument of the built command with this id
    same : (j : ℕ) (x : Arg) → j < length (args_of p.built) → slice_index_or (args_of p.built) j x ≡ x
        → bytes_eq x.id.now (slice_index_or (args_of old) k d).id.now ≡ true → SameRules (slice_index_or (args_of old) k d) x
    same = same_rules_by_id old m p k d lt unique own

    valued : (e : Entry) → e.0.now ≡ (slice_index_or (args_of old) k d).id.now → EntryPasses p.built e → (e.1.is_group ≡ true → ⊥) × (0 < length e.1.vals.items)
    valued e id pass =
        let no_groups : groups_of p.built ≡ [] = (p.from.plain plain).1 in
        let alone : e.1.is_group ≡ true → ⊥ = λ g. elim (pass.3 g) [
          | inl empty ↦ named (sym id ∙ empty)
          | inr lots ↦
              let bad : 0 < 0 = rw no_groups at lots in
              absurd (omega arith)
        ] in (
          alone,
          elim pass.1 [
            | inl h ↦ absurd (alone h.0)
            | inr (inl v) ↦ v
            | inr (inr (inl h)) ↦
                let any = h.1 in
                let s = same any.0 any.1 any.2 any.3 (rw id at any.4.0) in
                let is_set : any.1.action ≡ Some Set = s.action Set takes.set in
                let bad : Set ≡ Count = rw is_set at any.4.1 in
                cc
            | inr (inr (inr h)) ↦
                let s = same h.0 h.1 h.2 h.3 (rw id at h.4.0) in
                elim h.4.1 [
                  | inl none ↦
                      let one = s.least takes.set takes.least in
                      absurd (omega arith)
                  | inr has ↦
                      let bad : false ≡ true = rw (s.val_delim, takes.whole) at has in
                      cc
                ]
          ],
        )

    read : (e : Entry) (x : MatchedArg) → e.1 ≡ x → e.0.now ≡ (slice_index_or (args_of old) k d).id.now → EntryPasses p.built e
        → matched_of (found_of m) (slice_index_or (args_of old) k d).id.now ≡ Some x
        → HasText (found_of m) (slice_index_or (args_of old) k d).id.now (slice_index_or (args_of old) k d).ignore_case q
    read e x same_x id pass found =
        let some = valued e id pass in
        let all : All (λ v. PassesArg p.built (slice_index_or (args_of old) k d).id.now v.now) e.1.vals.items = elim pass.0 [
          | inl g ↦ absurd (some.0 g)
          | inr vals ↦ subst (λ (w : List ℕ). All (λ v. PassesArg p.built w v.now) e.1.vals.items) id vals
        ] in
        let how : e.1.reading ≡ reading_of q = elim pass.4 [
          | inl g ↦ absurd (some.0 g)
          | inr any ↦
              let s = same any.0 any.1 any.2 any.3 (rw id at any.4.0) in
              sym any.4.1 ∙ ap reading_of (ap parser_of_value (s.parser q takes.parser))
        ] in
        let head = first_of_some (λ v. PassesArg p.built (slice_index_or (args_of old) k d).id.now v.now) e.1.reading e.1.vals.items all some.1 in
        let any = head.2 in (
          head.0.now,
          rw (found, ← same_x, ← how) head.1,
          accepted _ any.1 q head.0.now (same any.0 any.1 any.2 any.3 any.4.0) takes.parser any.4.1,
        )

    go : (o : Option MatchedArg) → matched_of (found_of m) (slice_index_or (args_of old) k d).id.now ≡ o
        → is_some (matched_of (found_of m) (slice_index_or (args_of old) k d).id.now) ≡ true
        → IsParsed p.built (found_of m) (has_subcommand m)
        → HasText (found_of m) (slice_index_or (args_of old) k d).id.now (slice_index_or (args_of old) k d).ignore_case q
    go None e some parsed =
        let bad : false ≡ true = rw e at some in
        cc
    go (Some x) e some parsed =
        let got = entry_by_id (EntryPasses p.built) (found_of m).entries.items (slice_index_or (args_of old) k d).id.now x parsed.values e in
        read got.0 x got.1 ((bytes_eq-Decides _ _).0 got.2) got.3 e
