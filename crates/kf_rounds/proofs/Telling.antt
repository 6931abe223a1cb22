-- What the board of one seat replies to its commands.
use Rattle.std.proofs.Common.{◌≡◌, ℕ, suc, ◌+◌, ◌<◌, List, [], ◌∷◌, ◌++◌, length, take, drop, get_or, refl, sym, ap, ◌∙◌, subst, arith, Bool, true, false, ◌==◌, if◌then◌else◌}
use Rattle.std.proofs.lemmas.List.{take-append-drop}
use Rattle.std.proofs.lemmas.Grind.{flat_map-append}
use Rattle.std.proofs.Math.Seq.{take-suc, drop-cons}
use mathlib.Core.List.{append-nil}
use Rattle.kf_script.specs.Answers.{Step, AnswersRequest}
use Rattle.kf_script.specs.Requests.{request_of}
use Rattle.kf_rounds.specs.Kinds.{KindOfLine, bad, ends_round, of_seat, commands_of, own_command}
use Rattle.kf_rounds.specs.Turns.{Tells, Adds}

module _ {Board : Type 0} (step : Step Board) where
  -- each command has its reply
  abbrev pub TellsAll : Board → List (List ℕ) → List (List ℕ) → Board → Type 0
  TellsAll before cs rs now = Tells step before cs rs now × (length rs ≡ length cs)

  pub tells_push : (before middle now : Board) (cs rs : List (List ℕ)) (c r : List ℕ) (starved : Bool) → TellsAll before cs rs middle
      → AnswersRequest step middle (request_of c) starved r now → TellsAll before (cs ++ c ∷ []) (rs ++ r ∷ []) now
  tells_push before middle now [] [] c r starved t a = ((now, starved, subst (λ b. AnswersRequest step b (request_of c) starved r now) t.0 a, refl), refl)
  tells_push before middle now [] (x ∷ rs) c r starved t a = absurd t.0
  tells_push before middle now (x ∷ cs) [] c r starved t a = absurd (let n = t.1 in omega arith)
  tells_push before middle now (x ∷ cs) (y ∷ rs) c r starved t a =
      let p = tells_push t.0.0 middle now cs rs c r starved (t.0.3, (let n = t.1 in omega arith)) a in
      ((t.0.0, t.0.1, t.0.2, p.0), ap suc p.1)

  -- if further commands have no reply, nothing is said about the board now
  pub tells_part : (before middle now : Board) (cs rs : List (List ℕ)) (d : List ℕ) (ds : List (List ℕ)) → Tells step before cs rs middle → length rs ≡ length cs
      → Tells step before (cs ++ d ∷ ds) rs now
  tells_part before middle now [] [] d ds t n = tt
  tells_part before middle now [] (r ∷ rs) d ds t n = absurd t
  tells_part before middle now (c ∷ cs) [] d ds t n = absurd (omega arith)
  tells_part before middle now (c ∷ cs) (r ∷ rs) d ds t n = (t.0, t.1, t.2, tells_part t.0 middle now cs rs d ds t.3 (omega arith))

  -- a board's replies, followed by what it replied from there on
  pub tells_append : (before middle now : Board) (cs rs ds qs : List (List ℕ)) → Tells step before cs rs middle → length rs ≡ length cs
      → Tells step middle ds qs now → Tells step before (cs ++ ds) (rs ++ qs) now
  tells_append before middle now [] [] ds qs t n later = subst (λ b. Tells step b ds qs now) t later
  tells_append before middle now [] (r ∷ rs) ds qs t n later = absurd t
  tells_append before middle now (c ∷ cs) [] ds qs t n later = absurd (omega arith)
  tells_append before middle now (c ∷ cs) (r ∷ rs) ds qs t n later = (t.0, t.1, t.2, tells_append t.0 middle now cs rs ds qs t.3 (omega arith) later)

  -- a board has at most one reply for each command
  pub tells_front : (before now : Board) (cs rs more : List (List ℕ)) → length rs ≡ length cs → Tells step before cs (rs ++ more) now → Tells step before cs rs now
  tells_front before now [] [] [] n t = t
  tells_front before now [] [] (x ∷ more) n t = absurd t
  tells_front before now [] (r ∷ rs) more n t = absurd t
  tells_front before now (c ∷ cs) [] more n t = absurd (omega arith)
  tells_front before now (c ∷ cs) (r ∷ rs) more n t = (t.0, t.1, t.2, tells_front t.0 now cs rs more (omega arith) t.3)

  -- an unchanged board and no replies fit any commands
  pub tells_none : (board : Board) (cs : List (List ℕ)) → Tells step board cs [] board
  tells_none board [] = refl
  tells_none board (c ∷ cs) = tt

  -- the replies after one more line
  pub told_line : (before middle now : Board) (cs own old new : List (List ℕ)) (n : length own < 2) → TellsAll before cs old middle → Adds step own middle old now new
      → TellsAll before (cs ++ own) new now
  told_line before middle now cs [] old new n t a =
      subst (λ rs. TellsAll before (cs ++ []) rs now) (sym a.1) (subst (λ ds. TellsAll before ds old now) (sym (append-nil cs)) (subst (λ b. TellsAll before cs old b) (sym a.0) t))
  told_line before middle now cs (c ∷ []) old new n t a =
      subst (λ rs. TellsAll before (cs ++ c ∷ []) rs now) (sym a.3) (tells_push before middle now cs old c a.0 a.1 t a.2)
  told_line before middle now cs (c ∷ d ∷ ds) old new n t a = absurd (omega arith)

own_short : (who : ℕ) (g : KindOfLine) → length (own_command who g) < 2
own_short who bad = omega arith
own_short who ends_round = omega arith
own_short who (of_seat w command) = one_or_none (w == who)
  where
    one_or_none : (b : Bool) → length (if b then command ∷ [] else []) < 2
    one_or_none true = omega arith
    one_or_none false = omega arith

-- the commands of the lines so far and of one more line
commands_next : (who : ℕ) (ks : List KindOfLine) (i : ℕ) → i < length ks → commands_of who (take (i + 1) ks) ≡ commands_of who (take i ks) ++ own_command who (get_or ks i bad)
commands_next who ks i near =
    let n : i + 1 ≡ suc i = omega arith in
    ap (commands_of who) (ap (λ k. take k ks) n ∙ take-suc ks i bad near) ∙ flat_map-append (own_command who) (take i ks) (get_or ks i bad ∷ [])
    ∙ ap (λ l. commands_of who (take i ks) ++ l) (append-nil (own_command who (get_or ks i bad)))

-- all commands are those of the lines so far, of the next line, and of the others
commands_cut : (who : ℕ) (ks : List KindOfLine) (i : ℕ) → i < length ks
    → commands_of who ks ≡ commands_of who (take i ks) ++ (own_command who (get_or ks i bad) ++ commands_of who (drop (suc i) ks))
commands_cut who ks i near =
    sym (ap (commands_of who) (take-append-drop i ks)) ∙ flat_map-append (own_command who) (take i ks) (drop i ks)
    ∙ ap (λ l. commands_of who (take i ks) ++ commands_of who l) (drop-cons ks i bad near)

module _ {Board : Type 0} (step : Step Board) where
  pub told_next : (before middle now : Board) (who : ℕ) (ks : List KindOfLine) (i : ℕ) (old new : List (List ℕ)) → i < length ks
      → TellsAll step before (commands_of who (take i ks)) old middle → Adds step (own_command who (get_or ks i bad)) middle old now new
      → TellsAll step before (commands_of who (take (i + 1) ks)) new now
  told_next before middle now who ks i old new near t a = subst (λ cs. TellsAll step before cs new now) (sym (commands_next who ks i near))
      (told_line step before middle now (commands_of who (take i ks)) _ old new (own_short who (get_or ks i bad)) t a)

  -- a line of this seat whose reply is missing
  pub told_part : (before middle now : Board) (who : ℕ) (ks : List KindOfLine) (i : ℕ) (rs : List (List ℕ)) (c : List ℕ) → i < length ks
      → TellsAll step before (commands_of who (take i ks)) rs middle → own_command who (get_or ks i bad) ≡ c ∷ []
      → Tells step before (commands_of who ks) rs now
  told_part before middle now who ks i rs c near t own =
      subst (λ cs. Tells step before cs rs now) (sym (commands_cut who ks i near ∙ ap (λ l. commands_of who (take i ks) ++ (l ++ commands_of who (drop (suc i) ks))) own))
      (tells_part step before middle now (commands_of who (take i ks)) rs c (commands_of who (drop (suc i) ks)) t.0 t.1)
