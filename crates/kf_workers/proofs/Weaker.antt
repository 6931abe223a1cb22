-- A board of the shared tree gives each line a reply of the form that the line asks for.
use Rattle.std.proofs.Common.{◌≡◌, ◌≢◌, ◌<◌, zero, suc, ℕ, List, [], ◌∷◌, ◌++◌, map, All, get_or, length, refl, sym, ap, subst, arith, eq-eqb, ne_eqb, if◌then◌else◌}
use Rattle.std.specs.Prelude.{Option, None, Some}
use Rattle.std.proofs.lemmas.List.Elements.{All-nil}
use mathlib.Core.Logic.{dite}
use native.Mathlib.Decide.{ℕ_discrete}
use Rattle.kf_script.specs.Answers.{Step, AnswersRequest}
use Rattle.kf_script.specs.Requests.{RequestWords, request_of}
use Rattle.kf_rounds.specs.Kinds.{KindOfLine, bad, ends_round, of_seat, commands_of, own_command, kinds_by}
use Rattle.kf_rounds.specs.Turns.{Turn, kind_in, own_reply, replies_of, IsFixed, HasFixed, Tells, Replied as RepliedBy}
use Rattle.kf_workers.specs.Replies.{Suits, AnswersCommand, AnswersTo}
use Rattle.kf_workers.specs.Replied.{MayReply, IsTurn, RepliedInForm}

module _ (Board : Type 0) where
  -- a board whose replies suit their requests
  abbrev pub suits : Step Board
  suits before request starved reply now = Suits request reply

  answers_to : (before now : Board) (asked : Option RequestWords) (starved : _) (reply : List ℕ) → AnswersRequest suits before asked starved reply now → AnswersTo asked reply
  answers_to before now None starved reply said = said.1
  answers_to before now (Some request) starved reply said = said

  all_turns : (t : Turn) (turns : List Turn) → IsTurn t → All IsTurn turns → All IsTurn (t ∷ turns)
  all_turns t turns here later zero d near = here
  all_turns t turns here later (suc k) d near = later k d (omega arith)

  own_command_is : (w : ℕ) (command : List ℕ) → own_command w (of_seat w command) ≡ command ∷ []
  own_command_is w command = ap (λ b. if b then command ∷ [] else []) (eq-eqb w w refl)

  own_reply_is : (w : ℕ) (command reply : List ℕ) → own_reply w (of_seat w command) reply ≡ reply ∷ []
  own_reply_is w command reply = ap (λ b. if b then reply ∷ [] else []) (eq-eqb w w refl)

  no_command : (w who : ℕ) (command : List ℕ) → who ≢ w → own_command who (of_seat w command) ≡ []
  no_command w who command ne = ap (λ b. if b then command ∷ [] else []) (ne_eqb w who (λ e. ne (sym e)))

  no_reply : (w who : ℕ) (command reply : List ℕ) → who ≢ w → own_reply who (of_seat w command) reply ≡ []
  no_reply w who command reply ne = ap (λ b. if b then reply ∷ [] else []) (ne_eqb w who (λ e. ne (sym e)))

  -- some board gave these replies to these commands
  abbrev Ran : List (List ℕ) → List (List ℕ) → Type 0
  Ran commands replies = (before now : Board) × Tells suits before commands replies now

  first_answers : (c r : List ℕ) (cs rs : List (List ℕ)) → Ran (c ∷ cs) (r ∷ rs) → AnswersCommand c r
  first_answers c r cs rs t = answers_to t.0 t.2.0 (request_of c) t.2.1 r t.2.2

  others_answer : (c r : List ℕ) (cs rs : List (List ℕ)) → Ran (c ∷ cs) (r ∷ rs) → Ran cs rs
  others_answer c r cs rs t = (t.2.0, t.1, t.2.3)

  -- a turn at the front that seat `w` takes is its own: it has the turn's command and reply
  own_front : (w : ℕ) (c r : List ℕ) (cs rs : List (List ℕ)) → Ran (own_command w (of_seat w c) ++ cs) (own_reply w (of_seat w c) r ++ rs) → Ran (c ∷ cs) (r ∷ rs)
  own_front w c r cs rs t = subst (λ a. Ran (a ++ cs) (r ∷ rs)) (own_command_is w c) (subst (λ a. Ran (own_command w (of_seat w c) ++ cs) (a ++ rs)) (own_reply_is w c r) t)

  others_front : (w who : ℕ) (c r : List ℕ) (cs rs : List (List ℕ)) → Ran (own_command who (of_seat w c) ++ cs) (own_reply who (of_seat w c) r ++ rs) → Ran cs rs
  others_front w who c r cs rs t = dite (ℕ_discrete who w)
      (λ same. others_answer c r cs rs (own_front w c r cs rs (subst (λ v. Ran (own_command v (of_seat w c) ++ cs) (own_reply v (of_seat w c) r ++ rs)) same t)))
      (λ ne. subst (λ a. Ran (a ++ cs) rs) (no_command w who c ne) (subst (λ a. Ran (own_command who (of_seat w c) ++ cs) (a ++ rs)) (no_reply w who c r ne) t))

  first_turn : (kind : KindOfLine) (reply : List ℕ) (cs rs : ℕ → List (List ℕ)) → IsFixed kind reply → ((who : ℕ) → Ran (own_command who kind ++ cs who) (own_reply who kind reply ++ rs who))
      → MayReply kind reply × ((who : ℕ) → Ran (cs who) (rs who))
  first_turn bad reply cs rs fixed told = (fixed, told)
  first_turn ends_round reply cs rs fixed told = (fixed, told)
  first_turn (of_seat w c) reply cs rs fixed told = (
    first_answers c reply (cs w) (rs w) (own_front w c reply (cs w) (rs w) (told w)),
    λ who. others_front w who c reply (cs who) (rs who) (told who),
  )

  each_turn : (turns : List Turn) → All HasFixed turns → ((who : ℕ) → Ran (commands_of who (map kind_in turns)) (replies_of who turns)) → All IsTurn turns
  each_turn [] fixed told = All-nil IsTurn
  each_turn (t ∷ turns) fixed told =
      let first = first_turn t.kind t.reply (λ who. commands_of who (map kind_in turns)) (λ who. replies_of who turns) (fixed 0 t (omega arith)) told in
      all_turns t turns first.0 (each_turn turns (λ k d near. fixed (suc k) d (omega arith)) first.1)

  pub replied_so : (workers : ℕ) (lines : List (List ℕ)) (before now : List Board) (bytes : List ℕ) → 0 < length before
      → RepliedBy suits (kinds_by workers lines) before now [] bytes → RepliedInForm workers lines bytes
  replied_so workers lines [] now bytes some was = absurd (omega arith)
  replied_so workers lines (d ∷ before) now bytes some was = record {
    turns = was.turns;
    kinds_are = was.kinds_are;
    each = each_turn was.turns was.fixed (λ who. (
      get_or (d ∷ before) who d,
      get_or now who d,
      subst (λ ks. Tells suits (get_or (d ∷ before) who d) (commands_of who ks) (replies_of who was.turns) (get_or now who d)) (sym was.kinds_are) (was.ran who d),
    ));
    bytes_are = was.bytes_are;
  }
