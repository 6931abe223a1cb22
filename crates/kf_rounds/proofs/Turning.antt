-- Lines get their turns, one after another.
use Rattle.std.proofs.Common.{◌≡◌, ◌≢◌, ℕ, zero, suc, ◌+◌, ◌<◌, List, [], ◌∷◌, ◌++◌, length, take, drop, get_or, set, map, All, refl, sym, ap, ◌∙◌, subst, arith, eq-eqb, ne_eqb, get_or-set_same, get_or-set_other, if◌then◌else◌}
use Rattle.std.proofs.lemmas.Grind.{flat_map-append}
use mathlib.Core.Logic.{dite}
use mathlib.Core.List.{append-nil, map-append}
use Rattle.std.proofs.lemmas.List.{append_assoc, length-append}
use Rattle.std.proofs.lemmas.List.Elements.{All-append, All-nil}
use native.Mathlib.Decide.{ℕ_discrete}
use Rattle.kf_script.specs.Answers.{Step}
use Rattle.kf_script.specs.ReplyText.{bad_line_text, done_text}
use Rattle.kf_rounds.specs.Kinds.{KindOfLine, bad, ends_round, of_seat, own_command, commands_of}
use Rattle.kf_rounds.specs.Turns.{Turn, kind_in, text, reply_line, HasFixed, own_reply, reply_of, replies_of, Tells, EachTells, Puts, PutOut, Replied}
use Rattle.kf_rounds.proofs.Telling.{tells_front, tells_append, tells_none}

some_there : (l : List (List (List ℕ))) (i : ℕ) (x : List ℕ) (xs : List (List ℕ)) → get_or l i [] ≡ x ∷ xs → i < length l
some_there [] i x xs e = absurd (let y : [] ≡ x ∷ xs = e in cc)
some_there (y ∷ l) zero x xs e = omega arith
some_there (y ∷ l) (suc i) x xs e = let r = some_there l i x xs e in omega arith

own_is : (w : ℕ) (command reply : List ℕ) → own_reply w (of_seat w command) reply ≡ reply ∷ []
own_is w command reply = ap (λ b. if b then reply ∷ [] else []) (eq-eqb w w refl)

own_not : (w v : ℕ) (command reply : List ℕ) → v ≢ w → own_reply v (of_seat w command) reply ≡ []
own_not w v command reply ne = ap (λ b. if b then reply ∷ [] else []) (ne_eqb w v (λ e. ne (sym e)))

one_turn : (t : Turn) → HasFixed t → All HasFixed (t ∷ [])
one_turn t p zero d near = p
one_turn t p (suc k) d near = absurd (omega arith)

-- what a seat had ready is the reply that this turn dealt, if the turn was the seat's, and then what is left
dealt_one : (who w : ℕ) (command reply : List ℕ) (later : List (List ℕ)) (said : List (List (List ℕ))) → get_or said w [] ≡ reply ∷ later
    → get_or said who [] ≡ own_reply who (of_seat w command) reply ++ get_or (set said w later) who []
dealt_one who w command reply later said e =
    let near = some_there said w reply later e in
    dite (ℕ_discrete who w)
    (λ same. subst (λ v. get_or said v [] ≡ own_reply v (of_seat w command) reply ++ get_or (set said w later) v []) (sym same)
    (e ∙ ap (λ l. reply ∷ l) (sym (get_or-set_same said w later [] near)) ∙ ap (λ l. l ++ get_or (set said w later) w []) (sym (own_is w command reply))))
    (λ ne. sym (get_or-set_other said w who later [] ne) ∙ ap (λ l. l ++ get_or (set said w later) who []) (sym (own_not w who command reply ne)))

text_one : (t : Turn) → text (t ∷ []) ≡ reply_line t
text_one t = append-nil (reply_line t)

replies_one : (who : ℕ) (t : Turn) → replies_of who (t ∷ []) ≡ reply_of who t
replies_one who t = append-nil (reply_of who t)

-- the turn of one line
pub put_one : (k : KindOfLine) (said said' : List (List (List ℕ))) (out out' : List ℕ) → Puts k said said' out out' → PutOut (k ∷ []) said said' out out'
put_one bad said said' out out' p = let t : Turn = record { kind = bad; reply = bad_line_text } in record {
  turns = t ∷ [];
  kinds_are = refl;
  fixed = one_turn t refl;
  dealt = λ who. ap (λ s. get_or s who []) (sym p.0);
  bytes_are = p.1 ∙ append_assoc out bad_line_text (10 ∷ []) ∙ ap (λ l. out ++ l) (sym (text_one t));
}
put_one ends_round said said' out out' p = let t : Turn = record { kind = ends_round; reply = done_text } in record {
  turns = t ∷ [];
  kinds_are = refl;
  fixed = one_turn t refl;
  dealt = λ who. ap (λ s. get_or s who []) (sym p.0);
  bytes_are = p.1 ∙ append_assoc out done_text (10 ∷ []) ∙ ap (λ l. out ++ l) (sym (text_one t));
}
put_one (of_seat w command) said said' out out' p = let t : Turn = record { kind = of_seat w command; reply = p.0 } in record {
  turns = t ∷ [];
  kinds_are = refl;
  fixed = one_turn t tt;
  dealt = λ who. dealt_one who w command p.0 p.1 said p.2 ∙ ap (λ s. own_reply who (of_seat w command) p.0 ++ get_or s who []) (sym p.3)
      ∙ ap (λ l. l ++ get_or said' who []) (sym (replies_one who t));
  bytes_are = p.4 ∙ append_assoc out p.0 (10 ∷ []) ∙ ap (λ l. out ++ l) (sym (text_one t));
}

pub put_none : (said : List (List (List ℕ))) (out : List ℕ) → PutOut [] said said out out
put_none said out = record { turns = []; kinds_are = refl; fixed = All-nil HasFixed; dealt = λ who. refl; bytes_are = sym (append-nil out) }

pub put_more : (ks ls : List KindOfLine) (said said' said'' : List (List (List ℕ))) (out out' out'' : List ℕ) → PutOut ks said said' out out' → PutOut ls said' said'' out' out''
    → PutOut (ks ++ ls) said said'' out out''
put_more ks ls said said' said'' out out' out'' h l = record {
  turns = h.turns ++ l.turns;
  kinds_are = map-append kind_in h.turns l.turns ∙ ap (λ x. x ++ map kind_in l.turns) h.kinds_are ∙ ap (λ x. ks ++ x) l.kinds_are;
  fixed = All-append HasFixed h.turns l.turns h.fixed l.fixed;
  dealt = λ who. h.dealt who ∙ ap (λ x. replies_of who h.turns ++ x) (l.dealt who) ∙ sym (append_assoc (replies_of who h.turns) (replies_of who l.turns) (get_or said'' who []))
      ∙ ap (λ x. x ++ get_or said'' who []) (sym (flat_map-append (reply_of who) h.turns l.turns));
  bytes_are = l.bytes_are ∙ ap (λ x. x ++ text l.turns) h.bytes_are ∙ append_assoc out (text h.turns) (text l.turns) ∙ ap (λ x. out ++ x) (sym (flat_map-append reply_line h.turns l.turns));
}

-- a line has one reply of a seat for each command of that seat
same_own : (who : ℕ) (k : KindOfLine) (reply : List ℕ) → length (own_reply who k reply) ≡ length (own_command who k)
same_own who bad reply = refl
same_own who ends_round reply = refl
same_own who (of_seat w command) reply = dite (ℕ_discrete who w)
    (λ same. subst (λ v. length (own_reply v (of_seat w command) reply) ≡ length (own_command v (of_seat w command))) (sym same)
    (ap length (own_is w command reply) ∙ sym (ap (λ b. length (if b then command ∷ [] else [])) (eq-eqb w w refl))))
    (λ ne. ap length (own_not w who command reply ne) ∙ sym (ap (λ b. length (if b then command ∷ [] else [])) (ne_eqb w who (λ e. ne (sym e)))))

same_count : (who : ℕ) (turns : List Turn) → length (replies_of who turns) ≡ length (commands_of who (map kind_in turns))
same_count who [] = refl
same_count who (t ∷ turns) =
    let here = same_own who t.kind t.reply in
    let later = same_count who turns in
    let a = length-append (reply_of who t) (replies_of who turns) in
    let b = length-append (own_command who t.kind) (commands_of who (map kind_in turns)) in
    omega arith

pub as_many : (who : ℕ) (turns : List Turn) (ks : List KindOfLine) → map kind_in turns ≡ ks → length (replies_of who turns) ≡ length (commands_of who ks)
as_many who turns ks e = same_count who turns ∙ ap (λ l. length (commands_of who l)) e

module _ {Board : Type 0} (step : Step Board) where
  -- what the seats replied was put out
  pub replied_round : (ks : List KindOfLine) (before now : List Board) (said said' : List (List (List ℕ))) (out out' : List ℕ) → EachTells step ks before said now
      → PutOut ks said said' out out' → Replied step ks before now out out'
  replied_round ks before now said said' out out' t p = record {
    turns = p.turns;
    kinds_are = p.kinds_are;
    fixed = p.fixed;
    ran = λ who d. tells_front step (get_or before who d) (get_or now who d) (commands_of who ks) (replies_of who p.turns) (get_or said' who [])
        (as_many who p.turns ks p.kinds_are) (subst (λ rs. Tells step (get_or before who d) (commands_of who ks) rs (get_or now who d)) (p.dealt who) (t who d));
    bytes_are = p.bytes_are;
  }

  pub replied_none : (before : List Board) (out : List ℕ) → Replied step [] before before out out
  replied_none before out = record { turns = []; kinds_are = refl; fixed = All-nil HasFixed; ran = λ who d. refl; bytes_are = sym (append-nil out) }

  -- the replies of one round follow those of the earlier rounds
  pub replied_more : (ks ls : List KindOfLine) (before middle now : List Board) (old out out' : List ℕ) → Replied step ks before middle old out → Replied step ls middle now out out'
      → Replied step (ks ++ ls) before now old out'
  replied_more ks ls before middle now old out out' h l = record {
    turns = h.turns ++ l.turns;
    kinds_are = map-append kind_in h.turns l.turns ∙ ap (λ x. x ++ map kind_in l.turns) h.kinds_are ∙ ap (λ x. ks ++ x) l.kinds_are;
    fixed = All-append HasFixed h.turns l.turns h.fixed l.fixed;
    ran = λ who d. subst (λ cs. Tells step (get_or before who d) cs (replies_of who (h.turns ++ l.turns)) (get_or now who d)) (sym (flat_map-append (own_command who) ks ls))
        (subst (λ rs. Tells step (get_or before who d) (commands_of who ks ++ commands_of who ls) rs (get_or now who d)) (sym (flat_map-append (reply_of who) h.turns l.turns))
        (tells_append step (get_or before who d) (get_or middle who d) (get_or now who d) (commands_of who ks) (replies_of who h.turns) (commands_of who ls) (replies_of who l.turns)
        (h.ran who d) (as_many who h.turns ks h.kinds_are) (l.ran who d)));
    bytes_are = l.bytes_are ∙ ap (λ x. x ++ text l.turns) h.bytes_are ∙ append_assoc old (text h.turns) (text l.turns) ∙ ap (λ x. old ++ x) (sym (flat_map-append reply_line h.turns l.turns));
  }

  -- what is true of each seat is true of each number; a number beyond the seats has no replies
  pub each_told : {S : Type 0} (board : S → Board) (said : S → List (List ℕ)) (olds news : List S) (cs : ℕ → List (List ℕ)) → length news ≡ length olds
      → ((who : ℕ) (d : S) → who < length olds → Tells step (board (get_or olds who d)) (cs who) (said (get_or news who d)) (board (get_or news who d)))
      → (who : ℕ) (d : Board) → Tells step (get_or (map board olds) who d) (cs who) (get_or (map said news) who []) (get_or (map board news) who d)
  each_told board said [] [] cs n h who d = tells_none step d (cs who)
  each_told board said [] (y ∷ news) cs n h who d = absurd (omega arith)
  each_told board said (x ∷ olds) [] cs n h who d = absurd (omega arith)
  each_told board said (x ∷ olds) (y ∷ news) cs n h zero d = h zero x (omega arith)
  each_told board said (x ∷ olds) (y ∷ news) cs n h (suc who) d =
      each_told board said olds news (λ w. cs (suc w)) (omega arith) (λ w d' near. h (suc w) d' (omega arith)) who d

-- taking some more items takes those that follow
pub taken_more : {X : Type 0} (l : List X) (from count : ℕ) → take (from + count) l ≡ take from l ++ take count (drop from l)
taken_more l zero count = ap (λ n. take n l) (omega arith)
taken_more [] (suc from) count = nothing (suc from + count) ∙ sym (nothing count)
  where
    nothing : {X : Type 0} (n : ℕ) → take {A = X} n [] ≡ []
    nothing zero = refl
    nothing (suc n) = refl
taken_more (x ∷ l) (suc from) count = let n : suc from + count ≡ suc (from + count) = omega arith in ap (λ k. take k (x ∷ l)) n ∙ ap (λ r. x ∷ r) (taken_more l from count)
