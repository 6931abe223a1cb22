-- Lemmas about lines, replies and how far a run has come.
use Rattle.std.proofs.Common.{◌≡◌, ℕ, ◌+◌, ◌≤◌, Bool, All, false, List, [], ◌∷◌, ◌++◌, length, map, filter, Option, Some, None, Result, Ok, Err, MatchResult, arith, refl, sym, ap, subst, ◌∙◌, append_assoc, append-nil, rules, inl, inr}
use Rattle.std.specs.List.{slice_split}
use Rattle.std.specs.Option.{option_and_then}
use Rattle.std.specs.Prelude.{nat_le, ◌==◌}
use Rattle.std.specs.Io.KnownBytes.{Appends}
use Rattle.std.proofs.KnownBytes.{Appends-trans, Appends-nil}
use Rattle.std.proofs.lemmas.List.Splits.{slice_split_at, slice_split_none}
use Rattle.std.proofs.lemmas.List.Concat.{flat_map-append}
use Rattle.std.proofs.lemmas.List.Elements.{All-append}
use Rattle.std.proofs.lemmas.Bool.Decides.{leb_tells}
use Rattle.std.proofs.Common.{length-append}
use Rattle.kf_script.specs.Lines.{is_newline, has_bytes, lines_of, front, ended_lines_of, kept_line}
use Rattle.kf_script.specs.Requests.{request_of}
use Rattle.kf_script.specs.ReplyText.{bad_line_text}
use Rattle.kf_script.specs.Answers.{Step, Turn, line_of, AnswersRequest, Answers, reply_line, text}
use Rattle.kf_script.specs.Progress.{WrittenOrCut, Answered, CutShort}
use Rattle.kf_script.specs.SoFar.{AnsweredSoFar, Stopped, AnsweredOrCut, ended_line}

-- ---- lists

map-append : (xs ys : List Turn) → map line_of (xs ++ ys) ≡ map line_of xs ++ map line_of ys
map-append [] ys = refl
map-append (x ∷ xs) ys = ap (λ l. line_of x ∷ l) (map-append xs ys)

filter-append : (xs ys : List (List ℕ)) → filter has_bytes (xs ++ ys) ≡ filter has_bytes xs ++ filter has_bytes ys
filter-append [] ys = refl
filter-append ([] ∷ xs) ys = filter-append xs ys
filter-append ((byte ∷ x) ∷ xs) ys = ap (λ l. (byte ∷ x) ∷ l) (filter-append xs ys)

front-push : (xs : List (List ℕ)) (x : List ℕ) → front (xs ++ x ∷ []) ≡ xs
front-push [] x = refl
front-push (y ∷ []) x = refl
front-push (y ∷ z ∷ xs) x = ap (λ l. y ∷ l) (front-push (z ∷ xs) x)

-- ---- replies follow replies

answers-append : {Board : Type 0} (step : Step Board) (first mid now : Board) (xs ys : List Turn)
    → Answers step first xs mid → Answers step mid ys now → Answers step first (xs ++ ys) now
answers-append step first mid now [] ys e later = subst (λ b. Answers step b ys now) e later
answers-append step first mid now (x ∷ xs) ys (next, turn, rest) later = (next, turn, answers-append step next mid now xs ys rest later)

pub answered-then : {Board : Type 0} {step : Step Board} {first mid now : Board} {xs ys : List (List ℕ)} {a b c : Option (List ℕ)}
    → Answered step first mid xs a b → Answered step mid now ys b c → Answered step first now (xs ++ ys) a c
answered-then {step = step} {first = first} {mid = mid} {now = now} {xs = xs} {ys = ys} {a = a} {b = b} {c = c} p q = record {
  turns = p.turns ++ q.turns;
  lines_are = map-append p.turns q.turns ∙ ap (λ l. l ++ map line_of q.turns) p.lines_are ∙ ap (λ l. xs ++ l) q.lines_are;
  answers = answers-append step first mid now p.turns q.turns p.answers q.answers;
  written = subst (Appends a c) (sym (flat_map-append reply_line p.turns q.turns)) (Appends-trans a b c _ _ p.written q.written);
}

pub answered-cut : {Board : Type 0} {step : Step Board} {first mid now : Board} {xs ys : List (List ℕ)} {a b c : Option (List ℕ)}
    → Answered step first mid xs a b → CutShort step mid now ys b c → CutShort step first now (xs ++ ys) a c
answered-cut {step = step} {first = first} {mid = mid} {now = now} {xs = xs} {ys = ys} {a = a} {b = b} {c = c} p q =
    let (later, lines_are) = q.lines_are in
    let (rest, whole) = q.prefix in
    record {
      turns = p.turns ++ q.turns;
      lines_are = (
        later,
        ap (λ l. xs ++ l) lines_are
            ∙ ap (λ l. l ++ (map line_of q.turns ++ later)) (sym p.lines_are)
            ∙ sym (append_assoc (map line_of p.turns) (map line_of q.turns) later)
            ∙ ap (λ l. l ++ later) (sym (map-append p.turns q.turns)),
      );
      answers = answers-append step first mid now p.turns q.turns p.answers q.answers;
      part = text p.turns ++ q.part;
      written = Appends-trans a b c _ _ p.written q.written;
      prefix = (
        rest,
        flat_map-append reply_line p.turns q.turns
            ∙ ap (λ l. text p.turns ++ l) whole
            ∙ sym (append_assoc (text p.turns) q.part rest),
      );
    }

pub cut-more : {Board : Type 0} {step : Step Board} {first now : Board} {xs : List (List ℕ)} (ys : List (List ℕ)) {a b : Option (List ℕ)}
    → CutShort step first now xs a b → CutShort step first now (xs ++ ys) a b
cut-more ys p =
    let (later, lines_are) = p.lines_are in
    record {
      turns = p.turns;
      lines_are = (later ++ ys, ap (λ l. l ++ ys) lines_are ∙ append_assoc (map line_of p.turns) later ys);
      answers = p.answers;
      part = p.part;
      written = p.written;
      prefix = p.prefix;
    }

-- no line got a reply and nothing was written
pub answered-none : {Board : Type 0} {step : Step Board} {board : Board} (old : Option (List ℕ)) → Answered step board board [] old old
answered-none old = record { turns = []; lines_are = refl; answers = refl; written = Appends-nil old }

-- ---- one line

-- a line with bytes, and what was written of its reply
pub answered-one : {Board T E : Type 0} (step : Step Board) (before now : Board) (byte : ℕ) (line reply : List ℕ) (starved : Bool) (old new : Option (List ℕ)) (result : Result T E)
    → AnswersRequest step before (request_of (byte ∷ line)) starved reply now → WrittenOrCut old new result (reply ++ 10 ∷ [])
    → AnsweredOrCut step before now (ended_line (byte ∷ line)) old new result
answered-one step before now byte line reply starved old new (Ok x) answered written = record {
  turns = record { line = byte ∷ line; starved = starved; reply = reply } ∷ [];
  lines_are = refl;
  answers = (now, answered, refl);
  written = subst (Appends old new) (sym (append-nil (reply ++ 10 ∷ []))) written;
}
answered-one step before now byte line reply starved old new (Err x) answered (part, (rest, whole), written) = record {
  turns = record { line = byte ∷ line; starved = starved; reply = reply } ∷ [];
  lines_are = ([], refl);
  answers = (now, answered, refl);
  part = part;
  written = written;
  prefix = (rest, append-nil (reply ++ 10 ∷ []) ∙ whole);
}

-- a line that is not empty
pub answered-line : {Board T E : Type 0} (step : Step Board) (before now : Board) (line reply : List ℕ) (starved : Bool) (old new : Option (List ℕ)) (result : Result T E)
    → (length line == 0) ≡ false → AnswersRequest step before (request_of line) starved reply now → WrittenOrCut old new result (reply ++ 10 ∷ [])
    → AnsweredOrCut step before now (ended_line line) old new result
answered-line step before now [] reply starved old new result some answered written = absurd (cc)
answered-line step before now (byte ∷ line) reply starved old new result some answered written =
    answered-one step before now byte line reply starved old new result answered written

kept_none : (line : List ℕ) → None ≡ kept_line line → nat_le (length line) 8192 ≡ false
kept_none line e = elim (leb_tells (length line) 8192) [
  | inl (is, fits) ↦ absurd (let bad : None ≡ Some line = e ∙ rw is refl in cc)
  | inr (is, long) ↦ is
]

pub kept_some : (line bytes : List ℕ) → Some bytes ≡ kept_line line → bytes ≡ line
kept_some line bytes e = elim (leb_tells (length line) 8192) [
  | inl (is, fits) ↦ let same : Some bytes ≡ Some line = e ∙ rw is refl in cc
  | inr (is, long) ↦ absurd (let bad : Some bytes ≡ None = e ∙ rw is refl in cc)
]

-- a line that is too long
pub answered-long : {Board T E : Type 0} (step : Step Board) (board : Board) (line : List ℕ) (old new : Option (List ℕ)) (result : Result T E)
    → None ≡ kept_line line → WrittenOrCut old new result (bad_line_text ++ 10 ∷ []) → AnsweredOrCut step board board (ended_line line) old new result
answered-long step board [] old new result e written = absurd (cc)
answered-long step board (byte ∷ line) old new result e written =
    let long : request_of (byte ∷ line) ≡ None = rw (kept_none (byte ∷ line) e) refl in
    let answered = subst (λ r. AnswersRequest step board r false bad_line_text board) (sym long) (refl, refl, refl) in
    answered-one step board board byte line bad_line_text false old new result answered written

-- a line without bytes
pub answered-empty : {Board T E : Type 0} (step : Step Board) (board : Board) (line : List ℕ) (old : Option (List ℕ)) (result : Result T E) (x : T)
    → line ≡ [] → result ≡ Ok x → AnsweredOrCut step board board (ended_line line) old old result
answered-empty step board line old result x e r =
    subst (λ l. AnsweredOrCut step board board (ended_line l) old old result) (sym e) (subst (λ r. AnsweredOrCut step board board [] old old r) (sym r) (answered-none old))

-- ---- one byte

-- what the line buffer keeps after more bytes
pub kept-extend : (line bytes : List ℕ) → option_and_then (λ l. kept_line (l ++ bytes)) (kept_line line) ≡ kept_line (line ++ bytes)
kept-extend line bytes =
    let more : length (line ++ bytes) ≡ length line + length bytes = simp length-append in
    elim (leb_tells (length line) 8192) [
      | inl (is, fits) ↦ rw is refl
      | inr (is, long) ↦ elim (leb_tells (length (line ++ bytes)) 8192) [
        | inl (is_more, fits) ↦ absurd (omega arith)
        | inr (is_more, longer) ↦ rw (is, is_more) refl
      ]
    ]

-- a line that is whole in what was read, if the buffer is empty
pub kept-whole : (bytes : List ℕ) (line : Option (List ℕ)) → line ≡ Some [] → length bytes ≤ 8192 → option_and_then (λ l. kept_line (l ++ bytes)) line ≡ Some bytes
kept-whole bytes line e fits = elim (leb_tells (length bytes) 8192) [
  | inl (is, small) ↦ rw e (rw is refl)
  | inr (is, long) ↦ absurd (omega arith)
]

-- nothing was read
pub running-start : {Board : Type 0} {step : Step Board} {board : Board} {line : Option (List ℕ)} (old : Option (List ℕ)) → line ≡ Some [] → AnsweredSoFar step board board [] line old old
running-start old e = record {
  ended = [];
  pending = [];
  cut = λ more. refl;
  unended = search rules;
  buffered = e;
  answered = answered-none old;
}

-- bytes without a newline belong to the line
pub running-bytes : {Board : Type 0} {step : Step Board} {first now : Board} {read : List ℕ} {line old new : Option (List ℕ)} (bytes : List ℕ) → All (λ byte. is_newline byte ≡ false) bytes
    → AnsweredSoFar step first now read line old new → AnsweredSoFar step first now (read ++ bytes) (option_and_then (λ l. kept_line (l ++ bytes)) line) old new
running-bytes {read = read} bytes plain s = record {
  ended = s.ended;
  pending = s.pending ++ bytes;
  cut = λ more. ap (slice_split is_newline) (append_assoc read bytes more) ∙ s.cut (bytes ++ more) ∙ ap (λ l. s.ended ++ slice_split is_newline l) (sym (append_assoc s.pending bytes more));
  unended = All-append (λ b. is_newline b ≡ false) s.pending bytes s.unended plain;
  buffered = ap (option_and_then (λ l. kept_line (l ++ bytes))) s.buffered ∙ kept-extend s.pending bytes;
  answered = s.answered;
}

-- a newline ends the pending line
ended-cut : {Board : Type 0} {step : Step Board} {first now : Board} {read : List ℕ} {line old new : Option (List ℕ)} (s : AnsweredSoFar step first now read line old new) (more : List ℕ)
    → slice_split is_newline ((read ++ 10 ∷ []) ++ more) ≡ (s.ended ++ s.pending ∷ []) ++ slice_split is_newline more
ended-cut {read = read} s more =
    ap (slice_split is_newline) (append_assoc read (10 ∷ []) more)
    ∙ s.cut (10 ∷ more)
    ∙ ap (λ l. s.ended ++ l) (slice_split_at is_newline s.pending 10 more s.unended refl)
    ∙ sym (append_assoc s.ended (s.pending ∷ []) (slice_split is_newline more))

-- a newline came, and its line got its reply, or a fault stopped the run
pub running-newline : {Board T E : Type 0} {step : Step Board} {first now : Board} (next : Board) {read : List ℕ} {line old new : Option (List ℕ)} (last after : Option (List ℕ)) (result : Result T E)
    → (s : AnsweredSoFar step first now read line old new) → AnsweredOrCut step now next (ended_line s.pending) new after result → last ≡ Some []
    → MatchResult result (λ _. AnsweredSoFar step first next (read ++ 10 ∷ []) last old after) (λ _. Stopped step first next (read ++ 10 ∷ []) old after)
running-newline {step = step} {first = first} next {old = old} last after (Ok x) s a e = record {
  ended = s.ended ++ s.pending ∷ [];
  pending = [];
  cut = λ more. ended-cut s more;
  unended = search rules;
  buffered = e;
  answered = subst (λ l. Answered step first next l old after) (sym (filter-append s.ended (s.pending ∷ []))) (answered-then s.answered a);
}
running-newline {step = step} {first = first} next {read = read} {old = old} last after (Err x) s a e = λ more.
    let whole : lines_of ((read ++ 10 ∷ []) ++ more) ≡ (filter has_bytes s.ended ++ ended_line s.pending) ++ lines_of more =
    ap (filter has_bytes) (ended-cut s more) ∙ filter-append (s.ended ++ s.pending ∷ []) (slice_split is_newline more) ∙ ap (λ l. l ++ lines_of more) (filter-append s.ended (s.pending ∷ [])) in
    subst (λ l. CutShort step first next l old after) (sym whole) (cut-more (lines_of more) (answered-cut s.answered a))

-- bytes and a newline came, and the line that they end got its reply, or a fault stopped the run
pub running-line : {Board T E : Type 0} {step : Step Board} {first now : Board} (next : Board) {read : List ℕ} {line old new : Option (List ℕ)} (bytes : List ℕ) (last after : Option (List ℕ)) (result : Result T E)
    → AnsweredSoFar step first now read line old new → All (λ byte. is_newline byte ≡ false) bytes
    → ((whole : List ℕ) → option_and_then (λ l. kept_line (l ++ bytes)) line ≡ kept_line whole → AnsweredOrCut step now next (ended_line whole) new after result) → last ≡ Some []
    → MatchResult result (λ _. AnsweredSoFar step first next (read ++ (bytes ++ 10 ∷ [])) last old after) (λ _. Stopped step first next (read ++ (bytes ++ 10 ∷ [])) old after)
running-line {step = step} {first = first} next {read = read} {old = old} bytes last after result s plain answered e =
    let t = running-bytes bytes plain s in
    subst (λ l. MatchResult result (λ _. AnsweredSoFar step first next l last old after) (λ _. Stopped step first next l old after)) (append_assoc read bytes (10 ∷ [])) (running-newline next last after result t (answered t.pending t.buffered) e)

-- more bytes were read after the fault
pub stopped-more : {Board : Type 0} {step : Step Board} {first now : Board} (read : List ℕ) {old new : Option (List ℕ)} (more : List ℕ)
    → Stopped step first now read old new → Stopped step first now (read ++ more) old new
stopped-more {step = step} {first = first} {now = now} read {old = old} {new = new} more s = λ later.
    subst (λ l. CutShort step first now (lines_of l) old new) (sym (append_assoc read more later)) (s (more ++ later))

pub stopped-here : {Board : Type 0} {step : Step Board} {first now : Board} (read : List ℕ) {old new : Option (List ℕ)}
    → Stopped step first now read old new → CutShort step first now (lines_of read) old new
stopped-here {step = step} {first = first} {now = now} read {old = old} {new = new} s =
    subst (λ l. CutShort step first now (lines_of l) old new) (append-nil read) (s [])

-- ---- the end of a run

-- the script up to here, cut at its newlines
cut-here : {Board : Type 0} {step : Step Board} {first now : Board} {read : List ℕ} {line old new : Option (List ℕ)} (s : AnsweredSoFar step first now read line old new)
    → slice_split is_newline read ≡ s.ended ++ s.pending ∷ []
cut-here {read = read} s =
    ap (slice_split is_newline) (sym (append-nil read))
    ∙ s.cut []
    ∙ ap (λ l. s.ended ++ slice_split is_newline l) (append-nil s.pending)
    ∙ ap (λ l. s.ended ++ l) (slice_split_none is_newline s.pending s.unended)

-- the lines that had ended, and the one that had not
pub lines-here : {Board : Type 0} {step : Step Board} {first now : Board} {read : List ℕ} {line old new : Option (List ℕ)} (s : AnsweredSoFar step first now read line old new)
    → lines_of read ≡ filter has_bytes s.ended ++ filter has_bytes (s.pending ∷ [])
lines-here s = ap (filter has_bytes) (cut-here s) ∙ filter-append s.ended (s.pending ∷ [])

-- a read failed: the lines that had ended got their replies
pub running-ended : {Board : Type 0} {step : Step Board} {first now : Board} {read : List ℕ} {line old new : Option (List ℕ)}
    → AnsweredSoFar step first now read line old new → Answered step first now (ended_lines_of read) old new
running-ended {step = step} {first = first} {now = now} {read = read} {old = old} {new = new} s =
    let same : ended_lines_of read ≡ filter has_bytes s.ended = ap (λ l. filter has_bytes (front l)) (cut-here s) ∙ ap (filter has_bytes) (front-push s.ended s.pending) in
    subst (λ l. Answered step first now l old new) (sym same) s.answered

-- the input ended, and its last line got its reply
pub end-answered : {Board : Type 0} {step : Step Board} {first now : Board} (next : Board) {read : List ℕ} {line : Option (List ℕ)} (old new after : Option (List ℕ))
    → (s : AnsweredSoFar step first now read line old new) → Answered step now next (ended_line s.pending) new after → Answered step first next (lines_of read) old after
end-answered {step = step} {first = first} next old new after s a =
    subst (λ l. Answered step first next l old after) (sym (lines-here s)) (answered-then s.answered a)

-- the input ended, and a fault stopped the run at its last line
pub end-stopped : {Board : Type 0} {step : Step Board} {first now : Board} (next : Board) {read : List ℕ} {line : Option (List ℕ)} (old new after : Option (List ℕ))
    → (s : AnsweredSoFar step first now read line old new) → CutShort step now next (ended_line s.pending) new after → CutShort step first next (lines_of read) old after
end-stopped {step = step} {first = first} next old new after s a =
    subst (λ l. CutShort step first next l old after) (sym (lines-here s)) (answered-cut s.answered a)
