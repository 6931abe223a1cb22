-- Replies that are still kept: their bytes are known to follow those that were written.
use Rattle.std.proofs.Common.{◌≡◌, ℕ, List, [], ◌∷◌, ◌++◌, filter, Option, Some, None, Result, Ok, Err, OnOk, refl, sym, ap, subst, ◌∙◌, append_assoc, append-nil}
use Rattle.std.specs.Io.KnownBytes.{Appends, Consumes, IsAtEnd, Keeps, append_known}
use Rattle.std.proofs.KnownBytes.{Appends-kept, Appends-trans, Appends-nil}
use Rattle.kf_script.specs.Lines.{lines_of, has_bytes}
use Rattle.kf_script.specs.Answers.{Step, text}
use Rattle.kf_script.specs.Progress.{Answered, CutShort, GivesOut, Grows, WrittenOrCut}
use Rattle.kf_script.specs.SoFar.{AnsweredSoFar}
use Rattle.kf_script.proofs.Running.{lines-here}

-- ---- what a writer has, and what is kept for it

-- if nothing is kept, the known bytes are those that were written
pub known-nil : (a : Option (List ℕ)) → append_known a [] ≡ a
known-nil None = refl
known-nil (Some x) = ap Some (append-nil x)

pub grows-none : (a : Option (List ℕ)) → Grows a a
grows-none a = ([], Appends-nil a)

pub grows-trans : (a b c : Option (List ℕ)) → Grows a b → Grows b c → Grows a c
grows-trans a b c (x, p) (y, q) = (x ++ y, Appends-trans a b c x y p q)

-- a write, whole or cut short, only adds bytes
pub writes-grow : {T E : Type 0} (a b : Option (List ℕ)) (result : Result T E) (bytes : List ℕ) → WrittenOrCut a b result bytes → Grows a b
writes-grow a b (Ok x) bytes written = (bytes, written)
writes-grow a b (Err x) bytes (part, prefix, written) = (part, written)

-- if the front of what is kept is written, the known bytes stay the same
pub same-given : (a b : Option (List ℕ)) (kept left : List ℕ) → GivesOut a b kept left → Keeps (append_known a kept) (append_known b left)
same-given None b kept left p = tt
same-given (Some x) None kept left p = absurd p.written
same-given (Some x) (Some y) kept left p =
    ap (λ l. l ++ left) p.written ∙ append_assoc x p.given left ∙ ap (λ l. x ++ l) (sym p.front)

-- if the front of what is kept is written, the writer's bytes only grow
pub grown-given : (a b : Option (List ℕ)) (kept left : List ℕ) → GivesOut a b kept left → Grows a b
grown-given a b kept left p = (p.given, p.written)

pub keeps-none : (a b : Option (List ℕ)) → Keeps a b → Appends a b []
keeps-none None b e = tt
keeps-none (Some x) None e = absurd e
keeps-none (Some x) (Some y) e = e ∙ sym (append-nil x)

-- ---- a run, while replies are kept

-- a run has the same replies if the known bytes are the same
pub answered-kept : {Board : Type 0} {step : Step Board} {first now : Board} {lines : List (List ℕ)} (old new same : Option (List ℕ))
    → Keeps new same → Answered step first now lines old new → Answered step first now lines old same
answered-kept old new same keeps p = record {
  turns = p.turns;
  lines_are = p.lines_are;
  answers = p.answers;
  written = Appends-kept old new same _ p.written keeps;
}

pub running-kept : {Board : Type 0} {step : Step Board} {first now : Board} {read : List ℕ} {line : Option (List ℕ)} (old new same : Option (List ℕ))
    → Keeps new same → AnsweredSoFar step first now read line old new → AnsweredSoFar step first now read line old same
running-kept old new same keeps s = record {
  ended = s.ended;
  pending = s.pending;
  cut = s.cut;
  unended = s.unended;
  buffered = s.buffered;
  answered = answered-kept old new same keeps s.answered;
}

-- if nothing is kept, the known bytes were all written
pub answered-all : {Board : Type 0} {step : Step Board} {first now : Board} {lines : List (List ℕ)} (old new : Option (List ℕ)) (kept : List ℕ)
    → kept ≡ [] → Answered step first now lines old (append_known new kept) → Answered step first now lines old new
answered-all {step = step} {first = first} {now = now} {lines = lines} old new kept none p =
    subst (λ k. Answered step first now lines old k) (ap (append_known new) none ∙ known-nil new) p

pub running-known : {Board : Type 0} {step : Step Board} {first now : Board} {read : List ℕ} {line : Option (List ℕ)} (old new : Option (List ℕ)) (kept : List ℕ)
    → kept ≡ [] → AnsweredSoFar step first now read line old new → AnsweredSoFar step first now read line old (append_known new kept)
running-known {step = step} {first = first} {now = now} {read = read} {line = line} old new kept none s =
    subst (λ k. AnsweredSoFar step first now read line old k) (sym (ap (append_known new) none ∙ known-nil new)) s

-- ---- if a run stops

-- a run may stop after any of its lines
cut-after : {Board : Type 0} {step : Step Board} {first now : Board} {lines : List (List ℕ)} (later : List (List ℕ)) (old new : Option (List ℕ))
    → Answered step first now lines old new → CutShort step first now (lines ++ later) old new
cut-after later old new p = record {
  turns = p.turns;
  lines_are = (later, ap (λ l. l ++ later) (sym p.lines_are));
  answers = p.answers;
  part = text p.turns;
  written = p.written;
  prefix = ([], sym (append-nil (text p.turns)));
}

cut-all : {Board : Type 0} {step : Step Board} {first now : Board} {lines : List (List ℕ)} (old new : Option (List ℕ))
    → Answered step first now lines old new → CutShort step first now lines old new
cut-all {step = step} {first = first} {now = now} {lines = lines} old new p =
    subst (λ l. CutShort step first now l old new) (append-nil lines) (cut-after [] old new p)

-- a run may stop between two reads
pub cut-running : {Board : Type 0} {step : Step Board} {first now : Board} {read : List ℕ} {line : Option (List ℕ)} (old new : Option (List ℕ))
    → AnsweredSoFar step first now read line old new → CutShort step first now (lines_of read) old new
cut-running {step = step} {first = first} {now = now} {read = read} old new s =
    subst (λ l. CutShort step first now l old new) (sym (lines-here s)) (cut-after (filter has_bytes (s.pending ∷ [])) old new s.answered)

cancel : (s x y : List ℕ) → s ++ x ≡ s ++ y → x ≡ y
cancel [] x y e = e
cancel (byte ∷ s) x y e = cancel s x y (let t = e in cc)

-- if what is kept is never written, what was written is still a prefix of the replies
pub cut-reached : {Board : Type 0} {step : Step Board} {first now : Board} {lines : List (List ℕ)} (old new : Option (List ℕ)) (kept : List ℕ)
    → Grows old new → CutShort step first now lines old (append_known new kept) → CutShort step first now lines old new
cut-reached None new kept grew p = record {
  turns = p.turns;
  lines_are = p.lines_are;
  answers = p.answers;
  part = p.part;
  written = tt;
  prefix = p.prefix;
}
cut-reached (Some x) None kept (done, grew) p = absurd grew
cut-reached (Some x) (Some y) kept (done, grew) p =
    let (rest, whole) = p.prefix in
    let same : done ++ kept ≡ p.part = cancel x (done ++ kept) p.part (sym (append_assoc x done kept) ∙ ap (λ l. l ++ kept) (sym grew) ∙ p.written) in
    record {
      turns = p.turns;
      lines_are = p.lines_are;
      answers = p.answers;
      part = done;
      written = grew;
      prefix = (kept ++ rest, whole ∙ ap (λ l. l ++ rest) (sym same) ∙ append_assoc done kept rest);
    }

-- ---- the last write of what is kept

-- if the last write succeeded, everything was written
pub flushed-ok : {Board T E : Type 0} {step : Step Board} {first next : Board} (read : List ℕ) (input left old new : Option (List ℕ)) (kept : List ℕ) (result : Result T E)
    → OnOk result (kept ≡ []) → Answered step first next (lines_of read) old (append_known new kept) → Consumes input left read → IsAtEnd left
    → OnOk result ((read : List ℕ) × Consumes input left read × IsAtEnd left × Answered step first next (lines_of read) old new)
flushed-ok read input left old new kept (Ok x) none a took end = (read, took, end, answered-all old new kept none a)
flushed-ok read input left old new kept (Err x) none a took end = tt

-- whatever the last write wrote, what was written is a prefix of the replies
pub flushed-cut : {Board : Type 0} {step : Step Board} {first next : Board} (read : List ℕ) (input left old new : Option (List ℕ)) (kept : List ℕ)
    → Answered step first next (lines_of read) old (append_known new kept) → Grows old new → Consumes input left read
    → (read : List ℕ) × Consumes input left read × CutShort step first next (lines_of read) old new
flushed-cut read input left old new kept a grew took = (read, took, cut-reached old new kept grew (cut-all old (append_known new kept) a))
