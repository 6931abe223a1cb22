-- The notes of a run, and how they grow.
use Rattle.std.proofs.Common.{◌≡◌, ℕ, zero, suc, List, [], ◌∷◌, ◌++◌, set, refl, sym, ap, ◌∙◌, append_assoc}
use Rattle.std.specs.Prelude.{slice_index}
use Rattle.std.proofs.lemmas.List.{append-nil}
use mathlib.Core.Option.{some, some-ne-none}
use mathlib.Core.List.{IsPrefix}
use lib.ListN.{get_elem?}
use Rattle.kf_words.specs.TableSteps.{StepKind}
use Rattle.kf_words.specs.Notes.{note_of, notes_of}

-- the notes of a run that goes on are its notes followed by those of the added steps
pub notes_more : (kinds more : List StepKind) → notes_of (kinds ++ more) ≡ notes_of kinds ++ notes_of more
notes_more [] more = refl
notes_more (kind ∷ kinds) more = ap (λ l. note_of kind ++ l) (notes_more kinds more) ∙ sym (append_assoc (note_of kind) (notes_of kinds) (notes_of more))

-- the notes of a beginning are a beginning of the notes
pub notes_begin : (first log : List StepKind) → IsPrefix first log → IsPrefix (notes_of first) (notes_of log)
notes_begin first log p = (notes_of p.0, sym (notes_more first p.0) ∙ ap notes_of p.1)

-- the same for one more step
pub note_more : (kinds : List StepKind) (kind : StepKind) → notes_of (kinds ++ kind ∷ []) ≡ notes_of kinds ++ note_of kind
note_more kinds kind = notes_more kinds (kind ∷ []) ∙ ap (λ l. notes_of kinds ++ l) (append-nil (note_of kind))

pub quiet_after : (kinds : List StepKind) (kind : StepKind) → note_of kind ≡ [] → notes_of (kinds ++ kind ∷ []) ≡ notes_of kinds
quiet_after kinds kind quiet = note_more kinds kind ∙ ap (λ l. notes_of kinds ++ l) quiet ∙ append-nil (notes_of kinds)

abbrev pub tail_of : {A : Type 0} → List A → List A
tail_of [] = []
tail_of (x ∷ xs) = xs

pub nothing_more : {A : Type 0} (xs ys : List A) → xs ++ ys ≡ xs → ys ≡ []
nothing_more [] ys e = e
nothing_more (x ∷ xs) ys e = nothing_more xs ys (ap tail_of e)

-- if a list has an item, adding one at the end leaves the first item as it was
pub first_stays : {A : Type 0} (l : List A) (x y : A) → get_elem? (l ++ x ∷ []) 0 ≡ some y → (k : ℕ) (z : A) → get_elem? l k ≡ some z → get_elem? l 0 ≡ some y
first_stays [] x y e k z there = absurd (some-ne-none z (sym there))
first_stays (w ∷ ws) x y e k z there = e

pub put : {A : Type 0} (l : List A) (k : ℕ) (a b : A) → get_elem? l k ≡ some a → get_elem? (set l k b) k ≡ some b
put [] k a b e = absurd (some-ne-none a (sym e))
put (x ∷ xs) zero a b e = refl
put (x ∷ xs) (suc k) a b e = put xs k a b e

-- writing a word to its own place changes nothing
pub same_word : (words : List ℕ) (i : ℕ) → set words i (slice_index words i) ≡ words
same_word [] i = refl
same_word (w ∷ ws) zero = refl
same_word (w ∷ ws) (suc i) = ap (λ l. w ∷ l) (same_word ws i)
