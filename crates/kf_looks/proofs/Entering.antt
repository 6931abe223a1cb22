-- What storing a line does to what the words say.
use Rattle.std.proofs.Common.{◌≡◌, ◌≢◌, ℕ, ◌+◌, ◌*◌, ◌<◌, ◌≤◌, ◌⊎◌, inl, inr, List, [], ◌∷◌, length, set, get_or, sym, ap, ◌∙◌, subst, arith, Some, lit<, get_or-set_same, get_or-set_other}
use mathlib.Core.Logic.{dite}
use Rattle.std.proofs.lemmas.Bool.{cases_lt}
use native.Mathlib.Decide.{ℕ_discrete}
use Rattle.kf_core.specs.declared.key.Key.{Key}
use Rattle.kf_looks.specs.declared.found.Found.{Found}
use Rattle.kf_looks.specs.declared.view.Link.{Link}
use Rattle.kf_looks.specs.Links.{child_of, IsOfSlot}
use Rattle.kf_looks.specs.Lines.{SaysTrue, IsPlaced, link_at, word_at}
use Rattle.kf_looks.specs.Packed.{key_of, child_by}
use Rattle.kf_looks.specs.ShortNames.{bytes_of}
use Rattle.kf_looks.specs.Writing.{IsFilled, SameLines}
use Rattle.kf_looks.proofs.Following.{same_link}
use Rattle.kf_looks.proofs.Naming.{first_link, other_link}

-- ---- words that no line has

same_at : (slots : ℕ) (old new : List ℕ) → SameLines slots old new → (line : ℕ) → line < slots → link_at new line ≡ link_at old line
same_at slots old new same line inside =
    same_link (word_at new line) (word_at old line) (λ k few. same.words_are (8 * line + k) (omega arith))

pub says_still : (slots : ℕ) (old new : List ℕ) (links : List Link) → SameLines slots old new → SaysTrue slots old links → SaysTrue slots new links
says_still slots old new links same says line inside child is =
    let e = same_at slots old new same line inside in
    subst (λ (l : Link). child_of links l.dir l.name ≡ Some child) (sym e) (says line inside child (sym (ap (λ (l : Link). l.child) e) ∙ is))

pub placed_still : (slots : ℕ) (old new : List ℕ) → SameLines slots old new → IsPlaced slots old → IsPlaced slots new
placed_still slots old new same placed line inside child is =
    placed line inside child (sym (ap (λ (l : Link). l.child) (same_at slots old new same line inside)) ∙ is)

-- ---- a line

outside : (line j k : ℕ) → k < 8 → j ≢ line → (8 * j + k < 8 * line) ⊎ (8 * line + 7 ≤ 8 * j + k)
outside line j k few other = elim (cases_lt j line) [ inl low ↦ inl (omega arith) | inr high ↦ inr (omega (arith, high, other)) ]

-- all other lines are as they were
pub others_filled : (line value : ℕ) (old mid words : List ℕ) → IsFilled old mid (8 * line) words 7
    → (j : ℕ) → j ≢ line → link_at (set mid (8 * line + 7) value) j ≡ link_at old j
others_filled line value old mid words filled j other =
    same_link (word_at (set mid (8 * line + 7) value) j) (word_at old j) (λ k few.
    get_or-set_other mid (8 * line + 7) (8 * j + k) value 0 (λ e. other (omega arith))
    ∙ filled.others_are (8 * j + k) (outside line j k few other))

-- the line has the words that were stored
pub line_told : (line : ℕ) (old mid : List ℕ) (a b c d e f g h : ℕ) → IsFilled old mid (8 * line) (a ∷ b ∷ c ∷ d ∷ e ∷ f ∷ g ∷ []) 7
    → 8 * line + 7 < length mid
    → link_at (set mid (8 * line + 7) h) line ≡ record { dir = key_of a; name = bytes_of b c d e; child = child_by f g h }
line_told line old mid a b c d e f g h filled inside =
    let new : List ℕ = set mid (8 * line + 7) h in
    let put : (k : ℕ) → k < 7 → word_at new line k ≡ get_or (a ∷ b ∷ c ∷ d ∷ e ∷ f ∷ g ∷ []) k 0 = λ k few.
    get_or-set_other mid (8 * line + 7) (8 * line + k) h 0 (λ e. omega arith) ∙ filled.words_are k few in
    let last : word_at new line 7 ≡ h = get_or-set_same mid (8 * line + 7) h 0 inside in
    λ i. record {
      dir = key_of (put 0 (lit< tt) i);
      name = bytes_of (put 1 (lit< tt) i) (put 2 (lit< tt) i) (put 3 (lit< tt) i) (put 4 (lit< tt) i);
      child = child_by (put 5 (lit< tt) i) (put 6 (lit< tt) i) (last i);
    }

-- with the link of the new line added, what the words say is still true
pub says_more : (slots line slot : ℕ) (old new : List ℕ) (links : List Link) → ((j : ℕ) → j ≢ line → link_at new j ≡ link_at old j)
    → IsOfSlot links (link_at new line).dir (link_at new line).name slot → (slot < slots → slot ≡ line)
    → SaysTrue slots old links → IsPlaced slots old → SaysTrue slots new (link_at new line ∷ links)
says_more slots line slot old new links others of_slot here says placed j inside child is = dite (ℕ_discrete j line)
    (λ same. let l : Link = link_at new line in
    subst (λ (z : ℕ). child_of (l ∷ links) (link_at new z).dir (link_at new z).name ≡ Some child) (sym same)
    (first_link links l ∙ subst (λ (z : ℕ). (link_at new z).child ≡ Some child) same is))
    (λ other. let l : Link = link_at new line in let e = others j other in
    let was : (link_at old j).child ≡ Some child = sym (ap (λ (x : Link). x.child) e) ∙ is in
    let said : child_of links (link_at old j).dir (link_at old j).name ≡ Some child = says j inside child was in
    let stands : child.key.slot ≡ j = placed j inside child was in
    let apart : l.dir ≡ (link_at old j).dir → l.name ≡ (link_at old j).name → ⊥ = λ d n.
    (let at_slot : child.key.slot ≡ slot = of_slot child (ap (λ (x : Key). child_of links x l.name) d ∙ (ap (λ (x : List ℕ). child_of links (link_at old j).dir x) n ∙ said)) in
    let same_slot : slot ≡ j = sym at_slot ∙ stands in
    other (sym same_slot ∙ here (subst (λ (z : ℕ). z < slots) (sym same_slot) inside))) in
    subst (λ (x : Link). child_of (l ∷ links) x.dir x.name ≡ Some child) (sym e)
    (other_link links l (link_at old j).dir (link_at old j).name apart ∙ said))

-- each child is still in its place
pub placed_more : (slots line : ℕ) (old new : List ℕ) → ((j : ℕ) → j ≢ line → link_at new j ≡ link_at old j)
    → (line < slots → (child : Found) → (link_at new line).child ≡ Some child → child.key.slot ≡ line)
    → IsPlaced slots old → IsPlaced slots new
placed_more slots line old new others here placed j inside child is = dite (ℕ_discrete j line)
    (λ same. here (subst (λ (z : ℕ). z < slots) same inside) child (subst (λ (z : ℕ). (link_at new z).child ≡ Some child) same is) ∙ sym same)
    (λ other. placed j inside child (sym (ap (λ (x : Link). x.child) (others j other)) ∙ is))
