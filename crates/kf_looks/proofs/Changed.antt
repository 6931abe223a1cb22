-- The words and the links after a line was written.
use Rattle.std.proofs.Common.{◌≡◌, ◌≢◌, ℕ, ◌+◌, ◌*◌, ◌/◌, ◌<◌, ◌≤◌, List, [], ◌∷◌, Option, Some, length, length-set, set, sym, ap, ◌∙◌, subst, arith}
use Rattle.atomic_table.specs.declared.shared.Seat.{Seat}
use Rattle.kf_core.specs.declared.key.Key.{Key}
use Rattle.kf_looks.specs.declared.found.Found.{Found}
use Rattle.kf_looks.specs.declared.view.Link.{Link}
use Rattle.kf_looks.specs.declared.view.Role.{Role}
use Rattle.kf_looks.specs.declared.view.LookView.{LookView}
use Rattle.kf_looks.specs.Links.{link, IsOfSlot}
use Rattle.kf_looks.specs.Lines.{SaysTrue, IsPlaced, link_at, words_for}
use Rattle.kf_looks.specs.Packed.{key_of, child_by}
use Rattle.kf_looks.specs.ShortNames.{bytes_of}
use Rattle.kf_looks.specs.Rule.{plan_of}
use Rattle.kf_looks.specs.Steps.{entered}
use Rattle.kf_looks.specs.Writing.{plan, links_of, WritesTrue, Plans, Keeps, IsFilled, SameLines}
use Rattle.kf_looks.proofs.Entering.{says_still, placed_still, others_filled, line_told, says_more, placed_more}

-- the line of a child is that of its slot, or, if the words have none for the slot, the one that nobody reads
pub record IsLineOf (slots slot line : ℕ) : Type 0 where
  pub inside : line ≤ slots
  pub its : slot < slots → slot ≡ line
  pub only : line < slots → slot ≡ line

-- the seat filled a line, entered its last word, and noted a hint
pub record Changed (slots slot line : ℕ) (a b m d : Seat (Unit {0}) LookView) (w0 w1 w2 w3 w4 w5 w6 w7 : ℕ) : Type 0 where
  pub here : a.me.0.slots ≡ slots
  pub line_is : IsLineOf slots slot line
  pub filling : Keeps a b
  pub filled : IsFilled (plan a).draft (plan b).draft (8 * line) (w0 ∷ w1 ∷ w2 ∷ w3 ∷ w4 ∷ w5 ∷ w6 ∷ []) 7
  pub entering : Plans b m (entered (8 * line + 7) w7 (plan b))
  pub noting : Keeps m d
  pub noted : SameLines slots (plan m).draft (plan d).draft

-- these are the words of the link
pub record AreWordsOf (dir : Key) (name : List ℕ) (child : Option Found) (w0 w1 w2 w3 w4 w5 w6 w7 : ℕ) : Type 0 where
  pub dir_is : key_of w0 ≡ dir
  pub name_is : bytes_of w1 w2 w3 w4 ≡ name
  pub child_is : child_by w5 w6 w7 ≡ child

module _ (slots slot line version : ℕ) (a b m d : Seat (Unit {0}) LookView) (w0 w1 w2 w3 w4 w5 w6 w7 : ℕ) (dir : Key) (name : List ℕ) (child : Option Found)
    (knows : WritesTrue a.me.0 version) (r : Changed slots slot line a b m d w0 w1 w2 w3 w4 w5 w6 w7) (words : AreWordsOf dir name child w0 w1 w2 w3 w4 w5 w6 w7) where
  abbrev old : List ℕ
  old = (plan a).draft

  abbrev new : List ℕ
  new = set (plan b).draft (8 * line + 7) w7

  old_long : length old ≡ words_for slots
  old_long = knows.long ∙ ap words_for r.here

  told : link_at new line ≡ link dir name child
  told =
      let long = r.filled.long in let most = old_long in let inside = r.line_is.inside in
      line_told line old (plan b).draft w0 w1 w2 w3 w4 w5 w6 w7 r.filled (omega arith)
      ∙ (λ i. link (words.dir_is i) (words.name_is i) (words.child_is i))

  entered_draft : (plan m).draft ≡ new
  entered_draft = ap (λ (x : Role). (plan_of x).draft) r.entering.role_is

  pub links_after : links_of d ≡ link dir name child ∷ links_of a
  links_after =
      let at : (8 * line + 7) / 8 ≡ line = omega arith in
      r.noting.links_are ∙ (ap (λ (x : Role). (plan_of x).links) r.entering.role_is
      ∙ (ap (λ (n : ℕ). link_at new n ∷ links_of b) at
      ∙ (ap (λ (l : Link). l ∷ links_of b) told ∙ ap (λ (l : List Link). link dir name child ∷ l) r.filling.links_are)))

  others : (j : ℕ) → j ≢ line → link_at new j ≡ link_at old j
  others = others_filled line w7 old (plan b).draft (w0 ∷ w1 ∷ w2 ∷ w3 ∷ w4 ∷ w5 ∷ w6 ∷ []) r.filled

  noted_new : SameLines slots new (plan d).draft
  noted_new = subst (λ (l : List ℕ). SameLines slots l (plan d).draft) entered_draft r.noted

  says_old : SaysTrue slots old (links_of a)
  says_old = subst (λ (n : ℕ). SaysTrue n old (links_of a)) r.here knows.says

  placed_old : IsPlaced slots old
  placed_old = subst (λ (n : ℕ). IsPlaced n old) r.here knows.placed

  says_new : IsOfSlot (links_of a) dir name slot → SaysTrue slots new (link dir name child ∷ links_of a)
  says_new of_slot =
      subst (λ (l : Link). SaysTrue slots new (l ∷ links_of a)) told
      (says_more slots line slot old new (links_of a) others
      (subst (λ (l : Link). IsOfSlot (links_of a) l.dir l.name slot) (sym told) of_slot) r.line_is.its says_old placed_old)

  placed_new : ((found : Found) → child ≡ Some found → found.key.slot ≡ slot) → IsPlaced slots new
  placed_new its = placed_more slots line old new others
      (λ inside found is. its found (sym (ap (λ (l : Link). l.child) told) ∙ is) ∙ r.line_is.only inside) placed_old

  slots_after : slots ≡ d.me.0.slots
  slots_after = sym (r.noting.slots ∙ (r.entering.slots ∙ (r.filling.slots ∙ r.here)))

  pub true_after : IsOfSlot (links_of a) dir name slot → ((found : Found) → child ≡ Some found → found.key.slot ≡ slot) → WritesTrue d.me.0 version
  true_after of_slot its = record {
    writes = r.noting.writes;
    version_is = r.noting.version_is ∙ (ap (λ (x : Role). (plan_of x).version) r.entering.role_is ∙ (r.filling.version_is ∙ knows.version_is));
    long = noted_new.long ∙ (length-set (plan b).draft (8 * line + 7) w7 ∙ (r.filled.long ∙ (old_long ∙ ap words_for slots_after)));
    says = subst (λ (n : ℕ). SaysTrue n (plan d).draft (links_of d)) slots_after
        (subst (λ (l : List Link). SaysTrue slots (plan d).draft l) (sym links_after)
        (says_still slots new (plan d).draft (link dir name child ∷ links_of a) noted_new (says_new of_slot)));
    placed = subst (λ (n : ℕ). IsPlaced n (plan d).draft) slots_after (placed_still slots new (plan d).draft noted_new (placed_new its));
  }
