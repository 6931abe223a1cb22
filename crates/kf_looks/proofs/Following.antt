-- What reads show about the words and the links.
use Rattle.std.proofs.Common.{◌≡◌, ℕ, ◌<◌, List, ◌∷◌, get_or, sym, ap, ◌∙◌, Some, lit<}
use Rattle.kf_core.specs.declared.key.Key.{Key}
use Rattle.kf_looks.specs.declared.found.Found.{Found}
use Rattle.kf_looks.specs.declared.view.Link.{Link}
use Rattle.kf_looks.specs.declared.view.Role.{Role}
use Rattle.kf_looks.specs.Links.{link, child_of}
use Rattle.kf_looks.specs.Lines.{link_by, link_at}
use Rattle.kf_looks.specs.Packed.{key_of, child_by}
use Rattle.kf_looks.specs.ShortNames.{bytes_of}
use Rattle.kf_looks.specs.Reading.{Follows, Tells}
use Rattle.kf_looks.specs.Steps.{read, grown}

-- no read
pub stays : (role : Role) (Fact : List ℕ → Type 0) → ((content : List ℕ) → Fact content) → Follows role role Fact
stays role Fact holds at reads is = (reads, is, λ content all. (all, holds content))

-- one read
pub one_read : (role : Role) (i found : ℕ) → Follows role (grown i found role) (λ content. get_or content i 0 ≡ found)
one_read role i found at reads is = (read i found ∷ reads, ap (grown i found) is, λ content all. (all.1, all.0))

-- reads followed by more reads
pub goes_on : (a b c : Role) (First Then All : List ℕ → Type 0) → ((content : List ℕ) → First content → Then content → All content)
    → Follows a b First → Follows b c Then → Follows a c All
goes_on a b c First Then All both ab bc at reads is = let f = ab at reads is in let g = bc at f.0 f.1 in (
  g.0,
  g.1,
  λ content all. let y = g.2 content all in let x = f.2 content y.0 in (x.0, both content x.1 y.1),
)

-- what follows from a fact that is known of the content is known, too
pub tells_on : (a b : Role) (Fact Then : List ℕ → Type 0) → ((content : List ℕ) → Fact content → Then content) → Follows a b Fact → Follows a b Then
tells_on a b Fact Then on ab at reads is = let f = ab at reads is in
    (f.0, f.1, λ content all. let x = f.2 content all in (x.0, on content x.1))

-- equal words say the same link
pub same_link : (f g : ℕ → ℕ) → ((k : ℕ) → k < 8 → f k ≡ g k) → link_by f ≡ link_by g
same_link f g same = let at = λ (k : ℕ) (few : k < 8). same k few in λ i. record {
  dir = key_of (at 0 (lit< tt) i);
  name = bytes_of (at 1 (lit< tt) i) (at 2 (lit< tt) i) (at 3 (lit< tt) i) (at 4 (lit< tt) i);
  child = child_by (at 5 (lit< tt) i) (at 6 (lit< tt) i) (at 7 (lit< tt) i);
}

-- what a line that was read says about the links
pub line_says : (slots line : ℕ) (dir : Key) (name : List ℕ) (child : Found) (content : List ℕ)
    → line < slots → link_at content line ≡ link dir name (Some child)
    → Tells slots (λ links. child_of links dir name ≡ Some child) content
line_says slots line dir name child content inside is links says =
    sym (ap (λ (l : Link). child_of links l.dir l.name) is) ∙ says line inside child (ap (λ (l : Link). l.child) is)
