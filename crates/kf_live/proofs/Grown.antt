-- Links are made one after another, and a fact is true each time.
use Rattle.std.proofs.Common.{◌≡◌, inl, inr, refl, ap, sym, ◌∙◌, subst, append_assoc, List, [], ◌∷◌, ◌++◌}
use Rattle.std.specs.Prelude.{Bool, true, false, ℕ, Option, None, Some}
use Rattle.kf_core.specs.declared.key.Key.{Key}
use Rattle.kf_core.specs.declared.command.Command.{Command}
use Rattle.kf_core.specs.declared.refusal.Refusal.{Refusal}
use Rattle.kf_core.specs.Lawful.{Lawful}
use Rattle.kf_core.specs.Tree.{Tree}
use Rattle.kf_tree.specs.TreeLogs.{TreeLog, IsAccepted}
use Rattle.kf_looks.specs.declared.found.Found.{Found}
use Rattle.kf_looks.specs.declared.view.Link.{Link}
use Rattle.kf_looks.specs.declared.writer.Writer.{Writer}
use Rattle.kf_looks.specs.Lines.{bytes_in}
use Rattle.kf_looks.specs.Links.{link}
use Rattle.kf_live.specs.declared.telling.Spot.{Spot}
use Rattle.kf_live.specs.Live.{AreSound, IsGiven, without}
use Rattle.kf_live.specs.Told.{AtEach, Grew, GrewSound, IsOneMore, LeadAs, WereTold, links_by}
use Rattle.kf_live.proofs.Alike.{lead_soundly}

module _ (Fact : List Link → Type 0) where
  -- no link was made
  pub grew_none : (before now : List Link) → now ≡ before → Grew Fact before now
  grew_none before now same = ([], same, tt)

  -- one link was made, or none, and the fact is true now
  pub grew_one : (before now : List Link) → IsOneMore before now → Fact now → Grew Fact before now
  grew_one before now (inl same) holds = ([], same, tt)
  grew_one before now (inr more) holds = (more.0 ∷ [], more.1, (subst Fact more.1 holds, tt))

  -- more links were made after these
  each_more : (before newer newest : List Link) → AtEach Fact before newer → AtEach Fact (newer ++ before) newest → AtEach Fact before (newest ++ newer)
  each_more before newer [] first later = first
  each_more before newer (l ∷ newest) first later = (subst (λ ls. Fact (l ∷ ls)) (sym (append_assoc newest newer before)) later.0, each_more before newer newest first later.1)

  pub grew_on : (before between now : List Link) → Grew Fact before between → Grew Fact between now → Grew Fact before now
  grew_on before between now first later = (
    later.0 ++ first.0,
    later.1 ∙ ap (λ ls. later.0 ++ ls) first.1 ∙ sym (append_assoc later.0 first.0 before),
    each_more before first.0 later.0 first.2 (subst (λ ls. AtEach Fact ls later.0) first.1 later.2),
  )

-- if one fact implies another, and the one was true each time, so was the other
module _ (Fact Then : List Link → Type 0) (so : (links : List Link) → Fact links → Then links) (before : List Link) where
  each_then : (newer : List Link) → AtEach Fact before newer → AtEach Then before newer
  each_then [] each = tt
  each_then (l ∷ newer) each = (so (l ∷ newer ++ before) each.0, each_then newer each.1)

  pub grew_then : (now : List Link) → Grew Fact before now → Grew Then before now
  grew_then now grew = (grew.0, grew.1, each_then grew.0 grew.2)

-- sound links lead to what a lawful tree has there
pub led_as : (t : Tree) (root : Key) → Lawful t root → (links : List Link) → AreSound links t → LeadAs t root links
led_as t root lawful links sound path found = lead_soundly links t root path found sound lawful

-- to give a name its child, one link is made, or none if the name had that child
pub given_one : (dir : Key) (name : List ℕ) (child : Found) (before now : List Link) → IsGiven dir name child before now → IsOneMore before now
given_one dir name child before now (inl made) = inr (link dir name (Some child), made)
given_one dir name child before now (inr already) = inl already.0

-- to take a name away from the node's place, one link is made, or none if there is no place
pub without_one : (was : Option Spot) (links : List Link) → IsOneMore links (without was links)
without_one None links = inl refl
without_one (Some spot) links = inr (link spot.dir (bytes_in spot.name) None, refl)

-- if the writer's links were sound for a lawful tree each time, they led to what the tree has there each time
pub told_as : (s : TreeLog) (own taken now : Option Writer) → Lawful s.tree s.root → taken ≡ own → GrewSound s.tree (links_by taken) (links_by now) → WereTold (links_by own) (links_by now) s
told_as s own taken now lawful same grew = grew_then (λ links. AreSound links s.tree) (LeadAs s.tree s.root) (led_as s.tree s.root lawful) (links_by own) (links_by now)
    (subst (λ o. GrewSound s.tree (links_by o) (links_by now)) same grew)

-- a lawful tree is still lawful after a node moved, or stayed in its place
pub moved_lawful : (s s' : TreeLog) (cause : Option Refusal) (command : Command) (stays : Bool) → Lawful s.tree s.root → (stays ≡ true → s' ≡ s) → (stays ≡ false → IsAccepted s s' cause command) → Lawful s'.tree s'.root
moved_lawful s s' cause command true lawful same accepted = subst (λ (x : TreeLog). Lawful x.tree x.root) (sym (same refl)) lawful
moved_lawful s s' cause command false lawful same accepted = (accepted refl).kept.lawful
