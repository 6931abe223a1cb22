-- What the links for look-ups lead to was in trees of the run, also after more notes and more links.
use Rattle.std.proofs.Common.{◌≡◌, ℕ, List, [], ◌∷◌, ◌++◌, sym, subst}
use Rattle.std.proofs.lemmas.Option.{none-some}
use mathlib.Core.List.{IsPrefix}
use Rattle.kf_core.specs.declared.key.Key.{Key}
use Rattle.kf_core.specs.Lawful.{Lawful}
use Rattle.kf_tree.specs.TreeLogs.{TreeLog}
use Rattle.kf_words.specs.declared.note.Note.{Note}
use Rattle.kf_looks.specs.declared.view.Link.{Link}
use Rattle.kf_live.specs.Told.{AtEach, LeadAs, WereTold}
use Rattle.kf_live.proofs.Grown.{led_as}
use Rattle.kf_shared.specs.Links.{LeadInRun, AreOfRun}
use Rattle.kf_shared.specs.Noted.{IsNoted}
use Rattle.kf_shared.proofs.Hearing.{prefix_self, prefix_trans}
use Rattle.kf_shared.proofs.Notes.{tree_told}

pub run_longer : (root : Key) (links : List Link) (notes more : List Note) → IsPrefix notes more → AreOfRun root links notes → AreOfRun root links more
run_longer root [] notes more longer a = (a.0, prefix_trans a.0 notes more a.1 longer, a.2)
run_longer root (l ∷ older) notes more longer a = (a.0, prefix_trans a.0 notes more a.1 longer, a.2, a.3)

-- the tree is that of this history, and links were made from it
module _ (s : TreeLog) (claims : List ℕ) (notes : List Note) (noted : IsNoted s claims notes) where
  led_now : (links : List Link) → LeadAs s.tree s.root links → LeadInRun s.root links notes
  led_now links = subst (λ t. LeadAs t s.root links) (tree_told s claims notes noted)

  run_more : (before newer : List Link) → AtEach (LeadAs s.tree s.root) before newer → AreOfRun s.root before notes → AreOfRun s.root (newer ++ before) notes
  run_more before [] each a = a
  run_more before (l ∷ newer) each a = (notes, prefix_self notes, led_now (l ∷ newer ++ before) each.0, run_more before newer each.1 a)

  pub run_told : (before now : List Link) → WereTold before now s → AreOfRun s.root before notes → AreOfRun s.root now notes
  run_told before now told a = subst (λ links. AreOfRun s.root links notes) (sym told.1) (run_more before told.0 told.2 a)

  -- no link was made yet
  pub run_opening : (links : List Link) → Lawful s.tree s.root → links ≡ [] → AreOfRun s.root links notes
  run_opening links lawful none = subst (λ ls. AreOfRun s.root ls notes) (sym none)
      (notes, prefix_self notes, led_now [] (led_as s.tree s.root lawful [] (λ dir name found is. absurd (none-some found is))))

-- whatever the links lead to was in the tree that some beginning of the history made, and the links are of
-- that beginning
pub run_part : (root : Key) (links : List Link) (notes : List Note) → AreOfRun root links notes
    → (part : List Note) × IsPrefix part notes × LeadInRun root links part × AreOfRun root links part
run_part root [] notes a = (a.0, a.1, a.2, (a.0, prefix_self a.0, a.2))
run_part root (l ∷ older) notes a = (a.0, a.1, a.2, (a.0, prefix_self a.0, a.2, a.3))

-- the earlier links are of the run, too
pub run_earlier : (root : Key) (newer before : List Link) (notes : List Note) → AreOfRun root (newer ++ before) notes → AreOfRun root before notes
run_earlier root [] before notes a = a
run_earlier root (l ∷ newer) before notes a = run_longer root before a.0 notes a.1 (run_earlier root newer before a.0 a.3)
