-- Each time that a link for look-ups was made, whatever the links led to was in a tree of the one run.
use Rattle.std.specs.Prelude.{List, [], ◌∷◌}
use mathlib.Core.List.{IsPrefix}
use Rattle.kf_core.specs.declared.key.Key.{Key}
use Rattle.kf_words.specs.declared.note.Note.{Note}
use Rattle.kf_looks.specs.declared.view.Link.{Link}
use Rattle.kf_live.specs.Told.{LeadAs}
use Rattle.kf_shared.specs.Noted.{tree_in}

-- whatever the links lead to is in the tree that this history made
abbrev pub LeadInRun : Key → List Link → List Note → Type 0
LeadInRun root links notes = LeadAs (tree_in notes) root links

-- each time that a link was made, whatever the links so far led to was in the tree that some beginning of
-- this history made. For earlier links this is an earlier beginning, or the same one
abbrev pub AreOfRun : Key → List Link → List Note → Type 0
AreOfRun root [] notes = (part : List Note) × IsPrefix part notes × LeadInRun root [] part
AreOfRun root (l ∷ older) notes =
    (part : List Note) × IsPrefix part notes × LeadInRun root (l ∷ older) part × AreOfRun root older part
