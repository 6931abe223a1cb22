-- What the words after the version say: there is a line of eight words for each slot, one more line that
-- nobody reads, and then the hints, which are never trusted.
use Rattle.std.specs.Prelude.{◌≡◌, ℕ, ◌+◌, ◌*◌, ◌<◌, List, Some, slice_index}
use Rattle.kf_looks.specs.declared.found.Found.{Found}
use Rattle.kf_looks.specs.declared.view.Link.{Link}
use Rattle.kf_looks.specs.declared.short_name.ShortName.{ShortName}
use Rattle.kf_looks.specs.Links.{child_of}
use Rattle.kf_looks.specs.Packed.{key_of, child_by}
use Rattle.kf_looks.specs.ShortNames.{bytes_of}

-- the bytes of a short name
abbrev pub bytes_in : ShortName → List ℕ
bytes_in name = bytes_of name.count name.first name.second name.third

-- the word at which the lines begin: before them are the version and five words that nobody reads
abbrev pub lines_at : ℕ
lines_at = 6

-- how many words there are from there on, for this many slots: the lines, three hints for each slot, and
-- sixteen more hints
abbrev pub words_for : ℕ → ℕ
words_for slots = 11 * slots + 24

-- the link that the eight words of a line say: the directory, how many bytes the name has, three words with
-- these bytes, the child's key, its target or tag, and its shape
abbrev pub link_by : (ℕ → ℕ) → Link
link_by word = record {
  dir = key_of (word 0);
  name = bytes_of (word 1) (word 2) (word 3) (word 4);
  child = child_by (word 5) (word 6) (word 7);
}

-- a word of a line
abbrev pub word_at : List ℕ → ℕ → ℕ → ℕ
word_at content line k = slice_index content (8 * line + k)

-- the link that a line says
abbrev pub link_at : List ℕ → ℕ → Link
link_at content line = link_by (word_at content line)

-- for each line that has a child, the links say that the line's name has that child
abbrev pub SaysTrue : ℕ → List ℕ → List Link → Type 0
SaysTrue slots content links = (line : ℕ) → line < slots → (child : Found)
    → (link_at content line).child ≡ Some child
    → child_of links (link_at content line).dir (link_at content line).name ≡ Some child

-- the child of each line has the slot of that line
abbrev pub IsPlaced : ℕ → List ℕ → Type 0
IsPlaced slots content = (line : ℕ) → line < slots → (child : Found)
    → (link_at content line).child ≡ Some child → child.key.slot ≡ line
