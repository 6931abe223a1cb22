-- Keys and nodes as words.
use Rattle.std.specs.Prelude.{ℕ, ◌-◌, ◌/◌, ◌%◌, ◌==◌, Option, None, Some, if◌then◌else◌}
use Rattle.kf_core.specs.declared.key.Key.{Key}
use Rattle.kf_core.specs.declared.key.Node.{Node}
use Rattle.kf_core.specs.declared.key.Node.TheVariants.{Dir, File, Link}
use Rattle.kf_looks.specs.declared.found.Found.{Found}

-- the key that a word holds: the lower half is the slot, the upper half the generation
abbrev pub key_of : ℕ → Key
key_of word = record { slot = word % 4294967296; generation = word / 4294967296 }

-- the node that a shape and another word say: shape 1 is a directory, 2 a link, and any other a file, whose
-- mode is the shape minus 3 in 16 bits. The other word is the link's target or the file's tag
abbrev pub node_of : ℕ → ℕ → Node
node_of shape more = if shape == 1 then Dir else
    (if shape == 2 then Link (key_of more) else File ((shape - 3) % 65536) more)

-- the node that three words say, if the shape is not 0
abbrev pub found_of : ℕ → ℕ → ℕ → Found
found_of key more shape = record { key = key_of key; node = node_of shape more }

-- the child that three words say; None if the shape is 0
abbrev pub child_by : ℕ → ℕ → ℕ → Option Found
child_by key more shape =
    if shape == 0 then None else Some (record { key = key_of key; node = node_of shape more })
