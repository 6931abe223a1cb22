-- The two words of a slot: their places, the places of their bits, and the tests on a word that was found.
use Rattle.std.specs.Prelude.{◌≡◌, ℕ, ◌+◌, ◌-◌, ◌*◌, ◌/◌, ◌%◌, ◌<◌, ◌||◌, ◌&&◌, not, Bool, true, false, ◌==◌, List, [], ◌∷◌, slice_index, slice_set}
use Rattle.std.specs.List.{repeat}

-- each slot has its own cache line of eight words. These are its active word, its hold word, the count of the
-- threads that sleep at the active word, and five words for its node, of which the last two are not used
abbrev pub line_words : ℕ
line_words = 8

-- the index of a slot's active word, which is the first in its line
abbrev pub active_index : ℕ → ℕ
active_index slot = slot * line_words

-- the index of a slot's hold word, which comes directly after its active word
abbrev pub hold_index : ℕ → ℕ
hold_index slot = slot * line_words + 1

-- the index of the count of a slot's sleepers, which comes directly after its hold word. The rule says
-- nothing about this count
abbrev pub sleepers_index : ℕ → ℕ
sleepers_index slot = slot * line_words + 2

-- the index of one of the words of a slot's node, which are stored before the node is born: one of the last
-- five in the line
abbrev pub node_index : ℕ → ℕ → ℕ
node_index place slot = slot * line_words + 3 + place

-- which of a node's words has this index
abbrev pub place_of : ℕ → ℕ
place_of index = index % line_words - 3

-- the slot of the word that has this index
abbrev pub slot_of : ℕ → ℕ
slot_of index = index / line_words

-- the active word of a slot, among the words of all slots
abbrev pub active_word : List ℕ → ℕ → ℕ
active_word words slot = slice_index words (active_index slot)

-- the hold word of a slot, among the words of all slots
abbrev pub hold_word : List ℕ → ℕ → ℕ
hold_word words slot = slice_index words (hold_index slot)

-- in an active word, above the number of its users: the bit BIAS, which says that the node is not linked, or
-- not activated, or doomed
abbrev pub bias : ℕ
bias = 4294967296

-- in an active word: the bit DOOM, which says that the node is doomed
abbrev pub doom : ℕ
doom = 8589934592

-- in an active word: the bit HIDE, which says that the key is hidden
abbrev pub hide : ℕ
hide = 17179869184

-- in a hold word, above the number of its holds: the bit LINKED, which says that a node is linked. Above this
-- bit is the last generation
abbrev pub linked : ℕ
linked = 2147483648

-- one generation in a hold word, whose upper half is the last generation of the slot
abbrev pub one_generation : ℕ
one_generation = 4294967296

-- b if this is true, else 0
abbrev pub bit : Bool → ℕ → ℕ
bit true b = b
bit false b = 0

-- this active word has the bit BIAS: its node is not linked, or not activated, or doomed
abbrev pub has_bias : ℕ → Bool
has_bias word = (word / bias) % 2 == 1

-- the node of this active word is doomed
abbrev pub has_doom : ℕ → Bool
has_doom word = (word / doom) % 2 == 1

-- the key of this active word is hidden
abbrev pub has_hide : ℕ → Bool
has_hide word = (word / hide) % 2 == 1

-- a try that finds this active word is refused
abbrev pub keeps_out : ℕ → Bool
keeps_out word = has_bias word || has_hide word

-- the node of this active word is doomed and nobody uses it, whether or not its key is hidden
abbrev pub is_drained : ℕ → Bool
is_drained word = (word == bias + doom) || (word == bias + doom + hide)

-- nobody uses the node of this active word
abbrev pub is_unused : ℕ → Bool
is_unused word = word % bias == 0

-- the last user to leave wakes the sleepers at this active word: the node is doomed, and somebody uses it
abbrev pub last_user_wakes : ℕ → Bool
last_user_wakes word = has_doom word && not (is_unused word)

-- a sleeper may be waiting for this active word: the node is doomed or its key is hidden, and nobody uses the
-- node
abbrev pub wants_wake : ℕ → Bool
wants_wake word = is_drained word || (has_hide word && is_unused word)

-- a node is linked in the slot of this hold word
abbrev pub has_linked : ℕ → Bool
has_linked word = (word / linked) % 2 == 1

-- the number of holds in this hold word
abbrev pub holds_in : ℕ → ℕ
holds_in word = word % linked

-- the number of users in this active word
abbrev pub users_in : ℕ → ℕ
users_in word = word % bias

-- the slot of this hold word has the greatest number of holds
abbrev pub is_full : ℕ → ℕ → Bool
is_full limit word = holds_in word == limit

-- the slot of this hold word has no linked node, nobody holds the slot, and it has a generation left
abbrev pub IsFree : ℕ → Type 0
IsFree word = (word % one_generation ≡ 0) × (word / one_generation < 4294967295)

-- the slot of this hold word has room for one more hold
abbrev pub HasRoom : ℕ → ℕ → Type 0
HasRoom limit word = holds_in word < limit

-- the slot of this hold word has room for one more hold, and then still for one of the Master's
abbrev pub HasSpare : ℕ → ℕ → Type 0
HasSpare limit word = holds_in word + 1 < limit

-- a node is linked in the slot of this hold word, and it is of this generation
abbrev pub IsOf : ℕ → ℕ → Type 0
IsOf generation word = (has_linked word ≡ true) × (word / one_generation ≡ generation)

-- a node is linked in the slot of this hold word, and any caller may count one more hold of it: the slot has
-- a spare place
abbrev pub MayPinAt : ℕ → ℕ → Type 0
MayPinAt limit word = (has_linked word ≡ true) × HasSpare limit word

-- the line of a slot that has had `start` generations and has no node
abbrev pub empty_line : ℕ → List ℕ
empty_line start = bias ∷ start * one_generation ∷ 0 ∷ 0 ∷ 0 ∷ 0 ∷ 0 ∷ 0 ∷ []

-- the lines at the opening: each slot has had `start` generations and has no node, except the root's, which
-- has a live node of the next generation
abbrev pub opening_words : ℕ → ℕ → List ℕ
opening_words slots start = slice_set (slice_set (repeat slots (empty_line start)) (active_index 0) 0)
    (hold_index 0) ((start + 1) * one_generation + linked)
