-- The life of a node as the tree and the words describe it together. At each moment that is named, the tree's
-- lock is free.
use Rattle.std.specs.Prelude.{◌≡◌, true, List, [], ◌∷◌, ◌++◌, Option, None, Some}
use Rattle.kf_core.specs.declared.key.Key.{Key}
use Rattle.kf_core.specs.declared.key.Node.TheVariants.{Dir}
use Rattle.kf_core.specs.declared.command.Command.{Command}
use Rattle.kf_core.specs.declared.command.Command.TheVariants.{Create, Doom, Unlink}
use Rattle.kf_core.specs.declared.caller.Phase.TheVariants.{Running, Drained, Parted}
use Rattle.kf_core.specs.declared.slot.NodeFlags.{NodeFlags}
use Rattle.kf_core.specs.Bare.{IsCaller, IsLast}
use Rattle.kf_core.specs.Marks.{live_marks}
use Rattle.kf_core.specs.Tree.{marks_of}
use Rattle.kf_words.specs.declared.note.Note.TheVariants.{Did, Claimed, Began, LockTaken, LockReleased}
use Rattle.kf_words.specs.Callers.{TableId}
use Rattle.kf_words.specs.Life.{life_opening, with_marks_of}
use Rattle.kf_words.specs.Rule.{Shown}
use Rattle.kf_words.specs.declared.sight.StepKind.{StepKind}
use Rattle.kf_words.specs.declared.sight.StepKind.TheVariants.{LoadsHold as loads_hold, StoresFresh as stores_fresh, StoresNode as stores_node, Births as births, TakesBias as takes_bias, PinsHold as pins_hold, Splits as splits, Tries as tries, MarksNode as marks_node, Looks as looks, Breaks as breaks, LooksOver as looks_over, Unlinks as unlinks, Parts as parts, Restores as restores, Leaves as leaves, Releases as releases, Notes as notes}
use Rattle.kf_words.specs.TableSteps.{Table, WordRun, world}
use Rattle.kf_words.specs.History.{opened_as}
use Rattle.kf_shared.specs.Locked.{Locked}
use Rattle.kf_shared.specs.Running.{IsFreeLock}

-- the root of a new tree, the first node of slot 1, and the next node there
abbrev pub root_key : Key
root_key = record { slot = 0; generation = 1 }

abbrev pub first_key : Key
first_key = record { slot = 1; generation = 1 }

abbrev pub next_key : Key
next_key = record { slot = 1; generation = 2 }

-- the creation of a live directory in the root, with a name of one byte
abbrev pub create : Key → Command
create key = Create key root_key (97 ∷ []) Dir true

-- the tree is made; under the lock the directory is created, and two callers get holds of it. Caller 0 enters
-- it
abbrev pub call_steps : List StepKind
call_steps = notes (Began 2 root_key) ∷ notes LockTaken ∷ loads_hold 1 ∷ stores_fresh 1 ∷ stores_node 1 0 0
    ∷ stores_node 1 1 0 ∷ stores_node 1 2 0 ∷ births 1 ∷ takes_bias 1 ∷ notes (Did (create first_key))
    ∷ loads_hold 1 ∷ pins_hold 1 ∷ splits 1 ∷ loads_hold 1 ∷ pins_hold 1 ∷ splits 1 ∷ tries 0 ∷ []

-- the self-removal of caller 0 begins: in one critical section the directory is marked and claimed
abbrev pub mark_steps : List StepKind
mark_steps = notes LockTaken ∷ notes (Did (Doom first_key)) ∷ marks_node 1 ∷ notes (Claimed first_key)
    ∷ notes LockReleased ∷ []

abbrev pub until_marked : List StepKind
until_marked = call_steps ++ mark_steps

-- caller 1 looks, caller 0 breaks its protection, and then caller 1 sees the drain
abbrev pub drain_steps : List StepKind
drain_steps = looks 1 ∷ breaks 0 ∷ looks 1 ∷ []

abbrev pub until_drained : List StepKind
until_drained = until_marked ++ drain_steps

-- under the lock the directory is taken out of the tree, and caller 1 sees that. Under the lock caller 0 is
-- restored, and then it ends its call
abbrev pub part_steps : List StepKind
part_steps = notes LockTaken ∷ looks_over 1 ∷ unlinks 1 ∷ notes (Did (Unlink first_key)) ∷ notes LockReleased
    ∷ parts 1 ∷ notes LockTaken ∷ restores 0 ∷ leaves 0 ∷ []

abbrev pub until_parted : List StepKind
until_parted = until_drained ++ part_steps

-- both callers release their holds, and the next directory is made in the slot
abbrev pub next_steps : List StepKind
next_steps = releases 1 ∷ releases 0 ∷ notes LockTaken ∷ loads_hold 1 ∷ stores_fresh 1 ∷ stores_node 1 0 0
    ∷ stores_node 1 1 0 ∷ stores_node 1 2 0 ∷ births 1 ∷ takes_bias 1 ∷ notes (Did (create next_key)) ∷ []

abbrev pub until_again : List StepKind
until_again = until_parted ++ next_steps

-- a moment after these steps from the opening of two slots: the rule of the words is met, and the lock is
-- free. Its Master has seen all the steps; in its tree the key has these marks, or none if it is not linked
pub record Moment (table : TableId) (steps : List StepKind) (key : Key)
    (marks : Option NodeFlags) : Type 0 where
  pub words : Table
  pub locked : Locked
  pub run : WordRun (opened_as life_opening) steps words
  pub met : Shown 2 3 words
  pub free : IsFreeLock words locked
  pub same_table : locked.master.table ≡ table
  pub all_seen : locked.master.seen ≡ record { opening = life_opening; steps = steps }
  pub marks_are : marks_of locked.state.tree key ≡ marks

-- the marks of a node that was activated and is doomed
abbrev pub marked_marks : NodeFlags
marked_marks = with_marks_of true true

-- the moments of the life, each after the one above it
pub record NodeLife (table : TableId) : Type 0 where
  -- caller 0 runs on a live node
  pub called : Moment table call_steps first_key (Some live_marks)
  pub runs : IsCaller (world called.words) 0 first_key Running
  -- the node is marked, and caller 0 still runs
  pub marked : Moment table until_marked first_key (Some marked_marks)
  pub marks : WordRun called.words mark_steps marked.words
  pub runs_on : IsCaller (world marked.words) 0 first_key Running
  -- caller 1 has the receipt of the drain, and the node is still linked
  pub drained : Moment table until_drained first_key (Some marked_marks)
  pub drains : WordRun marked.words drain_steps drained.words
  pub receipt : IsCaller (world drained.words) 1 first_key Drained
  -- the receipt is parted, and the tree no longer has the node
  pub parted : Moment table until_parted first_key None
  pub parts : WordRun drained.words part_steps parted.words
  pub gone : IsCaller (world parted.words) 1 first_key Parted
  -- the slot was given again
  pub again : Moment table until_again next_key (Some live_marks)
  pub goes_on : WordRun parted.words next_steps again.words
  pub last : IsLast (world again.words) 1 2

-- there is such a life, whichever table it is
abbrev pub TreeLives : Type 0
TreeLives = (table : TableId) → NodeLife table
