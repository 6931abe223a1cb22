-- What holds of the running tree and of its callers, over every run of steps on the words.
use Rattle.std.specs.Prelude.{◌≡◌, ◌≢◌, ℕ, ◌<◌, ◌≤◌, Bool, true, false, not, ◌&&◌, List, length, IsTrue, if◌then◌else◌}
use Rattle.kf_core.specs.declared.key.Key.{Key}
use Rattle.kf_core.specs.declared.caller.Phase.{Phase}
use Rattle.kf_core.specs.declared.caller.Phase.TheVariants.{Turned, Running, Parted, Hidden, Spent}
use Rattle.kf_core.specs.Marks.{are_live}
use Rattle.kf_core.specs.Phases.{saw_drain}
use Rattle.kf_core.specs.Bare.{IsCaller, IsLast, is_doomed, is_hidden}
use Rattle.kf_core.specs.Bare.{is_linked as is_linked_in}
use Rattle.kf_core.specs.Safe.{NoneRunning, NoneHolding}
use Rattle.kf_core.specs.Steps.{OnlySpent}
use Rattle.kf_core.specs.Tree.{Tree, is_linked, marks_of}
use Rattle.kf_core.specs.Agrees.{Agrees}
use Rattle.kf_core.specs.Commands.{replay, root_alone}
use Rattle.kf_words.specs.Rule.{Shown}
use Rattle.kf_words.specs.Steps.{opened}
use Rattle.kf_words.specs.Callers.{TableId}
use Rattle.kf_words.specs.declared.sight.StepKind.{StepKind}
use Rattle.kf_words.specs.declared.sight.StepKind.TheVariants.{Tries as tries, Births as births}
use Rattle.kf_words.specs.Runs.{Table, WordStep, WordRun, WasLetIn, TryIsRefused, OverRuns, world, master_in, opened_table}
use Rattle.kf_shared.specs.Locked.{Locked, IsToldBy, IsWhole, history}

-- the lock is free: its value is whole, and its Master is the one of this table
pub record IsFreeLock (u : Table) (s : Locked) : Type 0 where
  pub table : TableId
  pub whole : IsWhole table s
  pub its_master : master_in u.views ≡ s.master.view

-- the law holds in every run of any seats, from any table that meets the rule, if the lock is free at the end
-- of the run
abbrev pub WhileFree : (ℕ → ℕ → Table → Table → Locked → Type 0) → Type 0
WhileFree Law = (slots limit : ℕ) (t u : Table) (kinds : List StepKind) (s : Locked) → Shown slots limit t
    → WordRun t kinds u → IsFreeLock u s → Law slots limit t u s

-- a new tree goes with a table that meets the rule, if nobody has a seat there except its Master
abbrev pub StartsWell : Type 0
StartsWell = (slots limit start : ℕ) (s : Locked) (table : TableId) → 1 ≤ slots → limit ≤ 65535
    → IsWhole table s → s.master.view ≡ opened limit slots start
    → Shown slots limit (opened_table limit slots start) × IsFreeLock (opened_table limit slots start) s

-- the tree is the replay of its stored commands
abbrev pub IsReplay : Type 0
IsReplay = WhileFree
    (λ slots limit t u s. s.state.tree
    ≡ replay (root_alone (length s.state.tree) s.state.root) s.state.commands)

-- the tree, the claims and the stored commands are those of the history
abbrev pub IsOfHistory : Type 0
IsOfHistory = WhileFree (λ slots limit t u s. IsToldBy s (history s))

-- the tree and the words say the same of each key: whether it is linked, activated and doomed
abbrev pub TreeAgrees : Type 0
TreeAgrees = WhileFree (λ slots limit t u s. Agrees s.state.tree (world u))

-- in the tree the key is linked, activated and not doomed, and no caller hides it
abbrev pub lets_in : Tree → Table → Key → Bool
lets_in tree u key = are_live (marks_of tree key) && not (is_hidden (world u) key)

-- a try, if it is the next step, lets its caller run if and only if its node is live in the tree and no
-- caller hides the node
abbrev pub StartsLive : Type 0
StartsLive = WhileFree
    (λ slots limit t u s. (j : ℕ) (key : Key) (phase : Phase) (v : Table) → IsCaller (world u) j key phase
    → WordStep u (tries j) v
    → IsCaller (world v) j key (if lets_in s.state.tree u key then Running else Turned))

-- in every run from a new tree's table, each caller that is Running at the end was let in by one of its
-- tries, which found its key live
abbrev pub TakenWhileLive : Type 0
TakenWhileLive = (slots limit start : ℕ) (u : Table) (kinds : List StepKind) → 1 ≤ slots → limit ≤ 65535
    → WordRun (opened_table limit slots start) kinds u
    → (c : ℕ) (key : Key) → IsCaller (world u) c key Running
    → WasLetIn (opened_table limit slots start) kinds u c key

-- nobody is running on a node that is not linked in the tree
abbrev pub RunsLinked : Type 0
RunsLinked = WhileFree
    (λ slots limit t u s. (key : Key) → is_linked s.state.tree key ≡ false → NoneRunning (world u) key)

-- if a linked node was already marked at the start of the run, then at its end a try on the node is refused,
-- and the node is not live in the tree
abbrev pub MarkedForGood : Type 0
MarkedForGood = WhileFree (λ slots limit t u s. (key : Key) → IsTrue (is_linked_in (world t) key)
    → IsTrue (is_doomed (world t) key) → TryIsRefused u key × (are_live (marks_of s.state.tree key) ≡ false))

-- if somebody had a node's receipt at the start of the run, drained or parted, then at its end nobody is
-- running on that node, and the node is not live in the tree
abbrev pub RemovedForGood : Type 0
RemovedForGood = WhileFree
    (λ slots limit t u s. (c : ℕ) (key : Key) (phase : Phase) → IsCaller (world t) c key phase
    → IsTrue (saw_drain phase)
    → NoneRunning (world u) key × (are_live (marks_of s.state.tree key) ≡ false))

-- if somebody had a parted receipt of a node at the start of the run, the node is not linked in the tree at
-- its end
abbrev pub PartedForGood : Type 0
PartedForGood = WhileFree
    (λ slots limit t u s. (c : ℕ) (key : Key) → IsCaller (world t) c key Parted
    → is_linked s.state.tree key ≡ false)

-- while a caller has a key hidden, nobody is running on it
abbrev pub HiddenIsStill : Type 0
HiddenIsStill = OverRuns
    (λ slots limit t u. (c : ℕ) (key : Key) → IsCaller (world u) c key Hidden → NoneRunning (world u) key)

-- a birth, if it is the next step, finds only spent callers on its slot
abbrev pub HeldNotGiven : Type 0
HeldNotGiven =
    OverRuns (λ slots limit t u. (slot : ℕ) (v : Table) → WordStep u (births slot) v
    → OnlySpent (world u) slot)

-- in the slot of a key that somebody holds, no other key is linked in the tree
abbrev pub HeldIsLast : Type 0
HeldIsLast = WhileFree
    (λ slots limit t u s. (c : ℕ) (key other : Key) (phase : Phase) → IsCaller (world u) c key phase
    → phase ≢ Spent → is_linked s.state.tree other ≡ true → other.slot ≡ key.slot → other ≡ key)

-- if a key's slot had a later generation at the start of the run, then at its end only spent callers are on
-- the key, and the key is not linked in the tree
abbrev pub GoneForGood : Type 0
GoneForGood = WhileFree
    (λ slots limit t u s. (key : Key) (generation : ℕ) → IsLast (world t) key.slot generation
    → key.generation < generation
    → NoneHolding (world u) key × (is_linked s.state.tree key ≡ false))
