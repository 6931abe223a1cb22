-- What an unlink says about what the lock guards.
use Rattle.std.proofs.Common.{◌≡◌, inl, inr, ℕ, refl, ap, sym, ◌∙◌, subst, Bool, true, false, List}
use Rattle.std.specs.Prelude.{Option, None, Some, if◌then◌else◌}
use Rattle.kf_core.specs.declared.key.Key.{Key}
use Rattle.kf_core.specs.declared.refusal.Refusal.{Refusal}
use Rattle.kf_core.specs.declared.refusal.Refusal.TheVariants.{Busy}
use Rattle.kf_core.specs.declared.command.Command.TheVariants.{Unlink}
use Rattle.kf_core.specs.Tree.{is_linked}
use Rattle.kf_tree.specs.TreeLogs.{TreeLog, IsAccepted}
use Rattle.kf_tree.specs.Causes.{unlink_cause}
use Rattle.kf_words.specs.Callers.{TableId}
use Rattle.kf_looks.specs.declared.view.Link.{Link}
use Rattle.kf_words.specs.declared.view.MasterView.{MasterView}
use Rattle.kf_words.specs.Notes.{history_of}
use Rattle.kf_words.specs.Nodes.{MasterState, KeepsNodes, UnlinkAnswer, slots_with}
use Rattle.kf_shared.specs.Locked.{Locked, IsTied, UnlinkRefused}
use Rattle.kf_shared.proofs.Ties.{locked, tied_unlinked}

-- the tree refuses the unlink
pub refused_by_tree : (s : TreeLog) (old : Locked) (key seen : Key) (refusal : Refusal) → s ≡ old.state → seen ≡ key → unlink_cause s.tree seen ≡ Some refusal → UnlinkRefused old old key refusal
refused_by_tree s old key seen refusal same is cause = inl (subst (λ k. unlink_cause old.state.tree k ≡ Some refusal) is (subst (λ (l : TreeLog). unlink_cause l.tree seen ≡ Some refusal) same cause), refl)

-- a look that found the word in use changes nothing else
still_there : (m m' : MasterState) (slot : ℕ) → m'.table ≡ m.table → m'.nodes ≡ m.nodes → history_of m'.seen ≡ history_of m.seen → UnlinkAnswer m.view slot false m'.view → KeepsNodes m m'
still_there m m' slot table nodes unnoted told = record { history = unnoted; table = table; limit = ap (λ (v : MasterView). v.limit) told.2; nodes = nodes; slots = ap (λ (v : MasterView). v.slots) told.2 }

-- the tree would allow the unlink, but the word was found in use
pub refused_by_word : (s : TreeLog) (links : List Link) (m m' : MasterState) (claims : List ℕ) (old : Locked) (key seen : Key) (answer : Bool) → locked s links m claims ≡ old → seen ≡ key → unlink_cause s.tree seen ≡ None → answer ≡ false →
    m'.table ≡ m.table → m'.nodes ≡ m.nodes → history_of m'.seen ≡ history_of m.seen → UnlinkAnswer m.view key.slot answer m'.view → UnlinkRefused old (locked s links m' claims) key Busy
refused_by_word s links m m' claims old key seen answer same is no_cause in_use table nodes unnoted told = inr (
  subst (λ k. unlink_cause old.state.tree k ≡ None) is (subst (λ (l : Locked). unlink_cause l.state.tree seen ≡ None) same no_cause),
  refl,
  subst (λ (l : Locked). UnlinkAnswer l.master.view key.slot false m'.view) same (subst (λ b. UnlinkAnswer m.view key.slot b m'.view) in_use told),
  record {
    root = ap (λ (l : Locked). l.state.root) same;
    tree = ap (λ (l : Locked). l.state.tree) same;
    commands = ap (λ (l : Locked). l.state.commands) same;
    claims = ap (λ (l : Locked). l.claims) same;
    master = subst (λ (l : Locked). KeepsNodes l.master m') same (still_there m m' key.slot table nodes unnoted (subst (λ b. UnlinkAnswer m.view key.slot b m'.view) in_use told));
  },
)

-- both the tree and the words take the node out
pub tied_taken : (table : TableId) (s s' : TreeLog) (m m' : MasterState) (claims : List ℕ) (key seen : Key) (cause : Option Refusal) (answer : Bool) → IsTied table s m claims → seen ≡ key →
    is_linked s.tree seen ≡ true → IsAccepted s s' cause (Unlink seen) →
    m'.table ≡ m.table → m'.nodes ≡ m.nodes → m'.view.slots ≡ (if answer then slots_with m.view.slots key None else m.view.slots) → answer ≡ true → IsTied table s' m' claims
tied_taken table s s' m m' claims key seen cause answer tied is linked accepted same_table nodes slots found =
    tied_unlinked table s s' m m' claims seen cause tied linked accepted same_table nodes
    (slots ∙ ap (λ b. if b then slots_with m.view.slots key None else m.view.slots) found ∙ ap (λ k. slots_with m.view.slots k None) (sym is))
