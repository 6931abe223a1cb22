-- After each command, the Master and the claims still agree with the tree.
use Rattle.std.proofs.Common.{◌≡◌, ℕ, refl, ap, sym, ◌∙◌, subst, Bool, true, false, cond, List, ◌++◌, length, slice_set}
use Rattle.std.specs.Prelude.{Option, None, Some, Result, Ok, Err, IfOk, IfErr, IfSome, MatchBool, is_some, All, Contains, slice_get, slice_index_or}
use Rattle.std.specs.Option.{option_map}
use Rattle.std.proofs.lemmas.Option.{same_Some, none-some}
use Rattle.std.proofs.lemmas.List.Elements.{Contains-append_left, Contains-get_or}
use Rattle.kf_core.specs.declared.key.Key.{Key}
use Rattle.kf_core.specs.declared.key.Node.{Node}
use Rattle.kf_core.specs.declared.slot.SlotState.{SlotState}
use Rattle.kf_core.specs.declared.records.Record.{Record}
use Rattle.kf_core.specs.declared.refusal.Refusal.{Refusal}
use Rattle.kf_core.specs.declared.command.Command.{Command}
use Rattle.kf_core.specs.declared.command.Command.TheVariants.{Create, Activate, Doom, Unlink, Rename, Hide, Show}
use Rattle.kf_core.specs.Marks.{fresh_marks, live_marks}
use Rattle.kf_core.specs.Tree.{Tree, record_at, is_linked}
use Rattle.kf_core.specs.Commands.{after}
use Rattle.kf_core.specs.PostOrder.{IsPostOrder}
use Rattle.kf_core.proofs.Climbs.{same_key_self}
use Rattle.kf_core.proofs.Lists.{length_set}
use Rattle.kf_tree.specs.TreeLogs.{TreeLog, IsKept, IsAccepted, IsRefused}
use Rattle.kf_words.specs.Callers.{TableId}
use Rattle.kf_looks.specs.declared.view.Link.{Link}
use Rattle.kf_words.specs.Nodes.{MasterState, KeepsNodes, MayBear, IsVacant, Searched, slots_with}
use Rattle.kf_tree.specs.SlotMarks.{marks_at, SameMarks, Changed, doomed_if, risen_if}
use Rattle.kf_tree.proofs.Opening.{length_after}
use Rattle.kf_tree.proofs.SameMarks.{vacant_in_tree, same_born, same_born_live, same_unlinked, same_renamed, same_hidden, same_doomed, same_risen}
use Rattle.kf_tree.proofs.SlotWrites.{IsEmpty, length_written, marks_written, alone_vacant}
use Rattle.kf_shared.specs.Agreement.{HasNodes, OnlyMarks}
use Rattle.kf_shared.specs.Locked.{Locked, IsTied, BornLowest}
use Rattle.kf_shared.proofs.Nodes.{nodes_created, nodes_activated, nodes_doomed, nodes_unlinked, nodes_renamed, nodes_hidden}

abbrev pub locked : TreeLog → List Link → MasterState → List ℕ → Locked
locked s links m claims = record { state = s; links = links; master = m; claims = claims }

bearable : (m : MasterState) (next : Option Key) (key : Key) → IfSome next (λ k. MayBear m.view k) → next ≡ Some key → MayBear m.view key
bearable m None key h e = absurd (none-some key e)
bearable m (Some k) key h e = subst (MayBear m.view) (same_Some k key e) h

empty_slot : (m : MasterState) (key : Key) → IsVacant m.view key → IsEmpty m.view.slots key
empty_slot m key v = record { last = v.last; vacant = v.vacant }

-- after a command and its events, tree and words are still tied
tied : (table : TableId) (s s' : TreeLog) (m m' : MasterState) (claims : List ℕ) (cause : Option Refusal) (c : Command) → IsTied table s m claims → IsAccepted s s' cause c →
    m'.table ≡ m.table → length m'.view.slots ≡ length m.view.slots → length m'.nodes ≡ length m.nodes → SameMarks m'.view.slots (after s.tree c) → HasNodes m'.nodes (after s.tree c) → IsTied table s' m' claims
tied table s s' m m' claims cause c t a same_table wide all same nodes = record {
  same_table = same_table ∙ t.same_table;
  root = ap (λ (k : Key). k.slot) a.same_root ∙ t.root;
  marks = subst (SameMarks m'.view.slots) (sym a.changed) same;
  nodes = subst (HasNodes m'.nodes) (sym a.changed) nodes;
  slots = wide ∙ t.slots ∙ sym long;
  all_nodes = all ∙ t.all_nodes ∙ sym long;
  claims = t.claims ∙ sym long;
}
  where
    long : length s'.tree ≡ length s.tree
    long = ap length a.changed ∙ length_after s.tree c

pub tied_master : (table : TableId) (s : TreeLog) (m m' : MasterState) (claims : List ℕ) → IsTied table s m claims → KeepsNodes m m' → IsTied table s m' claims
tied_master table s m m' claims t n = record {
  same_table = n.table ∙ t.same_table;
  root = t.root;
  marks = subst (λ slots. SameMarks slots s.tree) (sym n.slots) t.marks;
  nodes = subst (λ nodes. HasNodes nodes s.tree) (sym n.nodes) t.nodes;
  slots = ap length n.slots ∙ t.slots;
  all_nodes = ap length n.nodes ∙ t.all_nodes;
  claims = t.claims;
}

pub tied_state : (table : TableId) (s s' : TreeLog) (m : MasterState) (claims : List ℕ) → IsTied table s m claims → s' ≡ s → IsTied table s' m claims
tied_state table s s' m claims t e = subst (λ x. IsTied table x m claims) (sym e) t

-- tree and words are still tied if only the stored commands are others
pub tied_same : (table : TableId) (s s' : TreeLog) (m : MasterState) (claims : List ℕ) → IsTied table s m claims → s'.root ≡ s.root → s'.tree ≡ s.tree → IsTied table s' m claims
tied_same table s s' m claims t root tree = record {
  same_table = t.same_table;
  root = ap (λ (k : Key). k.slot) root ∙ t.root;
  marks = subst (SameMarks m.view.slots) (sym tree) t.marks;
  nodes = subst (HasNodes m.nodes) (sym tree) t.nodes;
  slots = t.slots ∙ ap length (sym tree);
  all_nodes = t.all_nodes ∙ ap length (sym tree);
  claims = t.claims ∙ ap length (sym tree);
}

pub tied_hidden : (table : TableId) (s s' : TreeLog) (m : MasterState) (claims : List ℕ) (key : Key) (cause : Option Refusal) → IsTied table s m claims → IsAccepted s s' cause (Hide key) → IsTied table s' m claims
tied_hidden table s s' m claims key cause t a = tied table s s' m m claims cause (Hide key) t a refl refl refl (same_hidden m.view.slots s.tree key true t.marks) (nodes_hidden m.nodes s.tree key true t.nodes)

pub tied_shown : (table : TableId) (s s' : TreeLog) (m : MasterState) (claims : List ℕ) (key : Key) (cause : Option Refusal) (hidden : Bool) → IsTied table s m claims → MatchBool hidden (IsAccepted s s' cause (Show key)) (s' ≡ s) → IsTied table s' m claims
tied_shown table s s' m claims key cause true t a = tied table s s' m m claims cause (Show key) t a refl refl refl (same_hidden m.view.slots s.tree key false t.marks) (nodes_hidden m.nodes s.tree key false t.nodes)
tied_shown table s s' m claims key cause false t e = tied_state table s s' m claims t e

-- the slot of the key that a search returned is vacant in the tree
pub vacant_next : (table : TableId) (s : TreeLog) (m m1 : MasterState) (claims : List ℕ) (next : Option Key) → IsTied table s m claims → IsKept s → KeepsNodes m m1 → IfSome next (λ k. MayBear m1.view k) →
    IfSome next (λ key. slice_get s.tree key.slot ≡ Some None)
vacant_next table s m m1 claims None t k n h = h
vacant_next table s m m1 claims (Some key) t k n h =
    let now = tied_master table s m m1 claims t n in
    vacant_in_tree m1.view.slots s.tree s.root key now.marks k.lawful now.slots (empty_slot m1 key h.vacant)

-- a node that was just born has fresh marks
pub born_marks : (m m' : MasterState) (next : Option Key) (key : Key) → IfSome next (λ k. MayBear m.view k) → next ≡ Some key → m'.view.slots ≡ slots_with m.view.slots key (Some fresh_marks) → marks_at m'.view.slots key ≡ Some fresh_marks
born_marks m m' next key found given slots =
    ap (λ xs. marks_at xs key) slots ∙ marks_written m.view.slots key key (Some fresh_marks) (alone_vacant m.view.slots key (empty_slot m key (bearable m next key found given).vacant))
    ∙ ap (λ b. cond b (Some fresh_marks) (marks_at m.view.slots key)) (same_key_self key)

-- the node was born in the lowest slot that the search found free
pub born_lowest : (old found m : MasterState) (next : Option Key) (key : Key) → Searched old.view (option_map (λ (k : Key). k.slot) next) found.view → next ≡ Some key → m.view.at_birth ≡ found.view.loads → BornLowest old.view m.view key.slot
born_lowest old found m next key searched given kept = (found.view, subst (λ n. Searched old.view (option_map (λ (k : Key). k.slot) n) found.view) given searched, kept)

module _ (table : TableId) (s s' : TreeLog) (m m1 m2 : MasterState) (claims : List ℕ) (next : Option Key) (key parent : Key) (name : List ℕ) (node : Node) (is_live : Bool) (cause : Option Refusal)
    (before : IsTied table s m claims) (kept : IsKept s) (search : KeepsNodes m m1) (found : IfSome next (λ k. MayBear m1.view k)) (given : next ≡ Some key)
    (accepted : IsAccepted s s' cause (Create key parent name node is_live)) (same_table : m2.table ≡ m1.table) (nodes : m2.nodes ≡ slice_set m1.nodes key.slot node)
    (slots : m2.view.slots ≡ slots_with m1.view.slots key (Some fresh_marks)) where
  may_bear : MayBear m1.view key
  may_bear = bearable m1 next key found given

  empty : IsEmpty m1.view.slots key
  empty = empty_slot m1 key may_bear.vacant

  now : IsTied table s m1 claims
  now = tied_master table s m m1 claims before search

  vacant : slice_get s.tree key.slot ≡ Some None
  vacant = vacant_in_tree m1.view.slots s.tree s.root key now.marks kept.lawful now.slots empty

  has_nodes : HasNodes m2.nodes (after s.tree (Create key parent name node is_live))
  has_nodes = subst (λ ns. HasNodes ns (after s.tree (Create key parent name node is_live))) (sym nodes) (nodes_created m1.nodes s.tree key parent name node is_live vacant now.all_nodes now.nodes)

  all_nodes : length m2.nodes ≡ length m1.nodes
  all_nodes = ap length nodes ∙ length_set m1.nodes key.slot node

  pub tied_born : is_live ≡ false → IsTied table s' m2 claims
  tied_born e = tied table s s' m1 m2 claims cause (Create key parent name node is_live) now accepted same_table (ap length slots ∙ length_written m1.view.slots key (Some fresh_marks)) all_nodes
      (subst (λ b. SameMarks m2.view.slots (after s.tree (Create key parent name node b))) (sym e)
      (subst (λ xs. SameMarks xs (after s.tree (Create key parent name node false))) (sym slots)
      (same_born m1.view.slots s.tree s.root key parent name node now.marks kept.lawful now.slots empty)))
      has_nodes

  pub tied_born_live : (m3 : MasterState) → is_live ≡ true → m3.table ≡ m2.table → m3.nodes ≡ m2.nodes → m3.view.slots ≡ slots_with m2.view.slots key (Some live_marks) → IsTied table s' m3 claims
  tied_born_live m3 e same_last same_nodes last = tied table s s' m1 m3 claims cause (Create key parent name node is_live) now accepted (same_last ∙ same_table)
      (ap length last ∙ length_written m2.view.slots key (Some live_marks) ∙ ap length slots ∙ length_written m1.view.slots key (Some fresh_marks))
      (ap length same_nodes ∙ all_nodes)
      (subst (λ b. SameMarks m3.view.slots (after s.tree (Create key parent name node b))) (sym e)
      (subst (λ xs. SameMarks xs (after s.tree (Create key parent name node true))) (sym (last ∙ ap (λ xs. slots_with xs key (Some live_marks)) slots))
      (same_born_live m1.view.slots s.tree s.root key parent name node now.marks kept.lawful now.slots empty)))
      (subst (λ ns. HasNodes ns (after s.tree (Create key parent name node is_live))) (sym same_nodes) has_nodes)

pub tied_renamed : (table : TableId) (s s' : TreeLog) (m : MasterState) (claims : List ℕ) (key dir : Key) (name : List ℕ) (cause : Option Refusal) (stays : Bool) (result : Result (Unit {0}) Refusal) →
    IsTied table s m claims → IfOk result (λ _. stays ≡ true → s' ≡ s) → IfOk result (λ _. stays ≡ false → IsAccepted s s' cause (Rename key dir name)) → IfErr result (λ why. IsRefused s s' cause why) → IsTied table s' m claims
tied_renamed table s s' m claims key dir name cause stays (Ok u) t same accepted refused =
    elim stays as (λ b. (b ≡ true → s' ≡ s) → (b ≡ false → IsAccepted s s' cause (Rename key dir name)) → IsTied table s' m claims) [
      | true ↦ λ x y. tied_state table s s' m claims t (x refl)
      | false ↦ λ x y. tied table s s' m m claims cause (Rename key dir name) t (y refl) refl refl refl (same_renamed m.view.slots s.tree key dir name t.marks) (nodes_renamed m.nodes s.tree key dir name t.nodes)
    ] same accepted
tied_renamed table s s' m claims key dir name cause stays (Err why) t same accepted refused = tied_state table s s' m claims t refused.unchanged

-- the first keys of a subtree's post-order are linked in the words
pub linked_in_words : (slots : List SlotState) (t : Tree) (top : Key) (keys below rest seen : List Key) → SameMarks slots t → IsPostOrder t top keys → keys ≡ below ++ rest → seen ≡ below → All (λ key. is_some (marks_at slots key) ≡ true) seen
linked_in_words slots t top keys below rest seen same order parts is i d l =
    ap is_some (same key) ∙ go (record_at t key) ∙ ((order.members key).0 (subst (λ ks. Contains ks key) (sym parts) (Contains-append_left below rest key (subst (λ ks. Contains ks key) is (Contains-get_or seen i d l))))).0
  where
    key : Key
    key = slice_index_or seen i d

    go : (o : Option Record) → is_some (option_map (λ (r : Record). r.marks) o) ≡ is_some o
    go None = refl
    go (Some r) = refl

module _ (table : TableId) (s s' : TreeLog) (m m' : MasterState) (claims : List ℕ) (top : Key) (keys : List Key) (cause : Option Refusal)
    (before : IsTied table s m claims) (order : IsPostOrder s.tree top keys) (only : OnlyMarks m m') where
  pub tied_risen : IsAccepted s s' cause (Activate top) → Changed risen_if keys m.view.slots m'.view.slots → IsTied table s' m' claims
  tied_risen a h = tied table s s' m m' claims cause (Activate top) before a only.table only.slots (ap length only.nodes) (same_risen s.tree top keys m.view.slots m'.view.slots before.marks order h)
      (subst (λ ns. HasNodes ns (after s.tree (Activate top))) (sym only.nodes) (nodes_activated m.nodes s.tree top before.nodes))

  pub tied_doomed : IsAccepted s s' cause (Doom top) → Changed doomed_if keys m.view.slots m'.view.slots → IsTied table s' m' claims
  tied_doomed a h = tied table s s' m m' claims cause (Doom top) before a only.table only.slots (ap length only.nodes) (same_doomed s.tree top keys m.view.slots m'.view.slots before.marks order h)
      (subst (λ ns. HasNodes ns (after s.tree (Doom top))) (sym only.nodes) (nodes_doomed m.nodes s.tree top before.nodes))

pub tied_unlinked : (table : TableId) (s s' : TreeLog) (m m' : MasterState) (claims : List ℕ) (key : Key) (cause : Option Refusal) →
    IsTied table s m claims → is_linked s.tree key ≡ true → IsAccepted s s' cause (Unlink key) → m'.table ≡ m.table → m'.nodes ≡ m.nodes → m'.view.slots ≡ slots_with m.view.slots key None → IsTied table s' m' claims
tied_unlinked table s s' m m' claims key cause t linked a same_table nodes slots = tied table s s' m m' claims cause (Unlink key) t a same_table (ap length slots ∙ length_written m.view.slots key None) (ap length nodes)
    (subst (λ xs. SameMarks xs (after s.tree (Unlink key))) (sym slots) (same_unlinked m.view.slots s.tree key t.marks linked))
    (subst (λ ns. HasNodes ns (after s.tree (Unlink key))) (sym nodes) (nodes_unlinked m.nodes s.tree key linked t.nodes))

pub only_after : (a b c : MasterState) → OnlyMarks a b → OnlyMarks b c → OnlyMarks a c
only_after a b c x y = record { table = y.table ∙ x.table; nodes = y.nodes ∙ x.nodes; slots = y.slots ∙ x.slots; history = y.history ∙ x.history }
