-- What is true of the later files once the first is made, and of the files of a directory once it is made.
use Rattle.std.proofs.Common.{◌≡◌, ◌≢◌, ◌≤◌, ◌+◌, ◌∙◌, ℕ, ap, sym, subst, true, false, List, [], ◌∷◌, length, get_or}
use Rattle.std.specs.Prelude.{Option, None, Some, not, is_some, slice_get}
use Rattle.kf_core.specs.declared.command.Command.TheVariants.{Create, Activate}
use Rattle.kf_core.specs.declared.key.Key.{Key}
use Rattle.kf_core.specs.declared.key.Node.{Node}
use Rattle.kf_core.specs.declared.key.Node.TheVariants.{Dir}
use Rattle.kf_core.specs.declared.records.Record.{Record}
use Rattle.kf_core.specs.declared.refusal.Refusal.{Refusal}
use Rattle.kf_core.specs.declared.refusal.Refusal.TheVariants.{NoEntry, NotDir, Exists}
use Rattle.kf_core.specs.Commands.{after}
use Rattle.kf_core.specs.Lawful.{Lawful}
use Rattle.kf_core.specs.Names.{name_fault}
use Rattle.kf_core.specs.Refusals.{unless}
use Rattle.kf_core.specs.Tree.{Tree, is_linked}
use Rattle.kf_shared.specs.Locked.{Locked, IsWhole, Created, creation_fault}
use Rattle.kf_words.specs.Callers.{TableId}
use Rattle.kf_words.specs.Nodes.{IsVacant}
use Rattle.kf_tree.specs.Causes.{create_fault, is_directory, doomed_in, has_entry}
use Rattle.kf_tree.specs.TreeLogs.{TreeLog, IsAccepted}
use Rattle.kf_tree.proofs.Allowed.{not_passed, passed}
use Rattle.kf_groups.specs.declared.attribute.Attribute.{Attribute}
use Rattle.kf_groups.specs.Attributes.{HasNone, file_of, file_fault, files_cause, has_name, shown}
use Rattle.kf_groups.specs.Keeps.{Keeps, KeepsOlder}
use Rattle.kf_tree.specs.Subtrees.{linked_count}
use Rattle.kf_groups.proofs.Free.{all_still_free, first_of_six, of_six, parted}
use Rattle.kf_groups.proofs.Counts.{activated_same, created_more}
use Rattle.kf_groups.proofs.Linked.{itself_at, not_linked, vacant_slot}
use Rattle.kf_groups.proofs.Older.{activated, keeps_created, keeps_on}
use Rattle.kf_groups.proofs.Makings.{first_shown, later}
use Rattle.kf_groups.proofs.NewDirectory.{all_free}

-- nothing is wrong with the files of these attributes in the directory
abbrev pub AreFree : TreeLog → Key → List Attribute → Type 0
AreFree s dir attributes = files_cause (file_fault s.tree s.root (Some dir)) attributes ≡ None

lawful_after : (s0 s1 : Locked) (parent key : Key) (name : List ℕ) (node : Node) → Created s0 s1 parent name node false key
    → Lawful (after s0.state.tree (Create key parent name node false)) s0.state.root
lawful_after s0 s1 parent key name node made =
    subst (λ r. Lawful (after s0.state.tree (Create key parent name node false)) r) made.same_root
    (subst (λ (t : Tree). Lawful t s1.state.root) made.changed made.kept.lawful)

module _ (s0 s1 : Locked) (dir : Key) (attributes : List Attribute) (d : Attribute) (some : 1 ≤ length attributes) (there : (get_or attributes 0 d).mode ≢ 0) (node : Node) where
  abbrev a : Attribute
  a = get_or attributes 0 d

  apart : AreFree s0.state dir (shown attributes) → (create_fault s0.state.tree s0.state.root dir a.name.now (file_of a) ≡ None)
      × (unless (not (has_name (shown (later attributes)) a.name.now)) Exists ≡ None) × AreFree s0.state dir (shown (later attributes))
  apart free = parted (create_fault s0.state.tree s0.state.root dir a.name.now (file_of a))
      (unless (not (has_name (shown (later attributes)) a.name.now)) Exists)
      (files_cause (file_fault s0.state.tree s0.state.root (Some dir)) (shown (later attributes)))
      (subst (λ xs. AreFree s0.state dir xs) (first_shown attributes d some there) free)

  -- nothing is wrong with the first file's node
  pub first_free : node ≡ file_of a → AreFree s0.state dir (shown attributes) → creation_fault s0 dir a.name.now node ≡ None
  first_free same free = ap (λ n. create_fault s0.state.tree s0.state.root dir a.name.now n) same ∙ (apart free).0

  pub later_free : (key : Key) → Created s0 s1 dir a.name.now node false key → AreFree s0.state dir (shown attributes)
      → AreFree s1.state dir (shown (later attributes))
  later_free key made free =
      let parts = apart free in
      let grown = after s0.state.tree (Create key dir a.name.now node false) in
      let still = all_still_free s0.state.tree s0.state.root key dir a.name.now node (shown (later attributes))
      (lawful_after s0 s1 dir key a.name.now node made)
      (not_passed (has_name (shown (later attributes)) a.name.now) Exists parts.1) parts.2 in
      subst (λ (t : Tree). files_cause (file_fault t s1.state.root (Some dir)) (shown (later attributes)) ≡ None) (sym made.changed)
      (subst (λ r. files_cause (file_fault grown r (Some dir)) (shown (later attributes)) ≡ None) (sym made.same_root) still)

module _ (table : TableId) (s0 s1 : Locked) (dir key : Key) (name : List ℕ) (node : Node) (whole : IsWhole table s0) (vacant : IsVacant s0.master.view key) (made : Created s0 s1 dir name node false key) where
  slot : slice_get s0.state.tree key.slot ≡ Some None
  slot = vacant_slot table s0 key whole vacant

  pub itself_linked : is_linked s1.state.tree key ≡ true
  itself_linked = subst (λ (t : Tree). is_linked t key ≡ true) (sym made.changed)
      (ap (λ (o : Option Record). is_some o) (itself_at s0.state.tree key dir name node false slot))

  pub made_keeps : Keeps s0.state.tree s1.state.tree
  made_keeps = subst (Keeps s0.state.tree) (sym made.changed) (keeps_created s0.state.tree key dir name node false slot)

  pub made_more : linked_count s1.state.tree ≡ linked_count s0.state.tree + 1
  made_more = ap (λ (t : Tree). linked_count t) made.changed ∙ created_more s0.state.tree key dir name node false slot

  pub fresh : is_linked s0.state.tree key ≡ false
  fresh = not_linked s0.state.tree key dir name node false slot

  -- what was there before stays if the node is taken back
  pub stays : (t2 t3 : Tree) → Keeps s1.state.tree t2 → KeepsOlder key t2 t3 → Keeps s0.state.tree t3
  stays t2 t3 since older = older s0.state.tree s0.state.root whole.kept.lawful fresh
      (keeps_on s0.state.tree s1.state.tree t2 made_keeps since)

  -- what was there before stays if the node is activated
  pub stays_activated : (s2 s3 : TreeLog) (cause : Option Refusal) → Keeps s1.state.tree s2.tree → IsAccepted s2 s3 cause (Activate key)
      → Keeps s0.state.tree s3.tree
  stays_activated s2 s3 cause since accepted = subst (Keeps s0.state.tree) (sym accepted.changed)
      (activated s0.state.tree s0.state.root key whole.kept.lawful fresh s2.tree
      (keeps_on s0.state.tree s1.state.tree s2.tree made_keeps since))

pub activated_count : (s2 s3 : TreeLog) (cause : Option Refusal) (key : Key) → IsAccepted s2 s3 cause (Activate key) → linked_count s3.tree ≡ linked_count s2.tree
activated_count s2 s3 cause key accepted = ap (λ (t : Tree). linked_count t) accepted.changed ∙ activated_same s2.tree key

-- if nothing is wrong with these files, the directory has no entry with their names
pub none_yet : (s : TreeLog) (dir : Key) (attributes : List Attribute) → AreFree s dir attributes → HasNone s.tree dir attributes
none_yet s dir [] free = tt
none_yet s dir (a ∷ attributes) free =
    let c = parted (file_fault s.tree s.root (Some dir) a) (unless (not (has_name attributes a.name.now)) Exists)
    (files_cause (file_fault s.tree s.root (Some dir)) attributes) free in (
      not_passed (has_entry s.tree dir a.name.now) Exists (of_six (unless (is_linked s.tree dir) NoEntry) (name_fault a.name.now)
          (unless (is_directory s.tree dir) NotDir) (unless (not (doomed_in s.tree dir)) NoEntry) (unless (not (has_entry s.tree dir a.name.now)) Exists) c.0).1,
      none_yet s dir attributes c.2,
    )

-- the directory has no entry with the names of the later files either
pub later_none : (s : TreeLog) (dir : Key) (attributes : List Attribute) (d : Attribute) → 1 ≤ length attributes → (get_or attributes 0 d).mode ≢ 0
    → AreFree s dir (shown attributes) → HasNone s.tree dir (shown (later attributes))
later_none s dir attributes d some there free =
    (subst (HasNone s.tree dir) (first_shown attributes d some there) (none_yet s dir (shown attributes) free)).1

pub directory_free : (table : TableId) (s0 s1 : Locked) (dir key : Key) (name : List ℕ) (attributes : List Attribute) → IsWhole table s0 → IsVacant s0.master.view key
    → Created s0 s1 dir name Dir false key → create_fault s0.state.tree s0.state.root dir name Dir ≡ None
    → files_cause (file_fault s0.state.tree s0.state.root None) attributes ≡ None → AreFree s1.state key attributes
directory_free table s0 s1 dir key name attributes whole vacant made free files =
    let t = s0.state.tree in
    let linked = passed (is_linked t dir) NoEntry (first_of_six (unless (is_linked t dir) NoEntry) (name_fault name) (unless (is_directory t dir) NotDir)
    (unless (not (doomed_in t dir)) NoEntry) (unless (not (has_entry t dir name)) Exists) free) in
    let grown = after t (Create key dir name Dir false) in
    let all = all_free t s0.state.root key dir name whole.kept.lawful (vacant_slot table s0 key whole vacant) linked attributes files in
    subst (λ (x : Tree). files_cause (file_fault x s1.state.root (Some key)) attributes ≡ None) (sym made.changed)
    (subst (λ r. files_cause (file_fault grown r (Some key)) attributes ≡ None) (sym made.same_root) all)
