-- Once a group is made, nothing is wrong with the later groups if it made none of their entries.
use Rattle.std.proofs.Common.{◌≡◌, ◌≤◌, ◌+◌, ◌-◌, inl, inr, ℕ, refl, ap, sym, ◌∙◌, subst, arith, Bool, true, false, List, [], ◌∷◌, length, take, drop, get_or}
use Rattle.std.specs.Prelude.{Option, None, Some, Result, Ok, Err, IfErr, is_some, not, slice_get}
use Rattle.std.specs.List.{list_any}
use Rattle.std.specs.Option.{option_map, option_map_or}
use Rattle.std.proofs.lemmas.Option.{none-some}
use denote.Ref.{Bor}
use Rattle.kf_core.specs.declared.command.Command.{Command}
use Rattle.kf_core.specs.declared.key.Key.{Key}
use Rattle.kf_core.specs.declared.key.Node.{Node}
use Rattle.kf_core.specs.declared.key.Node.TheVariants.{Dir}
use Rattle.kf_core.specs.declared.records.Record.{Record}
use Rattle.kf_core.specs.declared.refusal.Refusal.{Refusal}
use Rattle.kf_core.specs.declared.refusal.Refusal.TheVariants.{NoEntry, NotDir, Exists}
use Rattle.kf_core.specs.Lawful.{Lawful}
use Rattle.kf_core.specs.Marks.{are_doomed}
use Rattle.kf_core.specs.Names.{name_fault}
use Rattle.kf_core.specs.Refusals.{unless, first_cause}
use Rattle.kf_core.specs.Tree.{Tree, IsIn, record_at, is_dir, is_linked}
use Rattle.kf_core.proofs.FoundRecords.{found_in, in_found}
use Rattle.kf_tree.specs.Causes.{create_fault, target_fault, target_of, is_directory, doomed_in, has_entry, list_cause}
use Rattle.kf_shared.specs.Locked.{Locked}
use Rattle.kf_tree.specs.TreeLogs.{TreeLog, Stores}
use Rattle.kf_tree.proofs.Allowed.{linked_record, no_first, not_passed, passed}
use Rattle.kf_groups.specs.declared.attribute.Attribute.{Attribute}
use Rattle.kf_groups.specs.declared.attribute.Group.{Group}
use Rattle.kf_groups.specs.Attributes.{HasNone, cause_by_name, file_fault, file_of, files_cause, group_cause, group_size, has_name, own_name, shown}
use Rattle.kf_groups.specs.Groups.{GroupTakenBack, GroupsMade, GroupsRefused, GroupsTakenBack, IsWithout, clashes, groups_cause, groups_size, makes, shares, shares_by_name}
use Rattle.kf_groups.specs.Making.{GroupMade, MadeByName}
use Rattle.kf_groups.specs.Keeps.{Keeps}
use Rattle.kf_tree.specs.Subtrees.{linked_count}
use Rattle.kf_groups.specs.TakenBack.{GroupRefused, LacksRoom, RoomRefused}
use Rattle.kf_groups.proofs.Counts.{room_refused}
use Rattle.kf_groups.proofs.Free.{joined, neither, parted}
use Rattle.kf_groups.proofs.Fresh.{no_other}
use Rattle.kf_groups.proofs.Named.{entry_stands}
use Rattle.kf_groups.proofs.Names.{rest_of}
use Rattle.kf_groups.proofs.Lengths.{groups_length}
use Rattle.kf_groups.proofs.Turns.{none_yet}

-- ---- lists and causes

pub first_and_later : {X : Type 0} (xs : List X) (d : X) → 1 ≤ length xs → xs ≡ get_or xs 0 d ∷ take (length xs - 1) (drop 1 xs)
first_and_later [] d some = absurd (omega (arith, some))
first_and_later (x ∷ xs) d some = ap (λ ys. x ∷ ys) (sym (rest_of (x ∷ xs) 1))

pub one_passes : (first : Option Refusal) (clash : Bool) (rest : Option Refusal) → first ≡ None → clash ≡ false
    → first_cause (first ∷ unless (not clash) Exists ∷ rest ∷ []) ≡ rest
one_passes first clash rest none free = rw none (rw free (last rest))
  where
    last : (o : Option Refusal) → first_cause (o ∷ []) ≡ o
    last (Some refusal) = refl
    last None = refl

pub first_stops : (first second rest : Option Refusal) (refusal : Refusal) → first ≡ Some refusal → first_cause (first ∷ second ∷ rest ∷ []) ≡ Some refusal
first_stops first second rest refusal is = rw is refl

pub clash_stops : (first : Option Refusal) (clash : Bool) (rest : Option Refusal) → first ≡ None → clash ≡ true
    → first_cause (first ∷ unless (not clash) Exists ∷ rest ∷ []) ≡ Some Exists
clash_stops first clash rest none is = rw none (rw is refl)

six : (a b c d e f : Option Refusal) → first_cause (a ∷ b ∷ c ∷ d ∷ e ∷ f ∷ []) ≡ None
    → (a ≡ None) × (b ≡ None) × (c ≡ None) × (d ≡ None) × (e ≡ None) × (f ≡ None)
six a b c d e f h =
    let last : List (Option Refusal) = [] in
    let h1 = no_first a (b ∷ c ∷ d ∷ e ∷ f ∷ last) h in
    let h2 = no_first b (c ∷ d ∷ e ∷ f ∷ last) h1.1 in
    let h3 = no_first c (d ∷ e ∷ f ∷ last) h2.1 in
    let h4 = no_first d (e ∷ f ∷ last) h3.1 in
    let h5 = no_first e (f ∷ last) h4.1 in
    let h6 = no_first f last h5.1 in (h1.0, h2.0, h3.0, h4.0, h5.0, h6.0)

all_six : (a b c d e f : Option Refusal) → a ≡ None → b ≡ None → c ≡ None → d ≡ None → e ≡ None → f ≡ None
    → first_cause (a ∷ b ∷ c ∷ d ∷ e ∷ f ∷ []) ≡ None
all_six a b c d e f ha hb hc hd he hf = rw ha (rw hb (rw hc (rw hd (rw he (rw hf refl)))))

two : (a b : Option Refusal) → first_cause (a ∷ b ∷ []) ≡ None → (a ≡ None) × (b ≡ None)
two a b h =
    let last : List (Option Refusal) = [] in
    let h1 = no_first a (b ∷ last) h in (h1.0, (no_first b last h1.1).0)

both_none : (a b : Option Refusal) → a ≡ None → b ≡ None → first_cause (a ∷ b ∷ []) ≡ None
both_none a b ha hb = rw ha (rw hb refl)

-- ---- one node

module _ (old new : Tree) (root dir : Key) (keeps : Keeps old new) (node : Node) (untargeted : (t : Tree) → target_fault t root (target_of node) ≡ None) where
  -- if nothing was wrong with a node, and there is no entry with its name yet, nothing is wrong with it
  still_right : (name : List ℕ) → create_fault old root dir name node ≡ None → has_entry new dir name ≡ false → create_fault new root dir name node ≡ None
  still_right name free none =
      let c = six (unless (is_linked old dir) NoEntry) (name_fault name) (unless (is_directory old dir) NotDir)
      (unless (not (doomed_in old dir)) NoEntry) (target_fault old root (target_of node)) (unless (not (has_entry old dir name)) Exists) free in
      let r = linked_record old dir (passed (is_linked old dir) NoEntry c.0) in
      let f = found_in old dir r.0 r.1 in
      let now : record_at new dir ≡ Some r.0 = ap (record_at new) (sym f.1) ∙ in_found new r.0 (keeps r.0.key.slot r.0 f.0) in
      let same : record_at new dir ≡ record_at old dir = now ∙ sym r.1 in
      all_six (unless (is_linked new dir) NoEntry) (name_fault name) (unless (is_directory new dir) NotDir)
      (unless (not (doomed_in new dir)) NoEntry) (target_fault new root (target_of node)) (unless (not (has_entry new dir name)) Exists)
      (ap (λ (o : Option Record). unless (is_some o) NoEntry) same ∙ c.0)
      c.1
      (ap (λ (o : Option Record). unless (option_map_or (λ r. is_dir r.node) o false) NotDir) same ∙ c.2)
      (ap (λ (o : Option Record). unless (not (are_doomed (option_map (λ r. r.marks) o))) NoEntry) same ∙ c.3)
      (untargeted new)
      (ap (λ b. unless (not b) Exists) none)

  no_entry : (name : List ℕ) → create_fault old root dir name node ≡ None → has_entry old dir name ≡ false
  no_entry name free =
      let c = six (unless (is_linked old dir) NoEntry) (name_fault name) (unless (is_directory old dir) NotDir)
      (unless (not (doomed_in old dir)) NoEntry) (target_fault old root (target_of node)) (unless (not (has_entry old dir name)) Exists) free in
      not_passed (has_entry old dir name) Exists c.5

-- ---- groups

-- a directory is still a directory
still_dir : (old new : Tree) (dir : Key) → Keeps old new → list_cause old dir ≡ None → list_cause new dir ≡ None
still_dir old new dir keeps free =
    let c = two (unless (is_linked old dir) NoEntry) (unless (is_directory old dir) NotDir) free in
    let r = linked_record old dir (passed (is_linked old dir) NoEntry c.0) in
    let f = found_in old dir r.0 r.1 in
    let now : record_at new dir ≡ Some r.0 = ap (record_at new) (sym f.1) ∙ in_found new r.0 (keeps r.0.key.slot r.0 f.0) in
    let same : record_at new dir ≡ record_at old dir = now ∙ sym r.1 in
    both_none (unless (is_linked new dir) NoEntry) (unless (is_directory new dir) NotDir)
    (ap (λ (o : Option Record). unless (is_some o) NoEntry) same ∙ c.0)
    (ap (λ (o : Option Record). unless (option_map_or (λ r. is_dir r.node) o false) NotDir) same ∙ c.1)

-- if nothing is wrong with a new node, its directory is linked
either_linked : (t : Tree) (root dir : Key) (name : List ℕ) (node : Node) → create_fault t root dir name node ≡ None → is_linked t dir ≡ true
either_linked t root dir name node free =
    passed (is_linked t dir) NoEntry (six (unless (is_linked t dir) NoEntry) (name_fault name) (unless (is_directory t dir) NotDir)
    (unless (not (doomed_in t dir)) NoEntry) (target_fault t root (target_of node)) (unless (not (has_entry t dir name)) Exists) free).0

module _ (old new : TreeLog) (dir key : Key) (group : Group) (l : Lawful old.tree old.root) (keeps : Keeps old.tree new.tree) (made : GroupMade old new dir group key) (root : Key) where
  abbrev own : List ℕ → Bool
  own name = makes name group

  -- nothing is wrong with a node if the group does not make its name
  apart : (name : List ℕ) (node : Node) → ((t : Tree) → target_fault t root (target_of node) ≡ None) → own name ≡ false
      → create_fault old.tree root dir name node ≡ None → create_fault new.tree root dir name node ≡ None
  apart name node untargeted other free =
      still_right old.tree new.tree root dir keeps node untargeted name free
      (no_other old new dir key (shown group.attributes.now) l (either_linked old.tree root dir name node free) (own_name group) made.made name other
      (no_entry old.tree new.tree root dir keeps node untargeted name free))

  files_apart : (attributes : List Attribute) → list_any (λ a. own a.name.now) attributes ≡ false
      → files_cause (file_fault old.tree root (Some dir)) attributes ≡ None → files_cause (file_fault new.tree root (Some dir)) attributes ≡ None
  files_apart [] other free = refl
  files_apart (a ∷ attributes) other free =
      let o = neither (own a.name.now) (list_any (λ a. own a.name.now) attributes) other in
      let taken = unless (not (has_name attributes a.name.now)) Exists in
      let c = parted (file_fault old.tree root (Some dir) a) taken (files_cause (file_fault old.tree root (Some dir)) attributes) free in
      joined (file_fault new.tree root (Some dir) a) taken (files_cause (file_fault new.tree root (Some dir)) attributes)
      (apart a.name.now (file_of a) (λ t. refl) o.0 c.0) c.1 (files_apart attributes o.1 c.2)

  -- if nothing is wrong with the files of a directory that is still to be made, nothing is wrong with them in
  -- the new tree
  names_right : (attributes : List Attribute) → files_cause (file_fault old.tree root None) attributes ≡ None → files_cause (file_fault new.tree root None) attributes ≡ None
  names_right [] free = refl
  names_right (a ∷ attributes) free =
      let taken = unless (not (has_name attributes a.name.now)) Exists in
      let c = parted (name_fault a.name.now) taken (files_cause (file_fault old.tree root None) attributes) free in
      joined (name_fault a.name.now) taken (files_cause (file_fault new.tree root None) attributes) c.0 c.1 (names_right attributes c.2)

  by_name : (attributes : List Attribute) (name : Option (Bor (List ℕ))) → shares_by_name group (shown attributes) name ≡ false
      → cause_by_name old.tree root dir attributes name ≡ None → cause_by_name new.tree root dir attributes name ≡ None
  by_name attributes None other free =
      let c = two (list_cause old.tree dir) (files_cause (file_fault old.tree root (Some dir)) (shown attributes)) free in
      both_none (list_cause new.tree dir) (files_cause (file_fault new.tree root (Some dir)) (shown attributes))
      (still_dir old.tree new.tree dir keeps c.0) (files_apart (shown attributes) other c.1)
  by_name attributes (Some name) other free =
      let c = two (create_fault old.tree root dir name.now Dir) (files_cause (file_fault old.tree root None) (shown attributes)) free in
      both_none (create_fault new.tree root dir name.now Dir) (files_cause (file_fault new.tree root None) (shown attributes))
      (apart name.now Dir (λ t. refl) other c.0) (names_right (shown attributes) c.1)

  groups_apart : (others : List Group) → clashes others group ≡ false → groups_cause old.tree root dir others ≡ None → groups_cause new.tree root dir others ≡ None
  groups_apart [] other free = refl
  groups_apart (h ∷ others) other free =
      let o = neither (shares group h) (clashes others group) other in
      let taken = unless (not (clashes others h)) Exists in
      let c = parted (group_cause old.tree root dir h) taken (groups_cause old.tree root dir others) free in
      joined (group_cause new.tree root dir h) taken (groups_cause new.tree root dir others)
      (by_name h.attributes.now (own_name h) o.0 c.0) c.1 (groups_apart others o.1 c.2)

made_stores : (old new : TreeLog) (dir key : Key) (attributes : List Attribute) (own : Option (Bor (List ℕ))) → MadeByName old new dir attributes own key
    → (commands : List Command) × Stores old new commands
made_stores old new dir key attributes None made = (_, made.1.2)
made_stores old new dir key attributes (Some own) made = (_, made.1.2)

-- the groups after the first
abbrev pub others_of : List Group → List Group
others_of groups = take (length groups - 1) (drop 1 groups)

module _ (groups : List Group) (d : Group) (some : 1 ≤ length groups) where
  abbrev first : Group
  first = get_or groups 0 d

  abbrev rest : List Group
  rest = others_of groups

  parts : groups ≡ first ∷ rest
  parts = first_and_later groups d some

  -- nothing is wrong with the first group or with the others, and the first shares no entry with the others
  apart_free : (t : Tree) (root dir : Key) → groups_cause t root dir groups ≡ None
      → (group_cause t root dir first ≡ None) × (clashes rest first ≡ false) × (groups_cause t root dir rest ≡ None)
  apart_free t root dir free =
      let c = parted (group_cause t root dir first) (unless (not (clashes rest first)) Exists) (groups_cause t root dir rest)
      (subst (λ gs. groups_cause t root dir gs ≡ None) parts free) in
      (c.0, not_passed (clashes rest first) Exists c.1, c.2)

  -- nothing is wrong with the other groups once the first is made
  pub others_free : (old new : TreeLog) (dir key : Key) → Lawful old.tree old.root → Keeps old.tree new.tree → GroupMade old new dir first key
      → groups_cause old.tree old.root dir groups ≡ None → groups_cause new.tree new.root dir rest ≡ None
  others_free old new dir key l keeps made free =
      let c = apart_free old.tree old.root dir free in
      let stores = (made_stores old new dir key (shown first.attributes.now) (own_name first) made.made).1 in
      subst (λ r. groups_cause new.tree r dir rest ≡ None) (sym stores.same_root)
      (groups_apart old new dir key first l keeps made old.root rest c.1 c.2)

  pub all_made : (old between new : TreeLog) (dir key : Key) → GroupMade old between dir first key → GroupsMade between new dir rest → GroupsMade old new dir groups
  all_made old between new dir key made others = subst (GroupsMade old new dir) (sym parts) (between, key, made, others)

  pub counted : (t0 t1 t2 : Tree) → linked_count t1 ≡ linked_count t0 + group_size first → linked_count t2 ≡ linked_count t1 + groups_size rest
      → linked_count t2 ≡ linked_count t0 + groups_size groups
  counted t0 t1 t2 one others =
      let all : groups_size groups ≡ group_size first + groups_size rest = ap groups_size parts in omega (arith, one, others, all)

  pub first_refused : (old new : Locked) (dir : Key) (refusal : Refusal) → groups_cause old.state.tree old.state.root dir groups ≡ None → GroupRefused old new dir first refusal
      → (why : Refusal) × LacksRoom old.state.tree new.state.tree why refusal × GroupsTakenBack old new dir groups why
  first_refused old new dir refusal free (inl cause) =
      absurd (none-some refusal (sym (apart_free old.state.tree old.state.root dir free).0 ∙ cause.0))
  first_refused old new dir refusal free (inr stopped) = (
    stopped.1,
    lacking old.state.tree new.state.tree stopped.1 refusal stopped.2,
    subst (λ gs. GroupsTakenBack old new dir gs stopped.1) (sym parts) (inl stopped.3),
  )
    where
      lacking : (old new : Tree) (why refusal : Refusal) → RoomRefused old new why refusal → LacksRoom old new why refusal
      lacking old new why refusal (inl slots) = inl (slots.0, slots.1, ap (λ t. linked_count t) slots.2)
      lacking old new why refusal (inr memory) = inr memory

  pub later_refused : (old made stopped new : Locked) (dir key : Key) (why : Refusal) → GroupMade old.state made.state dir first key → GroupsTakenBack made stopped dir rest why
      → GroupTakenBack stopped new dir key (shown first.attributes.now) (own_name first) → GroupsTakenBack old new dir groups why
  later_refused old made stopped new dir key why first_made others back =
      subst (λ gs. GroupsTakenBack old new dir gs why) (sym parts) (inr (made, stopped, key, first_made, others, back))

-- no node of a group was there before the group was made
pub without_before : (old new : TreeLog) (dir key : Key) (group : Group) → GroupMade old new dir group key
    → IsWithout old.tree dir key (shown group.attributes.now) (own_name group)
without_before old new dir key group made = go (own_name group) made.no_cause made.made
  where
    go : (own : Option (Bor (List ℕ))) → cause_by_name old.tree old.root dir group.attributes.now own ≡ None
        → MadeByName old new dir (shown group.attributes.now) own key → IsWithout old.tree dir key (shown group.attributes.now) own
    go None free made = none_yet old dir (shown group.attributes.now)
        (two (list_cause old.tree dir) (files_cause (file_fault old.tree old.root (Some dir)) (shown group.attributes.now)) free).1
    go (Some own) free made = made.0

-- a directory that is not linked has no entries
pub none_in : (t : Tree) (root key : Key) (attributes : List Attribute) → Lawful t root → is_linked t key ≡ false → HasNone t key attributes
none_in t root key [] l away = tt
none_in t root key (a ∷ attributes) l away = (nobody (has_entry t key a.name.now) refl, none_in t root key attributes l away)
  where
    nobody : (b : Bool) → has_entry t key a.name.now ≡ b → has_entry t key a.name.now ≡ false
    nobody false e = e
    nobody true e = absurd (
        let s = entry_stands t key a.name.now e in
        let i : IsIn t s.entry = ap (slice_get t) (l.in_place s.slot s.entry s.at) ∙ s.at in
        let d = l.in_directory s.entry key i s.parent in
        let x : is_linked t key ≡ true = ap (λ (o : Option Record). is_some o) d.known in cc (x, away))

pub groups_refused : {A : Type 0} (r : Result A Refusal) (old new : Locked) (dir : Key) (groups : List Group) → groups_cause old.state.tree old.state.root dir groups ≡ None
    → Keeps old.state.tree new.state.tree
    → IfErr r (λ refusal. (why : Refusal) × LacksRoom old.state.tree new.state.tree why refusal × GroupsTakenBack old new dir groups why)
    → IfErr r (λ refusal. GroupsRefused old new dir groups refusal)
groups_refused (Ok a) old new dir groups free keeps back = tt
groups_refused (Err refusal) old new dir groups free keeps back = inr (
  free,
  back.0,
  room_refused old.state.tree new.state.tree back.0 refusal (groups_length old new dir groups back.0 back.2) keeps back.1,
  back.2,
)
