-- A state stays sound whenever a command is stored.
use Rattle.std.proofs.Common.{◌≡◌, ℕ, ◌+◌, ◌<◌, ◌≤◌, refl, ap, arith, sym, ◌∙◌, subst, Bool, true, false, cond, not, ◌&&◌, List, [], ◌∷◌, ◌++◌, length, length-append, slice_set}
use Rattle.std.specs.Prelude.{Option, None, Some, slice_get, IsTrue, is_some, map}
use Rattle.std.specs.Option.{option_map, option_map_or, option_and_then}
use Rattle.std.proofs.lemmas.Option.{same_Some, none-some}
use Rattle.std.proofs.lemmas.List.Sums.{count_by-le-length}
use Rattle.kf_core.specs.Limits.{most_slots}
use Rattle.kf_core.specs.declared.key.Key.{Key}
use Rattle.kf_core.specs.declared.key.Node.{Node}
use Rattle.kf_core.specs.declared.records.Record.{Record}
use Rattle.kf_core.specs.declared.command.Command.{Command}
use Rattle.kf_core.specs.declared.command.Command.TheVariants.{Create, Activate, Doom, Unlink, Rename, Hide, Show}
use Rattle.kf_core.specs.declared.refusal.Refusal.{Refusal}
use Rattle.kf_core.specs.Refusals.{first_cause}
use Rattle.kf_core.specs.Keys.{same_key}
use Rattle.kf_core.specs.Tree.{Tree, record_at, is_linked, is_dir, in_subtree}
use Rattle.kf_core.specs.Lawful.{root_record, Lawful}
use Rattle.kf_core.specs.Commands.{after, change, activated_record, new_record, doomed_record, moved_record, hidden_record}
use Rattle.kf_core.specs.PostOrder.{IsPostOrder}
use Rattle.kf_tree.specs.Causes.{create_fault, create_cause, doom_cause, linked_cause, rename_cause, unlink_cause, hide_cause, hidden_in}
use Rattle.kf_table.specs.Children.{is_there_already}
use Rattle.kf_table.specs.Changes.{with_changed_slot, activated_unless_doomed}
use Rattle.kf_tree.specs.Subtrees.{with_changed_slots, is_doomed_record, doomed_count, undoomed_count, is_hidden_record, owed_count}
use Rattle.kf_tree.specs.TreeLogs.{TreeLog, IsKept, IsAccepted, IsCompacted}
use Rattle.kf_tree.specs.Canonical.{IsCanonical}
use Rattle.kf_tree.proofs.Replays.{canonical_replays}
use Rattle.kf_tree.specs.Sound.{IsSound}
use Rattle.kf_tree.proofs.Allowed.{may_create, MayUnlink, may_unlink, not_root, may_hide, hidden_record_of}
use Rattle.kf_tree.proofs.Created.{lawful_created}
use Rattle.kf_table.proofs.Kept.{count_written}
use Rattle.kf_tree.proofs.Doomed.{doomed_mapped, hidden_mapped, doomed_at_most}
use Rattle.kf_tree.proofs.Each.{each_doomed, each_risen, slot_moved, slot_changed}
use Rattle.kf_tree.proofs.Marked.{lawful_activated, lawful_doomed, lawful_hidden}
use Rattle.kf_tree.proofs.RenameRule.{may_move_from}
use Rattle.kf_tree.proofs.Opening.{kept_after, length_after}
use Rattle.kf_core.proofs.Climbs.{same_key_is}
use Rattle.kf_core.proofs.FoundRecords.{found_in, root_found}
use Rattle.kf_tree.proofs.Renamed.{lawful_renamed}
use Rattle.kf_tree.proofs.Unlinked.{lawful_unlinked}

-- the state after a command that was stored
abbrev pub stored : TreeLog → Command → TreeLog
stored s c = record { root = s.root; tree = after s.tree c; commands = s.commands ++ c ∷ []; ready = None }

-- the new state is sound, with this capacity and this many commands owed, and the command was accepted
abbrev pub Follows : TreeLog → Command → Option Refusal → ℕ → ℕ → TreeLog → Type 0
Follows s c cause capacity doomed new = (IsSound new capacity doomed) × (IsAccepted s new cause c)

pub follows : (s : TreeLog) (before capacity had doomed : ℕ) (c : Command) (cause : Option Refusal) (tree : List (Option Record)) (reserved commands : List Command) →
    IsSound s before had → Lawful (after s.tree c) s.root → cause ≡ None → tree ≡ after s.tree c → reserved ≡ s.commands → commands ≡ reserved ++ c ∷ [] →
    doomed ≡ owed_count (after s.tree c) → length s.commands + 1 + doomed ≤ capacity →
    Follows s c cause capacity doomed (record { root = s.root; tree = tree; commands = commands; ready = None })
follows s before capacity had doomed c cause tree reserved commands sound lawful none changed same pushed counted room =
    (let P : List (Option Record) → List Command → Type 0 = λ t cs. Follows s c cause capacity doomed (record { root = s.root; tree = t; commands = cs; ready = None }) in
    let kept : IsKept (stored s c) = kept_after s c sound.kept lawful in
    let at : P (after s.tree c) (s.commands ++ c ∷ []) = (
      record {
        kept = kept;
        few = (let e = length_after s.tree c in let f = sound.few in omega arith);
        counted = counted;
        room = (let e : length (s.commands ++ c ∷ []) ≡ length s.commands + 1 = length-append s.commands (c ∷ []) in omega arith);
        ready = λ key h. absurd (none-some key h);
      },
      record { no_cause = none; same_root = refl; changed = refl; stored = refl; not_ready = refl; kept = kept },
    ) in
    subst (λ (t : List (Option Record)). P t commands) (sym changed)
    (subst (λ (cs : List Command). P (after s.tree c) cs) (sym (pushed ∙ ap (λ (cs : List Command). cs ++ c ∷ []) same)) at))

uncaused : (t : Tree) (root key parent : Key) (name : List ℕ) (node : Node) → create_fault t root parent name node ≡ None → create_cause t root parent name node (Some key) ≡ None
uncaused t root key parent name node h = ap (λ c. first_cause (c ∷ None ∷ [])) h

module _ (s : TreeLog) (before had : ℕ) (sound : IsSound s before had) where
  -- the state stays sound when its command list grows
  pub sound_grown : (capacity : ℕ) → before ≤ capacity → IsSound s capacity had
  sound_grown capacity more = record {
    kept = sound.kept;
    few = sound.few;
    counted = sound.counted;
    room = (let r = sound.room in omega arith);
    ready = λ key h. (let x = sound.ready key h in let r = x.room in record { no_cause = x.no_cause; room = omega (arith, r, more) });
  }

  -- if a change to every record keeps whether it is doomed and whether it is hidden, the state owes as many
  -- commands as before
  same_owed : (g : Record → Record) → ((r : Record) → (g r).marks.doomed ≡ r.marks.doomed) → ((r : Record) → (g r).hidden ≡ r.hidden) → had ≡ owed_count (map (option_map g) s.tree)
  same_owed g marks hidden = (let c = sound.counted in let d = doomed_mapped g marks s.tree in let h = hidden_mapped g hidden s.tree in omega (arith, c, d, h))

  pub created_follows : (capacity : ℕ) (key parent : Key) (name own kept_name : List ℕ) (node : Node) (is_live : Bool) (tree : List (Option Record)) (reserved commands : List Command) →
      slice_get s.tree key.slot ≡ Some None → create_fault s.tree s.root parent name node ≡ None → own ≡ name → kept_name ≡ name →
      tree ≡ slice_set s.tree key.slot (Some (new_record key parent own node is_live)) →
      reserved ≡ s.commands → commands ≡ reserved ++ Create key parent kept_name node is_live ∷ [] → length s.commands + 1 + had ≤ capacity →
      Follows s (Create key parent name node is_live) (create_cause s.tree s.root parent name node (Some key)) capacity had (record { root = s.root; tree = tree; commands = commands; ready = None })
  created_follows capacity key parent name own kept_name node is_live tree reserved commands vacant none same_own same_kept changed same pushed room =
      (let m = may_create s.tree s.root key parent name node none vacant in
      let d = count_written is_doomed_record s.tree key.slot None (Some (new_record key parent name node is_live)) vacant in
      let h = count_written is_hidden_record s.tree key.slot None (Some (new_record key parent name node is_live)) vacant in
      let c = sound.counted in
      follows s before capacity had had (Create key parent name node is_live) _ tree reserved commands sound
      (lawful_created s.tree s.root key parent name node is_live sound.kept.lawful m) (uncaused s.tree s.root key parent name node none)
      (changed ∙ ap (λ (n : List ℕ). slice_set s.tree key.slot (Some (new_record key parent n node is_live))) same_own) same
      (pushed ∙ ap (λ (n : List ℕ). reserved ++ Create key parent n node is_live ∷ []) same_kept)
      (omega (arith, c, d, h)) room)

  pub created_lawful : (key parent : Key) (name own : List ℕ) (node : Node) (is_live : Bool) →
      slice_get s.tree key.slot ≡ Some None → create_fault s.tree s.root parent name node ≡ None → own ≡ name →
      (root : Key) × Lawful (slice_set s.tree key.slot (Some (new_record key parent own node is_live))) root
  created_lawful key parent name own node is_live vacant none same_own = (
    s.root,
    subst (λ (n : List ℕ). Lawful (slice_set s.tree key.slot (Some (new_record key parent n node is_live))) s.root) (sym same_own)
        (lawful_created s.tree s.root key parent name node is_live sound.kept.lawful (may_create s.tree s.root key parent name node none vacant)),
  )

  pub activated_follows : (capacity : ℕ) (key : Key) (keys : List Key) (tree : List (Option Record)) (reserved commands : List Command) →
      linked_cause s.tree key ≡ None → IsPostOrder s.tree key keys → tree ≡ with_changed_slots activated_unless_doomed s.tree keys →
      reserved ≡ s.commands → commands ≡ reserved ++ Activate key ∷ [] → length s.commands + 1 + had ≤ capacity →
      Follows s (Activate key) (linked_cause s.tree key) capacity had (record { root = s.root; tree = tree; commands = commands; ready = None })
  activated_follows capacity key keys tree reserved commands none order changed same pushed room =
      follows s before capacity had had (Activate key) _ tree reserved commands sound
      (lawful_activated s.tree s.root sound.kept.lawful key) none (changed ∙ each_risen s.tree s.root key keys sound.kept.lawful order) same pushed
      (same_owed (λ (r : Record). cond (in_subtree s.tree key r.key && not r.marks.doomed) (activated_record r) r) unmarked shown) room
    where
      shown : (r : Record) → (cond (in_subtree s.tree key r.key && not r.marks.doomed) (activated_record r) r).hidden ≡ r.hidden
      shown r = elim (in_subtree s.tree key r.key && not r.marks.doomed) as (λ b. (cond b (activated_record r) r).hidden ≡ r.hidden) [ true ↦ refl | false ↦ refl ]

      unmarked : (r : Record) → (cond (in_subtree s.tree key r.key && not r.marks.doomed) (activated_record r) r).marks.doomed ≡ r.marks.doomed
      unmarked r = elim (in_subtree s.tree key r.key && not r.marks.doomed) as (λ b. (cond b (activated_record r) r).marks.doomed ≡ r.marks.doomed) [ true ↦ refl | false ↦ refl ]

  -- at most as many records are newly doomed as were not doomed before
  pub newly_few : (newly room_for : ℕ) (keys seen : List Key) (tree : List (Option Record)) → tree ≡ with_changed_slots doomed_record s.tree keys → doomed_count tree ≡ doomed_count s.tree + newly →
      seen ≡ keys → room_for ≡ undoomed_count s.tree seen → newly ≤ room_for
  newly_few newly room_for keys seen tree changed counted same is =
      (let most = doomed_at_most keys s.tree in
      let e : doomed_count tree ≡ doomed_count (with_changed_slots doomed_record s.tree keys) = ap (λ (t : Tree). doomed_count t) changed in
      let r : room_for ≡ undoomed_count s.tree keys = is ∙ ap (undoomed_count s.tree) same in
      omega (arith, most, e, r, counted))

  pub newly_fit : (newly : ℕ) (key : Key) (keys : List Key) (tree : List (Option Record)) → IsPostOrder s.tree key keys → tree ≡ with_changed_slots doomed_record s.tree keys →
      doomed_count tree ≡ doomed_count s.tree + newly → had + newly ≤ most_slots + most_slots
  newly_fit newly key keys tree order changed counted =
      (let same : length tree ≡ length (after s.tree (Doom key)) = ap (λ (t : Tree). length t) (changed ∙ each_doomed s.tree s.root key keys sound.kept.lawful order) in
      let len = length_after s.tree (Doom key) in
      let most = count_by-le-length is_doomed_record tree in
      let hidden = count_by-le-length is_hidden_record s.tree in
      let c = sound.counted in let f = sound.few in
      omega (arith, same, len, most, hidden, c, f, counted))

  pub doomed_follows : (capacity newly room_for : ℕ) (key : Key) (keys : List Key) (tree : List (Option Record)) (reserved commands : List Command) →
      doom_cause s.tree s.root key ≡ None → IsPostOrder s.tree key keys → tree ≡ with_changed_slots doomed_record s.tree keys →
      doomed_count tree ≡ doomed_count s.tree + newly → newly ≤ room_for →
      reserved ≡ s.commands → commands ≡ reserved ++ Doom key ∷ [] → length s.commands + 1 + (had + room_for) ≤ capacity →
      Follows s (Doom key) (doom_cause s.tree s.root key) capacity (had + newly) (record { root = s.root; tree = tree; commands = commands; ready = None })
  doomed_follows capacity newly room_for key keys tree reserved commands none order changed counted most same pushed room =
      (let is = changed ∙ each_doomed s.tree s.root key keys sound.kept.lawful order in
      let c = sound.counted in
      let shown = hidden_mapped (λ (r : Record). cond (in_subtree s.tree key r.key) (doomed_record r) r) as_hidden s.tree in
      let after_count : had + newly ≡ owed_count (after s.tree (Doom key)) = (let e : doomed_count tree ≡ doomed_count (after s.tree (Doom key)) = ap (λ (t : Tree). doomed_count t) is in omega (arith, c, counted, e, shown)) in
      follows s before capacity had (had + newly) (Doom key) _ tree reserved commands sound
      (lawful_doomed s.tree s.root sound.kept.lawful key (not_root s.tree s.root key none)) none is same pushed after_count (omega arith))
    where
      as_hidden : (r : Record) → (cond (in_subtree s.tree key r.key) (doomed_record r) r).hidden ≡ r.hidden
      as_hidden r = elim (in_subtree s.tree key r.key) as (λ b. (cond b (doomed_record r) r).hidden ≡ r.hidden) [ true ↦ refl | false ↦ refl ]

  owed_here : (key : Key) (m : MayUnlink s.tree s.root key) → cond (hidden_in s.tree key) 2 1 ≡ 1 + cond {A = ℕ} m.gone.hidden 1 0
  owed_here key m = ap (λ o. cond (option_map_or (λ (r : Record). r.hidden) o false) 2 1) m.known ∙ elim m.gone.hidden as (λ b. cond {A = ℕ} b 2 1 ≡ 1 + cond {A = ℕ} b 1 0) [ true ↦ refl | false ↦ refl ]

  -- there is room for the unlink of a doomed record, and what is owed counts the record: twice if it is
  -- hidden
  pub room_to_unlink : (key : Key) → MayUnlink s.tree s.root key → (length s.commands < before) × (cond (hidden_in s.tree key) 2 1 ≤ had)
  room_to_unlink key m =
      (let f = found_in s.tree key m.gone m.known in
      let d = rw m.is_doomed at (count_written is_doomed_record s.tree m.gone.key.slot (Some m.gone) None f.0) in
      let h = count_written is_hidden_record s.tree m.gone.key.slot (Some m.gone) None f.0 in
      let o = owed_here key m in
      let c = sound.counted in
      let r = sound.room in (omega (arith, c, d, r), omega (arith, c, d, h, o)))

  pub unlinked_follows : (capacity left : ℕ) (key : Key) (tree : List (Option Record)) (commands : List Command) → is_linked s.tree key ≡ true → unlink_cause s.tree key ≡ None →
      tree ≡ slice_set s.tree key.slot None → left + cond (hidden_in s.tree key) 2 1 ≡ had → commands ≡ s.commands ++ Unlink key ∷ [] → before ≤ capacity →
      Follows s (Unlink key) (unlink_cause s.tree key) capacity left (record { root = s.root; tree = tree; commands = commands; ready = None })
  unlinked_follows capacity left key tree commands linked none changed fewer pushed room =
      (let m = may_unlink s.tree s.root key linked none in
      let f = found_in s.tree key m.gone m.known in
      let slot : m.gone.key.slot ≡ key.slot = ap (λ (k : Key). k.slot) f.1 in
      let d = rw slot at (rw m.is_doomed at (count_written is_doomed_record s.tree m.gone.key.slot (Some m.gone) None f.0)) in
      let h = rw slot at (count_written is_hidden_record s.tree m.gone.key.slot (Some m.gone) None f.0) in
      let o = owed_here key m in
      let lawful = rw slot at (lawful_unlinked s.tree s.root sound.kept.lawful m.gone f.0
      (λ e. undoomed_root m.gone (ap (record_at s.tree) (sym (sym f.1 ∙ e)) ∙ m.known) m.is_doomed)
      (λ r i p. m.leaf r i (p ∙ ap Some f.1))) in
      let taken : after s.tree (Unlink key) ≡ slice_set s.tree key.slot None = ap (λ (b : Bool). cond b (slice_set s.tree key.slot None) s.tree) linked in
      let c = sound.counted in let r = sound.room in
      let e : owed_count (after s.tree (Unlink key)) ≡ owed_count (slice_set s.tree key.slot None) = ap (λ (t : Tree). owed_count t) taken in
      follows s before capacity had left (Unlink key) _ tree s.commands commands sound (subst (λ (t : Tree). Lawful t s.root) (sym taken) lawful) none
      (changed ∙ sym taken) refl pushed (omega (arith, c, d, h, o, e, fewer)) (omega (arith, r, fewer, room, o)))
    where
      undoomed_root : (gone : Record) → record_at s.tree s.root ≡ Some gone → gone.marks.doomed ≡ true → ⊥
      undoomed_root gone e is = (let same : root_record s.root ≡ gone = same_Some _ gone (sym (root_found s.tree s.root sound.kept.lawful) ∙ e) in
          let no : false ≡ true = ap (λ (r : Record). r.marks.doomed) same ∙ is in cc)

  pub renamed_lawful : (key dir : Key) (name own : List ℕ) → rename_cause s.tree s.root key dir name ≡ None → is_there_already s.tree key dir name ≡ false → own ≡ name →
      (root : Key) × Lawful (with_changed_slot (moved_record dir own) s.tree key.slot) root
  renamed_lawful key dir name own none away same_own =
      (let m = may_move_from s.tree s.root key dir name sound.kept.lawful (none, away) in (
        s.root,
        subst (λ (t : Tree). Lawful t s.root)
            (sym (ap (λ (n : List ℕ). with_changed_slot (moved_record dir n) s.tree key.slot) same_own ∙ slot_moved s.tree s.root key dir name m.moving sound.kept.lawful m.found))
            (lawful_renamed s.tree s.root key dir name sound.kept.lawful m),
      ))

  pub renamed_linked : (key dir : Key) (name : List ℕ) → rename_cause s.tree s.root key dir name ≡ None → is_there_already s.tree key dir name ≡ false → IsTrue (is_linked s.tree key)
  renamed_linked key dir name none away = (let m = may_move_from s.tree s.root key dir name sound.kept.lawful (none, away) in ap is_some m.found)

  -- whether a record is there already is the same for the name and for its copy
  pub still_elsewhere : (key dir : Key) (name own : List ℕ) → is_there_already s.tree key dir name ≡ false → own ≡ name → is_there_already s.tree key dir own ≡ false
  still_elsewhere key dir name own away same = ap (λ (n : List ℕ). is_there_already s.tree key dir n) same ∙ away

  pub renamed_follows : (capacity : ℕ) (key dir : Key) (name own kept_name : List ℕ) (tree : List (Option Record)) (reserved commands : List Command) →
      rename_cause s.tree s.root key dir name ≡ None → is_there_already s.tree key dir name ≡ false → own ≡ name → kept_name ≡ name →
      tree ≡ with_changed_slot (moved_record dir own) s.tree key.slot → reserved ≡ s.commands → commands ≡ reserved ++ Rename key dir kept_name ∷ [] → length s.commands + 1 + had ≤ capacity →
      Follows s (Rename key dir name) (rename_cause s.tree s.root key dir name) capacity had (record { root = s.root; tree = tree; commands = commands; ready = None })
  renamed_follows capacity key dir name own kept_name tree reserved commands none away same_own same_kept changed same pushed room =
      (let m = may_move_from s.tree s.root key dir name sound.kept.lawful (none, away) in
      follows s before capacity had had (Rename key dir name) _ tree reserved commands sound
      (lawful_renamed s.tree s.root key dir name sound.kept.lawful m) none
      (changed ∙ ap (λ (n : List ℕ). with_changed_slot (moved_record dir n) s.tree key.slot) same_own ∙ slot_moved s.tree s.root key dir name m.moving sound.kept.lawful m.found) same
      (pushed ∙ ap (λ (n : List ℕ). reserved ++ Rename key dir n ∷ []) same_kept)
      (same_owed (λ (r : Record). cond (same_key r.key key) (moved_record dir name r) r) unmarked shown) room)
    where
      shown : (r : Record) → (cond (same_key r.key key) (moved_record dir name r) r).hidden ≡ r.hidden
      shown r = elim (same_key r.key key) as (λ b. (cond b (moved_record dir name r) r).hidden ≡ r.hidden) [ true ↦ refl | false ↦ refl ]

      unmarked : (r : Record) → (cond (same_key r.key key) (moved_record dir name r) r).marks.doomed ≡ r.marks.doomed
      unmarked r = elim (same_key r.key key) as (λ b. (cond b (moved_record dir name r) r).marks.doomed ≡ r.marks.doomed) [ true ↦ refl | false ↦ refl ]

  -- changing one record in its slot writes the changed record there
  changed_slot_is : (g : Record → Record) (key : Key) (r : Record) → record_at s.tree key ≡ Some r → with_changed_slot g s.tree key.slot ≡ slice_set s.tree key.slot (Some (g r))
  changed_slot_is g key r known = (let f = found_in s.tree key r known in
      ap (λ o. slice_set s.tree key.slot (option_and_then (option_map g) o)) (ap (λ (k : Key). slice_get s.tree k.slot) (sym f.1) ∙ f.0))

  -- what is owed after one record is hidden or shown
  owed_hidden : (b : Bool) (key : Key) (r : Record) → record_at s.tree key ≡ Some r → owed_count (change (λ x. same_key x.key key) (hidden_record b) s.tree) + cond r.hidden 1 0 ≡ owed_count s.tree + cond b 1 0
  owed_hidden b key r known =
      (let f = found_in s.tree key r known in
      let slot : r.key.slot ≡ key.slot = ap (λ (k : Key). k.slot) f.1 in
      let is = sym (slot_changed (hidden_record b) s.tree s.root key r sound.kept.lawful known) ∙ changed_slot_is (hidden_record b) key r known in
      let at : slice_get s.tree key.slot ≡ Some (Some r) = ap (slice_get s.tree) (sym slot) ∙ f.0 in
      let d = count_written is_doomed_record s.tree key.slot (Some r) (Some (hidden_record b r)) at in
      let h = count_written is_hidden_record s.tree key.slot (Some r) (Some (hidden_record b r)) at in
      let e = ap (λ (t : Tree). owed_count t) is in
      omega (arith, d, h, e))

  -- there is room to hide a key that is ready, and to show it again
  pub room_to_hide : (key : Key) → s.ready ≡ Some key → length s.commands + 2 + had ≤ before
  room_to_hide key e = (sound.ready key e).room

  pub hidden_follows : (capacity : ℕ) (key : Key) (tree : List (Option Record)) (commands : List Command) → s.ready ≡ Some key →
      tree ≡ with_changed_slot (hidden_record true) s.tree key.slot → commands ≡ s.commands ++ Hide key ∷ [] → before ≤ capacity →
      Follows s (Hide key) (hide_cause s.tree key) capacity (had + 1) (record { root = s.root; tree = tree; commands = commands; ready = None })
  hidden_follows capacity key tree commands is_ready changed pushed room =
      (let ready = sound.ready key is_ready in
      let m = may_hide s.tree key ready.no_cause in
      let c = sound.counted in
      let o = rw m.shown at (owed_hidden true key m.file m.known) in
      let r = ready.room in
      follows s before capacity had (had + 1) (Hide key) _ tree s.commands commands sound
      (lawful_hidden s.tree s.root sound.kept.lawful key true (elim (same_key s.root key) as (λ b. same_key s.root key ≡ b → cond b (hidden_record true (root_record s.root)) (root_record s.root) ≡ root_record s.root) [
        | true ↦ λ e. absurd (no_root m.file m.no_dir (ap (record_at s.tree) (same_key_is s.root key e) ∙ m.known))
        | false ↦ λ e. refl
      ] refl))
      ready.no_cause (changed ∙ slot_changed (hidden_record true) s.tree s.root key m.file sound.kept.lawful m.known) refl pushed
      (omega (arith, c, o)) (omega (arith, r, room)))
    where
      no_root : (file : Record) → is_dir file.node ≡ false → record_at s.tree s.root ≡ Some file → ⊥
      no_root file other e = (let same : root_record s.root ≡ file = same_Some _ file (sym (root_found s.tree s.root sound.kept.lawful) ∙ e) in
          let x : true ≡ false = ap (λ (r : Record). is_dir r.node) same ∙ other in cc)

  -- there is room to show a hidden record, and what is owed counts the record
  pub room_to_show : (key : Key) → hidden_in s.tree key ≡ true → (length s.commands < before) × (1 ≤ had)
  room_to_show key h =
      (let x = hidden_record_of s.tree key h in
      let c = sound.counted in let r = sound.room in
      let o = rw x.2 at (owed_hidden false key x.0 x.1) in
      (omega (arith, c, o, r), omega (arith, c, o)))

  pub shown_follows : (capacity left : ℕ) (key : Key) (tree : List (Option Record)) (commands : List Command) → hidden_in s.tree key ≡ true →
      tree ≡ with_changed_slot (hidden_record false) s.tree key.slot → left + 1 ≡ had → commands ≡ s.commands ++ Show key ∷ [] → before ≤ capacity →
      Follows s (Show key) None capacity left (record { root = s.root; tree = tree; commands = commands; ready = None })
  shown_follows capacity left key tree commands h changed fewer pushed room =
      (let x = hidden_record_of s.tree key h in
      let c = sound.counted in let r = sound.room in
      let o = rw x.2 at (owed_hidden false key x.0 x.1) in
      follows s before capacity had left (Show key) None tree s.commands commands sound
      (lawful_hidden s.tree s.root sound.kept.lawful key false (elim (same_key s.root key) as (λ b. cond b (hidden_record false (root_record s.root)) (root_record s.root) ≡ root_record s.root) [ true ↦ refl | false ↦ refl ]))
      refl (changed ∙ slot_changed (hidden_record false) s.tree s.root key x.0 sound.kept.lawful x.1) refl pushed
      (omega (arith, c, o, fewer)) (omega (arith, r, fewer, room)))

pub flip : (b moves : Bool) → moves ≡ not b → moves ≡ true → b ≡ false
flip true moves e h = (let x : false ≡ true = sym e ∙ h in sym x)
flip false moves e h = refl

-- the state stays sound with the canonical list of its tree in place of its commands, if that list leaves
-- room for the commands that the state owes
pub compacted : (s : TreeLog) (before owed capacity : ℕ) (commands : List Command) → IsSound s before owed → IsCanonical s.tree commands → length commands + owed ≤ capacity →
    IsSound (record { root = s.root; tree = s.tree; commands = commands; ready = None }) capacity owed × IsCompacted s (record { root = s.root; tree = s.tree; commands = commands; ready = None })
compacted s before owed capacity commands sound canonical room =
    (let kept : IsKept (record { root = s.root; tree = s.tree; commands = commands; ready = None }) = record {
      lawful = sound.kept.lawful;
      replayed = canonical_replays s.tree s.root sound.kept.lawful canonical.0 canonical.1 commands canonical.2;
    } in (
      record { kept = kept; few = sound.few; counted = sound.counted; room = room; ready = λ key h. absurd (none-some key h) },
      record { same_root = refl; same_tree = refl; canonical = canonical; not_ready = refl; kept = kept },
    ))
