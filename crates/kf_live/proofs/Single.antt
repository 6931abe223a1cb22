-- What the links say after a command on one node.
use Rattle.std.proofs.Common.{◌≡◌, ◌≢◌, ◌<◌, length, ◌⊎◌, inl, inr, refl, ap, sym, ◌∙◌, subst, Bool, true, false, cond, List, [], ◌∷◌, ℕ, slice_set}
use Rattle.std.specs.Prelude.{Option, None, Some, slice_get, not, IfSome, IfNone, MatchBool}
use Rattle.std.specs.Option.{option_map}
use Rattle.std.proofs.lemmas.Option.{same_Some, none-some, slice_get_within}
use Rattle.kf_core.specs.declared.key.Key.{Key}
use Rattle.kf_core.specs.declared.key.Node.{Node}
use Rattle.kf_core.specs.declared.records.Record.{Record}
use Rattle.kf_core.specs.declared.refusal.Refusal.{Refusal}
use Rattle.kf_core.specs.declared.refusal.Refusal.TheVariants.{Invalid, Busy}
use Rattle.kf_core.specs.declared.command.Command.TheVariants.{Create, Unlink, Rename}
use Rattle.kf_core.specs.Keys.{same_key}
use Rattle.kf_core.specs.Lawful.{Lawful}
use Rattle.kf_core.specs.Refusals.{unless, first_cause}
use Rattle.kf_core.specs.Tree.{Tree, record_at, is_linked}
use Rattle.kf_core.specs.Commands.{after, moved_record, new_record}
use Rattle.kf_core.proofs.Climbs.{keys_tell}
use Rattle.kf_core.proofs.Lists.{slice_get-set_same}
use Rattle.kf_core.proofs.Mapped.{find_mapped}
use Rattle.kf_core.proofs.FoundRecords.{in_found, found_in, find_at, find_filled, find_cleared, linked_here}
use Rattle.kf_table.specs.Children.{has_child}
use Rattle.kf_table.specs.Live.{lives, lives_in}
use Rattle.kf_tree.specs.Causes.{doomed_in, unlink_cause}
use Rattle.kf_tree.specs.SlotMarks.{contains_key}
use Rattle.kf_tree.specs.TreeLogs.{TreeLog, IsAccepted}
use Rattle.kf_looks.specs.declared.found.Found.{Found}
use Rattle.kf_looks.specs.declared.view.Link.{Link}
use Rattle.kf_looks.specs.Links.{link, is_of, child_of}
use Rattle.kf_looks.proofs.Naming.{of_tells, of_own}
use Rattle.kf_looks.specs.Links.{IsOfSlot}
use Rattle.kf_looks.specs.Lines.{bytes_in}
use Rattle.kf_live.specs.declared.telling.Spot.{Spot}
use Rattle.kf_live.specs.Live.{AreSound, SayBut, Say, StandsAt, SameBut, StaysDoomed, IsOut, Stood, IsMove, IsLeftAt, without, found_of, live_found}
use Rattle.kf_live.proofs.Doomed.{is_doomed, doomed_not_live, was_active}
use Rattle.kf_live.proofs.Said.{one_record, one_place, of_slot, sound_but, told_none}
use Rattle.kf_live.proofs.Frames.{said_created, said_quiet, was_there, is_there, only_key}

-- ---- a new node

module _ (t : Tree) (root key parent : Key) (name : List ℕ) (node : Node) (links : List Link) (lawful : Lawful t root) (vacant : slice_get t key.slot ≡ Some None) where
  abbrev made : Bool → Record
  made = new_record key parent name node

  only_made : (b : Bool) → SameBut key t (after t (Create key parent name node b))
  only_made b k n = find_filled t (made b) k vacant n

  not_there : record_at t key ≡ None
  not_there = find_at t key None vacant

  pub said_born : (b : Bool) → Say links t → SayBut (key ∷ []) links (after t (Create key parent name node b))
  said_born b = said_created t (after t (Create key parent name node b)) key links (only_made b) root lawful not_there

  pub said_unborn : (b : Bool) → b ≡ false → Say links t → Say links (after t (Create key parent name node b))
  said_unborn b e says = said_quiet t (after t (Create key parent name node b)) key links (only_made b) root lawful not_there says
      (ap lives_in (in_found (slice_set t key.slot (Some (made b))) (made b) (slice_get-set_same t key.slot (Some (made b)) (slice_get_within t key.slot None vacant))) ∙ ap (λ c. lives (made c)) e)

-- ---- a node that moves

abbrev going : Key → Key → List ℕ → Record → Record
going key dir name r = cond (same_key r.key key) (moved_record dir name r) r

pub moved_only : (t : Tree) (key dir : Key) (name : List ℕ) → SameBut key t (after t (Rename key dir name))
moved_only t key dir name k n = find_mapped t (going key dir name) same_keys k ∙ go (record_at t k) refl
  where
    same_keys : (r : Record) → (going key dir name r).key ≡ r.key
    same_keys r = elim (same_key r.key key) as (λ b. (cond b (moved_record dir name r) r).key ≡ r.key) [ true ↦ refl | false ↦ refl ]

    go : (o : Option Record) → record_at t k ≡ o → option_map (going key dir name) o ≡ o
    go None e = refl
    go (Some r) e = elim (keys_tell r.key key) [
      | inl s ↦ absurd (n (sym (found_in t k r e).1 ∙ s.1))
      | inr s ↦ ap (λ b. Some (cond b (moved_record dir name r) r)) s.0
    ]

module _ (t t' : Tree) (root key : Key) (lawful : Lawful t root) (links : List Link) (says : Say links t) (same : SameBut key t t') (stays : StaysDoomed key t t') where
  -- what the links find of a record with another key is still right in the new tree
  stays_found : (d : Key) (n : List ℕ) (found : Found) (is : child_of links d n ≡ Some found) → (says.known d n found is).0.key ≢ key
      → (s : Record) × StandsAt t' d n s × (found.key ≡ s.key) × (doomed_in t' d ≡ false → (contains_key [] s.key ≡ true) ⊎ ((lives s ≡ true) × (found ≡ found_of s)))
  stays_found d n found is other = (let was = says.known d n found is in
      (was.0, is_there t t' key links same d n was.0 other was.1, was.2, λ active. was.3 (was_active t t' key same stays d active)))

  pub withdrawn_none_sound : ((d : Key) (n : List ℕ) (found : Found) (is : child_of links d n ≡ Some found) → (says.known d n found is).0.key ≢ key) → AreSound links t'
  withdrawn_none_sound other d n found is = stays_found d n found is (other d n found is)

  pub withdrawn_none : ((d : Key) (n : List ℕ) (found : Found) (is : child_of links d n ≡ Some found) → (says.known d n found is).0.key ≢ key) → SayBut (key ∷ []) links t'
  withdrawn_none other = record {
    told = λ d n s there live. elim (keys_tell s.key key) [
      | inl e ↦ inl (only_key t t' key links same s.key e.1)
      | inr apart ↦ elim (says.told d n s (was_there t t' key links same d n s apart.1 there) live) [ inl never ↦ absurd (cc (never)) | inr is ↦ inr is ]
    ];
    known = sound_but t' links (key ∷ []) (withdrawn_none_sound other);
  }

  module _ (dir : Key) (name : List ℕ) (r : Record) (own : r.key ≡ key) (stood : StandsAt t dir name r) where
    abbrev gone : Link
    gone = link dir name None

    apart : (d : Key) (n : List ℕ) (s : Record) → StandsAt t d n s → is_of d n gone ≡ false → s.key ≢ key
    apart d n s there off e =
        let one : r ≡ s = one_record t r s stood.known there.known (own ∙ sym e) in
        let at : (d ≡ dir) × (n ≡ name) = (same_Some d dir (sym there.directory ∙ ap (λ (x : Record). x.parent) (sym one) ∙ stood.directory), sym there.named ∙ ap (λ (x : Record). x.name) (sym one) ∙ stood.named) in
        absurd (let never : true ≡ false = sym (of_own gone) ∙ subst (λ d. is_of d name gone ≡ false) at.0 (subst (λ n. is_of d n gone ≡ false) at.1 off) in cc (never))

    here : (d : Key) (n : List ℕ) → is_of d n gone ≡ true → StandsAt t d n r
    here d n e = let p = of_tells d n gone e in
        subst (λ x. StandsAt t x n r) p.0 (subst (λ x. StandsAt t dir x r) p.1 stood)

    pub withdrawn_one_sound : AreSound (gone ∷ links) t'
    withdrawn_one_sound d n found = elim (is_of d n gone) as (λ b. is_of d n gone ≡ b → cond b None (child_of links d n) ≡ Some found → (s : Record) × StandsAt t' d n s × (found.key ≡ s.key)
        × (doomed_in t' d ≡ false → (contains_key [] s.key ≡ true) ⊎ ((lives s ≡ true) × (found ≡ found_of s)))) [
          | true ↦ λ e is. absurd (none-some found is)
          | false ↦ λ e is. (let was = says.known d n found is in stays_found d n found is (apart d n was.0 was.1 e))
        ] refl

    pub withdrawn_one : SayBut (key ∷ []) (gone ∷ links) t'
    withdrawn_one = record {
      told = λ d n s there live. elim (keys_tell s.key key) [
        | inl e ↦ inl (only_key t t' key links same s.key e.1)
        | inr other ↦ (let before : StandsAt t d n s = was_there t t' key links same d n s other.1 there in
            elim (is_of d n gone) as (λ b. is_of d n gone ≡ b → (contains_key (key ∷ []) s.key ≡ true) ⊎ (cond b None (child_of links d n) ≡ Some (found_of s))) [
              | true ↦ λ e. absurd (other.1 (ap (λ (x : Record). x.key) (sym (one_place t root lawful links d n r s (here d n e) before)) ∙ own))
              | false ↦ λ e. elim (says.told d n s before live) [ inl never ↦ absurd (cc (never)) | inr is ↦ inr is ]
            ] refl)
      ];
      known = sound_but t' (gone ∷ links) (key ∷ []) withdrawn_one_sound;
    }

-- what the links find at the old place of the record has the slot of that record
pub move_slot : (links : List Link) (key : Key) (was : Option Spot) (t : Tree) → IsMove links key was t → IfSome was (λ spot. IsOfSlot links spot.dir (bytes_in spot.name) key.slot)
move_slot links key None t m = tt
move_slot links key (Some spot) t m = subst (λ (k : Key). IsOfSlot links spot.dir (bytes_in spot.name) k.slot) m.stood.1 (of_slot m.before m.root m.lawful links [] spot.dir (bytes_in spot.name) m.stood.0 m.says m.stood.2)

-- once the name in that place is withdrawn, only what the tree now says about the record is owed
pub move_says : (links : List Link) (key : Key) (was : Option Spot) (t : Tree) → IsMove links key was t → SayBut (key ∷ []) (without was links) t
move_says links key None t m = withdrawn_none m.before t m.root key m.lawful links m.says m.same m.stays_doomed (λ d n found is. (let was = m.says.known d n found is in m.stood d n was.0 was.1))
move_says links key (Some spot) t m = withdrawn_one m.before t m.root key m.lawful links m.says m.same m.stays_doomed spot.dir (bytes_in spot.name) m.stood.0 m.stood.1 m.stood.2

-- once the name in that place is withdrawn, what the links still find is right
pub move_sound : (links : List Link) (key : Key) (was : Option Spot) (t : Tree) → IsMove links key was t → AreSound (without was links) t
move_sound links key None t m = withdrawn_none_sound m.before t m.root key m.lawful links m.says m.same m.stays_doomed (λ d n found is. (let was = m.says.known d n found is in m.stood d n was.0 was.1))
move_sound links key (Some spot) t m = withdrawn_one_sound m.before t m.root key m.lawful links m.says m.same m.stays_doomed spot.dir (bytes_in spot.name) m.stood.0 m.stood.1 m.stood.2

pub stood_there : (t : Tree) (key : Key) (was : Option Spot) → IfSome was (λ spot. (r : Record) × (r.key ≡ key) × StandsAt t spot.dir (bytes_in spot.name) r × (spot.child ≡ live_found r)) → IfNone was (IsOut t key) → Stood t key was
stood_there t key None there out = out
stood_there t key (Some spot) there out = (there.0, there.1, there.2)

pub moved_or_stays : (s s' : TreeLog) (key dir : Key) (name : List ℕ) (cause : Option Refusal) (stays : Bool) → (stays ≡ true → s' ≡ s) → (stays ≡ false → IsAccepted s s' cause (Rename key dir name)) → SameBut key s.tree s'.tree
moved_or_stays s s' key dir name cause true same accepted k n = ap (λ (x : TreeLog). record_at x.tree k) (same refl)
moved_or_stays s s' key dir name cause false same accepted k n = ap (λ t. record_at t k) (accepted refl).changed ∙ moved_only s.tree key dir name k n

moved_doomed : (t : Tree) (key dir : Key) (name : List ℕ) → StaysDoomed key t (after t (Rename key dir name))
moved_doomed t key dir name active = go (record_at t key) (ap is_doomed (sym (find_mapped t (going key dir name) same_keys key)) ∙ active)
  where
    same_keys : (r : Record) → (going key dir name r).key ≡ r.key
    same_keys r = elim (same_key r.key key) as (λ b. (cond b (moved_record dir name r) r).key ≡ r.key) [ true ↦ refl | false ↦ refl ]

    go : (o : Option Record) → is_doomed (option_map (going key dir name) o) ≡ false → is_doomed o ≡ false
    go None h = h
    go (Some r) h = elim (same_key r.key key) as (λ b. (cond b (moved_record dir name r) r).marks.doomed ≡ false → r.marks.doomed ≡ false) [ true ↦ λ e. e | false ↦ λ e. e ] h

pub moved_or_stays_doomed : (s s' : TreeLog) (key dir : Key) (name : List ℕ) (cause : Option Refusal) (stays : Bool) → (stays ≡ true → s' ≡ s) → (stays ≡ false → IsAccepted s s' cause (Rename key dir name)) → StaysDoomed key s.tree s'.tree
moved_or_stays_doomed s s' key dir name cause true same accepted active = ap (λ (x : TreeLog). doomed_in x.tree key) (sym (same refl)) ∙ active
moved_or_stays_doomed s s' key dir name cause false same accepted active = moved_doomed s.tree key dir name (ap (λ t. doomed_in t key) (sym (accepted refl).changed) ∙ active)

-- ---- a node that leaves the tree

-- an unlink that returned true was accepted
pub was_accepted : (s s' : TreeLog) (key : Key) (unlinked : Bool) → unlinked ≡ true → MatchBool unlinked (IsAccepted s s' (unlink_cause s.tree key) (Unlink key)) (s' ≡ s)
    → IsAccepted s s' (unlink_cause s.tree key) (Unlink key)
was_accepted s s' key unlinked is h = subst (λ b. MatchBool b (IsAccepted s s' (unlink_cause s.tree key) (Unlink key)) (s' ≡ s)) is h

unlinked_doomed : (t : Tree) (key : Key) → unlink_cause t key ≡ None → doomed_in t key ≡ true
unlinked_doomed t key h = elim (doomed_in t key) as (λ b. first_cause (unless b Invalid ∷ unless (not (has_child t key)) Busy ∷ []) ≡ None → b ≡ true) [
  | true ↦ λ e. refl
  | false ↦ λ e. absurd (none-some Invalid (sym e))
] h

module _ (t : Tree) (root key : Key) (lawful : Lawful t root) (links : List Link) (says : Say links t) where
  -- what the links find in the place that the record left has the slot of that record
  pub left_slot : (left : Option Spot) → IsLeftAt t key left → IfSome left (λ spot. IsOfSlot links spot.dir (bytes_in spot.name) key.slot)
  left_slot None there = tt
  left_slot (Some spot) there = subst (λ (k : Key). IsOfSlot links spot.dir (bytes_in spot.name) k.slot) there.1 (of_slot t root lawful links [] spot.dir (bytes_in spot.name) there.0 says there.2)

  module _ (linked : is_linked t key ≡ true) (cause : unlink_cause t key ≡ None) where
    abbrev cleared : Tree
    cleared = slice_set t key.slot None

    unlinked : after t (Unlink key) ≡ cleared
    unlinked = ap (λ b. cond b cleared t) linked

    others_stay : SameBut key t cleared
    others_stay k n = (let r = linked_here t key linked in
        subst (λ (x : Key). record_at (slice_set t x.slot None) k ≡ record_at t k) r.2 (find_cleared t r.0 k r.1 (λ e. n (e ∙ r.2))))

    not_linked : record_at cleared key ≡ None
    not_linked = (let r = linked_here t key linked in
        find_at cleared key None (slice_get-set_same t key.slot None (subst (λ (x : Key). x.slot < length t) r.2 (slice_get_within t r.0.key.slot (Some r.0) r.1))))

    stays : StaysDoomed key t cleared
    stays active = absurd (let never : true ≡ false = ap is_doomed (sym not_linked) ∙ active in cc (never))

    is_out : IsOut cleared key
    is_out dir name r there e = none-some r (sym not_linked ∙ ap (record_at cleared) (sym e) ∙ there.known)

    -- if the record left no such place, the links do not find the record
    none_leads : IsLeftAt t key None → (d : Key) (n : List ℕ) (found : Found) (is : child_of links d n ≡ Some found) → (says.known d n found is).0.key ≢ key
    none_leads nowhere d n found is e = (let was = says.known d n found is in
        elim (was.3 (nowhere d n was.0 was.1 e)) [
          | inl never ↦ absurd (cc (never))
          | inr now ↦ absurd (let never : false ≡ true = sym (doomed_not_live (record_at t key) (unlinked_doomed t key cause)) ∙ ap lives_in (ap (record_at t) (sym e) ∙ was.1.known) ∙ now.0 in cc (never))
        ])

    pub said_gone : (left : Option Spot) → IsLeftAt t key left → Say (without left links) (after t (Unlink key))
    said_gone None nowhere = subst (λ u. Say links u) (sym unlinked) (told_none cleared links [] key
        (withdrawn_none t cleared root key lawful links says others_stay stays (none_leads nowhere)) is_out)
    said_gone (Some spot) there = subst (λ u. Say (link spot.dir (bytes_in spot.name) None ∷ links) u) (sym unlinked) (told_none cleared (link spot.dir (bytes_in spot.name) None ∷ links) [] key
        (withdrawn_one t cleared root key lawful links says others_stay stays spot.dir (bytes_in spot.name) there.0 there.1 there.2) is_out)
