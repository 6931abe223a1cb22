-- What the indexes say agrees with the tree.
use Rattle.std.proofs.Common.{◌≡◌, ◌⊎◌, inl, inr, ℕ, suc, ◌+◌, ◌<◌, ◌≤◌, refl, ap, arith, sym, ◌∙◌, subst, Bool, true, false, cond, List, [], ◌∷◌, length, get_or, Bor}
use Rattle.std.specs.Prelude.{Option, None, Some, IfSome, IfNone, slice_get, count_by, fold, is_some, not, ◌&&◌, IsTrue, ◌↔◌, ◌==◌}
use Rattle.std.specs.List.{find as first, list_any}
use Rattle.std.specs.Option.{option_and_then, option_copied, option_map_or}
use Rattle.std.specs.Str.{bytes_eq}
use Rattle.std.specs.declared.cmp.Ordering.{Ordering}
use Rattle.std.specs.declared.cmp.Ordering.TheVariants.{Less, Equal, Greater}
use Rattle.std.specs.Ordering.{nat_cmp, is_lt, ordering_reverse}
use Rattle.std.specs.Cmp.Lexicographic.{slice_cmp}
use Rattle.std.specs.FinMap.{get, get-empty}
use Rattle.std.proofs.lemmas.Cmp.{nat_list_cmp_total, tied_itself}
use Rattle.std.proofs.lemmas.Slice.Eq.{bytes_eq-Decides}
use Rattle.std.proofs.lemmas.Option.{same_Some, none-some, slice_get_within}
use Rattle.std.proofs.lemmas.List.Sums.{count_by-le-length}
use Rattle.std.proofs.lemmas.Bool.Decides.{eqb_tells}
use Rattle.kf_core.specs.declared.key.Key.{Key}
use Rattle.kf_core.specs.declared.records.Record.{Record}
use Rattle.kf_core.specs.Keys.{same_key}
use Rattle.kf_core.specs.Names.{IsBefore}
use Rattle.kf_core.specs.Tree.{Tree, IsIn, is_dir, record_at, is_linked}
use Rattle.kf_core.specs.Lawful.{Lawful}
use Rattle.kf_index.specs.Entries.{Entries, IsAbove, IsLeastAbove}
use Rattle.kf_index.specs.Entries as index
use Rattle.kf_table.specs.declared.directory.Directory.{Directory}
use Rattle.kf_table.specs.Children.{has_child, is_key, is_under, child, subdirs}
use Rattle.kf_table.specs.Next.{before, above, IsNext, NoneAbove, AreNext}
use Rattle.kf_table.specs.Directories.{empty_directory, entry_at, subdirs_at, is_slot_of, is_subdir_in, AreKept}
use Rattle.kf_core.proofs.Climbs.{same_key_self}
use Rattle.kf_table.proofs.ChildTests.{both, key_is, some_first, some_any, is_key_self}
use Rattle.kf_core.proofs.FoundRecords.{found_in, same_record}
use Rattle.kf_table.proofs.Entries.{entry_read}

-- ---- lists

first_found : {X : Type 0} (p : X → Bool) (xs : List X) (x : X) → first p xs ≡ Some x → (i : ℕ) × (slice_get xs i ≡ Some x) × (p x ≡ true)
first_found p [] x h = absurd (none-some x h)
first_found p (y ∷ xs) x h = elim (p y) as (λ b. p y ≡ b → cond b (Some y) (first p xs) ≡ Some x → (i : ℕ) × (slice_get (y ∷ xs) i ≡ Some x) × (p x ≡ true)) [
  | true ↦ λ e g. (0, g, ap p (sym (same_Some y x g)) ∙ e)
  | false ↦ λ e g. let f = first_found p xs x g in (suc f.0, f.1, f.2)
] refl h

any_none : {X : Type 0} (p : X → Bool) (xs : List X) → ((i : ℕ) (x : X) → slice_get xs i ≡ Some x → p x ≡ false) → list_any p xs ≡ false
any_none p [] h = refl
any_none p (y ∷ xs) h = let head : p y ≡ false = h 0 y refl in rw (head, any_none p xs (λ i x g. h (suc i) x g)) refl

count_on : {X : Type 0} (p q : X → Bool) (n : ℕ) (xs : List X) → ((i : ℕ) (x : X) → slice_get xs i ≡ Some x → p x ≡ q x)
    → fold (λ a x. a + cond (p x) 1 0) n xs ≡ fold (λ a x. a + cond (q x) 1 0) n xs
count_on p q n [] h = refl
count_on p q n (y ∷ xs) h = let head : p y ≡ q y = h 0 y refl in
    ap (λ b. fold (λ a x. a + cond (p x) 1 0) (n + cond b 1 0) xs) head ∙ count_on p q (n + cond (q y) 1 0) xs (λ i x g. h (suc i) x g)

count_same : {X : Type 0} (p q : X → Bool) (xs : List X) → ((i : ℕ) (x : X) → slice_get xs i ≡ Some x → p x ≡ q x) → count_by p xs ≡ count_by q xs
count_same p q xs h = count_on p q 0 xs h

count_none : {X : Type 0} (n : ℕ) (xs : List X) → fold (λ a x. a + cond false 1 0) n xs ≡ n
count_none n [] = refl
count_none n (y ∷ xs) = count_none (n + 0) xs ∙ omega arith

-- ---- children in the tree

-- a linked key has a record
pub record_of_linked : (t : Tree) (key : Key) → IsTrue (is_linked t key) → (r : Record) × (record_at t key ≡ Some r)
record_of_linked t key linked = elim (record_at t key) as (λ o. IsTrue (is_some o) → (r : Record) × (o ≡ Some r)) [
  | None ↦ λ h. absurd (let x : false ≡ true = h in cc)
  | Some r ↦ λ h. (r, refl)
] linked

module _ (t : Tree) (root : Key) (lawful : Lawful t root) where
  child_is : (dir : Key) (name : List ℕ) (r : Record) → IsIn t r → r.parent ≡ Some dir → r.name ≡ name → child t dir name ≡ Some r
  child_is dir name r is parent named =
      let test : Option Record → Bool = λ o. is_under dir (λ x. bytes_eq x.name name) o in
      let passes : test (Some r) ≡ true = ap (λ b. b && bytes_eq r.name name) (is_key_self dir r.parent parent) ∙ (bytes_eq-Decides r.name name).1 named in
      let f = some_first test t r.key.slot (Some r) is passes in
      ap (λ o. option_and_then (λ place. place) o) f.1 ∙ one f.0 (first_found test t f.0 f.1)
    where
      one : (o : Option Record) → (i : ℕ) × (slice_get t i ≡ Some o) × (is_under dir (λ x. bytes_eq x.name name) o ≡ true) → o ≡ Some r
      one None f = absurd (let x : false ≡ true = f.2 in cc)
      one (Some s) f =
          let parts = both (is_key dir s.parent) (bytes_eq s.name name) f.2 in
          let s_in : IsIn t s = ap (slice_get t) (lawful.in_place f.0 s f.1) ∙ f.1 in
          let keys = lawful.siblings s r s_in is (key_is dir s.parent parts.0 ∙ sym parent) ((bytes_eq-Decides s.name name).0 parts.1 ∙ sym named) in
          ap Some (same_record t s r s_in is keys)

  -- a record that was read from a slot is in the tree, and its key has this slot
  stands_in : (slot : ℕ) (r : Record) → Some r ≡ option_and_then (λ place. place) (slice_get t slot) → IsIn t r × (r.key.slot ≡ slot)
  stands_in slot r read =
      let here : slice_get t slot ≡ Some (Some r) = elim (slice_get t slot) as (λ o. Some r ≡ option_and_then (λ place. place) o → o ≡ Some (Some r)) [
        | None ↦ λ e. absurd (none-some r (sym e))
        | Some o ↦ λ e. ap Some (sym e)
      ] read in
      let place = lawful.in_place slot r here in
      (ap (slice_get t) place ∙ here, place)

  -- a record that is in this directory under this name is the child, whatever slot it was found in
  pub seen_child : (dir : Key) (name : List ℕ) (slot : ℕ) (r : Record) → Some r ≡ option_and_then (λ place. place) (slice_get t slot)
      → (is_key dir r.parent && bytes_eq r.name name) ≡ true → Some r ≡ child t dir name
  seen_child dir name slot r read passes =
      let parts = both (is_key dir r.parent) (bytes_eq r.name name) passes in
      sym (child_is dir name r (stands_in slot r read).0 (key_is dir r.parent parts.0) ((bytes_eq-Decides r.name name).0 parts.1))

  child_none : (dir : Key) (name : List ℕ) → ((r : Record) → IsIn t r → r.parent ≡ Some dir → r.name ≡ name → ⊥) → child t dir name ≡ None
  child_none dir name nobody = go (first test t) refl
    where
      test : Option Record → Bool
      test o = is_under dir (λ x. bytes_eq x.name name) o

      go : (o : Option (Option Record)) → first test t ≡ o → option_and_then (λ place. place) o ≡ None
      go None e = refl
      go (Some None) e = refl
      go (Some (Some s)) e =
          let f = first_found test t (Some s) e in
          let parts = both (is_key dir s.parent) (bytes_eq s.name name) f.2 in
          absurd (nobody s (ap (slice_get t) (lawful.in_place f.0 s f.1) ∙ f.1) (key_is dir s.parent parts.0) ((bytes_eq-Decides s.name name).0 parts.1))

  -- no record is in a directory that is not linked
  no_orphan : (dir : Key) → record_at t dir ≡ None → (r : Record) → IsIn t r → r.parent ≡ Some dir → ⊥
  no_orphan dir gone r is parent = let h = lawful.in_directory r dir is parent in none-some h.dir (sym gone ∙ h.known)

  pub child_of_none : (dir : Key) (name : List ℕ) → record_at t dir ≡ None → child t dir name ≡ None
  child_of_none dir name gone = child_none dir name (λ r is parent _. no_orphan dir gone r is parent)

  pub none_above_none : (dir : Key) (bound : Option (List ℕ)) → record_at t dir ≡ None → NoneAbove t dir bound
  none_above_none dir bound gone s is parent = absurd (no_orphan dir gone s is parent)

  pub no_subdirs : (dir : Key) → record_at t dir ≡ None → 0 ≡ subdirs t dir
  no_subdirs dir gone = sym (count_same (λ o. is_under dir (λ r. is_dir r.node) o) (λ o. false) t none ∙ count_none 0 t)
    where
      none : (i : ℕ) (o : Option Record) → slice_get t i ≡ Some o → is_under dir (λ r. is_dir r.node) o ≡ false
      none i None h = refl
      none i (Some r) h = elim (is_key dir r.parent) as (λ b. is_key dir r.parent ≡ b → (b && is_dir r.node) ≡ false) [
        | true ↦ λ e. absurd (no_orphan dir gone r (ap (slice_get t) (lawful.in_place i r h) ∙ h) (key_is dir r.parent e))
        | false ↦ λ e. refl
      ] refl

  -- a key that is not a directory has no children
  pub none_below : (key : Key) → option_map_or (λ (r : Record). is_dir r.node) (record_at t key) false ≡ false → AreNext t key None []
  unfolding AreNext
  none_below key not_dir = λ c i p.
      (let o = lawful.in_directory c key i p in
      sym (ap (λ r. option_map_or (λ (r : Record). is_dir r.node) r false) o.known ∙ ap is_dir o.is_dir) ∙ not_dir)

  pub has_child_tells : (dir : Key) (all : List (List ℕ × Key)) (empty : Bool) → IsTrue empty ↔ (all ≡ []) → AreNext t dir None all → not empty ≡ has_child t dir
  unfolding AreNext
  has_child_tells dir (entry ∷ later) true tells next = let none = tells.0 refl in cc
  has_child_tells dir (entry ∷ later) false tells next = sym (some_any (λ x. is_under dir (λ r. true) x) t next.0.0.key.slot (Some next.0.0) next.0.1.is_in
      (ap (λ b. b && true) (is_key_self dir next.0.0.parent next.0.1.parent)))
  has_child_tells dir [] false tells none = let is = tells.1 refl in cc
  has_child_tells dir [] true tells none = sym (any_none (λ x. is_under dir (λ r. true) x) t nobody)
    where
      nobody : (i : ℕ) (x : Option Record) → slice_get t i ≡ Some x → is_under dir (λ r. true) x ≡ false
      nobody i None h = refl
      nobody i (Some r) h = elim (is_key dir r.parent) as (λ b. is_key dir r.parent ≡ b → (b && true) ≡ false) [
        | true ↦ λ e. none r (ap (slice_get t) (lawful.in_place i r h) ∙ h) (key_is dir r.parent e)
        | false ↦ λ e. refl
      ] refl

  -- ---- a linked directory

  module _ (ds : List Directory) (kept : AreKept t ds) (dir : Key) (d : Record) (known : record_at t dir ≡ Some d) where
    pub dir_low : dir.slot < length ds
    dir_low =
        let f = found_in t dir d known in
        rw kept.as_many (slice_get_within t dir.slot (Some d) (ap (λ (k : Key). slice_get t k.slot) (sym f.1) ∙ f.0))

    -- a parent whose slot is the directory's is this directory
    this_dir : (r : Record) (p : Key) → IsIn t r → r.parent ≡ Some p → p.slot ≡ dir.slot → p ≡ dir
    this_dir r p is parent slot =
        let h = lawful.in_directory r p is parent in
        let f = found_in t p h.dir h.known in
        let g = found_in t dir d known in
        let slots : h.dir.key.slot ≡ d.key.slot = ap (λ (k : Key). k.slot) f.1 ∙ slot ∙ ap (λ (k : Key). k.slot) (sym g.1) in
        let same : h.dir ≡ d = same_Some h.dir d (same_Some (Some h.dir) (Some d) (sym f.0 ∙ ap (slice_get t) slots ∙ g.0)) in
        sym f.1 ∙ ap (λ (z : Record). z.key) same ∙ g.1

    entry_of : (name : List ℕ) (r : Record) → IsIn t r → r.parent ≡ Some dir → r.name ≡ name → entry_at ds dir.slot name ≡ Some r.key
    entry_of name r is parent named = (kept.entries dir.slot name r.key).1 (record {
      child = r;
      is_in = is;
      has_key = refl;
      dir = dir;
      parent = parent;
      in_slot = refl;
      named = named;
    })

    same_subdir : (i : ℕ) (o : Option Record) → slice_get t i ≡ Some o → is_subdir_in dir.slot o ≡ is_under dir (λ r. is_dir r.node) o
    same_subdir i None h = refl
    same_subdir i (Some r) h = go r.parent refl
      where
        go : (p : Option Key) → r.parent ≡ p → (is_slot_of dir.slot p && is_dir r.node) ≡ (is_key dir p && is_dir r.node)
        go None e = refl
        go (Some p) e = elim (eqb_tells p.slot dir.slot) [
          | inl s ↦ (let is = this_dir r p (ap (slice_get t) (lawful.in_place i r h) ∙ h) e s.1 in
              ap (λ b. b && is_dir r.node) (s.0 ∙ sym (ap (λ (k : Key). same_key k dir) is ∙ same_key_self dir)))
          | inr s ↦ ap (λ b. b && is_dir r.node) (s.0 ∙ sym (ap (λ b. b && (p.generation == dir.generation)) s.0))
        ]

    pub subdirs_told : subdirs_at ds dir.slot ≡ subdirs t dir
    subdirs_told = kept.counted dir.slot (rw (← kept.as_many) dir_low) ∙ count_same (is_subdir_in dir.slot) (λ o. is_under dir (λ r. is_dir r.node) o) t same_subdir

    pub subdirs_few : subdirs_at ds dir.slot ≤ length t
    subdirs_few = let most = count_by-le-length (is_subdir_in dir.slot) t in
        let is = kept.counted dir.slot (rw (← kept.as_many) dir_low) in
        rw is most

    -- nothing is found in a directory without children
    pub none_found : get_or ds dir.slot empty_directory ≡ empty_directory → (name : List ℕ) → child t dir name ≡ None
    none_found none name = child_none dir name (λ r is parent named.
        let gone : entry_at ds dir.slot name ≡ None = entry_read ds dir.slot (get_or ds dir.slot empty_directory) name dir_low refl
        ∙ ap (λ (d : Directory). get d.index name) none ∙ get-empty (slice_cmp nat_cmp) name in
        none-some r.key (sym gone ∙ entry_of name r is parent named))

    module _ (kept_dir : Directory) (read : kept_dir ≡ get_or ds dir.slot empty_directory) where
      entry_is : (name : List ℕ) → entry_at ds dir.slot name ≡ get kept_dir.index name
      entry_is name = entry_read ds dir.slot kept_dir name dir_low read

      pub no_child : (name : List ℕ) → None ≡ get kept_dir.index name → child t dir name ≡ None
      no_child name none = child_none dir name (λ r is parent named. none-some r.key (none ∙ sym (entry_is name) ∙ entry_of name r is parent named))

      -- the child that the index leads to
      led_child : (name : List ℕ) (key : Key) → get kept_dir.index name ≡ Some key → (r : Record) × (slice_get t key.slot ≡ Some (Some r)) × (r.parent ≡ Some dir) × (r.name ≡ name) × (IsIn t r) × (r.key ≡ key)
      led_child name key found =
          let i = (kept.entries dir.slot name key).0 (entry_is name ∙ found) in (
            i.child,
            ap (λ (k : Key). slice_get t k.slot) (sym i.has_key) ∙ i.is_in,
            i.parent ∙ ap Some (this_dir i.child i.dir i.is_in i.parent i.in_slot),
            i.named,
            i.is_in,
            i.has_key,
          )

      -- the record that the index leads to has the key from the index
      pub child_keyed : (name : List ℕ) (key : Key) → Some key ≡ get kept_dir.index name → (r : Record) → option_and_then (λ place. place) (slice_get t key.slot) ≡ Some r → (r.key ≡ key) × IsIn t r
      child_keyed name key found r read =
          let c = led_child name key (sym found) in
          let same : c.0 ≡ r = same_Some c.0 r (sym (ap (λ o. option_and_then (λ place. place) o) c.1) ∙ read) in
          (ap (λ (x : Record). x.key) (sym same) ∙ c.5, subst (λ x. IsIn t x) same c.4)

      pub child_read : (name : List ℕ) (key : Key) → Some key ≡ get kept_dir.index name → option_and_then (λ place. place) (slice_get t key.slot) ≡ child t dir name
      child_read name key found =
          let c = led_child name key (sym found) in
          ap (λ o. option_and_then (λ place. place) o) c.1 ∙ sym (child_is dir name c.0 c.4 c.2 c.3)

      above_tells : (bound : Option (List ℕ)) (name : List ℕ) → IsAbove bound name → above bound name ≡ true
      above_tells None name h = refl
      above_tells (Some b) name h = ap is_lt h

      is_above : (bound : Option (List ℕ)) (name : List ℕ) → above bound name ≡ true → IsAbove bound name
      is_above None name h = tt
      is_above (Some b) name h = go (slice_cmp nat_cmp b name) h
        where
          go : (o : Ordering) → is_lt o ≡ true → o ≡ Less
          go Less h = refl
          go Equal h = absurd (let x : false ≡ true = h in cc)
          go Greater h = absurd (let x : false ≡ true = h in cc)

      not_before : (a b : List ℕ) → (b ≡ a) ⊎ IsBefore a b → before b a ≡ false
      not_before a b (inl e) = ap (λ x. before x a) e ∙ ap is_lt (tied_itself nat_list_cmp_total a)
      not_before a b (inr h) = ap is_lt (nat_list_cmp_total.antisymm b a ∙ ap ordering_reverse h)

      next_read : (bound : Option (List ℕ)) (name : List ℕ) (key : Key) → IsLeastAbove kept_dir.index bound name key
          → (c : Record) × IsNext t dir bound c × (c.name ≡ name) × (c.key ≡ key)
      next_read bound name key least =
          let c = led_child name key least.found in (
            c.0,
            record {
              is_in = c.4;
              parent = c.2;
              is_above = ap (above bound) c.3 ∙ above_tells bound name least.above;
              least = λ s is parent high.
                  let entry = sym (entry_is s.name) ∙ entry_of s.name s is parent refl in
                  ap (before s.name) c.3 ∙ not_before name s.name (least.least s.name (ap is_some entry) (is_above bound s.name high));
            },
            c.3,
            c.5,
          )

      none_read : (bound : Option (List ℕ)) → index.NoneAbove kept_dir.index bound → NoneAbove t dir bound
      none_read bound none s is parent = elim (above bound s.name) as (λ b. above bound s.name ≡ b → b ≡ false) [
        | true ↦ λ high. absurd (none-some s.key (sym (none s.name (is_above bound s.name high)) ∙ sym (entry_is s.name) ∙ entry_of s.name s is parent refl))
        | false ↦ λ low. refl
      ] refl

      -- what the index lists above a bound are the next children in the tree
      pub all_read : (bound : Option (List ℕ)) (all : List (List ℕ × Key)) → index.AreAbove kept_dir.index bound all → AreNext t dir bound all
      unfolding index.AreAbove AreNext
      all_read bound [] none = none_read bound none
      all_read bound (entry ∷ later) listed = (next_read bound entry.0 entry.1 listed.0, all_read (Some entry.0) later listed.1)

-- what holds for a record holds for the borrow of it that was read from a slot
pub if_some : (P : Record → Type 0) (o : Option (Bor Record)) (x : Record) → option_copied o ≡ Some x → P x → IfSome o (λ b. P b.now)
if_some P None x h p = absurd (none-some x h)
if_some P (Some b) x h p = subst P (sym (same_Some b.now x h)) p

pub if_not_none : (P : Type 0) (o : Option (Bor Record)) (x : Record) → option_copied o ≡ Some x → IfNone o P
if_not_none P None x h = absurd (none-some x h)
if_not_none P (Some b) x h = tt
