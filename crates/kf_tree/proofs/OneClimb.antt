-- The way up from a directory to the first one that is over a target, climbed together with a second way up,
-- from the target.
use Rattle.std.proofs.Common.{◌≡◌, ◌≢◌, ◌⊎◌, inl, inr, ℕ, zero, suc, ◌+◌, ◌-◌, ◌<◌, ◌≤◌, refl, ap, arith, sym, ◌∙◌, subst, true, List, [], ◌∷◌, ◌++◌, length, length-append, get_or, append-nil, rules, Option}
use Rattle.std.specs.Prelude.{None, Some, is_some, IsTrue}
use Rattle.std.specs.Option.{option_and_then, option_to_list}
use Rattle.std.proofs.lemmas.Bool.{cases_order}
use Rattle.std.proofs.lemmas.List.{get_or_append_left}
use Rattle.std.proofs.lemmas.Option.{same_Some, none-some}
use Rattle.kf_core.specs.declared.key.Key.{Key}
use Rattle.kf_core.specs.Tree.{Tree, is_linked, parent_of, ancestor, in_subtree}
use Rattle.kf_core.specs.Lawful.{Lawful}
use Rattle.kf_core.proofs.Climbs.{first_step, after_step, climb_rest, climb_unique}
use Rattle.kf_core.proofs.FoundRecords.{linked_here, known_parent, parent_known, root_parent, root_met, root_found, way_shorter, subtree_to, subtree_from}
use Rattle.kf_tree.specs.Links.{IsOver}
use Rattle.kf_tree.specs.Ways.{IsWayUp}
use Rattle.kf_tree.proofs.Apart.{sub_self, sub_up}
use Rattle.kf_tree.proofs.Over.{one_more, parent_linked}

-- the key is this many steps below the root
abbrev pub IsDeep : Tree → Key → ℕ → Key → Type 0
IsDeep t root depth key = ancestor t depth key ≡ Some root

-- the other directory is over the target, and what is over the target and has the base in its subtree has the
-- other in its subtree too; base and other are this many steps below the root
pub record IsBeside (t : Tree) (root target base other : Key) (base_depth other_depth : ℕ) : Type 0 where
  pub linked : IsTrue (is_linked t other)
  pub over : IsOver t root target other
  pub meets : (c : Key) → IsOver t root target c → in_subtree t c base ≡ true → in_subtree t c other ≡ true
  pub base_deep : IsDeep t root base_depth base
  pub other_deep : IsDeep t root other_depth other

-- the current key is linked, and it is this many steps above the key
pub record IsCounted (t : Tree) (key current : Key) (steps : ℕ) : Type 0 where
  pub linked : IsTrue (is_linked t current)
  pub met : ancestor t steps key ≡ Some current

-- the key is on the way, and this many keys of the way are above it
abbrev pub StandsAt : List Key → ℕ → Key → Type 0
StandsAt way depth key = (depth < length way) × ((d : Key) → get_or way (length way - 1 - depth) d ≡ key)

-- the way is this many keys: the key itself, then one step up after another
abbrev pub IsWayTo : Tree → Key → List Key → ℕ → Type 0
IsWayTo t key way steps = (length way ≡ steps) × ((i : ℕ) (d : Key) → i < length way → ancestor t i key ≡ Some (get_or way i d))

-- the way up before its next key is pushed, or the whole way if no key is left
abbrev pub IsWayBefore : Tree → Key → Key → List Key → Option Key → Type 0
IsWayBefore t root key way None = IsWayUp t root key way
IsWayBefore t root key way (Some current) = IsCounted t key current (length way) × IsWayTo t key way (length way)

-- the most keys of a way up that can still be left
abbrev pub still_up : Tree → List Key → Option Key → ℕ
still_up t way None = 0
still_up t way (Some _) = length t - length way

module _ (t : Tree) (root : Key) (l : Lawful t root) where
  self_over : (key : Key) → IsTrue (is_linked t key) → in_subtree t key key ≡ true
  self_over key h = (let r = linked_here t key h in subst (λ k. in_subtree t k k ≡ true) r.2 (sub_self t root l r.0 r.1))

  pub under_root : (key : Key) → IsTrue (is_linked t key) → in_subtree t root key ≡ true
  under_root key h = (let r = linked_here t key h in let w = root_met t root l r.0 r.1 in ap (in_subtree t root) (sym r.2) ∙ subtree_from t root l r.0 w.0 root r.1 w.1)

  -- a key in the subtree of another, and no deeper than it, is that other key
  no_higher : (a k : Key) (da dk : ℕ) → in_subtree t a k ≡ true → IsDeep t root da a → IsDeep t root dk k → dk ≤ da → k ≡ a
  no_higher a k da dk h at bt le = (let s = subtree_to t root l a k h in go s.0 s.1)
    where
      go : (n : ℕ) → ancestor t n k ≡ Some a → k ≡ a
      go zero c = same_Some k a c
      go (suc n) c = absurd (let e = climb_unique (parent_of t) root (root_parent t root l) (suc n + da) dk k (climb_rest (parent_of t) (suc n) da k a c ∙ at) bt in omega (arith, e, le))

  -- the directory of a key is one step less deep
  pub up_deep : (key parent : Key) (depth : ℕ) → parent_of t key ≡ Some parent → IsDeep t root depth key → IsDeep t root (depth - 1) parent
  up_deep key parent zero p d = absurd (none-some parent (sym (root_parent t root l) ∙ ap (parent_of t) (sym (same_Some key root d)) ∙ p))
  up_deep key parent (suc n) p d = (let e : suc n - 1 ≡ n = omega arith in
      ap (λ m. ancestor t m parent) e ∙ sym (after_step (parent_of t) n key parent p) ∙ d)

  -- of two different keys, the one that is at least as deep as the other is below the root
  pub deep : (a b : Key) (da db : ℕ) → IsDeep t root da a → IsDeep t root db b → a ≢ b → db ≤ da → 0 < da
  deep a b zero db x y n le = absurd (let z : 0 ≡ db = omega (arith, le) in n (same_Some a root x ∙ sym (same_Some b root (ap (λ m. ancestor t m b) z ∙ y))))
  deep a b (suc da) db x y n le = omega arith

  pub beside_first : (dir target other : Key) (base_depth other_depth : ℕ) → IsTrue (is_linked t target) → IsTrue (is_linked t dir) → (parent_of t target ≡ Some other) ⊎ ((parent_of t target ≡ None) × (other ≡ root)) →
      IsDeep t root base_depth dir → IsDeep t root other_depth other → IsBeside t root target dir other base_depth other_depth
  beside_first dir target other base_depth other_depth linked there start bd od = record {
    linked = other_linked start;
    over = other_over start;
    meets = λ c o h. meet c o start;
    base_deep = bd;
    other_deep = od;
  }
    where
      other_linked : (parent_of t target ≡ Some other) ⊎ ((parent_of t target ≡ None) × (other ≡ root)) → IsTrue (is_linked t other)
      other_linked (inl p) = parent_linked t root l target other p
      other_linked (inr e) = ap (is_linked t) e.1 ∙ ap is_some (root_found t root l)

      other_over : (parent_of t target ≡ Some other) ⊎ ((parent_of t target ≡ None) × (other ≡ root)) → IsOver t root target other
      other_over (inl p) = inr (0, after_step (parent_of t) 0 target other p)
      other_over (inr e) = inl e.1

      meet : (c : Key) → IsOver t root target c → (parent_of t target ≡ Some other) ⊎ ((parent_of t target ≡ None) × (other ≡ root)) → in_subtree t c other ≡ true
      meet c (inl e) s = ap (λ k. in_subtree t k other) e ∙ under_root other (other_linked s)
      meet c (inr a) (inl p) = (let r = linked_here t other (parent_linked t root l target other p) in
          ap (in_subtree t c) (sym r.2) ∙ subtree_from t root l r.0 a.0 c r.1 (ap (ancestor t a.0) r.2 ∙ sym (after_step (parent_of t) a.0 target other p) ∙ a.1))
      meet c (inr a) (inr e) = (let f = first_step (parent_of t) a.0 target c a.1 in absurd (none-some f.0 (sym e.0 ∙ f.1)))

  -- a key that has the directory in its subtree has the child in it too
  down_over : (c key parent : Key) → parent_of t key ≡ Some parent → in_subtree t c parent ≡ true → in_subtree t c key ≡ true
  down_over c key parent p h = (let s = subtree_to t root l c parent h in let r = known_parent t key parent p in
      ap (in_subtree t c) (sym r.2) ∙ subtree_from t root l r.0 (suc s.0) c r.1 (ap (ancestor t (suc s.0)) r.2 ∙ after_step (parent_of t) s.0 key parent p ∙ s.1))

  pub beside_up : (target base other next : Key) (base_depth other_depth : ℕ) → IsBeside t root target base other base_depth other_depth → parent_of t base ≡ Some next → IsBeside t root target next other (base_depth - 1) other_depth
  beside_up target base other next base_depth other_depth b p = record {
    linked = b.linked;
    over = b.over;
    meets = λ c o h. b.meets c o (down_over c base next p h);
    base_deep = up_deep base next base_depth p b.base_deep;
    other_deep = b.other_deep;
  }

  -- the base is not over the target if it is at least as deep as the other directory, and is not that one
  pub not_over : (target base other : Key) (base_depth other_depth : ℕ) → IsBeside t root target base other base_depth other_depth → IsTrue (is_linked t base) → base ≢ other → other_depth ≤ base_depth → IsOver t root target base → ⊥
  not_over target base other base_depth other_depth b linked n le o =
      n (sym (no_higher base other base_depth other_depth (b.meets base o (self_over base linked)) b.base_deep b.other_deep le))

  pub other_up : (target base other next : Key) (base_depth other_depth : ℕ) → IsBeside t root target base other base_depth other_depth → parent_of t other ≡ Some next → base ≢ other → base_depth ≤ other_depth → IsBeside t root target base next base_depth (other_depth - 1)
  other_up target base other next base_depth other_depth b p n le = record {
    linked = parent_linked t root l other next p;
    over = higher b.over;
    meets = λ c o h. (let r = known_parent t other next p in
        elim (sub_up t root l c r.0 next r.1 r.3 (ap (in_subtree t c) r.2 ∙ b.meets c o h)) [
          | inl e ↦ absurd (n (no_higher other base other_depth base_depth (ap (λ k. in_subtree t k base) (sym r.2 ∙ e) ∙ h) b.other_deep b.base_deep le))
          | inr s ↦ s
        ]);
    base_deep = b.base_deep;
    other_deep = up_deep other next other_depth p b.other_deep;
  }
    where
      higher : IsOver t root target other → IsOver t root target next
      higher (inl e) = absurd (none-some next (sym (root_parent t root l) ∙ ap (parent_of t) (sym e) ∙ p))
      higher (inr a) = inr (suc a.0, one_more t (suc a.0) target other next a.1 p)

  -- ---- how far up a key is

  pub counted_none : (key : Key) → IsTrue (is_linked t key) → IsCounted t key key 0
  counted_none key h = record { linked = h; met = refl }

  pub counted_more : (key current parent : Key) (steps : ℕ) → IsCounted t key current steps → parent_of t current ≡ Some parent → IsCounted t key parent (steps + 1)
  counted_more key current parent steps c p = record {
    linked = parent_linked t root l current parent p;
    met = (let e : steps + 1 ≡ suc steps = omega arith in ap (λ m. ancestor t m key) e ∙ one_more t steps key current parent c.met p);
  }

  pub counted_few : (key current : Key) (steps : ℕ) → IsCounted t key current steps → steps < length t
  counted_few key current steps c = (let r = linked_here t current c.linked in let w = root_met t root l r.0 r.1 in
      let s = way_shorter t root l (steps + w.0) key (climb_rest (parent_of t) steps w.0 key current c.met ∙ ap (ancestor t w.0) (sym r.2) ∙ w.1) in omega (arith, s))

  pub counted_all : (key current : Key) (steps : ℕ) → IsCounted t key current steps → parent_of t current ≡ None → IsDeep t root steps key
  counted_all key current steps c p = (let r = linked_here t current c.linked in
      c.met ∙ ap Some (sym r.2 ∙ l.one_root r.0 r.1 (sym (parent_known t r.0 r.1) ∙ ap (parent_of t) r.2 ∙ p)))

  -- ---- a way up, key by key

  pub way_step : (a b : Key) (n : ℕ) (key : Key) → ancestor t n key ≡ Some a → ancestor t (n + 1) key ≡ Some b → parent_of t a ≡ Some b
  way_step a b n key here next = (let f = first_step (parent_of t) 0 a b (sym (climb_rest (parent_of t) n 1 key a here) ∙ next) in f.1 ∙ f.2)

  -- the next key on the way is the directory of this one
  pub next_up : (key at next : Key) (way : List Key) (depth : ℕ) → IsWayUp t root key way → StandsAt way depth at → 0 < depth
      → ((d : Key) → next ≡ get_or way (length way - depth) d) → parent_of t at ≡ Some next
  next_up key at next way depth w stands some is =
      let i = length way - 1 - depth in
      let higher : length way - depth ≡ i + 1 = omega (arith, stands.0, some) in
      way_step at next i key (w.each i at (omega (arith, stands.0, some)) ∙ ap Some (stands.1 at))
      (w.each (i + 1) next (omega (arith, stands.0, some)) ∙ ap Some (sym (is next ∙ ap (λ n. get_or way n next) higher)))

  pub stands_next : (next : Key) (way : List Key) (depth : ℕ) → depth < length way → 0 < depth → ((d : Key) → next ≡ get_or way (length way - depth) d) → StandsAt way (depth - 1) next
  stands_next next way depth low some is = (
    omega (arith, low),
    λ d.
        let e : length way - 1 - (depth - 1) ≡ length way - depth = omega (arith, low, some) in
        ap (λ n. get_or way n d) e ∙ sym (is d),
  )

  pub stands_first : (key : Key) (way : List Key) → IsWayUp t root key way → StandsAt way (length way - 1) key
  stands_first key way w = (
    omega (arith, w.some),
    λ d.
        let e : length way - 1 - (length way - 1) ≡ 0 = omega arith in
        ap (λ n. get_or way n d) e ∙ same_Some _ key (sym (w.each 0 d w.some)),
  )

  -- ---- a way is looked up

  pub way_more : (key current : Key) (way new : List Key) (steps : ℕ) → IsWayTo t key way steps → IsCounted t key current steps → new ≡ way ++ current ∷ [] → IsWayTo t key new (steps + 1)
  way_more key current way new steps w c is = rw is (longer, each)
    where
      get_or_last : (xs : List Key) (x d : Key) → get_or (xs ++ x ∷ []) (length xs) d ≡ x
      get_or_last [] x d = refl
      get_or_last (y ∷ xs) x d = get_or_last xs x d

      longer : length (way ++ current ∷ []) ≡ steps + 1
      longer = length-append way (current ∷ []) ∙ ap (λ n. n + 1) w.0

      each : (i : ℕ) (d : Key) → i < length (way ++ current ∷ []) → ancestor t i key ≡ Some (get_or (way ++ current ∷ []) i d)
      each i d low = elim (cases_order i (length way)) [
        | inr (inl below) ↦ w.1 i d below ∙ ap Some (sym (get_or_append_left way (current ∷ []) d i below))
        | inr (inr above) ↦ absurd (omega (arith, low, above, longer, w.0))
        | inl last ↦ (let at : ancestor t i key ≡ Some current = ap (λ n. ancestor t n key) (last ∙ w.0) ∙ c.met in
            at ∙ ap Some (sym (ap (λ n. get_or (way ++ current ∷ []) n d) last ∙ get_or_last way current d)))
      ]

  pub way_whole : (key current : Key) (way : List Key) (steps : ℕ) → IsWayTo t key way (steps + 1) → IsDeep t root steps key → IsWayUp t root key way
  way_whole key current way steps w deep = record {
    some = omega (arith, w.0);
    each = w.1;
    ends = (let e : length way - 1 ≡ steps = omega (arith, w.0) in ap (λ n. ancestor t n key) e ∙ deep);
  }

  -- ---- both ways are looked up at once

  pub way_begins : (key : Key) → IsTrue (is_linked t key) → IsWayBefore t root key [] (Some key)
  way_begins key h = (counted_none key h, (refl, λ i d low. absurd (omega (arith, low))))

  pub way_goes_on : (key : Key) (way new : List Key) (at next : Option Key) → IsWayBefore t root key way at
      → new ≡ way ++ option_to_list at → next ≡ option_and_then (parent_of t) at → IsWayBefore t root key new next
  way_goes_on key way new None next w is above = rw (is, above, append-nil way) w
  way_goes_on key way new (Some current) next w is above = rw above (climbed (parent_of t current) refl)
    where
      longer : length new ≡ length way + 1
      longer = ap length is ∙ length-append way (current ∷ [])

      more : IsWayTo t key new (length way + 1)
      more = way_more key current way new (length way) w.1 w.0 is

      climbed : (up : Option Key) → parent_of t current ≡ up → IsWayBefore t root key new up
      climbed None p = way_whole key current new (length way) more (counted_all key current (length way) w.0 p)
      climbed (Some parent) p = subst (λ n. IsCounted t key parent n × IsWayTo t key new n) (sym longer) (counted_more key current parent (length way) w.0 p, more)

  pub fewer_up : (key : Key) (way new : List Key) (at next : Option Key) → IsWayBefore t root key way at
      → new ≡ way ++ option_to_list at → next ≡ option_and_then (parent_of t) at
      → (still_up t new next ≤ still_up t way at) × (IsTrue (is_some at) → still_up t new next < still_up t way at)
  fewer_up key way new None next w is above = rw above (omega arith, λ some. absurd (search rules))
  fewer_up key way new (Some current) next w is above = (omega (arith, fewer next), λ _. fewer next)
    where
      low : length way < length t
      low = counted_few key current (length way) w.0

      longer : length new ≡ length way + 1
      longer = ap length is ∙ length-append way (current ∷ [])

      fewer : (up : Option Key) → still_up t new up < still_up t way (Some current)
      fewer None = omega (arith, low)
      fewer (Some parent) = omega (arith, low, longer)
