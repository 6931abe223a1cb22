-- The names of live children are listed child by child.
use Rattle.std.proofs.Common.{◌≡◌, ◌⊎◌, inl, inr, ℕ, zero, suc, ◌+◌, ◌<◌, ◌≤◌, refl, ap, arith, sym, ◌∙◌, subst, Bool, true, false, cond, List, [], ◌∷◌, ◌++◌, length, length-append, append_assoc, append-nil, ◌-◌, take, lit<}
use Rattle.std.specs.Prelude.{Option, None, Some, slice_get, All, AllPairs, Contains, ◌&&◌, IsTrue, IsSomeAnd}
use Rattle.std.specs.List.{find as first}
use Rattle.std.specs.Str.{bytes_eq}
use Rattle.std.specs.Option.{option_and_then}
use Rattle.std.proofs.lemmas.Option.{same_Some, none-some}
use Rattle.std.proofs.lemmas.Slice.Eq.{bytes_eq-Decides}
use Rattle.std.proofs.lemmas.List.Elements.{Contains-append_left, Contains-append_right, All-append}
use Rattle.kf_core.specs.declared.key.Key.{Key}
use Rattle.kf_core.specs.declared.records.Record.{Record}
use Rattle.kf_core.specs.Tree.{Tree, IsIn}
use Rattle.kf_core.specs.Lawful.{Lawful}
use Rattle.kf_table.specs.Children.{is_key, is_under, child}
use Rattle.kf_table.specs.Live.{lives, lives_in, live_in}
use Rattle.kf_core.specs.Names.{IsBefore}
use Rattle.kf_index.specs.Entries.{IsAbove}
use Rattle.kf_tree.specs.Listing.{IsListed, IsListing, live_names}
use Rattle.kf_table.specs.Next.{before, above, IsNext, NoneAbove, AreNext}
use Rattle.kf_core.proofs.FoundRecords.{same_record, in_found}
use Rattle.kf_table.proofs.ChildTests.{some_first, is_key_self, both, key_is}
use Rattle.kf_tree.proofs.Next.{before_less, less_before, before_not_self, before_trans, before_ties}
use Rattle.kf_tree.proofs.PostOrder.{pairs_append, still_not, is_before}

-- the first item of a list that passes a test has a place there
first_place : {X : Type 0} (p : X → Bool) (xs : List X) (y : X) → first p xs ≡ Some y → (i : ℕ) × (slice_get xs i ≡ Some y) × (p y ≡ true)
first_place p [] y h = absurd (none-some y h)
first_place p (x ∷ xs) y h = elim (p x) as (λ b. p x ≡ b → cond b (Some x) (first p xs) ≡ Some y → (i : ℕ) × (slice_get (x ∷ xs) i ≡ Some y) × (p y ≡ true)) [
  | true ↦ λ e g. (zero, g, ap p (sym (same_Some x y g)) ∙ e)
  | false ↦ λ e g. (let r = first_place p xs y g in (suc r.0, r.1, r.2))
] refl h

-- what `child` finds is a child of that name
pub child_is : (t : Tree) (root dir : Key) (name : List ℕ) (r : Record) → Lawful t root → child t dir name ≡ Some r → (IsIn t r) × (r.parent ≡ Some dir) × (r.name ≡ name)
child_is t root dir name r l h = elim (first (is_under dir (λ (r : Record). bytes_eq r.name name)) t) as (λ o. first (is_under dir (λ (r : Record). bytes_eq r.name name)) t ≡ o → option_and_then (λ place. place) o ≡ Some r → (IsIn t r) × (r.parent ≡ Some dir) × (r.name ≡ name)) [
  | None ↦ λ e g. absurd (none-some r g)
  | Some place ↦ λ e g. (let f = first_place (is_under dir (λ (r : Record). bytes_eq r.name name)) t place e in
      let passes : is_under dir (λ (r : Record). bytes_eq r.name name) (Some r) ≡ true = ap (is_under dir (λ (r : Record). bytes_eq r.name name)) (sym g) ∙ f.2 in
      let at : slice_get t f.0 ≡ Some (Some r) = f.1 ∙ ap Some g in
      let parts = both (is_key dir r.parent) (bytes_eq r.name name) passes in
      (ap (slice_get t) (l.in_place f.0 r at) ∙ at, key_is dir r.parent parts.0, (bytes_eq-Decides r.name name).0 parts.1))
] refl h

-- a child is found by its name
pub child_known : (t : Tree) (root dir : Key) (c : Record) → Lawful t root → IsIn t c → c.parent ≡ Some dir → child t dir c.name ≡ Some c
child_known t root dir c l i p =
    (let passes : is_under dir (λ (r : Record). bytes_eq r.name c.name) (Some c) ≡ true = ap (λ b. b && bytes_eq c.name c.name) (is_key_self dir c.parent p) ∙ (bytes_eq-Decides c.name c.name).1 refl in
    let f = some_first (is_under dir (λ (r : Record). bytes_eq r.name c.name)) t c.key.slot (Some c) i passes in
    elim f.0 as (λ o. first (is_under dir (λ (r : Record). bytes_eq r.name c.name)) t ≡ Some o → is_under dir (λ (r : Record). bytes_eq r.name c.name) o ≡ true → child t dir c.name ≡ Some c) [
      | None ↦ λ e b. absurd (let x : false ≡ true = b in cc)
      | Some r ↦ λ e b. (let is : child t dir c.name ≡ Some r = ap (λ o. option_and_then (λ place. place) o) e in
          let k = child_is t root dir c.name r l is in
          is ∙ ap Some (same_record t r c k.0 i (l.siblings r c k.0 i (k.1 ∙ sym p) k.2)))
    ] f.1 f.2)

above_is : (bound : Option (List ℕ)) (name : List ℕ) → above bound name ≡ true → IsAbove bound name
above_is None name h = tt
above_is (Some b) name h = before_less b name h

is_above : (bound : Option (List ℕ)) (name : List ℕ) → IsAbove bound name → above bound name ≡ true
is_above None name h = refl
is_above (Some b) name h = less_before b name h

above_up : (bound : Option (List ℕ)) (c x : List ℕ) → above bound c ≡ true → before c x ≡ true → above bound x ≡ true
above_up None c x a b = refl
above_up (Some low) c x a b = before_trans low c x a b

listed_live : (o : Option Record) (c : Record) → o ≡ Some c → IsSomeAnd o (λ r. IsTrue (lives r)) → lives c ≡ true
listed_live o c e h = (let g = subst (λ x. IsSomeAnd x (λ (r : Record). IsTrue (lives r))) e h in g)

live_listed : (o : Option Record) (c : Record) → o ≡ Some c → lives c ≡ true → IsSomeAnd o (λ r. IsTrue (lives r))
live_listed o c e h = subst (λ x. IsSomeAnd x (λ (r : Record). IsTrue (lives r))) (sym e) h

listed_child : (t : Tree) (root dir : Key) (bound : Option (List ℕ)) (name : List ℕ) → Lawful t root → IsListed t dir bound name → (r : Record) × (child t dir name ≡ Some r) × (IsIn t r) × (r.parent ≡ Some dir) × (r.name ≡ name)
listed_child t root dir bound name l h = elim (child t dir name) as (λ o. child t dir name ≡ o → IsSomeAnd o (λ r. IsTrue (lives r)) → (r : Record) × (child t dir name ≡ Some r) × (IsIn t r) × (r.parent ≡ Some dir) × (r.name ≡ name)) [
  | None ↦ λ e g. absurd g
  | Some r ↦ λ e g. (let k = child_is t root dir name r l e in (r, e, k.0, k.1, k.2))
] refl h.live_child

-- the listed names that are not above the bound
pub record IsListedTo (t : Tree) (dir : Key) (after bound : Option (List ℕ)) (limit : ℕ) (names : List (List ℕ)) : Type 0 where
  pub listed : All (IsListed t dir after) names
  pub in_order : AllPairs IsBefore names
  pub few : length names ≤ limit
  pub passed : All (λ name. above bound name ≡ false) names
  pub all : (name : List ℕ) → IsListed t dir after name → above bound name ≡ false → Contains names name
  pub up : (x : List ℕ) → above bound x ≡ true → above after x ≡ true

pub listed_none : (t : Tree) (dir : Key) (after : Option (List ℕ)) (limit : ℕ) (names : List (List ℕ)) → names ≡ [] → IsListedTo t dir after after limit names
listed_none t dir after limit names e = subst (IsListedTo t dir after after limit) (sym e) (record {
  listed = λ k d h. absurd (omega arith);
  in_order = λ i j d h g. absurd (omega arith);
  few = omega arith;
  passed = λ k d h. absurd (omega arith);
  all = λ name h a. absurd (let x : true ≡ false = sym (is_above after name h.above) ∙ a in cc);
  up = λ x a. a;
})

one : {X : Type 0} (P : X → Type 0) (y : X) → P y → All P (y ∷ [])
one P y p zero d h = p
one P y p (suc k) d h = absurd (omega arith)

listed_next : (t : Tree) (root dir : Key) (l : Lawful t root) (after bound : Option (List ℕ)) (limit : ℕ) (names new : List (List ℕ)) (c : Record) (name : List ℕ) → name ≡ c.name → IsNext t dir bound c →
    length names < limit → IsListedTo t dir after bound limit names → new ≡ cond (lives c) (names ++ c.name ∷ []) names → IsListedTo t dir after (Some name) limit new
listed_next t root dir l after bound limit names new c name same n room f pushed =
    subst (λ x. IsListedTo t dir after (Some x) limit new) (sym same) (subst (IsListedTo t dir after (Some c.name) limit) (sym pushed)
    (elim (lives c) as (λ b. lives c ≡ b → IsListedTo t dir after (Some c.name) limit (cond b (names ++ c.name ∷ []) names)) [
      | true ↦ λ e. record {
        listed = All-append (IsListed t dir after) names (c.name ∷ []) f.listed (one (IsListed t dir after) c.name (record {
          live_child = live_listed (child t dir c.name) c known e;
          above = above_is after c.name (f.up c.name n.is_above);
        }));
        in_order = pairs_append IsBefore names (c.name ∷ []) f.in_order (λ i j d h g. absurd (let g' : j < 1 = g in omega arith)) (λ x y h g.
            subst (λ z. IsBefore x z) (only c.name y g) (before_less x c.name (is_before bound x c.name (not_above x h) n.is_above)));
        few = (let e' : length (names ++ c.name ∷ []) ≡ length names + 1 = length-append names (c.name ∷ []) in omega arith);
        passed = All-append (λ x. before c.name x ≡ false) names (c.name ∷ []) below (one (λ x. before c.name x ≡ false) c.name (before_not_self c.name));
        all = λ x h a. elim (above bound x) as (λ b. above bound x ≡ b → Contains (names ++ c.name ∷ []) x) [
          | true ↦ λ u. Contains-append_right names (c.name ∷ []) x (0, lit< tt, sym (is_c x h a u))
          | false ↦ λ u. Contains-append_left names (c.name ∷ []) x (f.all x h u)
        ] refl;
        up = λ x a. f.up x (above_up bound c.name x n.is_above a);
      }
      | false ↦ λ e. record {
        listed = f.listed;
        in_order = f.in_order;
        few = f.few;
        passed = below;
        all = λ x h a. elim (above bound x) as (λ b. above bound x ≡ b → Contains names x) [
          | true ↦ λ u. absurd (let live : lives c ≡ true = listed_live (child t dir x) c (ap (child t dir) (is_c x h a u) ∙ known) h.live_child in
              let no : true ≡ false = sym live ∙ e in cc)
          | false ↦ λ u. f.all x h u
        ] refl;
        up = λ x a. f.up x (above_up bound c.name x n.is_above a);
      }
    ] refl))
  where
    known : child t dir c.name ≡ Some c
    known = child_known t root dir c l n.is_in n.parent

    only : (a b : List ℕ) → Contains (a ∷ []) b → a ≡ b
    only a b (zero, h, e) = e
    only a b (suc k, h, e) = absurd (omega arith)

    not_above : (x : List ℕ) → Contains names x → above bound x ≡ false
    not_above x h = ap (above bound) (sym h.2) ∙ f.passed h.0 x h.1

    below : All (λ x. before c.name x ≡ false) names
    below k d h = still_not bound _ c.name (f.passed k d h) n.is_above

    is_c : (x : List ℕ) → IsListed t dir after x → before c.name x ≡ false → above bound x ≡ true → x ≡ c.name
    is_c x h a u = (let r = listed_child t root dir after x l h in
        before_ties x c.name (ap (λ y. before y c.name) (sym r.4) ∙ n.least r.0 r.2 r.3 (ap (above bound) r.4 ∙ u)) a)

listing_full : (t : Tree) (dir : Key) (after bound : Option (List ℕ)) (limit : ℕ) (names : List (List ℕ)) → limit ≤ length names → IsListedTo t dir after bound limit names → IsListing t dir after limit names
listing_full t dir after bound limit names full f = record {
  listed = f.listed;
  in_order = f.in_order;
  few = f.few;
  first = λ name h. elim (above bound name) as (λ b. above bound name ≡ b → Contains names name ⊎ ((length names ≡ limit) × All (λ shown. IsBefore shown name) names)) [
    | true ↦ λ a. inr ((let w = f.few in omega arith), λ k d i. before_less _ name (is_before bound _ name (f.passed k d i) a))
    | false ↦ λ a. inl (f.all name h a)
  ] refl;
}

listing_whole : (t : Tree) (root dir : Key) (l : Lawful t root) (after bound : Option (List ℕ)) (limit : ℕ) (names : List (List ℕ)) → NoneAbove t dir bound → IsListedTo t dir after bound limit names → IsListing t dir after limit names
listing_whole t root dir l after bound limit names none f = record {
  listed = f.listed;
  in_order = f.in_order;
  few = f.few;
  first = λ name h. (let r = listed_child t root dir after name l h in
      inl (f.all name h (ap (above bound) (sym r.4) ∙ none r.0 r.2 r.3)));
}

-- what has been listed when these children are left
pub record IsListedSoFar (t : Tree) (dir : Key) (after : Option (List ℕ)) (limit : ℕ) (names : List (List ℕ)) (later : List (List ℕ × Key)) : Type 0 where
  pub bound : Option (List ℕ)
  pub so_far : IsListedTo t dir after bound limit names
  pub left : AreNext t dir bound later

pub listed_more : (t : Tree) (root dir : Key) → Lawful t root → (after : Option (List ℕ)) (limit : ℕ) (names new : List (List ℕ)) (entry : List ℕ × Key) (later : List (List ℕ × Key)) → length names < limit →
    IsListedSoFar t dir after limit names (entry ∷ later) → new ≡ cond (live_in t entry.1) (names ++ entry.0 ∷ []) names → IsListedSoFar t dir after limit new later
unfolding AreNext
listed_more t root dir l after limit names new entry later room f pushed =
    (let n = f.left.0 in
    let live : live_in t entry.1 ≡ lives n.0 = ap (live_in t) (sym n.3) ∙ ap lives_in (in_found t n.0 n.1.is_in) in
    let pushed' : new ≡ cond (lives n.0) (names ++ n.0.name ∷ []) names = pushed ∙ ap (λ b. cond b (names ++ entry.0 ∷ []) names) live ∙ ap (λ x. cond (lives n.0) (names ++ x ∷ []) names) (sym n.2) in
    record {
      bound = Some entry.0;
      so_far = listed_next t root dir l after f.bound limit names new n.0 entry.0 (sym n.2) n.1 room f.so_far pushed';
      left = f.left.1;
    })

pub listed_up_to : (t : Tree) (dir : Key) (after : Option (List ℕ)) (limit : ℕ) (names : List (List ℕ)) (later : List (List ℕ × Key)) → limit ≤ length names → IsListedSoFar t dir after limit names later → IsListing t dir after limit names
listed_up_to t dir after limit names later full f = listing_full t dir after f.bound limit names full f.so_far

pub listed_all : (t : Tree) (root dir : Key) → Lawful t root → (after : Option (List ℕ)) (limit : ℕ) (names : List (List ℕ)) → IsListedSoFar t dir after limit names [] → IsListing t dir after limit names
unfolding AreNext
listed_all t root dir l after limit names f = listing_whole t root dir l after f.bound limit names f.left f.so_far

-- a live child's name comes next if the limit allows one more
pub live_next : (t : Tree) (limit less : ℕ) (entry : List ℕ × Key) (later : List (List ℕ × Key)) → limit ≡ less + 1 → live_in t entry.1 ≡ true
    → take limit (live_names t (entry ∷ later)) ≡ entry.0 ∷ take less (live_names t later)
unfolding live_names
live_next t zero less entry later some live = absurd (omega (arith, some))
live_next t (suc n) less entry later some live = let same : n ≡ less = omega (arith, some) in rw (live, same) refl

pub not_live_next : (t : Tree) (entry : List ℕ × Key) (later : List (List ℕ × Key)) → live_in t entry.1 ≡ false → live_names t (entry ∷ later) ≡ live_names t later
unfolding live_names
not_live_next t entry later dead = rw dead refl

pub live_of_none : (t : Tree) (limit : ℕ) → take limit (live_names t []) ≡ []
unfolding live_names
live_of_none t zero = refl
live_of_none t (suc n) = refl

-- the names so far, and those of the live children that are left, make up the listing
listing_on : (t : Tree) (root dir : Key) → Lawful t root → (after : Option (List ℕ)) (limit n : ℕ) (names : List (List ℕ)) (later : List (List ℕ × Key)) → n ≡ limit - length names
    → IsListedSoFar t dir after limit names later → IsListing t dir after limit (names ++ take n (live_names t later))
unfolding live_names
listing_on t root dir l after limit zero names later e f = rw (append-nil names) (listed_up_to t dir after limit names later (omega (arith, e)) f)
listing_on t root dir l after limit (suc n) names [] e f = rw (append-nil names) (listed_all t root dir l after limit names f)
listing_on t root dir l after limit (suc n) names (entry ∷ later) e f = elim (live_in t entry.1) as (λ b. live_in t entry.1 ≡ b → IsListing t dir after limit (names ++ take (suc n) (cond b (entry.0 ∷ live_names t later) (live_names t later)))) [
  | true ↦ λ h. subst (IsListing t dir after limit) (append_assoc names (entry.0 ∷ []) (take n (live_names t later)))
      (listing_on t root dir l after limit n (names ++ entry.0 ∷ []) later (let longer = length-append names (entry.0 ∷ []) in omega (arith, e, longer))
      (listed_more t root dir l after limit names _ entry later (omega (arith, e)) f (sym (ap (λ b. cond b (names ++ entry.0 ∷ []) names) h))))
  | false ↦ λ h. listing_on t root dir l after limit (suc n) names later e (listed_more t root dir l after limit names names entry later (omega (arith, e)) f (sym (ap (λ b. cond b (names ++ entry.0 ∷ []) names) h)))
] refl

pub listing_of : (t : Tree) (root dir : Key) → Lawful t root → (after : Option (List ℕ)) (limit : ℕ) (later : List (List ℕ × Key)) → AreNext t dir after later
    → IsListing t dir after limit (take limit (live_names t later))
listing_of t root dir l after limit later next = listing_on t root dir l after limit limit [] later (omega arith) (record {
  bound = after;
  so_far = listed_none t dir after limit [] refl;
  left = next;
})
