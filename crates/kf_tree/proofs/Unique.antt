-- A request has only one listing, a subtree only one post-order, and a tree only one canonical list.
use Rattle.std.proofs.Common.{◌≡◌, ◌≢◌, ◌⊎◌, inl, inr, ℕ, zero, suc, ◌+◌, ◌-◌, ◌<◌, refl, ap, arith, sym, ◌∙◌, subst, List, [], ◌∷◌, ◌++◌}
use Rattle.std.specs.Prelude.{Option, None, Some, AllPairs, Contains, IsTrue}
use Rattle.std.proofs.lemmas.Cmp.{nat_list_cmp_total}
use Rattle.std.proofs.lemmas.Option.{same_Some}
use Rattle.kf_core.specs.declared.key.Key.{Key}
use Rattle.kf_core.specs.declared.records.Record.{Record}
use Rattle.kf_core.specs.Names.{IsBefore}
use Rattle.kf_core.specs.Tree.{Tree, is_linked, parent_of, ancestor, in_subtree, IsIn}
use Rattle.kf_core.specs.Lawful.{Lawful}
use Rattle.kf_core.specs.PostOrder.{AreApart, StandsBefore, IsPostOrder}
use Rattle.kf_index.specs.Entries.{IsAbove}
use Rattle.kf_tree.specs.Listing.{IsListing}
use Rattle.kf_tree.specs.Canonical.{Precedes, IsPreOrder, IsCanonical, collected, create_of, doom_of, hide_of}
use Rattle.kf_core.specs.declared.command.Command.{Command}
use Rattle.kf_core.proofs.Climbs.{first_step, after_step, climb_rest, climb_cut, climb_unique, no_return}
use Rattle.kf_tree.proofs.Next.{less_before, before_not_self, before_not_back}
use Rattle.kf_tree.proofs.Over.{one_more}
use Rattle.kf_core.proofs.FoundRecords.{linked_here, found_in, parent_known, root_parent, root_met, same_record, subtree_to}

-- ---- lists in order

module _ {X : Type 0} (R : X → X → Type 0) where
  pub first_before : (x : X) (xs : List X) → AllPairs R (x ∷ xs) → (z : X) → Contains xs z → R x z
  first_before x xs p z h = subst (R x) h.2 (p 0 (suc h.0) z (omega arith) (let l = h.1 in omega (arith, l)))

  pub later_pairs : (x : X) (xs : List X) → AllPairs R (x ∷ xs) → AllPairs R xs
  later_pairs x xs p = λ i j d l h. p (suc i) (suc j) d (omega (arith, l)) (omega (arith, h))

  pub here_or_later : (y : X) (ys : List X) (x : X) → Contains (y ∷ ys) x → (y ≡ x) ⊎ Contains ys x
  here_or_later y ys x (zero, l, e) = inl e
  here_or_later y ys x (suc k, l, e) = inr (k, omega (arith, l), e)

  pub still_later : (y : X) (ys : List X) (x : X) → Contains ys x → Contains (y ∷ ys) x
  still_later y ys x h = (suc h.0, (let l = h.1 in omega (arith, l)), h.2)

  pub itself_first : (y : X) (ys : List X) → Contains (y ∷ ys) y
  itself_first y ys = (0, omega arith, refl)

  -- two lists of the same items in the same strict order are the same list
  pub one_order : (xs ys : List X) → ((x : X) → Contains xs x → R x x → ⊥) → ((x y : X) → Contains xs x → Contains xs y → R x y → R y x → ⊥) →
      AllPairs R xs → AllPairs R ys → ((x : X) → Contains xs x → Contains ys x) → ((x : X) → Contains ys x → Contains xs x) → xs ≡ ys
  one_order [] [] irr asym p q to from = refl
  one_order [] (y ∷ ys) irr asym p q to from = absurd (let h = from y (itself_first y ys) in let l = h.1 in omega (arith, l))
  one_order (x ∷ xs) [] irr asym p q to from = absurd (let h = to x (itself_first x xs) in let l = h.1 in omega (arith, l))
  one_order (x ∷ xs) (y ∷ ys) irr asym p q to from =
      (let same : y ≡ x = elim (here_or_later y ys x (to x (itself_first x xs))) [
        | inl e ↦ e
        | inr later ↦ elim (here_or_later x xs y (from y (itself_first y ys))) [
          | inl e ↦ sym e
          | inr there ↦ absurd (asym x y (itself_first x xs) (still_later x xs y there) (first_before x xs p y there) (first_before y ys q x later))
        ]
      ] in
      let rest = one_order xs ys (λ z h. irr z (still_later x xs z h)) (λ z w h g. asym z w (still_later x xs z h) (still_later x xs w g)) (later_pairs x xs p) (later_pairs y ys q)
      (λ z h. elim (here_or_later y ys z (to z (still_later x xs z h))) [
        | inl e ↦ absurd (irr x (itself_first x xs) (subst (R x) (sym e ∙ same) (first_before x xs p z h)))
        | inr g ↦ g
      ])
      (λ z h. elim (here_or_later x xs z (from z (still_later y ys z h))) [
        | inl e ↦ absurd (irr x (itself_first x xs) (subst (λ v. R v x) same (subst (R y) (sym e) (first_before y ys q z h))))
        | inr g ↦ g
      ]) in
      ap (λ v. v ∷ xs) (sym same) ∙ ap (λ vs. y ∷ vs) rest)

-- ---- listings

before_self : (a : List ℕ) → IsBefore a a → ⊥
before_self a h = (let x = less_before a a h in let y = before_not_self a in cc (x, y))

before_back : (a b : List ℕ) → IsBefore a b → IsBefore b a → ⊥
before_back a b h g = (let x = before_not_back a b (less_before a b h) in let y = less_before b a g in cc (x, y))

module _ (t : Tree) (dir : Key) where
  above_through : (bound : Option (List ℕ)) (x name : List ℕ) → IsAbove bound x → IsBefore x name → IsAbove bound name
  above_through None x name a b = tt
  above_through (Some low) x name a b = nat_list_cmp_total.trans low x name a b

  -- the names after the first are the listing above it
  later_listing : (bound : Option (List ℕ)) (limit : ℕ) (x : List ℕ) (xs : List (List ℕ)) → IsListing t dir bound limit (x ∷ xs) → IsListing t dir (Some x) (limit - 1) xs
  later_listing bound limit x xs l = record {
    listed = λ k d h. record {
      live_child = (l.listed (suc k) d (omega (arith, h))).live_child;
      above = l.in_order 0 (suc k) d (omega arith) (omega (arith, h));
    };
    in_order = later_pairs IsBefore x xs l.in_order;
    few = (let f = l.few in omega (arith, f));
    first = λ name h. elim (l.first name (record { live_child = h.live_child; above = above_through bound x name ((l.listed 0 x (omega arith)).above) h.above })) [
      | inl c ↦ elim (here_or_later IsBefore x xs name c) [ inl e ↦ absurd (before_self x (subst (IsBefore x) (sym e) h.above)) | inr g ↦ inl g ]
      | inr full ↦ inr ((let e = full.0 in omega (arith, e)), λ k d g. full.1 (suc k) d (omega (arith, g)))
    ];
  }

  -- if a listing begins with a name, any other of the same request begins with that name or one before it
  not_empty : (bound : Option (List ℕ)) (limit : ℕ) (x : List ℕ) (xs : List (List ℕ)) → IsListing t dir bound limit (x ∷ xs) → IsListing t dir bound limit [] → ⊥
  not_empty bound limit x xs l none = elim (none.first x (l.listed 0 x (omega arith))) [
    | inl c ↦ (let h = c.1 in omega (arith, h))
    | inr full ↦ (let e = full.0 in let f = l.few in omega (arith, e, f))
  ]

  first_or_before : (bound : Option (List ℕ)) (limit : ℕ) (x y : List ℕ) (xs ys : List (List ℕ)) → IsListing t dir bound limit (x ∷ xs) → IsListing t dir bound limit (y ∷ ys) → (y ≡ x) ⊎ IsBefore y x
  first_or_before bound limit x y xs ys l m = elim (m.first x (l.listed 0 x (omega arith))) [
    | inl c ↦ elim (here_or_later IsBefore y ys x c) [ inl e ↦ inl e | inr g ↦ inr (first_before IsBefore y ys m.in_order x g) ]
    | inr full ↦ inr (full.1 0 x (omega arith))
  ]

  pub one_listing : (bound : Option (List ℕ)) (limit : ℕ) (a b : List (List ℕ)) → IsListing t dir bound limit a → IsListing t dir bound limit b → a ≡ b
  one_listing bound limit [] [] l m = refl
  one_listing bound limit [] (y ∷ ys) l m = absurd (not_empty bound limit y ys m l)
  one_listing bound limit (x ∷ xs) [] l m = absurd (not_empty bound limit x xs l m)
  one_listing bound limit (x ∷ xs) (y ∷ ys) l m =
      (let same : y ≡ x = elim (first_or_before bound limit x y xs ys l m) [
        | inl e ↦ e
        | inr h ↦ elim (first_or_before bound limit y x ys xs m l) [ inl e ↦ sym e | inr g ↦ absurd (before_back y x h g) ]
      ] in
      let rest = one_listing (Some x) (limit - 1) xs ys (later_listing bound limit x xs l) (subst (λ z. IsListing t dir (Some z) (limit - 1) ys) same (later_listing bound limit y ys m)) in
      ap (λ v. v ∷ xs) (sym same) ∙ ap (λ vs. y ∷ vs) rest)

-- ---- post-orders

pub compared : (x y : ℕ) → (x ≡ y) ⊎ ((x < y) ⊎ (y < x))
compared zero zero = inl refl
compared zero (suc y) = inr (inl (omega arith))
compared (suc x) zero = inr (inr (omega arith))
compared (suc x) (suc y) = elim (compared x y) [ inl e ↦ inl (ap suc e) | inr (inl h) ↦ inr (inl (omega (arith, h))) | inr (inr h) ↦ inr (inr (omega (arith, h))) ]

module _ (t : Tree) (root : Key) (l : Lawful t root) where
  -- this many steps up from one key lead to the other
  abbrev pub IsOverBy : ℕ → Key → Key → Type 0
  IsOverBy n over key = ancestor t n key ≡ Some over

  -- two siblings over the same key have the same key
  pub siblings_meet : (r s : Record) (n m : ℕ) (key : Key) → IsIn t r → IsIn t s → r.parent ≡ s.parent → IsOverBy n r.key key → IsOverBy m s.key key → r.key ≡ s.key
  siblings_meet r s n m key i j same up_r up_s = go r.parent refl
    where
      go : (o : Option Key) → r.parent ≡ o → r.key ≡ s.key
      go None e = l.one_root r i e ∙ sym (l.one_root s j (sym same ∙ e))
      go (Some p) e =
          (let d = l.in_directory r p i e in
          let f = found_in t p d.dir d.known in
          let way = root_met t root l d.dir f.0 in
          let up : ancestor t way.0 p ≡ Some root = ap (ancestor t way.0) (sym f.1) ∙ way.1 in
          let over_r = climb_rest (parent_of t) (suc n) way.0 key p (one_more t n key r.key p up_r (parent_known t r i ∙ e)) ∙ up in
          let over_s = climb_rest (parent_of t) (suc m) way.0 key p (one_more t m key s.key p up_s (parent_known t s j ∙ sym same ∙ e)) ∙ up in
          let steps : suc n + way.0 ≡ suc m + way.0 = climb_unique (parent_of t) root (root_parent t root l) (suc n + way.0) (suc m + way.0) key over_r over_s in
          let level : n ≡ m = omega (arith, steps) in
          same_Some r.key s.key (sym up_r ∙ ap (λ k. ancestor t k key) level ∙ up_s))

  -- of two siblings over the same key, neither is before the other
  siblings_tied : (r s : Record) (n m : ℕ) (key : Key) → IsIn t r → IsIn t s → r.parent ≡ s.parent → IsBefore r.name s.name → IsOverBy n r.key key → IsOverBy m s.key key → ⊥
  siblings_tied r s n m key i j same order up_r up_s =
      before_self r.name (subst (λ (x : Record). IsBefore r.name x.name) (sym (same_record t r s i j (siblings_meet r s n m key i j same up_r up_s))) order)

  steps_to : (top key : Key) → IsTrue (in_subtree t top key) → (n : ℕ) × IsOverBy n top key
  steps_to top key h = subtree_to t root l top key h

  -- if b is n steps above a, and c is m steps above b, then c is n + m steps above a
  over_through : (n m : ℕ) (a b c : Key) → IsOverBy n b a → IsOverBy m c b → IsOverBy (n + m) c a
  over_through n m a b c h g = climb_rest (parent_of t) n m a b h ∙ g

  not_before_itself : (a : Key) → StandsBefore t a a → ⊥
  not_before_itself a (inl h) = h.1 refl
  not_before_itself a (inr p) = (let n = steps_to p.first.key a p.over_a in let m = steps_to p.second.key a p.over_b in
      siblings_tied p.first p.second n.0 m.0 a p.first_in p.second_in p.siblings p.order n.1 m.1)

  no_cycle : (a b : Key) (n m : ℕ) → IsTrue (is_linked t a) → a ≢ b → IsOverBy n b a → IsOverBy m a b → ⊥
  no_cycle a b zero m linked other h g = other (same_Some a b h)
  no_cycle a b (suc n) m linked other h g =
      (let r = linked_here t a linked in
      let w = root_met t root l r.0 r.1 in
      let round : ancestor t (suc (n + m)) a ≡ Some a = (let e : suc (n + m) ≡ suc n + m = omega arith in ap (λ k. ancestor t k a) e) ∙ over_through (suc n) m a b a h g in
      no_return (parent_of t) root (root_parent t root l) w.0 (n + m) a (ap (ancestor t w.0) (sym r.2) ∙ w.1) round)

  -- two pairs of siblings cannot put the same two keys in opposite orders
  crossed : (f s f' s' : Record) (n m n' m' : ℕ) (a b : Key) → IsIn t f → IsIn t s → IsIn t f' → IsIn t s' → f.parent ≡ s.parent → f'.parent ≡ s'.parent → IsBefore f.name s.name → IsBefore f'.name s'.name →
      IsOverBy n f.key a → IsOverBy m s.key b → IsOverBy n' f'.key b → IsOverBy m' s'.key a → ⊥
  crossed f s f' s' n m n' m' a b fi si fi' si' same same' order order' fa sb f'b s'a = elim (compared n m') [
    | inl e ↦ (let level : f.key ≡ s'.key = same_Some f.key s'.key (sym fa ∙ ap (λ k. ancestor t k a) e ∙ s'a) in
        let first_is : f ≡ s' = same_record t f s' fi si' level in
        let meet = siblings_meet s f' m n' b si fi' (sym same ∙ ap (λ (x : Record). x.parent) first_is ∙ sym same') sb f'b in
        let second_is : s ≡ f' = same_record t s f' si fi' meet in
        before_back f.name s.name order (subst (λ (x : Record). IsBefore x.name f.name) (sym second_is) (subst (λ (x : Record). IsBefore f'.name x.name) (sym first_is) order')))
    | inr (inl below) ↦ (let k = m' - n - 1 in
        let parts : m' ≡ n + suc k = omega (arith, below) in
        let above = climb_cut (parent_of t) n (suc k) a s'.key (ap (λ j. ancestor t j a) (sym parts) ∙ s'a) in
        let at : above.0 ≡ f.key = same_Some above.0 f.key (sym above.1 ∙ fa) in
        let up : IsOverBy (suc k) s'.key s.key = beside f s fi si same k s'.key (ap (ancestor t (suc k)) (sym at) ∙ above.2) in
        siblings_tied f' s' n' (m + suc k) b fi' si' same' order' f'b (over_through m (suc k) b s.key s'.key sb up))
    | inr (inr below) ↦ (let k = n - m' - 1 in
        let parts : n ≡ m' + suc k = omega (arith, below) in
        let above = climb_cut (parent_of t) m' (suc k) a f.key (ap (λ j. ancestor t j a) (sym parts) ∙ fa) in
        let at : above.0 ≡ s'.key = same_Some above.0 s'.key (sym above.1 ∙ s'a) in
        let up : IsOverBy (suc k) f.key f'.key = beside s' f' si' fi' (sym same') k f.key (ap (ancestor t (suc k)) (sym at) ∙ above.2) in
        siblings_tied f s (n' + suc k) m b fi si same order (over_through n' (suc k) b f'.key f.key f'b up) sb)
  ]
    where
      -- what is over a record, and is not the record itself, is over its siblings
      beside : (r q : Record) → IsIn t r → IsIn t q → r.parent ≡ q.parent → (k : ℕ) (top : Key) → IsOverBy (suc k) top r.key → IsOverBy (suc k) top q.key
      beside r q i j e k top h = (let g = first_step (parent_of t) k r.key top h in
          after_step (parent_of t) k q.key g.0 (parent_known t q j ∙ sym e ∙ sym (parent_known t r i) ∙ g.1) ∙ g.2)

  not_both : (a b : Key) → IsTrue (is_linked t a) → IsTrue (is_linked t b) → StandsBefore t a b → StandsBefore t b a → ⊥
  not_both a b la lb (inl h) (inl g) = (let n = steps_to b a h.0 in let m = steps_to a b g.0 in no_cycle a b n.0 m.0 la h.1 n.1 m.1)
  not_both a b la lb (inl h) (inr p) = (let n = steps_to b a h.0 in let f = steps_to p.first.key b p.over_a in let s = steps_to p.second.key a p.over_b in
      siblings_tied p.first p.second (n.0 + f.0) s.0 a p.first_in p.second_in p.siblings p.order (over_through n.0 f.0 a b p.first.key n.1 f.1) s.1)
  not_both a b la lb (inr p) (inl g) = (let m = steps_to a b g.0 in let f = steps_to p.first.key a p.over_a in let s = steps_to p.second.key b p.over_b in
      siblings_tied p.first p.second (m.0 + f.0) s.0 b p.first_in p.second_in p.siblings p.order (over_through m.0 f.0 b a p.first.key m.1 f.1) s.1)
  not_both a b la lb (inr p) (inr q) = (let f = steps_to p.first.key a p.over_a in let s = steps_to p.second.key b p.over_b in
      let f' = steps_to q.first.key b q.over_a in let s' = steps_to q.second.key a q.over_b in
      crossed p.first p.second q.first q.second f.0 s.0 f'.0 s'.0 a b p.first_in p.second_in q.first_in q.second_in p.siblings q.siblings p.order q.order f.1 s.1 f'.1 s'.1)

  pub one_post_order : (top : Key) (a b : List Key) → IsPostOrder t top a → IsPostOrder t top b → a ≡ b
  one_post_order top a b p q = one_order (StandsBefore t) a b
      (λ x h. not_before_itself x)
      (λ x y h g. not_both x y ((p.members x).0 h).0 ((p.members y).0 g).0)
      p.ordered q.ordered
      (λ x h. (q.members x).1 ((p.members x).0 h))
      (λ x h. (p.members x).1 ((q.members x).0 h))

  -- ---- pre-orders, and the canonical lists that follow them

  -- a key is not apart from one that has it in its subtree
  not_over_apart : (a b : Key) → IsTrue (in_subtree t a b) → AreApart t b a → ⊥
  not_over_apart a b h p = (let n = steps_to a b h in let f = steps_to p.first.key b p.over_a in let s = steps_to p.second.key a p.over_b in
      siblings_tied p.first p.second f.0 (n.0 + s.0) b p.first_in p.second_in p.siblings p.order f.1 (over_through n.0 s.0 b a p.second.key n.1 s.1))

  not_preceding_itself : (a : Key) → Precedes t a a → ⊥
  not_preceding_itself a (inl h) = h.1 refl
  not_preceding_itself a (inr p) = not_before_itself a (inr p)

  not_each_first : (a b : Key) → IsTrue (is_linked t a) → IsTrue (is_linked t b) → Precedes t a b → Precedes t b a → ⊥
  not_each_first a b la lb (inl h) (inl g) = (let n = steps_to a b h.0 in let m = steps_to b a g.0 in no_cycle a b m.0 n.0 la h.1 m.1 n.1)
  not_each_first a b la lb (inl h) (inr p) = not_over_apart a b h.0 p
  not_each_first a b la lb (inr p) (inl g) = not_over_apart b a g.0 p
  not_each_first a b la lb (inr p) (inr q) = not_both a b la lb (inr p) (inr q)

  pub one_pre_order : (a b : List Key) → IsPreOrder t a → IsPreOrder t b → a ≡ b
  one_pre_order a b p q = one_order (Precedes t) a b
      (λ x h. not_preceding_itself x)
      (λ x y h g. not_each_first x y ((p.members x).0 h) ((p.members y).0 g))
      p.ordered q.ordered
      (λ x h. (q.members x).1 ((p.members x).0 h))
      (λ x h. (p.members x).1 ((q.members x).0 h))

  -- the commands of these keys: all creations, then all dooms, then all hidings
  abbrev following : List Key → List Command
  following keys = collected (create_of t) keys ++ (collected (doom_of t) keys ++ collected (hide_of t) keys)

  pub one_canonical : (a b : List Command) → IsCanonical t a → IsCanonical t b → a ≡ b
  one_canonical a b p q = p.2 ∙ ap following (one_pre_order p.0 q.0 p.1 q.1) ∙ sym q.2
