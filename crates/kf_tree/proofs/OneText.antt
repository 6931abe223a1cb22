-- A link has only one text.
use Rattle.std.proofs.Common.{◌≡◌, inl, inr, ℕ, suc, refl, ap, sym, ◌∙◌, subst, Bool, true, false, cond, List, [], ◌∷◌, ◌++◌}
use Rattle.std.specs.Prelude.{Option, None, Some, Result, Ok, Err}
use Rattle.std.specs.List.{join_with_byte}
use Rattle.std.specs.Option.{option_and_then, ok_or}
use Rattle.std.proofs.lemmas.Option.{same_Some}
use Rattle.kf_core.specs.declared.key.Key.{Key}
use Rattle.kf_core.specs.declared.records.Record.{Record}
use Rattle.kf_core.specs.declared.refusal.Refusal.{Refusal}
use Rattle.kf_core.specs.declared.refusal.Refusal.TheVariants.{NoEntry, NotDir}
use Rattle.kf_core.specs.Tree.{Tree, record_at, is_dir, parent_of, ancestor, in_subtree, IsIn}
use Rattle.kf_core.specs.Lawful.{Lawful}
use Rattle.kf_tree.specs.Links.{ups, IsLinkText, HasLinkText}
use Rattle.kf_tree.specs.Paths.{and_then, entry_key, found, walk}
use Rattle.kf_table.specs.Children.{child}
use Rattle.kf_tree.proofs.Listed.{child_is}
use Rattle.kf_tree.proofs.Over.{one_more}
use Rattle.kf_tree.proofs.PostOrder.{child_below}
use Rattle.kf_core.proofs.FoundRecords.{found_in, parent_known, same_record, subtree_from}
use Rattle.kf_tree.proofs.Unique.{compared, siblings_meet}

same_Ok : (a b : Key) → ◌≡◌ {A = Result Key Refusal} (Ok a) (Ok b) → a ≡ b
same_Ok a b h = ap key h
  where
    key : Result Key Refusal → Key
    key (Ok k) = k
    key (Err e) = a

err-ok : (e : Refusal) (a : Key) → ◌≡◌ {A = Result Key Refusal} (Err e) (Ok a) → ⊥
err-ok e a h = (let x : false ≡ true = ap is h in cc)
  where
    is : Result Key Refusal → Bool
    is (Ok k) = true
    is (Err e) = false

module _ (t : Tree) (root : Key) (l : Lawful t root) where
  -- what is found by a name in a directory is a record of that name there
  found_is : (dir : Key) (name : List ℕ) (key : Key) → found t dir name ≡ Ok key → (r : Record) × (IsIn t r) × (r.key ≡ key) × (r.parent ≡ Some dir) × (r.name ≡ name)
  found_is dir name key h = in_dir (record_at t dir) h
    where
      of_child : (o : Option Record) → child t dir name ≡ o → ok_or (option_and_then (λ (r : Record). Some r.key) o) NoEntry ≡ Ok key → (r : Record) × (IsIn t r) × (r.key ≡ key) × (r.parent ≡ Some dir) × (r.name ≡ name)
      of_child None e g = absurd (err-ok NoEntry key g)
      of_child (Some r) e g = (let c = child_is t root dir name r l e in (r, c.0, same_Ok r.key key g, c.1, c.2))

      in_dir : (o : Option Record) → entry_key o (child t dir name) ≡ Ok key → (r : Record) × (IsIn t r) × (r.key ≡ key) × (r.parent ≡ Some dir) × (r.name ≡ name)
      in_dir None g = absurd (err-ok NoEntry key g)
      in_dir (Some d) g = elim (is_dir d.node) as (λ b. cond b (ok_or (option_and_then (λ (r : Record). Some r.key) (child t dir name)) NoEntry) (Err NotDir) ≡ Ok key → (r : Record) × (IsIn t r) × (r.key ≡ key) × (r.parent ≡ Some dir) × (r.name ≡ name)) [
        | true ↦ λ e. of_child (child t dir name) refl e
        | false ↦ λ e. absurd (err-ok NotDir key e)
      ] g

  -- a walk that arrives finds its first name, and the walk over the other names arrives too
  first_found : (base : Key) (name : List ℕ) (names : List (List ℕ)) (target : Key) → walk t base (name ∷ names) ≡ Ok target → (next : Key) × (found t base name ≡ Ok next) × (walk t next names ≡ Ok target)
  first_found base name names target h = elim (found t base name) as (λ r. found t base name ≡ r → and_then r (λ next. walk t next names) ≡ Ok target → (next : Key) × (found t base name ≡ Ok next) × (walk t next names ≡ Ok target)) [
    | Ok next ↦ λ e g. (next, e, g)
    | Err refusal ↦ λ e g. absurd (err-ok refusal target g)
  ] refl h

  -- a walk leads down: it starts at its target, or above it
  walked_down : (names : List (List ℕ)) (base target : Key) → walk t base names ≡ Ok target → (n : ℕ) × (ancestor t n target ≡ Some base)
  walked_down [] base target h = (0, ap Some (sym (same_Ok base target h)))
  walked_down (name ∷ names) base target h =
      (let f = first_found base name names target h in
      let r = found_is base name f.0 f.1 in
      let w = walked_down names f.0 target f.2 in
      (suc w.0, one_more t w.0 target f.0 base w.1 (ap (parent_of t) (sym r.2) ∙ parent_known t r.0 r.1 ∙ r.3)))

  -- no walk over at least one name comes back to its start
  not_back : (base : Key) (name : List ℕ) (names : List (List ℕ)) → walk t base (name ∷ names) ≡ Ok base → ⊥
  not_back base name names h =
      (let f = first_found base name names base h in
      let r = found_is base name f.0 f.1 in
      let w = walked_down names f.0 base f.2 in
      child_below t root l base r.0 r.1 r.3 (met w.0 r.0 r.1 r.3 (w.1 ∙ ap Some (sym r.2))))
    where
      met : (n : ℕ) (r : Record) → IsIn t r → r.parent ≡ Some base → ancestor t n base ≡ Some r.key → in_subtree t r.key base ≡ true
      met n r i p c = (let d = l.in_directory r base i p in let g = found_in t base d.dir d.known in
          ap (in_subtree t r.key) (sym g.1) ∙ subtree_from t root l d.dir n r.key g.0 (ap (ancestor t n) g.1 ∙ c))

  -- only one list of names leads from one key down to another
  one_way : (xs ys : List (List ℕ)) (base target : Key) → walk t base xs ≡ Ok target → walk t base ys ≡ Ok target → xs ≡ ys
  one_way [] [] base target h g = refl
  one_way [] (y ∷ ys) base target h g = absurd (not_back base y ys (g ∙ sym h))
  one_way (x ∷ xs) [] base target h g = absurd (not_back base x xs (h ∙ sym g))
  one_way (x ∷ xs) (y ∷ ys) base target h g =
      (let f = first_found base x xs target h in
      let f' = first_found base y ys target g in
      let r = found_is base x f.0 f.1 in
      let r' = found_is base y f'.0 f'.1 in
      let w = walked_down xs f.0 target f.2 in
      let w' = walked_down ys f'.0 target f'.2 in
      let meet : r.0.key ≡ r'.0.key = siblings_meet t root l r.0 r'.0 w.0 w'.0 target r.1 r'.1 (r.3 ∙ sym r'.3) (w.1 ∙ ap Some (sym r.2)) (w'.1 ∙ ap Some (sym r'.2)) in
      let next : f.0 ≡ f'.0 = sym r.2 ∙ meet ∙ r'.2 in
      let name : x ≡ y = sym r.4 ∙ ap (λ (z : Record). z.name) (same_record t r.0 r'.0 r.1 r'.1 meet) ∙ r'.4 in
      ap (λ v. v ∷ xs) name ∙ ap (λ vs. y ∷ vs) (one_way xs ys f.0 target f.2 (ap (λ k. walk t k ys) next ∙ f'.2)))

  one_climb : (dir target : Key) (a b : List ℕ) (p : IsLinkText t root dir target a) (q : IsLinkText t root dir target b) → p.up ≡ q.up
  one_climb dir target a b p q = elim (compared p.up q.up) [
    | inl e ↦ e
    | inr (inl h) ↦ absurd (q.first p.up p.base h p.is_base p.over)
    | inr (inr h) ↦ absurd (p.first q.up q.base h q.is_base q.over)
  ]

  one_text_to : (dir target : Key) (a b : List ℕ) → IsLinkText t root dir target a → IsLinkText t root dir target b → a ≡ b
  one_text_to dir target a b p q =
      (let steps = one_climb dir target a b p q in
      let base : p.base ≡ q.base = same_Some p.base q.base (sym p.is_base ∙ ap (λ n. ancestor t n dir) steps ∙ q.is_base) in
      let names = one_way p.names q.names p.base target p.leads (ap (λ k. walk t k q.names) base ∙ q.leads) in
      p.spelled ∙ ap (λ n. ups n ++ join_with_byte 47 p.names) steps ∙ ap (λ xs. ups q.up ++ join_with_byte 47 xs) names ∙ sym q.spelled)

  pub one_text : (key : Key) (a b : List ℕ) → HasLinkText t root key a → HasLinkText t root key b → a ≡ b
  one_text key a b p q =
      (let link : p.link ≡ q.link = same_Some p.link q.link (sym p.known ∙ q.known) in
      let dir : p.dir ≡ q.dir = same_Some p.dir q.dir (sym p.in_dir ∙ ap (λ (r : Record). r.parent) link ∙ q.in_dir) in
      let target : p.target ≡ q.target = same_Some p.target q.target (sym p.to_target ∙ q.to_target) in
      one_text_to p.dir p.target a b p.is_text (subst (λ k. IsLinkText t root p.dir k b) (sym target) (subst (λ k. IsLinkText t root k q.target b) (sym dir) q.is_text)))
