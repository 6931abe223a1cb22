-- The names on the way down from a base to a target lead a walk to it.
use Rattle.std.proofs.Common.{◌≡◌, ◌≢◌, ◌⊎◌, inl, inr, ℕ, refl, ap, sym, ◌∙◌, cond, List, [], ◌∷◌, ◌++◌}
use Rattle.std.specs.Prelude.{None, Some, Ok, Err, map, reverse, IsTrue}
use Rattle.std.specs.Option.{option_map_or}
use Rattle.std.proofs.lemmas.List.{reverse-append, map-append}
use Rattle.kf_core.specs.declared.key.Key.{Key}
use Rattle.kf_core.specs.declared.records.Record.{Record}
use Rattle.kf_core.specs.declared.refusal.Refusal.TheVariants.{NotDir}
use Rattle.kf_core.specs.Tree.{Tree, record_at, is_dir, is_linked, parent_of}
use Rattle.kf_core.specs.Lawful.{Lawful}
use Rattle.kf_tree.specs.Causes.{link_target}
use Rattle.kf_tree.specs.Links.{IsLinkText, HasLinkText}
use Rattle.kf_tree.specs.Paths.{and_then, entry_key, found, walk}
use Rattle.kf_table.specs.Children.{child}
use Rattle.kf_tree.specs.Ways.{name_at}
use Rattle.kf_core.proofs.FoundRecords.{in_found, known_parent, linked_here, parent_known}
use Rattle.kf_tree.proofs.Listed.{child_known}

-- a record is found in its directory under its name
pub found_child : (t : Tree) (root : Key) → Lawful t root → (key dir : Key) → parent_of t key ≡ Some dir → found t dir (name_at t key) ≡ Ok key
found_child t root l key dir h =
    (let r = known_parent t key dir h in
    let d = l.in_directory r.0 dir r.1 r.3 in
    let name : name_at t key ≡ r.0.name = ap (name_at t) (sym r.2) ∙ ap (λ o. option_map_or (λ (x : Record). x.name) o []) (in_found t r.0 r.1) in
    ap (found t dir) name
    ∙ ap (λ o. entry_key o (child t dir r.0.name)) d.known ∙ ap (entry_key (Some d.dir)) (child_known t root dir r.0 l r.1 r.3)
    ∙ ap (λ n. cond (is_dir n) (Ok r.0.key) (Err NotDir)) d.is_dir ∙ ap Ok r.2)

pub names_up : (t : Tree) (keys : List Key) (key : Key) → reverse (map (name_at t) (keys ++ key ∷ [])) ≡ name_at t key ∷ reverse (map (name_at t) keys)
names_up t keys key = ap reverse (map-append (name_at t) keys (key ∷ [])) ∙ reverse-append (map (name_at t) keys) (name_at t key ∷ [])

-- one more name in front leads to the same target from one directory higher
pub walk_higher : (t : Tree) (root : Key) → Lawful t root → (key dir target : Key) (keys : List Key) → parent_of t key ≡ Some dir → walk t key (reverse (map (name_at t) keys)) ≡ Ok target →
    walk t dir (reverse (map (name_at t) (keys ++ key ∷ []))) ≡ Ok target
walk_higher t root l key dir target keys h w =
    ap (walk t dir) (names_up t keys key) ∙ ap (λ r. and_then r (λ next. walk t next (reverse (map (name_at t) keys)))) (found_child t root l key dir h) ∙ w

-- the target's own name leads to it from the directory above it
pub first_lead : (t : Tree) (root : Key) → Lawful t root → (target other : Key) → IsTrue (is_linked t target) → (parent_of t target ≡ Some other) ⊎ ((parent_of t target ≡ None) × (other ≡ root)) → target ≢ other →
    walk t other (reverse (map (name_at t) (target ∷ []))) ≡ Ok target
first_lead t root l target other h (inl p) n = walk_higher t root l target other target [] p refl
first_lead t root l target other h (inr p) n = (let r = linked_here t target h in
    let top : r.0.parent ≡ None = sym (parent_known t r.0 r.1) ∙ ap (parent_of t) r.2 ∙ p.0 in
    absurd (n (sym r.2 ∙ l.one_root r.0 r.1 top ∙ sym p.1)))

pub has_text : (t : Tree) (root key dir target : Key) (text : List ℕ) → parent_of t key ≡ Some dir → link_target t key ≡ Some target → IsLinkText t root dir target text → HasLinkText t root key text
has_text t root key dir target text p to is = (let r = known_parent t key dir p in record {
  link = r.0;
  known = ap (record_at t) (sym r.2) ∙ in_found t r.0 r.1;
  dir = dir;
  in_dir = r.3;
  target = target;
  to_target = to;
  is_text = is;
})
