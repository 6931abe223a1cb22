-- Making a group adds entries to a directory only under the group's own names.
use Rattle.std.proofs.Common.{◌≡◌, ◌⊎◌, inl, inr, ℕ, refl, ap, sym, ◌∙◌, Bool, true, false, cond, List, [], ◌∷◌, ◌++◌}
use Rattle.std.specs.Prelude.{Option, None, Some, slice_get, not, ◌&&◌, ◌||◌}
use Rattle.std.specs.Str.{bytes_eq}
use Rattle.std.proofs.lemmas.Option.{same_Some}
use Rattle.std.proofs.lemmas.Slice.Eq.{bytes_eq-Decides}
use denote.Ref.{Bor}
use Rattle.kf_core.specs.declared.command.Command.TheVariants.{Create, Activate}
use Rattle.kf_core.specs.declared.key.Key.{Key}
use Rattle.kf_core.specs.declared.key.Node.{Node}
use Rattle.kf_core.specs.declared.key.Node.TheVariants.{Dir}
use Rattle.kf_core.specs.declared.records.Record.{Record}
use Rattle.kf_core.specs.Commands.{after, replay, new_record, activated_record}
use Rattle.kf_core.specs.Lawful.{Lawful}
use Rattle.kf_core.specs.Tree.{Tree, IsIn, in_subtree, is_linked}
use Rattle.kf_core.proofs.Lists.{after_set}
use Rattle.kf_core.proofs.Mapped.{from_slot}
use Rattle.kf_tree.specs.Causes.{has_entry}
use Rattle.kf_tree.specs.TreeLogs.{TreeLog}
use Rattle.kf_tree.proofs.Allowed.{name_free}
use Rattle.kf_tree.proofs.Replays.{replay_append}
use Rattle.kf_groups.specs.declared.attribute.Attribute.{Attribute}
use Rattle.kf_groups.specs.Attributes.{file_of, has_name}
use Rattle.kf_groups.specs.Groups.{makes_by_name}
use Rattle.kf_groups.specs.Making.{MadeByName, creation, creations, live_creations}
use Rattle.kf_groups.proofs.Named.{Stands, entry_stands}

-- the tree already had a record in this slot, with the same name in the same directory
pub record WasThere (t : Tree) (i : ℕ) (r : Record) : Type 0 where
  pub entry : Record
  pub at : slice_get t i ≡ Some (Some entry)
  pub parent : r.parent ≡ entry.parent
  pub name_is : r.name ≡ entry.name

-- if the record was there before the second of two steps, and then before the first, it was there before both
on : (t u : Tree) (i : ℕ) (r : Record) (w : WasThere u i r) → WasThere t i w.entry → WasThere t i r
on t u i r w v = record {
  entry = v.entry;
  at = v.at;
  parent = w.parent ∙ v.parent;
  name_is = w.name_is ∙ v.name_is;
}

created_from : (t : Tree) (key parent : Key) (name : List ℕ) (node : Node) (live : Bool) (i : ℕ) (r : Record)
    → slice_get (after t (Create key parent name node live)) i ≡ Some (Some r)
    → ((r.parent ≡ Some parent) × (r.name ≡ name)) ⊎ WasThere t i r
created_from t key parent name node live i r h =
    let new : Record = new_record key parent name node live in
    elim (after_set t key.slot i (Some new) (Some r) h) [
      | inl e ↦ (let same : new ≡ r = same_Some new r e in
          inl (ap (λ (x : Record). x.parent) (sym same), ap (λ (x : Record). x.name) (sym same)))
      | inr e ↦ inr (record { entry = r; at = e; parent = refl; name_is = refl })
    ]

activated_from : (t : Tree) (key : Key) (i : ℕ) (r : Record) → slice_get (after t (Activate key)) i ≡ Some (Some r) → WasThere t i r
activated_from t key i r h =
    let f = from_slot t g same i r h in
    record {
      entry = f.0;
      at = f.1;
      parent = ap (λ (x : Record). x.parent) f.2 ∙ same_parent f.0;
      name_is = ap (λ (x : Record). x.name) f.2 ∙ same_name f.0;
    }
  where
    chosen : Record → Bool
    chosen r = in_subtree t key r.key && not r.marks.doomed

    g : Record → Record
    g r = cond (chosen r) (activated_record r) r

    same : (r : Record) → (g r).key ≡ r.key
    same r = elim (chosen r) as (λ b. (cond b (activated_record r) r).key ≡ r.key) [ true ↦ refl | false ↦ refl ]

    same_parent : (r : Record) → (g r).parent ≡ r.parent
    same_parent r = elim (chosen r) as (λ b. (cond b (activated_record r) r).parent ≡ r.parent) [ true ↦ refl | false ↦ refl ]

    same_name : (r : Record) → (g r).name ≡ r.name
    same_name r = elim (chosen r) as (λ b. (cond b (activated_record r) r).name ≡ r.name) [ true ↦ refl | false ↦ refl ]

creations_from : (dir : Key) (attributes : List Attribute) (keys : List Key) (t : Tree) (i : ℕ) (r : Record)
    → slice_get (replay t (creations dir attributes keys)) i ≡ Some (Some r) → (r.parent ≡ Some dir) ⊎ WasThere t i r
creations_from dir [] keys t i r h = inr (record { entry = r; at = h; parent = refl; name_is = refl })
creations_from dir (a ∷ attributes) [] t i r h = inr (record { entry = r; at = h; parent = refl; name_is = refl })
creations_from dir (a ∷ attributes) (key ∷ keys) t i r h =
    let u = after t (creation dir a key) in
    elim (creations_from dir attributes keys u i r h) [
      | inl p ↦ inl p
      | inr w ↦ elim (created_from t key dir a.name.now (file_of a) false i w.entry w.at) [
        | inl p ↦ inl (w.parent ∙ p.0)
        | inr v ↦ inr (on t u i r w v)
      ]
    ]

-- the record is in the directory, and has the name of one of these attributes
abbrev IsFileOf : Key → List Attribute → Record → Type 0
IsFileOf dir attributes r = (r.parent ≡ Some dir) × (has_name attributes r.name ≡ true)

or_true : (a : Bool) → (a || true) ≡ true
or_true true = refl
or_true false = refl

live_from : (dir : Key) (attributes : List Attribute) (keys : List Key) (t : Tree) (i : ℕ) (r : Record)
    → slice_get (replay t (live_creations dir attributes keys)) i ≡ Some (Some r) → IsFileOf dir attributes r ⊎ WasThere t i r
live_from dir [] keys t i r h = inr (record { entry = r; at = h; parent = refl; name_is = refl })
live_from dir (a ∷ attributes) [] t i r h = inr (record { entry = r; at = h; parent = refl; name_is = refl })
live_from dir (a ∷ attributes) (key ∷ keys) t i r h =
    let u = after t (creation dir a key) in
    let v : Tree = replay u (live_creations dir attributes keys) in
    let last = activated_from v key i r
    (ap (λ (x : Tree). slice_get x i) (sym (replay_append u (live_creations dir attributes keys) (Activate key ∷ []))) ∙ h) in
    elim (live_from dir attributes keys u i last.entry last.at) [
      | inl p ↦ inl (
        last.parent ∙ p.0,
        ap (λ b. bytes_eq a.name.now r.name || b) (ap (has_name attributes) last.name_is ∙ p.1) ∙ or_true (bytes_eq a.name.now r.name),
      )
      | inr w ↦ elim (created_from t key dir a.name.now (file_of a) false i w.entry w.at) [
        | inl p ↦ inl (
          last.parent ∙ w.parent ∙ p.0,
          ap (λ b. b || has_name attributes r.name) ((bytes_eq-Decides a.name.now r.name).1 (sym (last.name_is ∙ w.name_is ∙ p.1))),
        )
        | inr o ↦ inr (on t v i r last (on t u i last.entry w o))
      ]
    ]

-- the record is the group's own directory, or is in that directory
abbrev IsOwn : Key → List ℕ → Key → Record → Type 0
IsOwn dir name key r = ((r.parent ≡ Some dir) × (r.name ≡ name)) ⊎ (r.parent ≡ Some key)

named_from : (dir : Key) (name : List ℕ) (attributes : List Attribute) (key : Key) (keys : List Key) (t : Tree) (i : ℕ) (r : Record)
    → slice_get (replay (after t (Create key dir name Dir false)) (creations key attributes keys ++ Activate key ∷ [])) i ≡ Some (Some r)
    → IsOwn dir name key r ⊎ WasThere t i r
named_from dir name attributes key keys t i r h =
    let u = after t (Create key dir name Dir false) in
    let v : Tree = replay u (creations key attributes keys) in
    let last = activated_from v key i r
    (ap (λ (x : Tree). slice_get x i) (sym (replay_append u (creations key attributes keys) (Activate key ∷ []))) ∙ h) in
    elim (creations_from key attributes keys u i last.entry last.at) [
      | inl p ↦ inl (inr (last.parent ∙ p))
      | inr w ↦ elim (created_from t key dir name Dir false i w.entry w.at) [
        | inl p ↦ inl (inl (last.parent ∙ w.parent ∙ p.0, last.name_is ∙ w.name_is ∙ p.1))
        | inr o ↦ inr (on t v i r last (on t u i last.entry w o))
      ]
    ]

module _ (old new : TreeLog) (dir key : Key) (attributes : List Attribute) (l : Lawful old.tree old.root) (there : is_linked old.tree dir ≡ true) where
  -- a record in the directory was there before if the group does not make its name
  was_there : (own : Option (Bor (List ℕ))) → MadeByName old new dir attributes own key → (name : List ℕ)
      → makes_by_name attributes own name ≡ false → (s : Stands new.tree dir name) → WasThere old.tree s.slot s.entry
  was_there None made name other s =
      elim (live_from dir attributes made.1.0 old.tree s.slot s.entry (ap (λ (t : Tree). slice_get t s.slot) (sym made.1.2.changed) ∙ s.at)) [
        | inl p ↦ absurd (let is : has_name attributes name ≡ true = ap (has_name attributes) (sym s.name_is) ∙ p.1 in cc (is, other))
        | inr w ↦ w
      ]
  was_there (Some own) made name other s =
      elim (named_from dir own.now attributes key made.1.0 old.tree s.slot s.entry (ap (λ (t : Tree). slice_get t s.slot) (sym made.1.2.changed) ∙ s.at)) [
        | inl p ↦ elim p [
          | inl q ↦ absurd (let is : bytes_eq own.now name ≡ true = (bytes_eq-Decides own.now name).1 (sym q.1 ∙ s.name_is) in cc (is, other))
          | inr q ↦ absurd (
              let same : dir ≡ key = same_Some dir key (sym s.parent ∙ q) in
              let is : is_linked old.tree key ≡ true = ap (is_linked old.tree) (sym same) ∙ there in
              let away = made.0 in cc (is, away))
        ]
        | inr w ↦ w
      ]

  -- so the directory has no entry with that name if it had none before
  pub no_other : (own : Option (Bor (List ℕ))) → MadeByName old new dir attributes own key → (name : List ℕ)
      → makes_by_name attributes own name ≡ false → has_entry old.tree dir name ≡ false → has_entry new.tree dir name ≡ false
  no_other own made name other none = elim (has_entry new.tree dir name) as (λ b. has_entry new.tree dir name ≡ b → b ≡ false) [
    | true ↦ λ e. absurd (
        let s = entry_stands new.tree dir name e in
        let w = was_there own made name other s in
        let i : IsIn old.tree w.entry = ap (slice_get old.tree) (l.in_place s.slot w.entry w.at) ∙ w.at in
        name_free old.tree dir name none w.entry i (sym w.parent ∙ s.parent) (sym w.name_is ∙ s.name_is))
    | false ↦ λ e. refl
  ] refl
