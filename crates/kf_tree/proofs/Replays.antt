-- The replay of a tree's canonical list is the tree.
use Rattle.std.proofs.Common.{◌≡◌, ◌⊎◌, inl, inr, ℕ, zero, suc, ◌≤◌, refl, ap, arith, sym, ◌∙◌, Bool, true, false, cond, List, [], ◌∷◌, ◌++◌, length, get_or, replicate}
use Rattle.std.specs.Prelude.{Option, None, Some, is_some, not, ◌&&◌, ◌||◌, Contains, map, slice_get}
use Rattle.std.specs.Option.{option_map, option_map_or}
use Rattle.std.proofs.lemmas.Option.{same_Some, none-some, slice_get_within, slice_get_past, slice_get-get_or, slice_get-map}
use Rattle.std.proofs.lemmas.List.{length-map}
use Rattle.std.proofs.lemmas.Bool.Decides.{eqb_tells}
use Rattle.kf_core.specs.declared.key.Key.{Key}
use Rattle.kf_core.specs.declared.records.Record.{Record}
use Rattle.kf_core.specs.declared.command.Command.{Command}
use Rattle.kf_core.specs.declared.command.Command.TheVariants.{Create, Doom, Hide}
use Rattle.kf_core.specs.Keys.{same_key}
use Rattle.kf_core.specs.Marks.{are_doomed}
use Rattle.kf_core.specs.Tree.{Tree, record_at, parent_of, meets, ancestor, in_subtree, IsIn}
use Rattle.kf_core.specs.Lawful.{root_record, Lawful}
use Rattle.kf_core.specs.Commands.{after, replay, root_alone, new_record, doomed_record, hidden_record}
use Rattle.kf_core.proofs.Climbs.{same_key_self, same_key_is, first_step}
use Rattle.kf_core.proofs.FoundRecords.{in_found, found_in, parent_known, root_found, subtree_to, root_met, same_record}
use Rattle.kf_core.proofs.Lists.{slice_get-set_same, slice_get-set_other, length_set}
use Rattle.kf_tree.specs.Causes.{doomed_in, hidden_in}
use Rattle.kf_tree.specs.Canonical.{collected, creation, create_of, is_doomed_top, doom_of, hide_of, IsPreOrder}
use Rattle.kf_tree.proofs.Marked.{KeepsPlace, parent_mapped}
use Rattle.kf_tree.proofs.Apart.{dir_of, sub_self, sub_parent, sub_trans}
use Rattle.kf_tree.proofs.Opening.{empty_there, length_empty}
use Rattle.kf_tree.proofs.PostOrder.{lt_or_le}
use Rattle.kf_table.proofs.ChildTests.{both}
use Rattle.kf_tree.proofs.Each.{list_same}

pub replay_append : (t : Tree) (cs ds : List Command) → replay t (cs ++ ds) ≡ replay (replay t cs) ds
replay_append t [] ds = refl
replay_append t (c ∷ cs) ds = replay_append (after t c) cs ds

meets_same : (up up' : Key → Option Key) → ((k : Key) → up k ≡ up' k) → (n : ℕ) (top : Key) (o : Option Key) → meets up n top o ≡ meets up' n top o
meets_same up up' h zero top None = refl
meets_same up up' h zero top (Some k) = refl
meets_same up up' h (suc n) top None = refl
meets_same up up' h (suc n) top (Some k) = ap (λ b. cond (same_key k top) true b) (ap (meets up n top) (h k) ∙ meets_same up up' h n top (up' k))

-- the record, doomed and hidden as these tests say for its key
abbrev veil : (Key → Bool) → (Key → Bool) → Record → Record
veil D H r = record { key = r.key; parent = r.parent; name = r.name; node = r.node; marks = record { activated = r.marks.activated; doomed = D r.key }; hidden = H r.key }

keeps_veiled : (D H : Key → Bool) → KeepsPlace (veil D H)
keeps_veiled D H = record { key = λ r. refl; parent = λ r. refl; name = λ r. refl; node = λ r. refl }

abbrev veiled : (Key → Bool) → (Key → Bool) → Tree → Tree
veiled D H t = map (option_map (veil D H)) t

veiled_subtree : (D H : Key → Bool) (t : Tree) (top k : Key) → in_subtree (veiled D H t) top k ≡ in_subtree t top k
veiled_subtree D H t top k = ap (λ n. meets (parent_of (veiled D H t)) n top (Some k)) (length-map t _) ∙ meets_same (parent_of (veiled D H t)) (parent_of t) (λ x. sym (parent_mapped t (veil D H) (keeps_veiled D H) x)) (length t) top (Some k)

-- two changes to every record, one after the other, are one change
mapped_twice : (f : Record → Record) (g h : Record → Record) → ((r : Record) → f (g r) ≡ h r) → (t : Tree) → map (option_map f) (map (option_map g) t) ≡ map (option_map h) t
mapped_twice f g h same [] = refl
mapped_twice f g h same (None ∷ t) = ap (λ x. None ∷ x) (mapped_twice f g h same t)
mapped_twice f g h same (Some r ∷ t) = ap (λ y. Some y ∷ map (option_map f) (map (option_map g) t)) (same r) ∙ ap (λ x. Some (h r) ∷ x) (mapped_twice f g h same t)

doom_veiled : (D H : Key → Bool) (t : Tree) (key : Key) → after (veiled D H t) (Doom key) ≡ veiled (λ k. in_subtree t key k || D k) H t
doom_veiled D H t key = mapped_twice (λ r. cond (in_subtree (veiled D H t) key r.key) (doomed_record r) r) (veil D H) (veil (λ k. in_subtree t key k || D k) H) (λ r.
    ap (λ b. cond b (doomed_record (veil D H r)) (veil D H r)) (veiled_subtree D H t key r.key) ∙ one r (in_subtree t key r.key)) t
  where
    one : (r : Record) (b : Bool) → cond b (doomed_record (veil D H r)) (veil D H r) ≡ record { key = r.key; parent = r.parent; name = r.name; node = r.node; marks = record { activated = r.marks.activated; doomed = b || D r.key }; hidden = H r.key }
    one r true = refl
    one r false = refl

hide_veiled : (D H : Key → Bool) (t : Tree) (key : Key) → after (veiled D H t) (Hide key) ≡ veiled D (λ k. same_key k key || H k) t
hide_veiled D H t key = mapped_twice (λ r. cond (same_key r.key key) (hidden_record true r) r) (veil D H) (veil D (λ k. same_key k key || H k)) (λ r. one r (same_key r.key key)) t
  where
    one : (r : Record) (b : Bool) → cond b (hidden_record true (veil D H r)) (veil D H r) ≡ record { key = r.key; parent = r.parent; name = r.name; node = r.node; marks = record { activated = r.marks.activated; doomed = D r.key }; hidden = b || H r.key }
    one r true = refl
    one r false = refl

-- whether a key is covered after a list of keys was replayed: each of them that passes the test covers some
-- keys
abbrev covers : (Key → Bool) → (Key → Key → Bool) → List Key → (Key → Bool) → Key → Bool
covers test over [] D = D
covers test over (key ∷ keys) D = covers test over keys (λ k. cond (test key) (over key k || D k) (D k))

or_true : (a : Bool) → (a || true) ≡ true
or_true true = refl
or_true false = refl

covers_kept : (test : Key → Bool) (over : Key → Key → Bool) (keys : List Key) (D : Key → Bool) (k : Key) → D k ≡ true → covers test over keys D k ≡ true
covers_kept test over [] D k h = h
covers_kept test over (key ∷ keys) D k h = covers_kept test over keys (λ k. cond (test key) (over key k || D k) (D k)) k
    (elim (test key) as (λ b. cond b (over key k || D k) (D k) ≡ true) [ true ↦ ap (λ b. over key k || b) h ∙ or_true (over key k) | false ↦ h ])

covers_at : (test : Key → Bool) (over : Key → Key → Bool) (keys : List Key) (D : Key → Bool) (key k : Key) → Contains keys key → test key ≡ true → over key k ≡ true → covers test over keys D k ≡ true
covers_at test over [] D key k h y o = absurd (omega (arith, h.1))
covers_at test over (x ∷ keys) D key k (zero, h, e) y o = covers_kept test over keys (λ k. cond (test x) (over x k || D k) (D k)) k
    (ap (λ b. cond b (over x k || D k) (D k)) (ap test e ∙ y) ∙ ap (λ b. b || D k) (ap (λ z. over z k) e ∙ o))
covers_at test over (x ∷ keys) D key k (suc i, h, e) y o = covers_at test over keys (λ k. cond (test x) (over x k || D k) (D k)) key k (i, omega arith, e) y o

covers_to : (test : Key → Bool) (over : Key → Key → Bool) (keys : List Key) (D : Key → Bool) (k : Key) → covers test over keys D k ≡ true → (D k ≡ true) ⊎ ((key : Key) × (test key ≡ true) × (over key k ≡ true))
covers_to test over [] D k h = inl h
covers_to test over (x ∷ keys) D k h = elim (covers_to test over keys (λ k. cond (test x) (over x k || D k) (D k)) k h) [
  | inl e ↦ elim (test x) as (λ b. test x ≡ b → cond b (over x k || D k) (D k) ≡ true → (D k ≡ true) ⊎ ((key : Key) × (test key ≡ true) × (over key k ≡ true))) [
    | true ↦ λ y c. elim (over x k) as (λ v. over x k ≡ v → (v || D k) ≡ true → (D k ≡ true) ⊎ ((key : Key) × (test key ≡ true) × (over key k ≡ true))) [
      | true ↦ λ o z. inr (x, y, o)
      | false ↦ λ o z. inl z
    ] refl c
    | false ↦ λ y c. inl c
  ] refl e
  | inr r ↦ inr r
]

same_bool : (a b : Bool) → (a ≡ true → b ≡ true) → (b ≡ true → a ≡ true) → a ≡ b
same_bool true b f g = sym (f refl)
same_bool false true f g = g refl
same_bool false false f g = refl

-- ---- the dooms, and the hidings

abbrev dooms_over : Tree → List Key → Key → Bool
dooms_over t keys = covers (is_doomed_top t) (in_subtree t) keys (λ k. false)

abbrev hides_over : Tree → List Key → Key → Bool
hides_over t keys = covers (hidden_in t) (λ key k. same_key k key) keys (λ k. false)

dooms_are : (t : Tree) (H : Key → Bool) (keys : List Key) (D : Key → Bool) → replay (veiled D H t) (collected (doom_of t) keys) ≡ veiled (covers (is_doomed_top t) (in_subtree t) keys D) H t
dooms_are t H [] D = refl
dooms_are t H (key ∷ keys) D = replay_append (veiled D H t) (doom_of t key) (collected (doom_of t) keys) ∙ elim (is_doomed_top t key) as (λ b.
    replay (replay (veiled D H t) (cond b (Doom key ∷ []) [])) (collected (doom_of t) keys) ≡ veiled (covers (is_doomed_top t) (in_subtree t) keys (λ k. cond b (in_subtree t key k || D k) (D k))) H t) [
      | true ↦ ap (λ x. replay x (collected (doom_of t) keys)) (doom_veiled D H t key) ∙ dooms_are t H keys (λ k. in_subtree t key k || D k)
      | false ↦ dooms_are t H keys D
    ]

hides_are : (t : Tree) (D : Key → Bool) (keys : List Key) (H : Key → Bool) → replay (veiled D H t) (collected (hide_of t) keys) ≡ veiled D (covers (hidden_in t) (λ key k. same_key k key) keys H) t
hides_are t D [] H = refl
hides_are t D (key ∷ keys) H = replay_append (veiled D H t) (hide_of t key) (collected (hide_of t) keys) ∙ elim (hidden_in t key) as (λ b.
    replay (replay (veiled D H t) (cond b (Hide key ∷ []) [])) (collected (hide_of t) keys) ≡ veiled D (covers (hidden_in t) (λ key k. same_key k key) keys (λ k. cond b (same_key k key || H k) (H k))) t) [
      | true ↦ ap (λ x. replay x (collected (hide_of t) keys)) (hide_veiled D H t key) ∙ hides_are t D keys (λ k. same_key k key || H k)
      | false ↦ hides_are t D keys H
    ]

module _ (t : Tree) (root : Key) (l : Lawful t root) (keys : List Key) (order : IsPreOrder t keys) where
  -- what is below a doomed record is doomed
  doomed_below : (n : ℕ) (top r : Record) → IsIn t top → IsIn t r → ancestor t n r.key ≡ Some top.key → top.marks.doomed ≡ true → r.marks.doomed ≡ true
  doomed_below zero top r i j c d = ap (λ (x : Record). x.marks.doomed) (same_record t r top j i (same_Some r.key top.key c)) ∙ d
  doomed_below (suc n) top r i j c d =
      (let f = first_step (parent_of t) n r.key top.key c in
      let o = l.in_directory r f.0 j (sym (parent_known t r j) ∙ f.1) in
      let x = found_in t f.0 o.dir o.known in
      o.doomed (doomed_below n top o.dir i x.0 (ap (ancestor t n) x.1 ∙ f.2) d))

  top_parts : (key : Key) → is_doomed_top t key ≡ true → (r : Record) × (IsIn t r) × (r.key ≡ key) × (r.marks.doomed ≡ true)
  top_parts key h = elim (record_at t key) as (λ o. record_at t key ≡ o → option_map_or (λ (r : Record). r.marks.doomed && not (option_map_or (doomed_in t) r.parent false)) o false ≡ true → (r : Record) × (IsIn t r) × (r.key ≡ key) × (r.marks.doomed ≡ true)) [
    | None ↦ λ e g. absurd (let x : false ≡ true = g in cc)
    | Some r ↦ λ e g. (let f = found_in t key r e in (r, f.0, f.1, (both r.marks.doomed (not (option_map_or (doomed_in t) r.parent false)) g).0))
  ] refl h

  -- a doomed record is below the top of a doomed subtree
  top_over : (n : ℕ) (r : Record) → IsIn t r → ancestor t n r.key ≡ Some root → r.marks.doomed ≡ true → (top : Record) × (IsIn t top) × (is_doomed_top t top.key ≡ true) × (in_subtree t top.key r.key ≡ true)
  top_over zero r i c d = absurd (undoomed_root (ap (record_at t) (sym (same_Some r.key root c)) ∙ in_found t r i))
    where
      undoomed_root : record_at t root ≡ Some r → ⊥
      undoomed_root e = (let same = same_Some (root_record root) r (sym (root_found t root l) ∙ e) in
          let x : false ≡ true = ap (λ (x : Record). x.marks.doomed) same ∙ d in cc)
  top_over (suc n) r i c d =
      (let f = first_step (parent_of t) n r.key root c in
      let p : r.parent ≡ Some f.0 = sym (parent_known t r i) ∙ f.1 in
      let x = dir_of t root l r f.0 i p in
      let in_dir : doomed_in t f.0 ≡ x.0.marks.doomed = ap (doomed_in t) (sym x.2) ∙ ap (λ o. are_doomed (option_map (λ (y : Record). y.marks) o)) (in_found t x.0 x.1) in
      elim x.0.marks.doomed as (λ b. x.0.marks.doomed ≡ b → (top : Record) × (IsIn t top) × (is_doomed_top t top.key ≡ true) × (in_subtree t top.key r.key ≡ true)) [
        | true ↦ λ e. (let up = top_over n x.0 x.1 (ap (ancestor t n) x.2 ∙ f.2) e in
            (up.0, up.1, up.2, sub_trans t root l up.0.key x.0.key r i up.3 (sub_parent t root l r x.0.key i (p ∙ ap Some (sym x.2)))))
        | false ↦ λ e. (
          r,
          i,
          ap (λ o. option_map_or (λ (y : Record). y.marks.doomed && not (option_map_or (doomed_in t) y.parent false)) o false) (in_found t r i)
              ∙ ap (λ b. b && not (option_map_or (doomed_in t) r.parent false)) d ∙ ap (λ o. not (option_map_or (doomed_in t) o false)) p ∙ ap not (in_dir ∙ e),
          sub_self t root l r i,
        )
      ] refl)

  listed : (r : Record) → IsIn t r → Contains keys r.key
  listed r i = (order.members r.key).1 (ap is_some (in_found t r i))

  dooms_all : (r : Record) → IsIn t r → dooms_over t keys r.key ≡ r.marks.doomed
  dooms_all r i = same_bool (dooms_over t keys r.key) r.marks.doomed
      (λ h. elim (covers_to (is_doomed_top t) (in_subtree t) keys (λ k. false) r.key h) [
        | inl e ↦ absurd (let x : false ≡ true = e in cc)
        | inr x ↦ (let p = top_parts x.0 x.1 in
            let s = subtree_to t root l p.0.key r.key (ap (λ k. in_subtree t k r.key) p.2 ∙ x.2) in doomed_below s.0 p.0 r p.1 i s.1 p.3)
      ])
      (λ d. (let w = root_met t root l r i in let x = top_over w.0 r i w.1 d in covers_at (is_doomed_top t) (in_subtree t) keys (λ k. false) x.0.key r.key (listed x.0 x.1) x.2 x.3))

  hides_all : (r : Record) → IsIn t r → hides_over t keys r.key ≡ r.hidden
  hides_all r i = same_bool (hides_over t keys r.key) r.hidden
      (λ h. elim (covers_to (hidden_in t) (λ key k. same_key k key) keys (λ k. false) r.key h) [
        | inl e ↦ absurd (let x : false ≡ true = e in cc)
        | inr x ↦ sym is ∙ ap (hidden_in t) (same_key_is r.key x.0 x.2) ∙ x.1
      ])
      (λ d. covers_at (hidden_in t) (λ key k. same_key k key) keys (λ k. false) r.key r.key (listed r i) (is ∙ d) (same_key_self r.key))
    where
      is : hidden_in t r.key ≡ r.hidden
      is = ap (λ o. option_map_or (λ (y : Record). y.hidden) o false) (in_found t r i)

  -- the dooms and hidings of these keys give each record the marks that it has in the tree
  veiled_whole : veiled (dooms_over t keys) (hides_over t keys) t ≡ t
  veiled_whole = list_same _ _ (λ j. slice_get-map (option_map (veil (dooms_over t keys) (hides_over t keys))) t j ∙ go j (slice_get t j) refl)
    where
      go : (j : ℕ) (o : Option (Option Record)) → slice_get t j ≡ o → option_map (option_map (veil (dooms_over t keys) (hides_over t keys))) (slice_get t j) ≡ slice_get t j
      go j None e = ap (option_map (option_map (veil (dooms_over t keys) (hides_over t keys)))) e ∙ sym e
      go j (Some None) e = ap (option_map (option_map (veil (dooms_over t keys) (hides_over t keys)))) e ∙ sym e
      go j (Some (Some r)) e = (let i : IsIn t r = ap (slice_get t) (l.in_place j r e) ∙ e in
          ap (option_map (option_map (veil (dooms_over t keys) (hides_over t keys)))) e
          ∙ ap (λ b. Some (Some (record { key = r.key; parent = r.parent; name = r.name; node = r.node; marks = record { activated = r.marks.activated; doomed = b }; hidden = hides_over t keys r.key }))) (dooms_all r i)
          ∙ ap (λ b. Some (Some (record { key = r.key; parent = r.parent; name = r.name; node = r.node; marks = r.marks; hidden = b }))) (hides_all r i) ∙ sym e)

  -- ---- the creations

  abbrev bare : Tree
  bare = veiled (λ k. false) (λ k. false) t

  creation_length : (x : Tree) (o : Option Record) → length (replay x (creation o)) ≡ length x
  creation_length x None = refl
  creation_length x (Some r) = elim r.parent as (λ p. length (replay x (option_map_or (λ parent. Create r.key parent r.name r.node r.marks.activated ∷ []) p [])) ≡ length x) [
    | None ↦ refl
    | Some p ↦ length_set x r.key.slot _
  ]

  creates_length : (x : Tree) (ks : List Key) → length (replay x (collected (create_of t) ks)) ≡ length x
  creates_length x [] = refl
  creates_length x (k ∷ ks) = ap length (replay_append x (create_of t k) (collected (create_of t) ks)) ∙ creates_length (replay x (create_of t k)) ks ∙ creation_length x (record_at t k)

  bare_at : (r : Record) (p : Key) → IsIn t r → r.parent ≡ Some p → Some (Some (new_record r.key p r.name r.node r.marks.activated)) ≡ slice_get bare r.key.slot
  bare_at r p i e = ap (λ o. Some (Some (record { key = r.key; parent = o; name = r.name; node = r.node; marks = record { activated = r.marks.activated; doomed = false }; hidden = false }))) (sym e)
      ∙ ap (option_map (option_map (veil (λ k. false) (λ k. false)))) (sym i) ∙ sym (slice_get-map (option_map (veil (λ k. false) (λ k. false))) t r.key.slot)

  written : (x : Tree) (r : Record) (p : Key) → IsIn t r → r.parent ≡ Some p → length x ≡ length t → slice_get (after x (Create r.key p r.name r.node r.marks.activated)) r.key.slot ≡ slice_get bare r.key.slot
  written x r p i e n = slice_get-set_same x r.key.slot _ (let w = slice_get_within t r.key.slot (Some r) i in omega (arith, n, w)) ∙ bare_at r p i e

  stays : (x : Tree) (key : Key) (j : ℕ) → length x ≡ length t → slice_get x j ≡ slice_get bare j → slice_get (replay x (create_of t key)) j ≡ slice_get bare j
  stays x key j n same = elim (record_at t key) as (λ o. record_at t key ≡ o → slice_get (replay x (creation o)) j ≡ slice_get bare j) [
    | None ↦ λ e. same
    | Some r ↦ λ e. (let f = found_in t key r e in
        elim r.parent as (λ o. r.parent ≡ o → slice_get (replay x (option_map_or (λ parent. Create r.key parent r.name r.node r.marks.activated ∷ []) o [])) j ≡ slice_get bare j) [
          | None ↦ λ q. same
          | Some p ↦ λ q. elim (eqb_tells j r.key.slot) [
            | inl y ↦ ap (slice_get (after x (Create r.key p r.name r.node r.marks.activated))) y.1 ∙ written x r p f.0 q n ∙ ap (slice_get bare) (sym y.1)
            | inr y ↦ slice_get-set_other x r.key.slot j _ y.1 ∙ same
          ]
        ] refl)
  ] refl

  all_stay : (ks : List Key) (x : Tree) (j : ℕ) → length x ≡ length t → slice_get x j ≡ slice_get bare j → slice_get (replay x (collected (create_of t) ks)) j ≡ slice_get bare j
  all_stay [] x j n same = same
  all_stay (k ∷ ks) x j n same = ap (λ y. slice_get y j) (replay_append x (create_of t k) (collected (create_of t) ks))
      ∙ all_stay ks (replay x (create_of t k)) j (creation_length x (record_at t k) ∙ n) (stays x k j n same)

  reached : (ks : List Key) (x : Tree) (r : Record) (p : Key) → IsIn t r → r.parent ≡ Some p → length x ≡ length t → Contains ks r.key → slice_get (replay x (collected (create_of t) ks)) r.key.slot ≡ slice_get bare r.key.slot
  reached [] x r p i q n h = absurd (omega (arith, h.1))
  reached (k ∷ ks) x r p i q n (zero, h, e) = ap (λ y. slice_get y r.key.slot) (replay_append x (create_of t k) (collected (create_of t) ks))
      ∙ all_stay ks (replay x (create_of t k)) r.key.slot (creation_length x (record_at t k) ∙ n)
      (ap (λ o. slice_get (replay x (creation o)) r.key.slot) (ap (record_at t) e ∙ in_found t r i)
      ∙ ap (λ o. slice_get (replay x (option_map_or (λ parent. Create r.key parent r.name r.node r.marks.activated ∷ []) o [])) r.key.slot) q ∙ written x r p i q n)
  reached (k ∷ ks) x r p i q n (suc m, h, e) = ap (λ y. slice_get y r.key.slot) (replay_append x (create_of t k) (collected (create_of t) ks))
      ∙ reached ks (replay x (create_of t k)) r p i q (creation_length x (record_at t k) ∙ n) (m, omega arith, e)

  creates_are : replay (root_alone (length t) root) (collected (create_of t) keys) ≡ bare
  creates_are = list_same _ _ (λ j. go j (slice_get t j) refl)
    where
      as_long : length (root_alone (length t) root) ≡ length t
      as_long = length_set (replicate (length t) None) root.slot _ ∙ length_empty (length t)

      go : (j : ℕ) (o : Option (Option Record)) → slice_get t j ≡ o → slice_get (replay (root_alone (length t) root) (collected (create_of t) keys)) j ≡ slice_get bare j
      go j None e = slice_get_past _ j (let n = creates_length (root_alone (length t) root) keys ∙ as_long in omega (arith, n, past)) ∙ sym (slice_get-map (option_map (veil (λ k. false) (λ k. false))) t j ∙ ap (option_map (option_map (veil (λ k. false) (λ k. false)))) e)
        where
          past : length t ≤ j
          past = elim (lt_or_le j (length t)) [ inl h ↦ absurd (let x = slice_get-get_or t j None h in none-some (get_or t j None) (sym e ∙ x)) | inr h ↦ h ]
      go j (Some None) e = all_stay keys (root_alone (length t) root) j as_long
          (slice_get-set_other (replicate (length t) None) root.slot j _ (λ y. none-some (root_record root) (same_Some None (Some (root_record root)) (sym e ∙ ap (slice_get t) y ∙ l.rooted)))
          ∙ empty_there (length t) j (slice_get_within t j None e) ∙ sym (slice_get-map (option_map (veil (λ k. false) (λ k. false))) t j ∙ ap (option_map (option_map (veil (λ k. false) (λ k. false)))) e))
      go j (Some (Some r)) e = (let at = l.in_place j r e in
          let i : IsIn t r = ap (slice_get t) at ∙ e in
          elim r.parent as (λ o. r.parent ≡ o → slice_get (replay (root_alone (length t) root) (collected (create_of t) keys)) j ≡ slice_get bare j) [
            | None ↦ λ q. (let same : root_record root ≡ r = same_record t (root_record root) r l.rooted i (sym (l.one_root r i q)) in
                let here : j ≡ root.slot = sym at ∙ ap (λ (x : Record). x.key.slot) (sym same) in
                all_stay keys (root_alone (length t) root) j as_long
                (ap (slice_get (root_alone (length t) root)) here ∙ slice_get-set_same (replicate (length t) None) root.slot _ (let n = length_empty (length t) in let w = slice_get_within t root.slot (Some (root_record root)) l.rooted in omega (arith, n, w))
                ∙ sym (slice_get-map (option_map (veil (λ k. false) (λ k. false))) t j ∙ ap (option_map (option_map (veil (λ k. false) (λ k. false)))) (ap (slice_get t) here ∙ l.rooted))))
            | Some p ↦ λ q. ap (slice_get (replay (root_alone (length t) root) (collected (create_of t) keys))) (sym at) ∙ reached keys (root_alone (length t) root) r p i q as_long (listed r i) ∙ ap (slice_get bare) at
          ] refl)

  pub canonical_replays : (commands : List Command) → commands ≡ collected (create_of t) keys ++ (collected (doom_of t) keys ++ collected (hide_of t) keys) → t ≡ replay (root_alone (length t) root) commands
  canonical_replays commands is = sym (
      ap (replay (root_alone (length t) root)) is
      ∙ replay_append (root_alone (length t) root) (collected (create_of t) keys) (collected (doom_of t) keys ++ collected (hide_of t) keys)
      ∙ ap (λ x. replay x (collected (doom_of t) keys ++ collected (hide_of t) keys)) creates_are
      ∙ replay_append bare (collected (doom_of t) keys) (collected (hide_of t) keys)
      ∙ ap (λ x. replay x (collected (hide_of t) keys)) (dooms_are t (λ k. false) keys (λ k. false))
      ∙ hides_are t (dooms_over t keys) keys (λ k. false)
      ∙ veiled_whole)
