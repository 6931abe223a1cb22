-- The records of an older tree stay as they are when nodes that were made later are changed.
use Rattle.std.proofs.Common.{◌≡◌, inl, inr, ℕ, zero, suc, refl, ap, sym, subst, arith, ◌∙◌, Bool, true, false, cond, List, [], ◌∷◌, slice_set}
use Rattle.std.specs.Prelude.{Option, None, Some, slice_get, is_some, not, ◌&&◌, map, All}
use Rattle.std.specs.Option.{option_map}
use Rattle.std.proofs.lemmas.Option.{same_Some, none-some, slice_get-map}
use Rattle.std.proofs.lemmas.Bool.Decides.{eqb_tells}
use Rattle.kf_core.specs.declared.command.Command.TheVariants.{Create, Activate, Doom, Unlink}
use Rattle.kf_core.specs.declared.key.Key.{Key}
use Rattle.kf_core.specs.declared.key.Node.{Node}
use Rattle.kf_core.specs.declared.records.Record.{Record}
use Rattle.kf_core.specs.Commands.{after, change, replay, new_record, activated_record, doomed_record}
use Rattle.kf_core.specs.Lawful.{Lawful}
use Rattle.kf_core.specs.PostOrder.{IsPostOrder}
use Rattle.kf_core.specs.Tree.{Tree, IsIn, parent_of, ancestor, is_linked, in_subtree}
use Rattle.kf_core.proofs.Ancestors.{in_subtree_is_below}
use Rattle.kf_core.proofs.Climbs.{first_step}
use Rattle.kf_core.proofs.FoundRecords.{found_in, in_found, linked_here, parent_known}
use Rattle.kf_core.proofs.Lists.{slice_get-set_other}
use Rattle.kf_shared.specs.Locked.{Locked}
use Rattle.kf_groups.specs.Keeps.{Keeps, KeepsOlder}
use Rattle.kf_groups.specs.TakenBack.{TookBack}

pub keeps_self : (t : Tree) → Keeps t t
keeps_self t slot r h = h

pub keeps_on : (a b c : Tree) → Keeps a b → Keeps b c → Keeps a c
keeps_on a b c first other slot r h = other slot r (first slot r h)

pub keeps_same : (old new : Tree) → new ≡ old → Keeps old new
keeps_same old new same = subst (Keeps old) (sym same) (keeps_self old)

pub keeps_linked : (old new : Tree) (k : Key) → Keeps old new → is_linked old k ≡ true → is_linked new k ≡ true
keeps_linked old new k keeps h =
    let r = linked_here old k h in
    ap (is_linked new) (sym r.2) ∙ ap (λ (o : Option Record). is_some o) (in_found new r.0 (keeps r.0.key.slot r.0 r.1))

pub keeps_created : (t : Tree) (key parent : Key) (name : List ℕ) (node : Node) (live : Bool) → slice_get t key.slot ≡ Some None
    → Keeps t (after t (Create key parent name node live))
keeps_created t key parent name node live vacant slot r h = elim (eqb_tells slot key.slot) [
  | inl e ↦ absurd (none-some r (same_Some None (Some r) (sym vacant ∙ ap (slice_get t) (sym e.1) ∙ h)))
  | inr e ↦ slice_get-set_other t key.slot slot (Some (new_record key parent name node live)) e.1 ∙ h
]

module _ (base : Tree) (root key : Key) (l : Lawful base root) (fresh : is_linked base key ≡ false) where
  -- the way up from an older record never meets the new key
  no_way : (t : Tree) → Keeps base t → (n : ℕ) (r : Record) → IsIn base r → ancestor t n r.key ≡ Some key → ⊥
  no_way t keeps zero r i h =
      let there : is_linked base key ≡ true = ap (is_linked base) (sym (same_Some r.key key h)) ∙ ap (λ (o : Option Record). is_some o) (in_found base r i) in
      let away = fresh in cc (there, away)
  no_way t keeps (suc n) r i h =
      let s = first_step (parent_of t) n r.key key h in
      let up : r.parent ≡ Some s.0 = sym (parent_known t r (keeps r.key.slot r i)) ∙ s.1 in
      let d = l.in_directory r s.0 i up in
      let f = found_in base s.0 d.dir d.known in
      no_way t keeps n d.dir f.0 (ap (ancestor t n) f.1 ∙ s.2)

  apart : (t : Tree) → Keeps base t → (r : Record) → IsIn base r → in_subtree t key r.key ≡ false
  apart t keeps r i = elim (in_subtree t key r.key) as (λ b. in_subtree t key r.key ≡ b → b ≡ false) [
    | true ↦ λ e. absurd (let way = (in_subtree_is_below t key r.key).0 e in no_way t keeps way.0 r i way.1)
    | false ↦ λ e. refl
  ] refl

  changed : (t : Tree) (chosen : Record → Bool) (f : Record → Record) → Keeps base t → ((r : Record) → IsIn base r → chosen r ≡ false)
      → Keeps base (change chosen f t)
  changed t chosen f keeps none slot r h =
      let i : IsIn base r = ap (slice_get base) (l.in_place slot r h) ∙ h in
      slice_get-map (option_map (λ (r : Record). cond (chosen r) (f r) r)) t slot
      ∙ ap (option_map (option_map (λ (r : Record). cond (chosen r) (f r) r))) (keeps slot r h)
      ∙ ap (λ b. Some (Some (cond b (f r) r))) (none r i)

  pub activated : (t : Tree) → Keeps base t → Keeps base (after t (Activate key))
  activated t keeps = changed t (λ r. in_subtree t key r.key && not r.marks.doomed) activated_record keeps
      (λ r i. ap (λ b. b && not r.marks.doomed) (apart t keeps r i))

  doomed : (t : Tree) → Keeps base t → Keeps base (after t (Doom key))
  doomed t keeps = changed t (λ r. in_subtree t key r.key) doomed_record keeps (apart t keeps)

  -- no node in the subtree of the new key is linked in the older tree
  younger : (t : Tree) (k : Key) → Keeps base t → in_subtree t key k ≡ true → is_linked base k ≡ false
  younger t k keeps below = elim (is_linked base k) as (λ b. is_linked base k ≡ b → b ≡ false) [
    | true ↦ λ e. absurd (
        let r = linked_here base k e in
        let x = apart t keeps r.0 r.1 in
        let y : in_subtree t key r.0.key ≡ true = ap (in_subtree t key) r.2 ∙ below in cc (x, y))
    | false ↦ λ e. refl
  ] refl

unlinked : (base t : Tree) (root k : Key) → is_linked base k ≡ false → Keeps base t → Keeps base (after t (Unlink k))
unlinked base t root k away keeps = elim (is_linked t k) as (λ b. is_linked t k ≡ b → Keeps base (cond b (slice_set t k.slot None) t)) [
  | true ↦ λ e slot r h. elim (eqb_tells slot k.slot) [
    | inl s ↦ absurd (
        let there = linked_here t k e in
        let here : slice_get t there.0.key.slot ≡ Some (Some r) = ap (λ (x : Key). slice_get t x.slot) there.2 ∙ ap (slice_get t) (sym s.1) ∙ keeps slot r h in
        let same : there.0 ≡ r = same_Some there.0 r (same_Some (Some there.0) (Some r) (sym there.1 ∙ here)) in
        let key : r.key ≡ k = ap (λ (x : Record). x.key) (sym same) ∙ there.2 in
        let i : IsIn base r = ap (λ (x : Key). slice_get base x.slot) key ∙ ap (slice_get base) (sym s.1) ∙ h in
        let known : is_linked base k ≡ true = ap (is_linked base) (sym key) ∙ ap (λ (o : Option Record). is_some o) (in_found base r i) in
        cc (known, away))
    | inr s ↦ slice_get-set_other t k.slot slot None s.1 ∙ keeps slot r h
  ]
  | false ↦ λ e. keeps
] refl

all_unlinked : (base : Tree) (root : Key) (keys : List Key) (t : Tree) → All (λ k. is_linked base k ≡ false) keys → Keeps base t → Keeps base (replay t (map Unlink keys))
all_unlinked base root [] t away keeps = keeps
all_unlinked base root (k ∷ keys) t away keeps =
    all_unlinked base root keys (after t (Unlink k)) (λ i d inside. away (suc i) d (omega (arith, inside)))
    (unlinked base t root k (away 0 k (omega arith)) keeps)

-- taking a node back changes no record of a tree in which that node is not linked
pub took_older : (a b : Locked) (key : Key) → TookBack a b key → KeepsOlder key a.state.tree b.state.tree
took_older a b key (inl refused) base root l fresh keeps = subst (Keeps base) (sym refused.0.tree) keeps
took_older a b key (inr took) base root l fresh keeps =
    let t = a.state.tree in
    let order : List Key = took.0 in
    let ordered : IsPostOrder t key order = took.2 in
    let each : All (λ k. is_linked base k ≡ false) took.1 =
    λ i d inside. younger base root key l fresh t _ keeps ((ordered.members _).0 (took.3 i d inside)).1 in
    subst (Keeps base) (sym took.4.changed)
    (all_unlinked base root took.1 (after t (Doom key)) each (doomed base root key l fresh t keeps))
