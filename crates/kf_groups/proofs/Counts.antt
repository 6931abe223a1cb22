-- The number of linked nodes: a creation adds one, an unlink removes one, an activation or doom changes
-- nothing.
use Rattle.std.proofs.Common.{◌≡◌, inl, inr, ℕ, suc, ◌+◌, ◌≤◌, refl, ap, sym, subst, arith, ◌∙◌, ◌==◌, Bool, true, false, cond, List, [], ◌∷◌, length, slice_set}
use Rattle.std.specs.Prelude.{Option, None, Some, Result, Ok, slice_get, is_some, IfOk, ◌&&◌}
use Rattle.std.proofs.lemmas.Bool.Decides.{eqb_tells}
use Rattle.std.proofs.lemmas.Option.{same_Some}
use Rattle.kf_core.specs.declared.command.Command.TheVariants.{Create, Activate, Doom, Unlink}
use Rattle.kf_core.specs.declared.key.Key.{Key}
use Rattle.kf_core.specs.declared.key.Node.{Node}
use Rattle.kf_core.specs.declared.records.Record.{Record}
use Rattle.kf_core.specs.declared.refusal.Refusal.{Refusal}
use Rattle.kf_core.specs.Commands.{after, new_record}
use Rattle.kf_core.specs.Tree.{Tree, is_linked}
use Rattle.kf_core.proofs.FoundRecords.{linked_here}
use Rattle.kf_core.proofs.Lists.{count_cleared, count_filled, count_mapped}
use Rattle.kf_core.proofs.Tallies.{count_cons}
use Rattle.kf_core.specs.Tallies.{tally}
use Rattle.kf_shared.specs.Locked.{Locked, UnlinkDone}
use Rattle.kf_table.proofs.ChildTests.{both}
use Rattle.kf_tree.specs.TreeLogs.{TreeLog, IsAccepted}
use Rattle.kf_words.specs.Callers.{Handle}
use Rattle.kf_groups.specs.Keeps.{Keeps}
use Rattle.kf_tree.specs.Subtrees.{linked_count}
use Rattle.kf_groups.specs.TakenBack.{GaveUp, LacksRoom, RoomRefused}

pub created_more : (t : Tree) (key parent : Key) (name : List ℕ) (node : Node) (live : Bool) → slice_get t key.slot ≡ Some None
    → linked_count (after t (Create key parent name node live)) ≡ linked_count t + 1
created_more t key parent name node live vacant = count_filled t key.slot (new_record key parent name node live) vacant

pub activated_same : (t : Tree) (key : Key) → linked_count (after t (Activate key)) ≡ linked_count t
activated_same t key = count_mapped _ t

pub doomed_count : (old new : TreeLog) (cause : Option Refusal) (key : Key) → IsAccepted old new cause (Doom key) → linked_count new.tree ≡ linked_count old.tree
doomed_count old new cause key accepted = ap (λ (t : Tree). linked_count t) accepted.changed ∙ count_mapped _ old.tree

pub unlinked_fewer : (t : Tree) (key : Key) → is_linked t key ≡ true → linked_count (after t (Unlink key)) + 1 ≡ linked_count t
unlinked_fewer t key linked =
    let r = linked_here t key linked in
    let at : slice_get t key.slot ≡ Some (Some r.0) = ap (λ (k : Key). slice_get t k.slot) (sym r.2) ∙ r.1 in
    subst (λ b. linked_count (cond b (slice_set t key.slot None) t) + 1 ≡ linked_count t) (sym linked) (count_cleared t key.slot r.0 at)

module _ (x y : Option Record) (xs ys : Tree) (keeps : Keeps (x ∷ xs) (y ∷ ys)) where
  behind : Keeps xs ys
  behind slot r h = keeps (suc slot) r h

  ahead : tally (is_some x) ≤ tally (is_some y)
  ahead = elim x as (λ o. x ≡ o → tally (is_some o) ≤ tally (is_some y)) [
    | None ↦ λ e. omega arith
    | Some r ↦ λ e. (let same : y ≡ Some r = same_Some y (Some r) (keeps 0 r (ap Some e)) in
        let one : tally (is_some y) ≡ 1 = ap (λ o. tally (is_some o)) same in omega arith)
  ] refl

kept_most : (old new : Tree) → length new ≡ length old → Keeps old new → linked_count old ≤ linked_count new
kept_most [] new l keeps = omega arith
kept_most (x ∷ xs) [] l keeps = absurd (omega (arith, l))
kept_most (x ∷ xs) (y ∷ ys) l keeps =
    let first = ahead x y xs ys keeps in
    let rest = kept_most xs ys (omega (arith, l)) (behind x y xs ys keeps) in
    let c = count_cons is_some x xs in
    let d = count_cons is_some y ys in
    omega (arith, first, rest, c, d)

same_first : (x y : Option Record) → ((r : Record) → x ≡ Some r → y ≡ Some r) → tally (is_some y) ≤ tally (is_some x) → y ≡ x
same_first None None keeps few = refl
same_first None (Some s) keeps few = absurd (omega (arith, few))
same_first (Some r) y keeps few = keeps r refl

-- if the new tree has as many slots, keeps all records and has at most as many linked nodes, it is the old
-- tree
pub kept_all : (old new : Tree) → length new ≡ length old → Keeps old new → linked_count new ≤ linked_count old → new ≡ old
kept_all [] [] l keeps few = refl
kept_all [] (y ∷ ys) l keeps few = absurd (omega (arith, l))
kept_all (x ∷ xs) [] l keeps few = absurd (omega (arith, l))
kept_all (x ∷ xs) (y ∷ ys) l keeps few =
    let still = behind x y xs ys keeps in
    let first = ahead x y xs ys keeps in
    let rest = kept_most xs ys (omega (arith, l)) still in
    let c = count_cons is_some x xs in
    let d = count_cons is_some y ys in
    let tail = kept_all xs ys (omega (arith, l)) still (omega (arith, few, first, c, d)) in
    let head = same_first x y (λ r e. same_Some y (Some r) (keeps 0 r (ap Some e))) (omega (arith, few, rest, c, d)) in
    ap (λ z. z ∷ ys) head ∙ ap (λ zs. x ∷ zs) tail

-- an unlink that returned true leaves one linked node fewer
pub unlinked_one : (old new : Locked) (key drained : Key) (r : Result Bool Refusal) → r ≡ Ok true
    → IfOk r (λ linked. is_linked old.state.tree drained ≡ linked) → IfOk r (λ linked. UnlinkDone old new drained linked)
    → linked_count new.state.tree + 1 ≡ linked_count old.state.tree
unlinked_one old new key drained r did linked done =
    let there : is_linked old.state.tree drained ≡ true = subst (λ x. IfOk x (λ linked. is_linked old.state.tree drained ≡ linked)) did linked in
    let accepted : UnlinkDone old new drained true = subst (λ x. IfOk x (λ linked. UnlinkDone old new drained linked)) did done in
    ap (λ (t : Tree). linked_count t + 1) accepted.changed ∙ unlinked_fewer old.state.tree drained there

-- the number of linked nodes after one more unlink, if this node and each one before it were unlinked
pub unlinked_more : (n0 n1 n2 held : ℕ) (all one : Bool) (xs ys : List Handle) (h : Handle) → xs ≡ h ∷ ys
    → (all ≡ true → n1 + held ≡ n0 + length xs) → (one ≡ true → n2 + 1 ≡ n1) → (all && one) ≡ true → n2 + held ≡ n0 + length ys
unlinked_more n0 n1 n2 held all one xs ys h parts before now h' =
    let b = both all one h' in
    let x = before b.0 in
    let y = now b.1 in
    let l : length xs ≡ suc (length ys) = ap length parts in
    omega (arith, x, y, l)

pub single : (n : ℕ) → (n == 1) ≡ true → n ≡ 1
single n h = elim (eqb_tells n 1) [
  | inl e ↦ e.1
  | inr e ↦ absurd (let no : (n == 1) ≡ false = e.0 in cc (h, no))
]

-- if only one node was doomed, and each doomed node was unlinked, one node fewer is linked
pub one_gone : (n0 n1 n2 held : ℕ) (alone all : Bool) → (alone ≡ true → held ≡ 1) → (all ≡ true → n2 + held ≡ n1) → n1 ≡ n0
    → (alone && all) ≡ true → n2 + 1 ≡ n0
one_gone n0 n1 n2 held alone all single each same h' =
    let b = both alone all h' in
    let x = single b.0 in
    let y = each b.1 in
    omega (arith, x, y, same)

-- if the files and then their directory were taken back, one node fewer is linked for each of them
pub directory_gone : (n0 n1 n2 files : ℕ) (all one : Bool) → (all ≡ true → n1 + files ≡ n0) → (one ≡ true → n2 + 1 ≡ n1)
    → (all && one) ≡ true → n2 + suc files ≡ n0
directory_gone n0 n1 n2 files all one before now h' =
    let b = both all one h' in
    let x = before b.0 in
    let y = now b.1 in
    omega (arith, x, y)

-- if all records stay and as many nodes are linked as before, the tree is as it was
pub room_refused : (old new : Tree) (why refusal : Refusal) → length new ≡ length old → Keeps old new
    → LacksRoom old new why refusal → RoomRefused old new why refusal
room_refused old new why refusal same keeps (inl slots) =
    inl (slots.0, slots.1, (let count = slots.2 in kept_all old new same keeps (omega (arith, count))))
room_refused old new why refusal same keeps (inr memory) = inr memory

-- the nodes that were made since then were all taken back, or there was no memory
pub gave_up : (t0 t1 t2 t3 : Tree) (why refusal result : Refusal) (nodes : ℕ) → linked_count t1 ≡ linked_count t0 + nodes
    → LacksRoom t1 t2 why refusal → GaveUp nodes t2 t3 refusal result → LacksRoom t0 t3 why result
gave_up t0 t1 t2 t3 why refusal result nodes more lacks (inr memory) = inr memory
gave_up t0 t1 t2 t3 why refusal result nodes more (inl slots) (inl gave) =
    inl (gave.0 ∙ slots.0, slots.1, (let a = slots.2 in let b = gave.1 in omega (arith, a, b, more)))
gave_up t0 t1 t2 t3 why refusal result nodes more (inr memory) (inl gave) = inr (gave.0 ∙ memory)
