-- The fresh nodes of a subtree rise, and then the world has the marks of the tree after its activation.
use Rattle.std.proofs.Common.{◌≡◌, ◌≢◌, inl, inr, refl, ap, sym, ◌∙◌, subst, Bool, true, false, cond, List, [], ◌∷◌, length}
use Rattle.std.specs.Prelude.{Option, None, Some, ◌||◌, ◌&&◌, not, All, AllPairs, filter}
use Rattle.std.specs.Option.{option_map}
use Rattle.std.proofs.lemmas.Option.{same_Some, none-some}
use Rattle.std.proofs.lemmas.List.{length-map}
use Rattle.std.proofs.lemmas.List.Elements.{filter_passes}
use Rattle.std.proofs.lemmas.List.Kept.{AllPairs-filter}
use Rattle.kf_core.specs.declared.key.Key.{Key}
use Rattle.kf_core.specs.declared.slot.NodeFlags.{NodeFlags}
use Rattle.kf_core.specs.declared.slot.SlotState.{SlotState}
use Rattle.kf_core.specs.declared.command.Command.TheVariants.{Activate}
use Rattle.kf_core.specs.Marks.{fresh_marks}
use Rattle.kf_core.specs.Bare.{BareWorld, marks}
use Rattle.kf_world.specs.Bounded.{BoundedWorld}
use Rattle.kf_core.specs.Keys.{same_key}
use Rattle.kf_core.specs.Tree.{Tree, marks_of}
use Rattle.kf_core.specs.PostOrder.{IsPostOrder}
use Rattle.kf_tree.specs.TreeLogs.{TreeLog}
use Rattle.kf_tree.specs.SlotMarks.{SameMarks, Changed, contains_key, risen_if}
use Rattle.kf_tree.proofs.SameMarks.{same_risen}
use Rattle.kf_plain.specs.Fresh.{is_fresh_key, is_fresh_marked}
use Rattle.kf_plain.specs.Nodes.{AreTied, OnlyMarks}
use Rattle.kf_core.proofs.Climbs.{keys_tell}
use Rattle.kf_core.proofs.Different.{different}
use Rattle.kf_plain.proofs.Ties.{Logs, IsUndoomed, tied_after}

abbrev mark : Bool → Bool → NodeFlags
mark a d = record { activated = a; doomed = d }

and_false : (b : Bool) → (b && false) ≡ false
and_false true = refl
and_false false = refl

contains_filtered : (test : Key → Bool) (keys : List Key) (k : Key) → contains_key (filter test keys) k ≡ (contains_key keys k && test k)
contains_filtered test [] k = refl
contains_filtered test (x ∷ xs) k =
    elim (test x) as (λ b. test x ≡ b → contains_key (cond b (x ∷ filter test xs) (filter test xs)) k ≡ ((same_key x k || contains_key xs k) && test k)) [
      | true ↦ λ e. elim (keys_tell x k) [
        | inl y ↦ ap (λ b. b || contains_key (filter test xs) k) y.0 ∙ sym (ap (λ b. (b || contains_key xs k) && test k) y.0 ∙ ap test (sym y.1) ∙ e)
        | inr n ↦ ap (λ b. b || contains_key (filter test xs) k) n.0 ∙ contains_filtered test xs k ∙ sym (ap (λ b. (b || contains_key xs k) && test k) n.0)
      ]
      | false ↦ λ e. elim (keys_tell x k) [
        | inl y ↦ (let none : test k ≡ false = ap test (sym y.1) ∙ e in
            contains_filtered test xs k ∙ ap (λ b. contains_key xs k && b) none ∙ and_false (contains_key xs k)
            ∙ sym (ap (λ b. (same_key x k || contains_key xs k) && b) none ∙ and_false (same_key x k || contains_key xs k)))
        | inr n ↦ contains_filtered test xs k ∙ sym (ap (λ b. (b || contains_key xs k) && test k) n.0)
      ]
    ] refl

-- the rise of a node that is not fresh changes nothing, so to raise the fresh ones is to raise all
same_filtered : (t : Tree) (keys : List Key) (w new : BareWorld) → SameMarks w.slots t → Changed risen_if (filter (is_fresh_key t) keys) w.slots new.slots → Changed risen_if keys w.slots new.slots
same_filtered t keys w new same changed k =
    changed k ∙ ap (λ b. option_map (risen_if b) (marks w k)) (contains_filtered (is_fresh_key t) keys k) ∙ go (marks w k) (same k)
  where
    only_fresh : (c a d : Bool) → (((c && (not a && not d)) && not d) || a) ≡ ((c && not d) || a)
    only_fresh true true true = refl
    only_fresh true true false = refl
    only_fresh true false true = refl
    only_fresh true false false = refl
    only_fresh false true true = refl
    only_fresh false true false = refl
    only_fresh false false true = refl
    only_fresh false false false = refl

    go : (o : Option NodeFlags) → o ≡ marks_of t k → option_map (risen_if (contains_key keys k && is_fresh_marked (marks_of t k))) o ≡ option_map (risen_if (contains_key keys k)) o
    go None e = refl
    go (Some m) e = ap (λ n. option_map (risen_if (contains_key keys k && is_fresh_marked n)) (Some m)) (sym e)
        ∙ ap (λ b. Some (mark b m.doomed)) (only_fresh (contains_key keys k) m.activated m.doomed)

fresh_is : (o : Option NodeFlags) → is_fresh_marked o ≡ true → o ≡ Some fresh_marks
fresh_is None h = absurd (cc)
fresh_is (Some m) h = ap (λ x. Some x) (go m.activated m.doomed h)
  where
    go : (a d : Bool) → (not a && not d) ≡ true → mark a d ≡ fresh_marks
    go true d e = absurd (cc)
    go false true e = absurd (cc)
    go false false e = refl

pub fresh_listed : (t : Tree) (keys all : List Key) (w : BareWorld) → SameMarks w.slots t → keys ≡ filter (is_fresh_key t) all → All (λ k. marks w k ≡ Some fresh_marks) keys
fresh_listed t keys all w same e = subst (λ ks. All (λ k. marks w k ≡ Some fresh_marks) ks) (sym e) (λ i d l. same _ ∙ fresh_is _ (filter_passes (is_fresh_key t) all i d l))

pub different_listed : (log : TreeLog) (w : BareWorld) (top : Key) (keys all : List Key) → AreTied log w → IsPostOrder log.tree top all → keys ≡ filter (is_fresh_key log.tree) all → AllPairs (λ a b. a ≢ b) keys
different_listed log w top keys all tied p e = subst (λ ks. AllPairs (λ a b. a ≢ b) ks) (sym e)
    (AllPairs-filter (λ a b. a ≢ b) (is_fresh_key log.tree) all (different log.tree log.root tied.kept.lawful top all p))

undoomed_risen : (keys : List Key) (w w' : BareWorld) → Changed risen_if keys w.slots w'.slots → IsUndoomed w → IsUndoomed w'
undoomed_risen keys w w' changed none k n h = go (marks w k) refl (sym (changed k) ∙ h)
  where
    go : (o : Option NodeFlags) → marks w k ≡ o → option_map (risen_if (contains_key keys k)) o ≡ Some n → n.doomed ≡ false
    go None e f = absurd (none-some n f)
    go (Some m) e f = ap (λ (x : NodeFlags). x.doomed) (sym (same_Some (risen_if (contains_key keys k) m) n f)) ∙ none k m e

pub wide_as : (a b : BoundedWorld) → OnlyMarks a b → length b.world.slots ≡ length a.world.slots
wide_as a b only = sym (length-map b.world.slots (λ (s : SlotState). s.generation)) ∙ ap length only.last ∙ length-map a.world.slots (λ (s : SlotState). s.generation)

pub tied_risen : (log log' : TreeLog) (w w' : BoundedWorld) (top : Key) (keys all : List Key) → AreTied log w.world → IsPostOrder log.tree top all → keys ≡ filter (is_fresh_key log.tree) all →
    Changed risen_if keys w.world.slots w'.world.slots → OnlyMarks w w' → Logs log log' (Activate top) → AreTied log' w'.world
tied_risen log log' w w' top keys all tied p e changed only a =
    tied_after log log' w.world w'.world (Activate top) tied a (wide_as w w' only)
    (same_risen log.tree top all w.world.slots w'.world.slots tied.marks p (same_filtered log.tree all w.world w'.world tied.marks (subst (λ ks. Changed risen_if ks w.world.slots w'.world.slots) e changed)))
    (undoomed_risen keys w.world w'.world changed tied.undoomed)
