-- Nodes are taken out of the tree and of the world, one after another.
use Rattle.std.proofs.Common.{◌≡◌, ◌≢◌, ◌⊎◌, inl, inr, ℕ, zero, suc, ◌+◌, ◌<◌, refl, ap, arith, sym, ◌∙◌, subst, Bool, true, false, cond, List, [], ◌∷◌, ◌++◌, length, take, slice_set, append_assoc}
use Rattle.std.specs.Prelude.{Option, None, Some, slice_get, slice_index_or, is_some, map, drop, not, ◌&&◌, ◌||◌, IsFalse, All, AllPairs}
use Rattle.std.specs.Option.{option_map}
use Rattle.std.proofs.lemmas.Option.{none-some, slice_get-get_or, slice_get_within}
use Rattle.std.proofs.lemmas.List.{append-nil, map-append, length-take-le, length-drop, length-map}
use Rattle.std.proofs.lemmas.List.Folds.{list_any_none}
use Rattle.kf_core.specs.declared.key.Key.{Key}
use Rattle.kf_core.specs.declared.slot.NodeFlags.{NodeFlags}
use Rattle.kf_core.specs.declared.records.Record.{Record}
use Rattle.kf_core.specs.declared.caller.Caller.{Caller}
use Rattle.kf_core.specs.declared.caller.Phase.{Phase}
use Rattle.kf_core.specs.declared.caller.Phase.TheVariants.{Still}
use Rattle.kf_core.specs.declared.command.Command.{Command}
use Rattle.kf_core.specs.declared.command.Command.TheVariants.{Unlink}
use Rattle.kf_core.specs.declared.refusal.Refusal.{Refusal}
use Rattle.kf_core.specs.declared.refusal.Refusal.TheVariants.{Invalid, Busy}
use Rattle.kf_core.specs.Keys.{same_key}
use Rattle.kf_core.specs.Marks.{are_doomed}
use Rattle.kf_core.specs.Phases.{has_reference}
use Rattle.kf_core.specs.Refusals.{unless, first_cause}
use Rattle.kf_core.specs.Bare.{IsCaller, marks}
use Rattle.kf_world.specs.Bounded.{BoundedWorld}
use Rattle.kf_core.specs.Steps.{NoReference}
use Rattle.kf_core.specs.Tree.{Tree, record_at, marks_of, is_linked, IsIn}
use Rattle.kf_core.specs.Commands.{after, replay}
use Rattle.kf_tree.specs.Causes.{unlink_cause, doomed_in}
use Rattle.kf_table.specs.Children.{has_child, is_under}
use Rattle.kf_tree.specs.TreeLogs.{TreeLog, IsKept, IsAccepted}
use Rattle.kf_tree.specs.SlotMarks.{SameMarks, contains_key}
use Rattle.kf_tree.proofs.MarkChanges.{contains_more}
use Rattle.kf_tree.proofs.Opening.{replay_push}
use Rattle.kf_tree.proofs.SameMarks.{same_unlinked}
use Rattle.kf_tree.proofs.SlotWrites.{written, marks_written, alone_linked}
use Rattle.kf_plain.specs.Nodes.{AllIdle, last_of, logged, spent_on}
use Rattle.kf_plain.specs.Removals.{AreChildrenFirst, Cleared, IsMarkedDoomed, released, still_on, taken_out}
use Rattle.kf_core.proofs.Climbs.{keys_tell, same_key_self}
use Rattle.kf_core.proofs.Lists.{slice_get-set_same, after_set}
use Rattle.kf_plain.proofs.Marking.{last_marked, not_before}
use Rattle.kf_plain.proofs.Rows.{partly, partly_at, partly_more}
use Rattle.kf_core.proofs.FoundRecords.{in_found, found_in, find_at, find_cleared, linked_here}
use Rattle.kf_plain.proofs.Ties.{logs, log_after}

-- what is left of each record once the nodes of these keys are taken out
abbrev pub Left : List Key → Tree → Tree → Type 0
Left keys old new = (k : Key) → record_at new k ≡ cond (contains_key keys k) None (record_at old k)

one_less : {X : Type 0} (a b : Bool) (o : Option X) → cond b None (cond a None o) ≡ cond (a || b) None o
one_less true true o = refl
one_less true false o = refl
one_less false true o = refl
one_less false false o = refl

-- the record of each key after one node is taken out
pub record_unlinked : (t : Tree) (x k : Key) → is_linked t x ≡ true → record_at (after t (Unlink x)) k ≡ cond (same_key x k) None (record_at t k)
record_unlinked t x k linked =
    (let r = linked_here t x linked in
    let cleared : after t (Unlink x) ≡ slice_set t x.slot None = ap (λ b. cond b (slice_set t x.slot None) t) linked in
    ap (λ u. record_at u k) cleared ∙ elim (keys_tell x k) [
      | inl e ↦ subst (λ y. record_at (slice_set t x.slot None) y ≡ cond (same_key x y) None (record_at t y)) e.1
          (find_at (slice_set t x.slot None) x None (slice_get-set_same t x.slot None (at r.0 r.1 r.2)) ∙ sym (ap (λ b. cond b None (record_at t x)) (same_key_self x)))
      | inr n ↦ subst (λ (y : Key). record_at (slice_set t y.slot None) k ≡ record_at t k) r.2 (find_cleared t r.0 k r.1 (λ e. n.1 (sym (e ∙ r.2)))) ∙ sym (ap (λ b. cond b None (record_at t k)) n.0)
    ])
  where
    at : (r : Record) → IsIn t r → r.key ≡ x → x.slot < length t
    at r h e = subst (λ (y : Key). y.slot < length t) e (slice_get_within t r.key.slot _ h)

logged_more : (log : TreeLog) (cs : List Command) (c : Command) → logged (logged log cs) (c ∷ []) ≡ logged log (cs ++ c ∷ [])
logged_more log cs c =
    (let made : Tree → List Command → TreeLog = λ t l. record { root = log.root; tree = t; commands = l; ready = None } in
    ap (λ t. made t ((log.commands ++ cs) ++ c ∷ [])) (sym (replay_push log.tree cs c)) ∙ ap (made (replay log.tree (cs ++ c ∷ []))) (append_assoc log.commands cs (c ∷ [])))

-- these nodes have been taken out, and nobody has a reference
pub record HasTaken (s0 s : TreeLog) (w0 w : BoundedWorld) (keys : List Key) : Type 0 where
  pub log : s ≡ logged s0 (map Unlink keys)
  pub kept : IsKept s
  pub same : SameMarks w.world.slots s.tree
  pub left : Left keys s0.tree s.tree
  pub cleared : Cleared keys w0.world w.world
  pub last : last_of w.world.slots ≡ last_of w0.world.slots
  pub limit : w.limit ≡ w0.limit
  pub idle : AllIdle w.world.callers

pub none_taken : (s0 : TreeLog) (w0 : BoundedWorld) → s0.ready ≡ None → IsKept s0 → SameMarks w0.world.slots s0.tree → AllIdle w0.world.callers → HasTaken s0 s0 w0 w0 []
none_taken s0 w0 unready kept same idle = record {
  log = (let made : List Command → Option Key → TreeLog = λ cs k. record { root = s0.root; tree = s0.tree; commands = cs; ready = k } in
      ap (λ cs. made cs s0.ready) (sym (append-nil s0.commands)) ∙ ap (made (s0.commands ++ [])) unready);
  kept = kept;
  same = same;
  left = λ k. refl;
  cleared = λ k. refl;
  last = refl;
  limit = refl;
  idle = idle;
}

linked_marked : (t : Tree) (k : Key) (m : NodeFlags) → marks_of t k ≡ Some m → is_linked t k ≡ true
linked_marked t k m h = go (record_at t k) h
  where
    go : (o : Option Record) → option_map (λ (r : Record). r.marks) o ≡ Some m → is_some o ≡ true
    go None e = absurd (none-some m e)
    go (Some r) e = refl

module _ (s0 s : TreeLog) (w0 w : BoundedWorld) (keys : List Key) (i : ℕ) (d : Key) (taken : HasTaken s0 s w0 w (take i keys)) (within : i < length keys)
    (different : AllPairs (λ a b. a ≢ b) keys) (doomed : All (λ key. IsMarkedDoomed (marks w0.world key)) keys) where
  abbrev pub next : Key
  next = slice_index_or keys i d

  pub next_unused : NoReference w.world next
  next_unused id phase there = taken.idle id next phase there

  pub next_doomed : IsMarkedDoomed (marks w.world next)
  next_doomed = (let m = doomed i d within in
      (m.0, taken.cleared next ∙ ap (λ b. cond b None (marks w0.world next)) (not_before keys i d different within) ∙ m.1, m.2))

  pub next_linked : is_linked s.tree next ≡ true
  next_linked = linked_marked s.tree next next_doomed.0 (sym (taken.same next) ∙ next_doomed.1)

  -- the next node no longer has children
  childless : AreChildrenFirst s0.tree keys → has_child s.tree next ≡ false
  childless children = list_any_none (is_under next (λ r. true)) s.tree (λ j o l. at (slice_index_or s.tree j o) j (slice_get-get_or s.tree j o l))
    where
      gone : (j : ℕ) (r : Record) → slice_get s.tree j ≡ Some (Some r) → r.parent ≡ Some next → ⊥
      gone j r h up =
          (let slot = taken.kept.lawful.in_place j r h in
          let here : IsIn s.tree r = ap (slice_get s.tree) slot ∙ h in
          let found : cond (contains_key (take i keys) r.key) None (record_at s0.tree r.key) ≡ Some r = sym (taken.left r.key) ∙ in_found s.tree r here in
          still (contains_key (take i keys) r.key) refl found)
        where
          still : (b : Bool) → contains_key (take i keys) r.key ≡ b → cond b None (record_at s0.tree r.key) ≡ Some r → ⊥
          still true e f = none-some r f
          still false e f = (let yes = children i d r within (found_in s0.tree r.key r f).0 up in let clash : false ≡ true = sym e ∙ yes in cc)

      at : (o : Option Record) (j : ℕ) → slice_get s.tree j ≡ Some o → is_under next (λ r. true) o ≡ false
      at None j h = refl
      at (Some r) j h = elim r.parent as (λ p. r.parent ≡ p → is_under next (λ r. true) (Some (record r { parent = p })) ≡ false) [
        | None ↦ λ e. refl
        | Some p ↦ λ e. (elim (keys_tell p next) [
          | inl y ↦ absurd (gone j r h (e ∙ ap (λ x. Some x) y.1))
          | inr n ↦ ap (λ b. b && true) n.0
        ])
      ] refl

  pub next_uncaused : AreChildrenFirst s0.tree keys → unlink_cause s.tree next ≡ None
  next_uncaused children =
      (let dead : doomed_in s.tree next ≡ true = ap are_doomed (sym (taken.same next) ∙ next_doomed.1) ∙ next_doomed.2 in
      ap (λ b. first_cause (unless b Invalid ∷ unless (not (has_child s.tree next)) Busy ∷ [])) dead
      ∙ ap (λ b. first_cause (unless (not b) Busy ∷ [])) (childless children))

  pub next_taken : (id : ℕ) (cause : Option Refusal) (s' : TreeLog) (w' : BoundedWorld) → IsAccepted s s' cause (Unlink next) → w' ≡ taken_out w id next → HasTaken s0 s' w0 w' (take i keys ++ next ∷ [])
  next_taken id cause s' w' a e = record {
    log = log_after s s' (Unlink next) (logs a) ∙ ap (λ l. logged l (Unlink next ∷ [])) taken.log ∙ logged_more s0 (map Unlink (take i keys)) (Unlink next)
        ∙ ap (logged s0) (sym (map-append Unlink (take i keys) (next ∷ [])));
    kept = a.kept;
    same = subst (λ (v : BoundedWorld). SameMarks v.world.slots s'.tree) (sym e) (subst (λ t. SameMarks (written w.world.slots next None) t) (sym a.changed) (same_unlinked w.world.slots s.tree next taken.same next_linked));
    left = λ k. ap (λ t. record_at t k) a.changed ∙ record_unlinked s.tree next k next_linked ∙ ap (cond (same_key next k) None) (taken.left k)
        ∙ one_less (contains_key (take i keys) k) (same_key next k) (record_at s0.tree k) ∙ ap (λ b. cond b None (record_at s0.tree k)) (sym (contains_more (take i keys) next k));
    cleared = λ k. ap (λ (v : BoundedWorld). marks v.world k) e ∙ marks_written w.world.slots next k None (alone_linked w.world.slots next next_doomed.0 next_doomed.1) ∙ ap (cond (same_key next k) None) (taken.cleared k)
        ∙ one_less (contains_key (take i keys) k) (same_key next k) (marks w0.world k) ∙ ap (λ b. cond b None (marks w0.world k)) (sym (contains_more (take i keys) next k));
    last = ap (λ (v : BoundedWorld). last_of v.world.slots) e ∙ last_marked w.world next next_doomed.0 None next_doomed.1 ∙ taken.last;
    limit = ap (λ (v : BoundedWorld). v.limit) e ∙ taken.limit;
    idle = subst (λ (v : BoundedWorld). AllIdle v.world.callers) (sym e) (λ j key phase there. still_idle j key phase (after_set w.world.callers id j (spent_on next) _ there));
  }
    where
      still_idle : (j : ℕ) (key : Key) (phase : Phase) → (spent_on next ≡ record { key = key; phase = phase }) ⊎ (slice_get w.world.callers j ≡ Some (record { key = key; phase = phase })) → IsFalse (has_reference phase)
      still_idle j key phase (inl same) = ap (λ (c : Caller). has_reference c.phase) (sym same)
      still_idle j key phase (inr there) = taken.idle j key phase there

map_item : {X Y : Type 0} (f : X → Y) (xs : List X) (i : ℕ) (d : X) → slice_index_or (map f xs) i (f d) ≡ f (slice_index_or xs i d)
map_item f [] zero d = refl
map_item f [] (suc i) d = refl
map_item f (x ∷ xs) zero d = refl
map_item f (x ∷ xs) (suc i) d = map_item f xs i d

-- the callers from this number on hold the nodes, except for the first of them, which have released theirs
module _ (w0 w : BoundedWorld) (first : ℕ) (keys : List Key) (i : ℕ) (d : Key) (within : i < length keys) (row : drop first w0.world.callers ≡ map still_on keys)
    (so_far : w.world.callers ≡ partly released (take first w0.world.callers) (drop first w0.world.callers) i) where
  in_row : i < length (drop first w0.world.callers)
  in_row = (let a = ap length row in let b = length-map keys still_on in omega (arith, a, b, within))

  front_length : length (take first w0.world.callers) + i ≡ first + i
  front_length = (let a = in_row in let b = length-drop first w0.world.callers in ap (λ n. n + i) (length-take-le first w0.world.callers (omega (arith, a, b))))

  item : slice_index_or (drop first w0.world.callers) i (still_on d) ≡ still_on (slice_index_or keys i d)
  item = ap (λ l. slice_index_or l i (still_on d)) row ∙ map_item still_on keys i d

  pub next_still : IsCaller w.world (first + i) (slice_index_or keys i d) Still
  next_still = ap (λ l. slice_get l (first + i)) so_far ∙ partly_at released (take first w0.world.callers) (drop first w0.world.callers) i (first + i) (still_on d) in_row front_length ∙ ap (λ x. Some x) item

  pub next_spent : (w' : BoundedWorld) → w' ≡ taken_out w (first + i) (slice_index_or keys i d) → w'.world.callers ≡ partly released (take first w0.world.callers) (drop first w0.world.callers) (i + 1)
  next_spent w' e =
      ap (λ (v : BoundedWorld). v.world.callers) e ∙ ap (λ l. slice_set l (first + i) (spent_on (slice_index_or keys i d))) so_far
      ∙ ap (λ (c : Caller). slice_set (partly released (take first w0.world.callers) (drop first w0.world.callers) i) (first + i) (released c)) (sym item)
      ∙ partly_more released (take first w0.world.callers) (drop first w0.world.callers) i (first + i) (still_on d) in_row front_length
