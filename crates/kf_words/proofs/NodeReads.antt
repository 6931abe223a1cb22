-- What a caller reads of a node, after it counted a hold of the node's key and before it finds the key still
-- linked, is what was stored there when the node was born.
use Rattle.std.proofs.Common.{◌≡◌, ℕ, suc, ◌≤◌, true, List, [], ◌∷◌, ◌++◌, refl, sym, ap, ◌∙◌, subst, arith, append_assoc}
use Rattle.std.specs.Prelude.{slice_index}
use mathlib.Core.Option.{some, some-injective}
use lib.ListN.{get_elem?}
use Rattle.atomic_table.specs.Table.{stepped, keeps}
use Rattle.kf_core.specs.declared.key.Key.{Key}
use Rattle.kf_core.specs.Bare.{BareWorld, is_linked}
use Rattle.kf_core.proofs.Keeping.{same_key}
use Rattle.kf_words.specs.declared.sight.Opening.{Opening}
use Rattle.kf_words.specs.declared.sight.Seen.{Seen}
use Rattle.kf_words.specs.declared.view.CallerView.{CallerView}
use Rattle.kf_words.specs.declared.view.View.TheVariants as seat
use Rattle.kf_words.specs.Layout.{hold_index, node_index, IsOf}
use Rattle.kf_words.specs.Rule.{bare_world}
use Rattle.kf_words.specs.Steps.{after_miss, key_in}
use Rattle.kf_words.specs.Callers.{CallerSight}
use Rattle.kf_words.specs.TableSteps.{Table, StepKind, world, WordRun, sees_holds_at, counts_hold_at, reads_node}
use Rattle.kf_words.specs.History.{opened_as}
use Rattle.kf_words.specs.Made.{WasMade}
use Rattle.kf_words.specs.NodeWords.{NodeNotes, no_notes, notes_after}
use Rattle.kf_words.specs.NodeReads.{ReadIsBorn}
use Rattle.kf_words.proofs.Keeps.{run_parts}
use Rattle.kf_words.proofs.OneEnds.{one_end}
use Rattle.kf_words.proofs.Noted.{put}
use Rattle.kf_words.proofs.PinSteps.{linked_key, near}
use Rattle.kf_words.proofs.Pinned.{counted_linked}
use Rattle.kf_words.proofs.WordSteps.{world_is}
use Rattle.kf_words.proofs.NodeWords.{notes_parts, run_joined, linked_as_born, read_as_born}

-- the word that a caller's load finds is in its view after the load
load_finds : (before after : CallerSight) (kind : ℕ → StepKind) (x : WasMade kind before after) (i : ℕ) (c : CallerView) → get_elem? x.found.views (suc x.caller) ≡ some (seat.Caller c)
    → x.left ≡ stepped x.found i (slice_index x.found.words i) (suc x.caller) [] (seat.Caller (after_miss (slice_index x.found.words i) c)) keeps → after.view.found ≡ slice_index x.found.words i
load_finds before after kind x i c there becomes =
    let n : ℕ = slice_index x.found.words i in
    let new : get_elem? x.left.views (suc x.caller) ≡ some (seat.Caller (after_miss n c)) = ap (λ (y : Table). get_elem? y.views (suc x.caller)) becomes ∙ put x.found.views (suc x.caller) (seat.Caller c) (seat.Caller (after_miss n c)) there in
    let same_seat : seat.Caller (after_miss n c) ≡ seat.Caller after.view = some-injective _ _ (sym new ∙ x.is) in
    let same_view : after_miss n c ≡ after.view = cc in
    ap (λ (v : CallerView). v.found) (sym same_view)

module _ (key : Key) (first looked : CallerSight) (x : WasMade (sees_holds_at key.slot) first looked) (of_key : IsOf key.generation looked.view.found) where
  found_word : looked.view.found ≡ slice_index x.found.words (hold_index key.slot)
  found_word = load_finds first looked (sees_holds_at key.slot) x (hold_index key.slot) x.step.0 x.step.2.there x.step.2.becomes

  here : IsOf key.generation (slice_index x.found.words (hold_index key.slot))
  here = subst (λ (n : ℕ). IsOf key.generation n) found_word of_key

  -- the key was linked in the table that the look found
  pub looked_linked : is_linked (world x.found) key ≡ true
  looked_linked =
      let h = x.shown in
      let its : key_in key.slot (slice_index x.found.words (hold_index key.slot)) ≡ key = same_key _ key refl here.1 in
      subst (λ (w : BareWorld). is_linked w key ≡ true) (sym (world_is x.found h.master h.callers h.views))
      (ap (λ (k : Key). is_linked (bare_world h.master h.callers) k) (sym its) ∙ linked_key x.found.words h.master h.callers h.shows key.slot here.0)

-- the table in which the hold was counted has at least one slot, and at most 65,535 holds of each
module _ (key : Key) (first counted : CallerSight) (x : WasMade (counts_hold_at key.slot) first counted) where
  some_slot : 1 ≤ first.seen.opening.slots
  some_slot = let h = x.shown in let n = near x.found.words h.master h.callers h.shows key.slot x.step.1.2.0 in let all = h.all_slots in omega (arith, n, all)

  few_holds : first.seen.opening.holds ≤ 65535
  few_holds = let h = x.shown in let few = h.shows.few in let most = h.most_holds in omega (arith, few, most)

-- if a beginning of a run leads to a table, the rest of the run goes on from that table
goes_on_from : (o : Opening) (front rest : List StepKind) (t u : Table) → WordRun (opened_as o) front t → WordRun (opened_as o) (front ++ rest) u → WordRun t rest u
goes_on_from o front rest t u r whole =
    let p = run_parts front rest (opened_as o) u whole in
    subst (λ (y : Table). WordRun y rest u) (one_end (opened_as o) p.0 t front p.1 r) p.2

pub read_is_born : ReadIsBorn
read_is_born key place few first counted before read then last count pinned on1 reads on2 look of_key =
    let o : Opening = first.seen.opening in
    let a : List StepKind = first.seen.steps ++ count.between in
    let k1 : StepKind = counts_hold_at key.slot count.caller in
    let k2 : StepKind = reads_node key.slot place reads.caller in
    let mid : List StepKind = k1 ∷ (on1.0 ++ reads.between) in
    let end : List StepKind = k2 ∷ (on2.0 ++ look.between) in
    let o1 : counted.seen.opening ≡ o = ap (λ (s : Seen). s.opening) count.seen in
    let o2 : before.seen.opening ≡ o = ap (λ (s : Seen). s.opening) on1.1 ∙ o1 in
    let o3 : read.seen.opening ≡ o = ap (λ (s : Seen). s.opening) reads.seen ∙ o2 in
    let o4 : then.seen.opening ≡ o = ap (λ (s : Seen). s.opening) on2.1 ∙ o3 in
    -- the steps that were seen before the read, and those before the look
    let s2 : before.seen.steps ++ reads.between ≡ a ++ mid =
    ap (λ (s : Seen). s.steps ++ reads.between) on1.1
    ∙ ap (λ (s : Seen). (s.steps ++ on1.0) ++ reads.between) count.seen
    ∙ append_assoc (a ++ k1 ∷ []) on1.0 reads.between
    ∙ append_assoc a (k1 ∷ []) (on1.0 ++ reads.between) in
    let s4 : then.seen.steps ++ look.between ≡ (a ++ mid) ++ end =
    ap (λ (s : Seen). s.steps ++ look.between) on2.1
    ∙ ap (λ (s : Seen). (s.steps ++ on2.0) ++ look.between) reads.seen
    ∙ append_assoc ((before.seen.steps ++ reads.between) ++ k2 ∷ []) on2.0 look.between
    ∙ append_assoc (before.seen.steps ++ reads.between) (k2 ∷ []) (on2.0 ++ look.between)
    ∙ ap (λ (l : List StepKind). l ++ end) s2 in
    let run_t : WordRun (opened_as o) a count.found = count.run in
    let run_u : WordRun (opened_as o) (a ++ mid) reads.found =
    subst (λ (l : List StepKind). WordRun (opened_as o) l reads.found) s2 (subst (λ (y : Opening). WordRun (opened_as y) (before.seen.steps ++ reads.between) reads.found) o2 reads.run) in
    let run_v : WordRun (opened_as o) ((a ++ mid) ++ end) look.found =
    subst (λ (l : List StepKind). WordRun (opened_as o) l look.found) s4 (subst (λ (y : Opening). WordRun (opened_as y) (then.seen.steps ++ look.between) look.found) o4 look.run) in
    let to_u : WordRun count.found mid reads.found = goes_on_from o a mid count.found reads.found run_t run_u in
    let to_v : WordRun reads.found end look.found = goes_on_from o (a ++ mid) end reads.found look.found run_u run_v in
    let linked_t : is_linked (world count.found) key ≡ true = counted_linked key first counted count pinned in
    let linked_v : is_linked (world look.found) key ≡ true = looked_linked key then last look of_key in
    let word : read.view.found ≡ slice_index reads.found.words (node_index place key.slot) =
    load_finds before read (reads_node key.slot place) reads (node_index place key.slot) reads.step.0 reads.step.2.there reads.step.2.becomes in
    let w : NodeNotes = notes_after no_notes a in
    word
    ∙ read_as_born o (some_slot key first counted count) (few_holds key first counted count) a mid end count.found reads.found look.found run_t to_u to_v key linked_t linked_v place few
    ∙ ap (λ (l : List StepKind). (notes_after no_notes l).born key.slot place) (append_assoc a mid end)
    ∙ ap (λ (x : NodeNotes). x.born key.slot place) (notes_parts no_notes a (mid ++ end))
    -- the count stores no word of a node, and while the key is linked, what was stored at its birth stays
    ∙ linked_as_born w o.slots o.holds (mid ++ end) count.found look.found key count.shown (run_joined mid end count.found reads.found look.found to_u to_v) linked_t linked_v place
    ∙ ap (λ (x : NodeNotes). x.born key.slot place) (sym (notes_parts no_notes a (k1 ∷ [])))
    ∙ ap (λ (s : Seen). (notes_after no_notes s.steps).born key.slot place) (sym count.seen)
