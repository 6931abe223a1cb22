-- If a caller made a hold of a given key, the node of the hold is the one that was born with the key.
use Rattle.std.proofs.Common.{◌≡◌, ℕ, List, [], ◌∷◌, ◌++◌, sym, ap, ◌∙◌, subst, arith, append_assoc, append-nil}
use Rattle.kf_core.specs.declared.key.Key.{Key}
use Rattle.kf_core.specs.declared.key.Node.{Node}
use Rattle.kf_words.specs.declared.sight.Seen.{Seen}
use Rattle.kf_words.specs.Layout.{IsOf}
use Rattle.kf_words.specs.Callers.{CallerSight}
use Rattle.kf_words.specs.TableSteps.{StepKind}
use Rattle.kf_words.specs.Made.{WasMade}
use Rattle.kf_words.specs.NodeWords.{no_notes, notes_after, node_in, node_born}
use Rattle.kf_words.specs.NodeReads.{GoesOn}
use Rattle.kf_words.specs.Pins.{WasRead, WasPinnedBy, WasPinnedFor}
use Rattle.kf_words.proofs.NodeReads.{read_is_born}

goes_nowhere : (s : Seen) → GoesOn s s
goes_nowhere s = ([], ap (λ (l : List StepKind). let x : Seen = record { opening = s.opening; steps = l } in x) (sym (append-nil s.steps)))

goes_further : (a b c : Seen) → GoesOn a b → GoesOn b c → GoesOn a c
goes_further a b c x y = (
  x.0 ++ y.0,
  y.1 ∙ ap (λ (s : Seen). let z : Seen = record { opening = s.opening; steps = s.steps ++ y.0 } in z) x.1
      ∙ ap (λ (l : List StepKind). let z : Seen = record { opening = a.opening; steps = l } in z) (append_assoc a.steps x.0 y.0),
)

by_step : (kind : ℕ → StepKind) (b c : CallerSight) → WasMade kind b c → GoesOn b.seen c.seen
by_step kind b c x =
    (x.between ++ kind x.caller ∷ [], x.seen ∙ ap (λ (l : List StepKind). let z : Seen = record { opening = b.seen.opening; steps = l } in z) (append_assoc b.seen.steps x.between (kind x.caller ∷ [])))

pub held_node : (key : Key) (node : Node) (before pinned after : CallerSight) (seen : Seen) → WasPinnedFor key before pinned seen → WasRead key node pinned after → IsOf key.generation after.view.found
    → node ≡ node_born seen key.slot
held_node key node before pinned after seen p r linked =
    let b : WasPinnedBy key p.0 pinned seen = p.2 in
    let counted : CallerSight = b.counted in
    let to_pinned = subst (λ (s : Seen). GoesOn counted.seen s) (sym b.same) (goes_nowhere counted.seen) in
    let to_one = goes_further counted.seen pinned.seen r.one.seen to_pinned (by_step _ pinned r.one r.kind) in
    let to_two = goes_further counted.seen r.one.seen r.two.seen to_one (by_step _ r.one r.two r.first) in
    let two_three = by_step _ r.two r.three r.second in
    let one_three = goes_further r.one.seen r.two.seen r.three.seen (by_step _ r.one r.two r.first) two_three in
    let k = read_is_born key 0 (omega arith) p.0 counted pinned r.one r.three after b.count b.key_is to_pinned r.kind one_three r.look linked in
    let f = read_is_born key 1 (omega arith) p.0 counted r.one r.two r.three after b.count b.key_is to_one r.first two_three r.look linked in
    let s = read_is_born key 2 (omega arith) p.0 counted r.two r.three r.three after b.count b.key_is to_two r.second (goes_nowhere r.three.seen) r.look linked in
    r.node_is
    ∙ ap (λ (n : ℕ). node_in n r.two.view.found r.three.view.found) k
    ∙ ap (λ (n : ℕ). node_in ((notes_after no_notes counted.seen.steps).born key.slot 0) n r.three.view.found) f
    ∙ ap (λ (n : ℕ). node_in ((notes_after no_notes counted.seen.steps).born key.slot 0) ((notes_after no_notes counted.seen.steps).born key.slot 1) n) s
    ∙ ap (λ (x : Seen). node_born x key.slot) (sym b.told)
