use Rattle.std.proofs.Common.{rules, ◌≡◌, ◌≢◌, ◌<◌, ◌∙◌, ap, arith, length, subst, sym, [], ◌∷◌, ◌++◌, Vec, Global}
use Rattle.kf_core.specs.declared.key.Key.{Key}
use Rattle.kf_core.specs.Tree.{parent_of}
use Rattle.std.specs.Prelude.{Ok, Some, map, reverse}
use Rattle.kf_tree.specs.Links.{IsOver}
use Rattle.kf_tree.specs.Paths.{walk}
use Rattle.kf_tree.specs.Ways.{name_at}
use Rattle.kf_tree.proofs.Down.{first_lead, walk_higher}
use Rattle.kf_tree.proofs.Over.{HasClimbed, climbed_none, climbed_next, climbed_end}
use Rattle.kf_tree.proofs.OneClimb.{beside_first, beside_up, other_up, not_over, deep, next_up, stands_first, stands_next}
use Rattle.kf_tree.proofs.links.push_ups.Goals as goal
use Rattle.kf_tree.proofs.links.push_ups.Goals.{then-ne+in_ok-push, else-ne}

pub up-init : goal.up-init
up-init c =
    let from = c.in_ok-from.ensures.left in
    let to = c.in_ok-from.ensures.right in
    let from_long : c.len.result ≡ length c.in_ok-from.from.items = omega (arith, c.len.ensures, c.in_ok-from.from.ok.0) in
    let to_long : c.len-2.result ≡ length c.in_ok-from.to.items = omega (arith, c.len-2.ensures, c.in_ok-from.to.ok.0) in
    record {
      climbed = climbed_none c.args.table.now c.args.root c.args.dir c.args.target c.reserve.new.self.items c.requires.there;
      room = c.in_ok-reserve.ensures.ok;
      beside = beside_first c.args.table.now c.args.root c.requires.rooted c.args.dir c.args.target c.over_target-over.result _ _ c.requires.linked c.requires.there c.over_target-over.ensures.over
          (rw from_long from.ends) (rw to_long to.ends);
      on_from = rw from_long (stands_first c.args.table.now c.args.root c.requires.rooted c.args.dir c.in_ok-from.from.items from);
      on_to = rw to_long (stands_first c.args.table.now c.args.root c.requires.rooted c.over_target-over.result c.in_ok-from.to.items to);
      lead = elim c.if-ne.branch as (λ b. walk c.args.table.now c.over_target-over.result (reverse (map (name_at c.args.table.now) c.if-ne.keys.items)) ≡ Ok c.args.target) [
        | then-ne+in_ok-push w ↦ (let n : c.args.target ≢ c.over_target-over.result = search rules in
            let pushed : c.if-ne.keys.items ≡ c.args.target ∷ [] = ap (λ (v : Vec Key Global). v.items) w.keys-is ∙ w.in_ok-push.ensures.items ∙ ap (λ xs. xs ++ c.args.target ∷ []) c.requires.none in
            ap (λ keys. walk c.args.table.now c.over_target-over.result (reverse (map (name_at c.args.table.now) keys))) pushed
            ∙ first_lead c.args.table.now c.args.root c.requires.rooted c.args.target c.over_target-over.result c.requires.linked c.over_target-over.ensures.over n)
        | else-ne w ↦ (let e : c.args.target ≡ c.over_target-over.result = search rules in
            let none : c.if-ne.keys.items ≡ [] = ap (λ (v : Vec Key Global). v.items) w.keys-is ∙ c.requires.none in
            ap (λ keys. walk c.args.table.now c.over_target-over.result (reverse (map (name_at c.args.table.now) keys))) none ∙ ap Ok (sym e))
      ];
    }

pub key_above-base-requires-clause-some : goal.key_above-base-requires-clause-some
key_above-base-requires-clause-some c = (let n : c.up.base ≢ c.up.other = search rules in
    deep c.args.table.now c.args.root c.requires.rooted c.up.base c.up.other c.up.base_depth c.up.other_depth c.up.invariant.beside.base_deep c.up.invariant.beside.other_deep n c.if-base_depth-other_depth.true)

pub push_up-requires : goal.push_up-requires
push_up-requires c = (let n : c.up.base ≢ c.up.other = search rules in
    let some = deep c.args.table.now c.args.root c.requires.rooted c.up.base c.up.other c.up.base_depth c.up.other_depth c.up.invariant.beside.base_deep c.up.invariant.beside.other_deep n c.if-base_depth-other_depth.true in omega (arith, some, c.up.invariant.room))

pub overflow_sub-base_depth-then-base_depth-other_depth : goal.overflow_sub-base_depth-then-base_depth-other_depth
overflow_sub-base_depth-then-base_depth-other_depth c = (let n : c.up.base ≢ c.up.other = search rules in
    let some = deep c.args.table.now c.args.root c.requires.rooted c.up.base c.up.other c.up.base_depth c.up.other_depth c.up.invariant.beside.base_deep c.up.invariant.beside.other_deep n c.if-base_depth-other_depth.true in omega (arith, some))

pub up-smaller-then-base_depth-other_depth : goal.up-smaller-then-base_depth-other_depth
up-smaller-then-base_depth-other_depth c = (let n : c.up.base ≢ c.up.other = search rules in
    let some = deep c.args.table.now c.args.root c.requires.rooted c.up.base c.up.other c.up.base_depth c.up.other_depth c.up.invariant.beside.base_deep c.up.invariant.beside.other_deep n c.if-base_depth-other_depth.true in omega (arith, some))

pub up-preserved-then-base_depth-other_depth : goal.up-preserved-then-base_depth-other_depth
up-preserved-then-base_depth-other_depth c = (let n : c.up.base ≢ c.up.other = search rules in
    let stands = c.up.invariant.on_from in
    let some = deep c.args.table.now c.args.root c.requires.rooted c.up.base c.up.other c.up.base_depth c.up.other_depth c.up.invariant.beside.base_deep c.up.invariant.beside.other_deep n c.if-base_depth-other_depth.true in
    let above = rw c.deref.ensures.value at c.key_above-base.ensures.above in
    let parent : parent_of c.args.table.now c.up.base ≡ Some c.key_above-base.result = next_up c.args.table.now c.args.root c.requires.rooted c.args.dir c.up.base c.key_above-base.result c.in_ok-from.from.items c.up.base_depth c.in_ok-from.ensures.left stands some above in
    record {
      climbed = climbed_next c.args.table.now c.args.root c.args.dir c.args.target c.up.base c.key_above-base.result _ _ _ c.requires.rooted c.up.invariant.climbed
          (not_over c.args.table.now c.args.root c.requires.rooted c.args.target c.up.base c.up.other c.up.base_depth c.up.other_depth c.up.invariant.beside c.up.invariant.climbed.linked n c.if-base_depth-other_depth.true)
          parent c.push_up.ensures.items;
      beside = beside_up c.args.table.now c.args.root c.requires.rooted c.args.target c.up.base c.up.other c.key_above-base.result c.up.base_depth c.up.other_depth c.up.invariant.beside parent;
      on_from = stands_next c.args.table.now c.args.root c.requires.rooted c.key_above-base.result c.in_ok-from.from.items c.up.base_depth stands.0 some above;
      on_to = c.up.invariant.on_to;
      room = omega (arith, c.up.invariant.room, c.push_up.ensures.len, c.push_up.ensures.capacity, some);
      lead = c.up.invariant.lead;
    })

pub up-preserved : goal.up-preserved
up-preserved c = (let n : c.up.base ≢ c.up.other = search rules in
    let stands = c.up.invariant.on_to in
    let less = c.if-base_depth-other_depth.false in
    let some : 0 < c.up.other_depth = omega (arith, less) in
    let above = rw c.deref-else-base_depth-other_depth.ensures.value at c.key_above-other.ensures.above in
    let parent : parent_of c.args.table.now c.up.other ≡ Some c.key_above-other.result = next_up c.args.table.now c.args.root c.requires.rooted c.over_target-over.result c.up.other c.key_above-other.result c.in_ok-from.to.items c.up.other_depth c.in_ok-from.ensures.right stands some above in
    record {
      climbed = c.up.invariant.climbed;
      beside = other_up c.args.table.now c.args.root c.requires.rooted c.args.target c.up.base c.up.other c.key_above-other.result c.up.base_depth c.up.other_depth c.up.invariant.beside parent n (omega (arith, less));
      on_from = c.up.invariant.on_from;
      room = c.up.invariant.room;
      on_to = stands_next c.args.table.now c.args.root c.requires.rooted c.key_above-other.result c.in_ok-from.to.items c.up.other_depth stands.0 some above;
      lead = ap (λ keys. walk c.args.table.now c.key_above-other.result (reverse (map (name_at c.args.table.now) keys))) c.in_ok-push-2.ensures.items
          ∙ walk_higher c.args.table.now c.args.root c.requires.rooted c.up.other c.key_above-other.result c.args.target c.up.keys.items parent c.up.invariant.lead;
    })

pub returns : goal.returns
returns c = (let e : c.up.base ≡ c.up.other = search rules in
    record {
      climbed = climbed_end c.args.table.now c.args.root c.args.dir c.args.target c.up.base c.args.text.now.items c.up.text.items
          (subst (λ xs. HasClimbed c.args.table.now c.args.root c.args.dir c.args.target c.up.base xs c.up.text.items) c.reserve.ensures.items c.up.invariant.climbed)
          (subst (IsOver c.args.table.now c.args.root c.args.target) (sym e) c.up.invariant.beside.over);
      lead = subst (λ b. walk c.args.table.now b (reverse (map (name_at c.args.table.now) c.up.keys.items)) ≡ Ok c.args.target) (sym e) c.up.invariant.lead;
    })
