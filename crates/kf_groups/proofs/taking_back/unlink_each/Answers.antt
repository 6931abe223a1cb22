use Rattle.std.proofs.Common.{◌≡◌, ◌+◌, ◌∙◌, [], ap, length, refl, sym, subst}
use Rattle.std.specs.Prelude.{All, Contains}
use Rattle.std.specs.Vec.Iter.{into_iter_items}
use Rattle.std.proofs.lemmas.List.Elements.{All-nil}
use Rattle.kf_shared.specs.Receipts.{AreOf}
use Rattle.kf_shared.specs.Removal.{keys_of}
use Rattle.kf_tree.proofs.Storing.{none_same}
use Rattle.kf_tree.specs.Subtrees.{linked_count}
use Rattle.kf_groups.proofs.Counts.{unlinked_more}
use Rattle.kf_groups.proofs.Unlinks.{all_among, first_of, one_more, rest_of}
use Rattle.kf_groups.proofs.taking_back.unlink_each.Goals as goal

pub loop-hold-init : goal.loop-hold-init
loop-hold-init g c =
    let same = sym c.into_iter-rest.ensures.rest in
    let among = keys_of c.args.holds.items in
    record {
      tables = subst (AreOf g.N.Naming.table) same c.requires.tables;
      among = subst (λ hs. All (λ h. Contains among h.key) hs) same (all_among c.args.holds.items);
      unlinked = ([], All-nil (Contains among), none_same _ _ refl);
      counted = λ _. ap (λ hs. linked_count c.args.editor.now.state.tree + length hs) same;
      claims = refl;
    }

pub unlink-unlinked-requires : goal.unlink-unlinked-requires
unlink-unlinked-requires g c = record {
  table =
      first_of (λ h. h.table ≡ g.N.Naming.table) (into_iter_items c.loop-hold.rest) (into_iter_items c.next.new.self) c.in-Some.hold
      c.in-Some.ensures.items c.loop-hold.invariant.tables;
}

pub loop-hold-preserved : goal.loop-hold-preserved
loop-hold-preserved g c =
    let among = keys_of c.args.holds.items in
    let parts = c.in-Some.ensures.items in
    let all = into_iter_items c.loop-hold.rest in
    let rest = into_iter_items c.next.new.self in
    let i = c.loop-hold.invariant in
    record {
      tables = rest_of (λ h. h.table ≡ g.N.Naming.table) all rest c.in-Some.hold parts i.tables;
      among = rest_of (λ h. Contains among h.key) all rest c.in-Some.hold parts i.among;
      unlinked = one_more among c.args.editor.now.state c.loop-hold.editor.state c.unlink-unlinked.new.editor.state c.in-Some.hold.key
          i.unlinked (first_of (λ h. Contains among h.key) all rest c.in-Some.hold parts i.among) c.unlink-unlinked.ensures.unlinked;
      counted = unlinked_more (linked_count c.args.editor.now.state.tree) (linked_count c.loop-hold.editor.state.tree)
          (linked_count c.unlink-unlinked.new.editor.state.tree) (length c.args.holds.items) c.loop-hold.all c.unlink-unlinked.result
          all rest c.in-Some.hold parts i.counted c.unlink-unlinked.ensures.counted;
      claims = c.unlink-unlinked.ensures.claims ∙ i.claims;
    }
