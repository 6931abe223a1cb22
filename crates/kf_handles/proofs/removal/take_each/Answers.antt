use Rattle.std.proofs.Common.{◌≡◌, refl, sym, subst}
use Rattle.std.specs.Prelude.{All, Contains}
use Rattle.std.specs.Vec.Iter.{into_iter_items}
use Rattle.kf_shared.specs.Receipts.{AreOf}
use Rattle.kf_shared.specs.Removal.{keys_of}
use Rattle.kf_handles.proofs.Ends.{all_among, both_ends, ends_of_more, first_of, no_end_same, rest_of}
use Rattle.kf_handles.proofs.removal.take_each.Goals as goal

pub loop-hold-init : goal.loop-hold-init
loop-hold-init g c =
    let same = sym c.into_iter-rest.ensures.rest in
    let among = keys_of c.args.holds.items in
    record {
      tables = subst (AreOf g.N.Naming.table) same c.requires.tables;
      among = subst (λ hs. All (λ h. Contains among h.key) hs) same (all_among c.args.holds.items);
      ends = no_end_same among c.args.locked.now c.args.locked.now refl;
      tokens = c.requires.tokens;
    }

pub take_out-requires : goal.take_out-requires
take_out-requires g c = record {
  table =
      first_of (λ h. h.table ≡ g.N.Naming.table) (into_iter_items c.loop-hold.rest) (into_iter_items c.next.new.self) c.in-Some.hold
      c.in-Some.ensures.items c.loop-hold.invariant.tables;
  tokens = c.loop-hold.invariant.tokens;
}

pub loop-hold-preserved : goal.loop-hold-preserved
loop-hold-preserved g c =
    let among = keys_of c.args.holds.items in
    let parts = c.in-Some.ensures.items in
    let all = into_iter_items c.loop-hold.rest in
    let rest = into_iter_items c.next.new.self in
    let i = c.loop-hold.invariant in
    record {
      tables = rest_of (λ h. h.table ≡ g.N.Naming.table) all rest c.in-Some.hold parts i.tables;
      among = rest_of (λ h. Contains among h.key) all rest c.in-Some.hold parts i.among;
      ends = both_ends among c.args.locked.now c.loop-hold.locked c.take_out.new.locked i.ends
          (ends_of_more among c.in-Some.hold.key c.loop-hold.locked c.take_out.new.locked
          (first_of (λ h. Contains among h.key) all rest c.in-Some.hold parts i.among) c.take_out.ensures.ends);
      tokens = c.take_out.ensures.tokens;
    }
