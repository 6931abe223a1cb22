use Rattle.std.proofs.Common.{◌≡◌, ℕ, true, rules, arith, ap, sym, ◌∙◌, subst}
use Rattle.kf_core.specs.Phases.{is_waiting}
use Rattle.kf_words.specs.declared.view.CallerView.{CallerView}
use Rattle.kf_words.specs.Layout.{HasSpare}
use Rattle.kf_words.specs.Steps.{caller_of}
use Rattle.kf_words.specs.Callers.{caller_sight}
use Rattle.kf_words.specs.TableSteps.{counts_hold_at}
use Rattle.kf_words.specs.Made.{WasMade}
use Rattle.kf_words.proofs.MasterAllowed.{hold_slot}
use Rattle.kf_words.proofs.Pinned.{exchange_at_made, hand_splits, stays_caller, hit_view, hit_key, counted_linked}
use Rattle.kf_words.proofs.seat.CallerSeat.exchange_for.Goals as goal

pub compare_exchange-found-requires : goal.compare_exchange-found-requires
compare_exchange-found-requires c =
    let seat = c.args.self.now in
    let of_table = ap (λ t. t.words) seat.of_table in
    let words = ap (λ t. t.shared.table_id.words) c.deref.ensures in
    let at = c.hold_index-word.ensures in
    let here = c.requires.there in
    let limit = sym seat.limit ∙ sym (ap (λ t. t.shared.key.holds) c.deref.ensures) in
    let few = seat.few in
    let room = c.requires.spare in
    let fits = c.ranges.expected.fits in
    let spare = subst (λ (k : ℕ). HasSpare k c.args.expected) limit c.requires.spare in
    (search rules, omega arith, exchange_at_made _ _ _ seat.token.me seat.a_caller c.args.key.slot c.hold_index-word.result (hold_slot _ _ (sym at)) (sym at) c.requires.rests seat.single _ _ (omega arith) (omega arith) (c.requires.linked.0, spare))

pub split_seat-requires : goal.split_seat-requires
split_seat-requires c =
    let seat = c.args.self.now in
    let me = c.compare_exchange-found.new.seat.me in
    let words = ap (λ t. t.shared.table_id.words) c.deref-2.ensures in
    let near = seat.in_table in let wide = seat.lines in
    let hit : c.compare_exchange-found.result ≡ c.args.expected = omega (arith, c.if-found-expected.false) in
    let told = c.compare_exchange-found.ensures.2.1.0 in
    let back = hold_slot c.args.key.slot _ (sym c.hold_index-word.ensures) in
    let is = stays_caller _ _ _ seat.token.me me seat.a_caller told in
    let view = hit_view _ _ _ seat.token.me me seat.a_caller told hit in
    let waits : is_waiting (caller_of me.0.view).phase ≡ true = ap (λ (v : CallerView). is_waiting v.phase) view ∙ c.requires.rests.0 in
    let settled = ap (λ (v : CallerView). v.undo_due) view ∙ c.requires.rests.1 in
    let pinned = hit_key _ _ _ seat.token.me me seat.a_caller told c.args.key back c.requires.linked hit in
    (search rules, omega arith, hand_splits _ 0 c.compare_exchange-found.new.seat.id me is c.args.key (waits, settled) pinned)

pub returns-clause-pinned : goal.returns-clause-pinned
returns-clause-pinned c =
    let seat = c.args.self.now in
    let me = c.compare_exchange-found.new.seat.me in
    let hit : c.compare_exchange-found.result ≡ c.args.expected = omega (arith, c.if-found-expected.false) in
    let told = c.compare_exchange-found.ensures.2.1.0 in
    let back = hold_slot c.args.key.slot _ (sym c.hold_index-word.ensures) in
    let pinned = hit_key _ _ _ seat.token.me me seat.a_caller told c.args.key back c.requires.linked hit in
    let count = subst (λ (k : ℕ). WasMade (counts_hold_at k) (caller_sight seat.token.me.0) (caller_sight me.0)) back (c.compare_exchange-found.ensures.2.1.1.0 hit) in
    record {
      counted = caller_sight me.0;
      count = count;
      key_is = pinned;
      linked = counted_linked c.args.key _ _ count pinned;
      view = ap (λ x. caller_of x.0.view) c.split_seat.ensures.2;
      same = ap (λ x. x.0.seen) c.split_seat.ensures.2;
      told = ap (λ x. x.0.seen) c.split_seat.ensures.4;
    }
