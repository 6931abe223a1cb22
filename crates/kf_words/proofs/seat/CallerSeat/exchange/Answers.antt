use Rattle.std.proofs.Common.{◌≡◌, ℕ, true, rules, arith, ap, sym, ◌∙◌, subst}
use Rattle.std.specs.Prelude.{Some}
use Rattle.std.specs.Arc.{arc_value}
use Rattle.kf_core.specs.Phases.{is_waiting}
use Rattle.kf_words.specs.declared.view.CallerView.{CallerView}
use Rattle.kf_words.specs.Layout.{HasSpare}
use Rattle.kf_words.specs.Steps.{caller_of}
use Rattle.kf_words.proofs.Exchanges.{exchange_made, share_splits, stays_caller, hit_view}
use Rattle.kf_words.proofs.seat.CallerSeat.exchange.Goals as goal

pub compare_exchange-found-requires : goal.compare_exchange-found-requires
compare_exchange-found-requires c =
    let seat = c.args.self.now in
    let words : c.deref.result.now.shared.table_id.words ≡ (arc_value seat.table).shared.table_id.words = ap (λ t. t.shared.table_id.words) c.deref.ensures in
    let slot : (caller_of seat.token.me.0.view).key.slot ≡ seat.key.slot = ap (λ k. k.slot) seat.same_key in
    let at = c.hold_index-word.ensures.here in
    let within = c.hold_index-word.ensures.within in
    let limit = sym seat.limit ∙ sym (ap (λ t. t.shared.key.holds) c.deref.ensures) in
    let few = seat.few in
    let room = c.requires.spare in
    let fits = c.ranges.expected.fits in
    let spare = subst (λ (k : ℕ). HasSpare k c.args.expected) limit c.requires.spare in
    (search rules, omega arith, exchange_made _ _ _ seat.token.me seat.a_caller c.hold_index-word.result (omega arith) c.requires.rests seat.single _ _ (omega arith) (omega arith) spare)

pub split_seat-requires : goal.split_seat-requires
split_seat-requires c =
    let seat = c.args.self.now in
    let me = c.compare_exchange-found.new.seat.me in
    let words : c.deref-2.result.now.shared.table_id.words ≡ (arc_value seat.table).shared.table_id.words = ap (λ t. t.shared.table_id.words) c.deref-2.ensures in
    let near = seat.in_table in let wide = seat.lines in
    let hit : c.compare_exchange-found.result ≡ c.args.expected = omega (arith, c.if-found-expected.false) in
    let told = c.compare_exchange-found.ensures.2.1.0 in
    let is = stays_caller c.args.expected c.compare_exchange-found.result seat.token.me me seat.a_caller told in
    let view = hit_view c.args.expected c.compare_exchange-found.result seat.token.me me seat.a_caller told hit in
    let waits : is_waiting (caller_of me.0.view).phase ≡ true = ap (λ (v : CallerView). is_waiting v.phase) view ∙ c.requires.rests.0 in
    let settled = ap (λ (v : CallerView). v.undo_due) view ∙ c.requires.rests.1 in
    let pinned = ap (λ (v : CallerView). v.pinning) view ∙ ap (λ (v : CallerView). Some v.key) (sym view) in
    (search rules, omega arith, share_splits _ 0 c.compare_exchange-found.new.seat.id me is (waits, settled) pinned)
