use Rattle.std.proofs.Common.{◌≡◌, true, rules, arith, ap, sym, ◌∙◌, []}
use Rattle.kf_core.specs.Phases.{may_release}
use Rattle.kf_words.specs.declared.view.CallerView.{CallerView}
use Rattle.kf_words.specs.declared.view.View.TheVariants as seat_of
use Rattle.kf_words.specs.Layout.{hold_index}
use Rattle.kf_words.specs.Steps.{Seated, caller_of, new_hold}
use Rattle.kf_words.proofs.Made.{release_made}
use Rattle.kf_words.proofs.seat.CallerSeat.give_back.Goals as goal

pub fetch_sub-requires : goal.fetch_sub-requires
fetch_sub-requires c =
    let seat = c.args.self.now in
    let me = c.args.token.me in
    let of_table = ap (λ t. t.words) seat.of_table in
    let words = ap (λ t. t.shared.table_id.words) c.deref.ensures in
    let at = c.hold_index-word.ensures in
    let here = c.requires.there in
    let view : caller_of me.0.view ≡ new_hold c.args.key = ap (λ (x : Seated). caller_of x.0) c.requires.pin.1 in
    let is = c.requires.pin.1 ∙ ap (λ (v : CallerView). let x : Seated = (seat_of.Caller v, []) in x) (sym view) in
    let its : hold_index (caller_of me.0.view).key.slot ≡ c.hold_index-word.result = ap (λ (v : CallerView). hold_index v.key.slot) view ∙ sym at in
    let idle : may_release (caller_of me.0.view).phase ≡ true = ap (λ (v : CallerView). may_release v.phase) view in
    (search rules, omega arith, release_made _ _ _ me c.hold_index-word.result is its idle (ap (λ (v : CallerView). v.undo_due) view))
