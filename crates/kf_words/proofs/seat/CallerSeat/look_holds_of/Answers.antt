use Rattle.std.proofs.Common.{rules, arith, ap, sym, subst}
use Rattle.kf_words.specs.TableSteps.{sees_holds_at}
use Rattle.kf_words.specs.Callers.{caller_sight}
use Rattle.kf_words.specs.Made.{WasMade}
use Rattle.kf_words.proofs.MasterAllowed.{hold_slot}
use Rattle.kf_words.proofs.Pinned.{look_at_made}
use Rattle.kf_words.proofs.seat.CallerSeat.look_holds_of.Goals as goal

pub load-requires : goal.load-requires
load-requires c =
    let seat = c.args.self.now in
    let of_table = ap (λ t. t.words) seat.of_table in
    let words = ap (λ t. t.shared.table_id.words) c.deref.ensures in
    let at = c.hold_index-word.ensures in
    let here = c.requires.there in
    (search rules, omega arith, look_at_made _ _ _ seat.token.me seat.a_caller c.args.key.slot c.hold_index-word.result (hold_slot _ _ (sym at)) (sym at) c.requires.rests)

pub returns-clause-made : goal.returns-clause-made
returns-clause-made c =
    subst (λ k. WasMade (sees_holds_at k) (caller_sight c.args.self.now.token.me.0) (caller_sight c.load.new.seat.me.0)) (hold_slot _ _ (sym c.hold_index-word.ensures)) c.load.ensures.2.1.1
