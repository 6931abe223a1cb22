use Rattle.std.proofs.Common.{◌≡◌, refl, rules, arith, ap, subst}
use mathlib.Core.List.{IsPrefix}
use Rattle.std.specs.Arc.{arc_value}
use Rattle.kf_words.specs.TableSteps.{compares, same}
use Rattle.kf_words.specs.Nodes.{MasterSight, master_sight}
use Rattle.kf_words.specs.Made.{WasMadeByMaster}
use Rattle.kf_words.specs.MadeByMaster.{MakesCompare}
use Rattle.kf_words.proofs.MasterMade.{compare_made}
use Rattle.kf_words.proofs.Added.{no_note}
use Rattle.kf_words.proofs.Tokens.{asked, made_of}
use Rattle.kf_words.proofs.master_seat.MasterSeat.compare.Goals as goal

pub load-requires : goal.load-requires
load-requires c =
    let self = c.args.self.now in
    let words : c.deref.result.now.shared.table_id.words ≡ (arc_value self.table).shared.table_id.words = ap (λ t. t.shared.table_id.words) c.deref.ensures in
    let some_slot = c.requires in
    let wide = self.all_slots in
    let lines = self.lines in
    (search rules, omega arith, asked _ _ c.token.view_is _ _ 0 same MakesCompare (compare_made c.deref.result.now.shared.key _ _ self.token.me 0 self.a_master 0))

pub returns-clause-history : goal.returns-clause-history
returns-clause-history c =
    let self = c.args.self.now in
    let after : MasterSight = master_sight c.load.new.seat.me.0 in
    no_note compares refl (master_sight self.token.me.0) after
    (made_of _ _ c.token.view_is (λ (x : MasterSight). WasMadeByMaster compares x after) c.load.ensures.2.1)

pub returns-clause-told : goal.returns-clause-told
returns-clause-told c = subst (λ x. IsPrefix x.me.0.shown c.load.new.seat.me.0.seen.steps) c.token.view_is c.load.ensures.2.2
