use Rattle.std.proofs.Common.{◌≡◌, rules, arith, ap}
use Rattle.std.specs.Arc.{arc_value}
use Rattle.kf_words.specs.TableSteps.{notes, same}
use Rattle.kf_words.specs.Nodes.{MasterSight, master_sight}
use Rattle.kf_words.specs.Made.{WasMadeByMaster}
use Rattle.kf_words.specs.MadeByMaster.{MakesNote}
use Rattle.kf_words.proofs.MasterMade.{note_made}
use Rattle.kf_words.proofs.Added.{noted}
use Rattle.kf_words.proofs.Tokens.{asked, made_of}
use Rattle.kf_words.proofs.master_seat.MasterSeat.note.Goals as goal

pub load-requires : goal.load-requires
load-requires g c =
    let self = c.args.self.now in
    let words : c.deref.result.now.shared.table_id.words ≡ (arc_value self.table).shared.table_id.words = ap (λ t. t.shared.table_id.words) c.deref.ensures in
    let some_slot = c.requires in
    let wide = self.all_slots in
    let lines = self.lines in
    (search rules, omega arith, asked _ _ c.token.view_is _ _ 0 same (MakesNote g.E.Said.note) (note_made c.deref.result.now.shared.key _ _ self.token.me 0 self.a_master g.E.Said.note 0))

pub returns-clause-made : goal.returns-clause-made
returns-clause-made g c =
    let self = c.args.self.now in
    let after : MasterSight = master_sight c.load.new.seat.me.0 in
    made_of _ _ c.token.view_is (λ (x : MasterSight). WasMadeByMaster (notes g.E.Said.note) x after) c.load.ensures.2.1

pub returns-clause-history : goal.returns-clause-history
returns-clause-history g c = noted (notes g.E.Said.note) _ _ (returns-clause-made g c)
