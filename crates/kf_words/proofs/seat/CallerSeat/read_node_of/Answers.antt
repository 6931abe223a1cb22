use Rattle.std.proofs.Common.{ℕ, rules, arith, ap, sym, subst}
use Rattle.kf_words.specs.Layout.{slot_of}
use Rattle.kf_words.specs.TableSteps.{reads_node}
use Rattle.kf_words.specs.Callers.{caller_sight}
use Rattle.kf_words.specs.Made.{WasMade}
use Rattle.kf_words.proofs.NodeMade.{node_slot, node_place}
use Rattle.kf_words.proofs.NodeReading.{read_made}
use Rattle.kf_words.proofs.seat.CallerSeat.read_node_of.Goals as goal

pub load-requires : goal.load-requires
load-requires c =
    let seat = c.args.self.now in
    let of_table = ap (λ t. t.words) seat.of_table in
    let words = ap (λ t. t.shared.table_id.words) c.deref.ensures in
    let at = c.node_index-word.ensures in
    let here = c.requires.there in
    let lines = seat.lines in
    let few = c.requires.place in
    (search rules, omega arith, read_made _ _ _ seat.token.me seat.a_caller c.args.key.slot c.args.place few c.node_index-word.result (sym at) c.requires.rests)

pub returns-clause-made : goal.returns-clause-made
returns-clause-made c =
    let at = sym c.node_index-word.ensures in
    let i : ℕ = c.node_index-word.result in
    subst (λ (s : ℕ). WasMade (reads_node s c.args.place) (caller_sight c.args.self.now.token.me.0) (caller_sight c.load.new.seat.me.0)) (node_slot c.args.place c.args.key.slot i c.requires.place at)
    (subst (λ (p : ℕ). WasMade (reads_node (slot_of i) p) (caller_sight c.args.self.now.token.me.0) (caller_sight c.load.new.seat.me.0)) (node_place c.args.place c.args.key.slot i c.requires.place at) c.load.ensures.2.1.1)
