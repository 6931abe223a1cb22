use Rattle.std.proofs.Common.{inr, refl}
use Rattle.kf_words.specs.Callers.{caller_sight, sight_of}
use Rattle.kf_words.proofs.NodeHeld.{held_node}
use Rattle.kf_words.proofs.seat.CallerSeat.pin_token.Goals as goal

pub returns-then-linked-clause-node : goal.returns-then-linked-clause-node
returns-then-linked-clause-node c =
    let read = c.read_node-node.ensures in
    held_node c.args.key c.read_node-node.result.0 (sight_of c.args.self.now) (sight_of c.count_pin.new.self) (sight_of c.read_node-node.new.self) c.in_ok-token.token.me.0.seen
    c.in_ok-token.ensures.pinned read.read (read.linked c.if-linked.true)

pub returns-clause-refused : goal.returns-clause-refused
returns-clause-refused c =
    let read = c.read_node-node.ensures in
    inr (
      refl,
      record {
        node = c.read_node-node.result.0;
        pinned = sight_of c.count_pin.new.self;
        seen = c.in_ok-token.token.me.0.seen;
        spent = caller_sight c.give_back-spent.result.me.0;
        pin = c.in_ok-token.ensures.pinned;
        read = read.read;
        out = read.out c.if-linked.false;
        back = c.give_back-spent.ensures.back;
      },
    )
