use Rattle.std.proofs.Common.{ℕ, sym, ap, ◌∙◌}
use Rattle.kf_words.specs.declared.view.CallerView.{CallerView}
use Rattle.kf_words.specs.Callers.{sight_of, view_of}
use Rattle.kf_words.specs.NodeWords.{node_in}
use Rattle.kf_words.proofs.seat.CallerSeat.read_node.Goals as goal

pub returns-clause-read : goal.returns-clause-read
returns-clause-read c =
    let kind = sym (ap (λ (v : CallerView). v.found) c.read_node_of-kind.ensures.view) in
    let first = sym (ap (λ (v : CallerView). v.found) c.read_node_of-first.ensures.view) in
    let second = sym (ap (λ (v : CallerView). v.found) c.read_node_of-second.ensures.view) in
    record {
      one = sight_of c.read_node_of-kind.new.self;
      two = sight_of c.read_node_of-first.new.self;
      three = sight_of c.read_node_of-second.new.self;
      kind = c.read_node_of-kind.ensures.made;
      first = c.read_node_of-first.ensures.made;
      second = c.read_node_of-second.ensures.made;
      node_is = c.node_of.ensures
          ∙ ap (λ (n : ℕ). node_in n c.read_node_of-first.result c.read_node_of-second.result) kind
          ∙ ap (λ (n : ℕ). node_in (view_of c.read_node_of-kind.new.self).found n c.read_node_of-second.result) first
          ∙ ap (λ (n : ℕ). node_in (view_of c.read_node_of-kind.new.self).found (view_of c.read_node_of-first.new.self).found n) second;
      look = c.look_holds_of-found.ensures.made;
    }
