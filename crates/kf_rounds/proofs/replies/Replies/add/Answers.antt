use Rattle.std.proofs.Common.{◌≡◌, ◌∷◌, ◌++◌, ◌∙◌, [], length, rules, ap}
use Rattle.kf_rounds.proofs.Pieces.{added_fits, added_pieces}
use Rattle.kf_rounds.proofs.replies.Replies.add.Goals as goal

pub invariant_of-self-2 : goal.invariant_of-self-2
invariant_of-self-2 c =
    let r = c.self.inside in
    let bytes : c.extend_from_slice.new.self.items ≡ r.bytes.items ++ c.args.text.now = search rules in
    let lengths : c.push_reserved.new.self.items ≡ r.lengths.items ++ length c.args.text.now ∷ [] = search rules in
    added_fits r.from r.taken r.bytes.items c.args.text.now r.lengths.items _ _ c.self.invariant.0 c.self.invariant.1 bytes lengths

pub returns-clause-added : goal.returns-clause-added
returns-clause-added c =
    let r = c.self.inside in
    let bytes : c.extend_from_slice.new.self.items ≡ r.bytes.items ++ c.args.text.now = search rules in
    let lengths : c.push_reserved.new.self.items ≡ r.lengths.items ++ length c.args.text.now ∷ [] = search rules in
    added_pieces r.from r.taken r.bytes.items c.args.text.now r.lengths.items _ _ c.self.invariant.0 c.self.invariant.1 bytes lengths
    ∙ ap (λ old. old ++ c.args.text.now ∷ []) c.self.view_is
