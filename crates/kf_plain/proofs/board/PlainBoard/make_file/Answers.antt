use Rattle.std.proofs.Common.{refl, subst}
use Rattle.std.proofs.lemmas.Result.{err_from_is_err_and}
use Rattle.kf_plain.specs.PlainTree.{new_spot}
use Rattle.kf_plain.specs.Settled.{IsWhy}
use Rattle.kf_plain.proofs.BoardShows.{next_shown}
use Rattle.kf_plain.proofs.BoardTexts.{file_refused, file_slot, file_whole, file_shown}
use Rattle.kf_plain.proofs.board.PlainBoard.make_file.Goals as goal

pub returns-in_err-copy-clause-refused : goal.returns-in_err-copy-clause-refused
returns-in_err-copy-clause-refused c =
    let p = err_from_is_err_and c.from_residual.result c.from_residual.ensures.1 in
    rw (p.1, p.2) (c.next_key-next.result, next_shown c.args.self.now c.self.inside.nodes c.self.inside.events c.self.inside.texts c.self.inside.files.items c.self.inside.tokens c.self.view_is c.self.invariant c.next_key-next.result c.next_key-next.ensures.next, (subst (λ node. IsWhy (new_spot c.args.self.now.log c.args.path.now node c.next_key-next.result) c.in_err-copy.field-0.0) c.file_node.ensures.node c.in_err-copy.ensures.refused, refl))

pub returns-in_err-key-clause-refused : goal.returns-in_err-key-clause-refused
returns-in_err-key-clause-refused c =
    let p = err_from_is_err_and c.from_residual-in_err-key.result c.from_residual-in_err-key.ensures.1 in
    rw (p.1, p.2) (file_refused c.args.self.now c.self.inside.nodes c.create_at.new.self c.self.inside.events c.self.inside.texts c.self.inside.files.items c.self.inside.tokens c.self.view_is c.self.invariant c.args.path.now c.args.mode c.file_node-2.result c.next_key-next.result c.in_err-key.field-0.0 c.file_node-2.ensures.node c.next_key-next.ensures.next c.in_err-key.ensures.refused)

pub put-requires : goal.put-requires
put-requires c = record { slot = file_slot c.args.self.now c.self.inside.nodes c.create_at.new.self c.self.inside.events c.self.inside.texts c.self.inside.texts c.self.inside.files.items c.self.inside.tokens c.self.view_is c.self.invariant c.args.path.now c.args.text.now c.in_ok-copy.copy.items c.args.mode c.file_node-2.result c.next_key-next.result c.in_ok-key.key c.file_node-2.ensures.node c.next_key-next.ensures.next c.in_ok-key.ensures.given c.in_ok-key.ensures.made c.in_ok-copy.ensures.same }

pub invariant_of-self-2 : goal.invariant_of-self-2
invariant_of-self-2 c = file_whole c.args.self.now c.self.inside.nodes c.create_at.new.self c.self.inside.events c.self.inside.texts c.put.new.self c.self.inside.files.items c.self.inside.tokens c.self.view_is c.self.invariant c.args.path.now c.args.text.now c.in_ok-copy.copy.items c.args.mode c.file_node-2.result c.next_key-next.result c.in_ok-key.key c.file_node-2.ensures.node c.next_key-next.ensures.next c.in_ok-key.ensures.given c.in_ok-key.ensures.made c.in_ok-copy.ensures.same c.put.ensures.text

pub returns-clause-made : goal.returns-clause-made
returns-clause-made c = file_shown c.args.self.now c.self.inside.nodes c.create_at.new.self c.self.inside.events c.self.inside.texts c.put.new.self c.self.inside.files.items c.self.inside.tokens c.self.view_is c.self.invariant c.args.path.now c.args.text.now c.in_ok-copy.copy.items c.args.mode c.file_node-2.result c.next_key-next.result c.in_ok-key.key c.file_node-2.ensures.node c.next_key-next.ensures.next c.in_ok-key.ensures.given c.in_ok-key.ensures.made c.in_ok-copy.ensures.same c.put.ensures.text
