use Rattle.std.proofs.Common.{◌≡◌, refl, ap, sym, ◌∙◌, subst, None, Some, Ok, false, rules}
use Rattle.std.proofs.lemmas.Option.{none-some, same_Some, slice_get_read}
use Rattle.kf_core.specs.Keys.{same_key}
use Rattle.kf_tree.specs.Paths.{walked}
use Rattle.kf_tree.specs.TreeLogs.{TreeLog}
use Rattle.kf_plain.specs.declared.nodes.hiding.BoardToken.{BoardToken}
use Rattle.kf_plain.proofs.BoardTokens.{stat_linked, token_inside, whole_shown, shown_shown, not_shown, not_a_token}
use Rattle.kf_plain.proofs.board.PlainBoard.show.Goals as goal

pub invariant_of-self : goal.invariant_of-self
invariant_of-self c =
    let walk = subst (λ (l : TreeLog). walked l.tree l.root c.args.path.now ≡ Ok c.in_ok-key.key) c.state.ensures.log (sym c.walk.ensures.walked ∙ c.in_ok-key.was) in
    let linked = stat_linked c.self.inside.nodes.log c.state-2.result.now c.in_ok-key.key c.in_ok-_stat._stat c.state-2.ensures.log (sym c.stat.ensures.told ∙ c.in_ok-_stat.was) in
    let at = slice_get_read c.self.inside.tokens _ c.in_ok-key.key.slot c.at.result refl (token_inside c.args.self.now c.self.inside.nodes c.self.inside.nodes c.self.inside.events c.self.inside.texts c.self.inside.files.items c.self.inside.tokens c.self.view_is c.self.invariant c.in_ok-key.key linked) c.at.ensures.known in
    let own : c.in-Some.token.key ≡ c.in_ok-key.key = search rules in
    rw c.set.ensures.set (whole_shown c.args.self.now c.self.inside.nodes c.show.new.self c.self.inside.events c.self.inside.texts c.self.inside.files.items c.self.inside.tokens c.self.view_is c.self.invariant c.args.path.now c.in_ok-key.key walk c.in-Some.token (at ∙ ap (λ o. Some o) c.in-Some.is) own c.show.ensures.shown)

pub returns-clause-shown : goal.returns-clause-shown
returns-clause-shown c =
    let walk = subst (λ (l : TreeLog). walked l.tree l.root c.args.path.now ≡ Ok c.in_ok-key.key) c.state.ensures.log (sym c.walk.ensures.walked ∙ c.in_ok-key.was) in
    let linked = stat_linked c.self.inside.nodes.log c.state-2.result.now c.in_ok-key.key c.in_ok-_stat._stat c.state-2.ensures.log (sym c.stat.ensures.told ∙ c.in_ok-_stat.was) in
    let at = slice_get_read c.self.inside.tokens _ c.in_ok-key.key.slot c.at.result refl (token_inside c.args.self.now c.self.inside.nodes c.self.inside.nodes c.self.inside.events c.self.inside.texts c.self.inside.files.items c.self.inside.tokens c.self.view_is c.self.invariant c.in_ok-key.key linked) c.at.ensures.known in
    let own : c.in-Some.token.key ≡ c.in_ok-key.key = search rules in
    rw c.set.ensures.set (shown_shown c.args.self.now c.self.inside.nodes c.show.new.self c.self.inside.events c.self.inside.texts c.self.inside.files.items c.self.inside.tokens c.self.view_is c.self.invariant c.args.path.now c.in_ok-key.key walk c.in-Some.token (at ∙ ap (λ o. Some o) c.in-Some.is) own c.show.ensures.shown linked)

pub returns-then-ne-clause-refused : goal.returns-then-ne-clause-refused
returns-then-ne-clause-refused c =
    let walk = subst (λ (l : TreeLog). walked l.tree l.root c.args.path.now ≡ Ok c.in_ok-key.key) c.state.ensures.log (sym c.walk.ensures.walked ∙ c.in_ok-key.was) in
    let linked = stat_linked c.self.inside.nodes.log c.state-2.result.now c.in_ok-key.key c.in_ok-_stat._stat c.state-2.ensures.log (sym c.stat.ensures.told ∙ c.in_ok-_stat.was) in
    let at = slice_get_read c.self.inside.tokens _ c.in_ok-key.key.slot c.at.result refl (token_inside c.args.self.now c.self.inside.nodes c.self.inside.nodes c.self.inside.events c.self.inside.texts c.self.inside.files.items c.self.inside.tokens c.self.view_is c.self.invariant c.in_ok-key.key linked) c.at.ensures.known in
    let other : same_key c.in-Some.token.key c.in_ok-key.key ≡ false = search rules in (
      not_shown c.args.self.now c.self.inside.nodes c.self.inside.nodes c.self.inside.events c.self.inside.texts c.self.inside.files.items c.self.inside.tokens c.self.view_is c.self.invariant c.args.path.now c.in_ok-key.key walk linked (Some c.in-Some.token) (at ∙ ap (λ o. Some o) c.in-Some.is)
          (λ t e. ap (λ (x : BoardToken). same_key x.key c.in_ok-key.key) (sym (same_Some c.in-Some.token t e)) ∙ other),
      refl,
    )

pub returns-in_default-clause-refused : goal.returns-in_default-clause-refused
returns-in_default-clause-refused c =
    let walk = subst (λ (l : TreeLog). walked l.tree l.root c.args.path.now ≡ Ok c.in_ok-key.key) c.state.ensures.log (sym c.walk.ensures.walked ∙ c.in_ok-key.was) in
    let linked = stat_linked c.self.inside.nodes.log c.state-2.result.now c.in_ok-key.key c.in_ok-_stat._stat c.state-2.ensures.log (sym c.stat.ensures.told ∙ c.in_ok-_stat.was) in
    let at = slice_get_read c.self.inside.tokens _ c.in_ok-key.key.slot c.at.result refl (token_inside c.args.self.now c.self.inside.nodes c.self.inside.nodes c.self.inside.events c.self.inside.texts c.self.inside.files.items c.self.inside.tokens c.self.view_is c.self.invariant c.in_ok-key.key linked) c.at.ensures.known in (
      not_shown c.args.self.now c.self.inside.nodes c.self.inside.nodes c.self.inside.events c.self.inside.texts c.self.inside.files.items c.self.inside.tokens c.self.view_is c.self.invariant c.args.path.now c.in_ok-key.key walk linked None (at ∙ ap (λ o. Some o) (not_a_token c.at.result c.in_default.not-Some)) (λ t e. absurd (none-some t e)),
      refl,
    )
