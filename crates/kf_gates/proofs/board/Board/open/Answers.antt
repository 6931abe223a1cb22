use Rattle.std.proofs.Common.{rules, ◌≡◌, ◌+◌, ◌*◌, arith, subst, sym, ℕ}
use Rattle.kf_gates.specs.Laws.{IsOver}
use Rattle.kf_gates.proofs.Allowed.{keeps_on, open_allowed}
use Rattle.kf_gates.proofs.board.Board.open.Goals as goal

pub store-requires : goal.store-requires
store-requires c =
    let word : c.args.plan.number * 2 + 2 ≡ (c.args.plan.number + 1) * 2 + 0 = omega arith in (
      search rules,
      search rules,
      open_allowed _ _ _ _ c.args.plan _ _ c.requires.keeps (subst (λ (lanes : ℕ). IsOver lanes c.args.plan) (sym c.args.self.now.keyed) c.requires.over) word,
    )

pub returns-clause-keeps : goal.returns-clause-keeps
returns-clause-keeps c = (keeps_on _ _ _ (c.store.ensures.2 c.args.plan _ c.requires.keeps)).0

pub returns-clause-looks : goal.returns-clause-looks
returns-clause-looks c = (keeps_on _ _ _ (c.store.ensures.2 c.args.plan _ c.requires.keeps)).1
