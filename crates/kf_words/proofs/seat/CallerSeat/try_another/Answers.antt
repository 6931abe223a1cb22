use Rattle.std.proofs.Common.{◌≡◌, ◌+◌, true, false, arith, sym, ap, ◌∙◌}
use Rattle.kf_words.specs.declared.view.CallerView.{CallerView}
use Rattle.kf_words.specs.Layout.{holds_in}
use Rattle.kf_words.proofs.Keys.{not_below}
use Rattle.kf_words.proofs.seat.CallerSeat.try_another.Goals as goal

pub returns-then-has_spare-2-clause-outrun : goal.returns-then-has_spare-2-clause-outrun
returns-then-has_spare-2-clause-outrun c =
    let most = c.see_holds-found.ensures.most in
    let spare = c.has_spare-2.ensures.0 c.if-has_spare-2.true in
    let full = not_below (holds_in c.args.guess + 1) _ (λ more. let x : false ≡ true = sym c.if-has_spare.false ∙ c.has_spare.ensures.1 more in cc) in (
      sym (ap (λ (v : CallerView). v.found) c.see_holds-found.ensures.view),
      λ same.
          let held : holds_in c.see_holds-found.result ≡ holds_in c.args.guess = ap holds_in same in omega (arith, most, spare, full, held),
    )
