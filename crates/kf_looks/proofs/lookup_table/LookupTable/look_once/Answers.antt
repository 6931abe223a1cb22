use Rattle.std.proofs.Common.{rules, ◌≡◌, ◌%◌, ℕ, List, [], Some, sym, ap, ◌∙◌, subst}
use Rattle.kf_looks.specs.declared.view.Link.{Link}
use Rattle.kf_looks.specs.declared.view.Role.TheVariants.{Reading}
use Rattle.kf_looks.specs.Lines.{SaysTrue}
use Rattle.kf_looks.specs.Paths.{led}
use Rattle.kf_looks.specs.Reading.{Tells}
use Rattle.kf_looks.proofs.lookup_table.LookupTable.look_once.Goals as goal

pub returns-in-Some-clause-found : goal.returns-in-Some-clause-found
returns-in-Some-clause-found c =
    let version : ℕ = c.begin-version.result in
    let even : version % 2 ≡ 0 = search rules in
    let begun : c.begin-version.new.seat.me.0.role ≡ Reading version [] = c.begin-version.ensures.begun.2 even in
    let f = c.in-Some.ensures.found version [] begun in
    let same : c.check.result ≡ version = search rules in
    let p = c.check.ensures.passed.at_once f.0 (f.1 ∙ ap (λ (v : ℕ). Reading v f.0) (sym same)) in
    let here : c.begin-version.new.seat.me.0.slots ≡ c.args.self.now.slots = search rules in
    let slots : c.lead-found.new.seat.me.0.slots ≡ c.args.self.now.slots = c.in-Some.ensures.same.slots ∙ here in
    (f.2 p.0 p.1).1 c.check.new.seat.me.0.seen (subst (λ (n : ℕ). SaysTrue n p.0 c.check.new.seat.me.0.seen) slots p.2)

pub returns-in-Some-clause-stands : goal.returns-in-Some-clause-stands
returns-in-Some-clause-stands c =
    let version : ℕ = c.begin-version.result in
    let even : version % 2 ≡ 0 = search rules in
    let begun : c.begin-version.new.seat.me.0.role ≡ Reading version [] = c.begin-version.ensures.begun.2 even in
    let f = c.in-Some.ensures.found version [] begun in
    let here : c.begin-version.new.seat.me.0.slots ≡ c.args.self.now.slots = search rules in
    let slots : c.check.new.seat.me.0.slots ≡ c.args.self.now.slots = c.check.ensures.passed.slots_are ∙ (c.in-Some.ensures.same.slots ∙ here) in (
      f.0,
      c.check.ensures.passed.role_is ∙ f.1,
      λ content all. subst (λ (n : ℕ). Tells n (λ (links : List Link). led links c.args.root c.args.path.now ≡ Some c.in-Some.found) content) (sym slots) (f.2 content all).1,
    )
