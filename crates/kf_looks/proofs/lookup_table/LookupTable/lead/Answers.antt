use Rattle.std.proofs.Common.{rules, ◌≡◌, ℕ, ◌-◌, List, length, take, drop, Some, true, false, get_or, sym, ◌∙◌, eq-eqb}
use Rattle.std.specs.List.{slice_split}
use Rattle.kf_looks.specs.Links.{top, walked}
use Rattle.kf_core.specs.Paths.{is_slash}
use Rattle.kf_looks.specs.Paths.{led}
use Rattle.kf_looks.specs.Reading.{Tells}
use Rattle.kf_looks.proofs.Leading.{led_on}
use Rattle.kf_looks.proofs.Following.{tells_on}
use Rattle.kf_looks.proofs.lookup_table.LookupTable.lead.Goals as goal

unlike : false ≡ true → ⊥
unlike e = cc

pub returns-clause-found : goal.returns-clause-found
returns-clause-found c =
    let slots : ℕ = c.args.self.now.slots in let path : List ℕ = c.args.path.now in
    let slash : get_or path 0 0 ≡ 47 = search rules in
    let parts : List ℕ = take (length path - 1) (drop 1 path) in
    let some : (length parts ≡ 0 → ⊥) = λ none. unlike (sym c.if-is_empty.false ∙ (c.is_empty.ensures ∙ eq-eqb (length parts) 0 none)) in
    tells_on c.args.seat.now.me.0.role c.follow.new.seat.me.0.role
    (Tells slots (λ links. walked links (top c.args.root) (slice_split is_slash parts) ≡ Some c.in_ok-last.last))
    (Tells slots (λ links. led links c.args.root path ≡ Some c.in_ok-last.last))
    (λ content first links says. led_on links c.args.root path c.in_ok-last.last slash some c.in_ok-last.ensures.named (first links says))
    c.in_ok-last.ensures.found
