use Rattle.std.proofs.Common.{None, ap, ◌∙◌, replicate, List, ℕ, []}
use Rattle.kf_plain.proofs.NewBoard.{whole_new, shown_new}
use Rattle.kf_plain.proofs.board.PlainBoard.new_at.Goals as goal

pub invariant_of-result : goal.invariant_of-result
invariant_of-result c = whole_new c.args.limits.slots c.args.limits.holds c.args.start c.in_ok-nodes.nodes c.in_ok-events.events c.in_ok-texts.texts c.in_ok-files.files.items c.in_ok-tokens.tokens c.args.limits.few_slots c.in_ok-nodes.ensures.made
    (c.in_ok-events.ensures.numbers ∙ ap (λ n. replicate n 1) c.slots.ensures.value) (c.in_ok-texts.ensures.empty ∙ ap (λ n. replicate n (let t : List ℕ = [] in t)) c.slots-2.ensures.value) c.in_ok-files.ensures.none
    (c.in_ok-tokens.ensures.made ∙ ap (λ n. replicate n None) c.slots-3.ensures.value)

pub returns-clause-made : goal.returns-clause-made
returns-clause-made c = shown_new c.args.limits.slots c.args.limits.holds c.args.start c.in_ok-nodes.nodes c.in_ok-events.events c.in_ok-texts.texts c.in_ok-files.files.items c.in_ok-tokens.tokens c.in_ok-nodes.ensures.made
    (c.in_ok-events.ensures.numbers ∙ ap (λ n. replicate n 1) c.slots.ensures.value) (c.in_ok-texts.ensures.empty ∙ ap (λ n. replicate n (let t : List ℕ = [] in t)) c.slots-2.ensures.value) c.in_ok-files.ensures.none
    (c.in_ok-tokens.ensures.made ∙ ap (λ n. replicate n None) c.slots-3.ensures.value)
