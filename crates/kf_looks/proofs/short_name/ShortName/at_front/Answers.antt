use Rattle.std.proofs.Common.{rules, ◌≡◌, ℕ, ◌-◌, List, [], take, min, subst, arith}
use Rattle.kf_looks.specs.ShortNames.{bytes_before}
use Rattle.kf_looks.proofs.Unpacked.{name_front}
use Rattle.kf_looks.proofs.short_name.ShortName.at_front.Goals as goal

pub returns-clause-same : goal.returns-clause-same
returns-clause-same c =
    let xs : List ℕ = c.args.text.now in let count : ℕ = c.args.count in let two : ℕ = c.min-two.result in
    let first : ℕ = c.word_at-2.result in let second : ℕ = c.word_at-3.result in let third : ℕ = c.word_at-4.result in
    let one : 8 ≡ min count 8 = search rules in
    let is : two ≡ min count 16 = search rules in
    subst (λ (n : ℕ × ℕ). bytes_before n.0 first (bytes_before (n.1 - n.0) second (bytes_before (count - n.1) third [])) ≡ take count xs) (λ i. (one i, is i))
    (name_front xs count two first second third (omega arith) (omega arith) c.word_at-2.ensures.bytes c.word_at-3.ensures.bytes c.word_at-4.ensures.bytes)
