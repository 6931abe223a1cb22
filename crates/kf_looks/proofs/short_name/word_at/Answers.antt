use Rattle.std.proofs.Common.{◌≡◌, ◌-◌, ◌*◌, ◌/◌, ◌^◌, ◌++◌, ℕ, List, take, drop, ap, ◌∙◌}
use Rattle.std.proofs.lemmas.List.{take-take}
use Rattle.kf_looks.specs.ShortNames.{bytes_before}
use Rattle.kf_looks.proofs.Unpacked.{first_of_eight, bits_of_bytes}
use Rattle.kf_looks.proofs.short_name.word_at.Goals as goal

pub returns : goal.returns
returns c =
    let count : ℕ = c.args.count in let rest : List ℕ = drop c.args.at c.args.text.now in let word : ℕ = c.eight_at.result in
    let shift : 2 ^ (64 - 8 * count) ≡ 256 ^ (8 - count) = bits_of_bytes count c.requires.few in
    record {
      bytes = λ later. ap (λ n. bytes_before count (word / n) later) shift
          ∙ (first_of_eight count word (take 8 rest) c.requires.few c.eight_at.ensures.bytes later
          ∙ ap (λ (l : List ℕ). l ++ later) (take-take count 8 rest c.requires.few));
    }
