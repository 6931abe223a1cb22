-- What follows from a notify through a new post.
use Rattle.std.proofs.Common.{◌≡◌, ◌∙◌, ◌+◌, ◌-◌, ◌^◌, ◌≤◌, ℕ, ap, subst}
use Rattle.std.specs.Prelude.{IfOk, IfErr, Result, Ok, Err}
use Rattle.kf_core.specs.declared.key.Key.{Key}
use Rattle.kf_core.specs.declared.refusal.Refusal.{Refusal}
use Rattle.kf_core.specs.Tree.{Tree}
use Rattle.kf_notify.specs.declared.post.Full.{Full}
use Rattle.kf_notify.specs.PostStates.{PostState, Numbers, IsNewPost, IsSamePost, FoundNumber, Made}
use Rattle.kf_driver.specs.Opening.{file_at, Notified, RaisedTo, FoundLast}

pub told : (t : Tree) (place : Result Key Refusal) (numbers : Numbers) (key : Key) (start post : PostState)
    → file_at t place ≡ Ok key → IsNewPost numbers key.slot start → IsSamePost start post
    → start.numbers.start ≤ post.found → Notified t place numbers post
told t place numbers key start post named fresh same no_less = record {
  key = key;
  named = named;
  numbers_are = same.numbers ∙ fresh.numbers_are;
  slot_is = same.slot ∙ fresh.slot_is;
  no_less = subst (λ n. n.start ≤ post.found) fresh.numbers_are no_less;
}

pub raised : (numbers : Numbers) (slot : ℕ) (start post : PostState) (answer : Result ℕ Full)
    → IsNewPost numbers slot start → IfOk answer (λ number. Made start number post)
    → IfOk answer (λ number. RaisedTo number post)
raised numbers slot start post (Ok number) fresh made = record {
  one_more = made.one_more;
  made = made.made;
  known = made.known;
  three_steps = made.two_steps ∙ ap (λ n. n + 2) fresh.one_step;
}
raised numbers slot start post (Err why) fresh made = tt

pub last : (numbers : Numbers) (slot : ℕ) (start post : PostState) (answer : Result ℕ Full)
    → IsNewPost numbers slot start → IfErr answer (λ _. FoundNumber start (2 ^ 64 - 1) post)
    → IfErr answer (λ _. FoundLast post)
last numbers slot start post (Ok number) fresh found = tt
last numbers slot start post (Err why) fresh found = record {
  found = found.found;
  known = found.known;
  none_made = found.none_made ∙ fresh.none_made;
  two_steps = found.one_step ∙ ap (λ n. n + 1) fresh.one_step;
}
