-- The commands of each key of a list, one key after another.
use Rattle.std.proofs.Common.{◌≡◌, ℕ, ◌+◌, ◌<◌, refl, ap, sym, ◌∙◌, List, [], ◌∷◌, ◌++◌, length, take, get_or, append_assoc}
use Rattle.std.proofs.lemmas.List.{take_more, append-nil}
use Rattle.kf_core.specs.declared.key.Key.{Key}
use Rattle.kf_core.specs.declared.command.Command.{Command}
use Rattle.kf_core.specs.Tree.{Tree}
use Rattle.kf_tree.specs.Canonical.{collected, create_of, doom_of, hide_of, IsPreOrder, IsCanonical}

collected_append : (f : Key → List Command) (xs ys : List Key) → collected f (xs ++ ys) ≡ collected f xs ++ collected f ys
collected_append f [] ys = refl
collected_append f (x ∷ xs) ys = ap (λ cs. f x ++ cs) (collected_append f xs ys) ∙ sym (append_assoc (f x) (collected f xs) (collected f ys))

pub collected_more : (f : Key → List Command) (start old new : List Command) (keys : List Key) (i : ℕ) (d : Key) → i < length keys → old ≡ start ++ collected f (take i keys) → new ≡ old ++ f (get_or keys i d) →
    new ≡ start ++ collected f (take (i + 1) keys)
collected_more f start old new keys i d h is pushed =
    pushed ∙ ap (λ cs. cs ++ f (get_or keys i d)) is ∙ append_assoc start (collected f (take i keys)) (f (get_or keys i d))
    ∙ ap (λ cs. start ++ (collected f (take i keys) ++ cs)) (sym (append-nil (f (get_or keys i d))))
    ∙ ap (λ cs. start ++ cs) (sym (collected_append f (take i keys) (get_or keys i d ∷ [])))
    ∙ ap (λ ks. start ++ collected f ks) (sym (take_more keys i d h))

pub all_collected : (t : Tree) (keys a b c : List Key) (none first second third : List Command) → IsPreOrder t keys → a ≡ keys → b ≡ keys → c ≡ keys → none ≡ [] →
    first ≡ none ++ collected (create_of t) a → second ≡ first ++ collected (doom_of t) b → third ≡ second ++ collected (hide_of t) c → IsCanonical t third
all_collected t keys a b c none first second third order ka kb kc empty x y z = (
  keys,
  order,
  z ∙ ap (λ cs. cs ++ collected (hide_of t) c) (y ∙ ap (λ cs. cs ++ collected (doom_of t) b) (x ∙ ap (λ cs. cs ++ collected (create_of t) a) empty))
      ∙ append_assoc (collected (create_of t) a) (collected (doom_of t) b) (collected (hide_of t) c)
      ∙ ap (λ ks. collected (create_of t) ks ++ (collected (doom_of t) b ++ collected (hide_of t) c)) ka
      ∙ ap (λ ks. collected (create_of t) keys ++ (collected (doom_of t) ks ++ collected (hide_of t) c)) kb
      ∙ ap (λ ks. collected (create_of t) keys ++ (collected (doom_of t) keys ++ collected (hide_of t) ks)) kc,
)

-- if there is nothing to doom or hide, the creations are the whole canonical list
pub only_created : (t : Tree) (keys a : List Key) (none first : List Command) → IsPreOrder t keys → a ≡ keys → none ≡ [] → first ≡ none ++ collected (create_of t) a →
    (collected (doom_of t) keys ≡ []) × (collected (hide_of t) keys ≡ []) → IsCanonical t first
only_created t keys a none first order ka empty x nothing = (
  keys,
  order,
  x ∙ ap (λ cs. cs ++ collected (create_of t) a) empty
      ∙ ap (λ ks. collected (create_of t) ks) ka
      ∙ sym (append-nil (collected (create_of t) keys))
      ∙ ap (λ cs. collected (create_of t) keys ++ cs) (sym nothing.1)
      ∙ ap (λ cs. collected (create_of t) keys ++ (cs ++ collected (hide_of t) keys)) (sym nothing.0),
)
