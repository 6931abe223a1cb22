-- A file is created, and then its text is put into the text table.
use Rattle.std.proofs.Common.{◌≡◌, ℕ, ◌<◌, refl, ap, arith, sym, ◌∙◌, subst, true, List, length, slice_set}
use Rattle.std.specs.Prelude.{Option, None, Some, Ok}
use Rattle.std.proofs.lemmas.Option.{slice_get_within}
use Rattle.kf_core.specs.declared.key.Key.{Key}
use Rattle.kf_core.specs.declared.key.Node.{Node}
use Rattle.kf_core.specs.declared.refusal.Refusal.{Refusal}
use Rattle.kf_tree.specs.TreeLogs.{TreeLog}
use Rattle.kf_plain.specs.declared.nodes.visits.BoardFile.{BoardFile}
use Rattle.kf_plain.specs.declared.nodes.hiding.BoardToken.{BoardToken}
use Rattle.kf_world.specs.Bounded.{hold_count}
use Rattle.kf_plain.specs.Nodes.{Nodes, IsFreeKeyOf}
use Rattle.kf_plain.specs.Plain.{Plain, IsFreeKey, with_text}
use Rattle.kf_plain.specs.PlainInside.{plain_of, IsWholeBoard, IsTaggedNode}
use Rattle.kf_plain.specs.PlainTree.{Spot, file_node, new_spot, with_born, with_node}
use Rattle.kf_plain.specs.Settled.{IsWhy, IsRefusedBy}
use Rattle.kf_plain.proofs.Ties.{free_tells}
use Rattle.kf_plain.proofs.Wholes.{whole_text}
use Rattle.kf_plain.proofs.BoardShows.{next_shown, log_shown, born_shown, born_whole, same_shown}

module _ (b : Plain) (n n' : Nodes) (events : List ℕ) (texts texts' : List (List ℕ)) (files : List (Option BoardFile)) (tokens : List (Option BoardToken)) (is : plain_of n events texts files tokens ≡ b) (whole : IsWholeBoard n events texts files tokens)
    (path text copy : List ℕ) (mode : ℕ) (node : Node) (next : Option Key) (key : Key) (is_file : node ≡ file_node mode next) (found : IsFreeKeyOf n.log.tree n.last (hold_count n.callers) next) (given : next ≡ Some key)
    (made : (s : Spot) × (new_spot n.log path node next ≡ Ok s) × (n' ≡ with_born n key s node true)) (same : copy ≡ text) where
  its_node : node ≡ file_node mode (Some key)
  its_node = is_file ∙ ap (file_node mode) given

  pub file_slot : key.slot < length texts
  file_slot =
      let inside = slice_get_within n.log.tree key.slot None (free_tells n.log.tree n.last (hold_count n.callers) key.slot (subst (IsFreeKeyOf n.log.tree n.last (hold_count n.callers)) given found).1).0 in
      let wide = whole.a_text_each in omega (arith, inside, wide)

  module _ (put : texts' ≡ slice_set texts key.slot copy) where
    pub file_whole : IsWholeBoard n' events texts' files tokens
    file_whole = subst (λ ts. IsWholeBoard n' events ts files tokens) (sym put)
        (whole_text n' events texts files tokens (born_whole b n events texts files tokens is whole n' key made.0 node true (subst (λ x. IsTaggedNode key.slot x) (sym its_node) refl) made.2) key.slot copy)

    pub file_shown : IsFreeKey b (Some key) × ((s : Spot) × (new_spot b.log path (file_node mode (Some key)) (Some key) ≡ Ok s) × (plain_of n' events texts' files tokens ≡ with_text (with_node b key s (file_node mode (Some key)) true) key.slot text))
    file_shown = (
      subst (IsFreeKey b) given (next_shown b n events texts files tokens is whole next found),
      (
        made.0,
        subst (λ (l : TreeLog). new_spot l path (file_node mode (Some key)) (Some key) ≡ Ok made.0) (log_shown b n events texts files tokens is whole)
            (subst (λ o. new_spot n.log path (file_node mode (Some key)) o ≡ Ok made.0) given (subst (λ x. new_spot n.log path x next ≡ Ok made.0) its_node made.1)),
        ap (λ ts. plain_of n' events ts files tokens) (put ∙ ap (λ t. slice_set texts key.slot t) same)
            ∙ ap (λ (x : Plain). with_text x key.slot text) (born_shown b n events texts files tokens is whole n' key made.0 node true made.2 ∙ ap (λ x. with_node b key made.0 x true) its_node),
      ),
    )

pub file_refused : (b : Plain) (n n' : Nodes) (events : List ℕ) (texts : List (List ℕ)) (files : List (Option BoardFile)) (tokens : List (Option BoardToken)) (is : plain_of n events texts files tokens ≡ b) (whole : IsWholeBoard n events texts files tokens)
    (path : List ℕ) (mode : ℕ) (node : Node) (next : Option Key) (refusal : Refusal) → node ≡ file_node mode next → IsFreeKeyOf n.log.tree n.last (hold_count n.callers) next → IsWhy (new_spot n.log path node next) refusal × (n' ≡ n) →
    (o : Option Key) × IsFreeKey b o × IsRefusedBy (new_spot b.log path (file_node mode o) o) b refusal (plain_of n' events texts files tokens)
file_refused b n n' events texts files tokens is whole path mode node next refusal is_file found why = (
  next,
  next_shown b n events texts files tokens is whole next found,
  (
    subst (λ (l : TreeLog). IsWhy (new_spot l path (file_node mode next) next) refusal) (log_shown b n events texts files tokens is whole) (subst (λ x. IsWhy (new_spot n.log path x next) refusal) is_file why.0),
    same_shown b n events texts files tokens is whole n' why.1,
  ),
)
