-- What a removal, done or refused, does to the board.
use Rattle.std.proofs.Common.{◌≡◌, ℕ, refl, ap, sym, ◌∙◌, subst, List, ◌∷◌}
use Rattle.std.specs.Prelude.{Option, Result, Ok, Err, IfOk, IfErr, map}
use Rattle.kf_core.specs.declared.key.Key.{Key}
use Rattle.kf_core.specs.declared.refusal.Refusal.{Refusal}
use Rattle.kf_core.specs.declared.command.Command.TheVariants.{Doom, Unlink}
use Rattle.kf_tree.specs.TreeLogs.{TreeLog}
use Rattle.kf_plain.specs.declared.nodes.visits.BoardFile.{BoardFile}
use Rattle.kf_plain.specs.declared.nodes.hiding.BoardToken.{BoardToken}
use Rattle.kf_world.specs.Bounded.{hold_count}
use Rattle.kf_plain.specs.Nodes.{Nodes, logged, with_spent}
use Rattle.kf_plain.specs.Plain.{Plain, holder_count}
use Rattle.kf_plain.specs.PlainInside.{plain_of, IsWholeBoard}
use Rattle.kf_core.specs.PostOrder.{IsPostOrder}
use Rattle.kf_plain.specs.PlainRemove.{remove_held, removed_key, without}
use Rattle.kf_plain.specs.Settled.{IsWhyFrom, IsRefusedFrom}
use Rattle.kf_plain.proofs.Holding.{held_spent}
use Rattle.kf_plain.proofs.BoardTags.{no_tags}
use Rattle.kf_plain.proofs.Wholes.{whole_after, held_part, whole_held}
use Rattle.kf_plain.proofs.BoardShows.{log_shown, spent_whole, spent_shown, leads_shown, why_shown}

module _ (b : Plain) (n n' : Nodes) (events events' : List ℕ) (texts : List (List ℕ)) (files : List (Option BoardFile)) (tokens : List (Option BoardToken)) (is : plain_of n events texts files tokens ≡ b) (whole : IsWholeBoard n events texts files tokens) where
  abbrev removed_log : Key → List Key → Nodes
  removed_log key keys = record { log = logged n.log (Doom key ∷ map Unlink keys); last = n.last; limit = n.limit; callers = n.callers }

  pub whole_removed : (path : List ℕ) (result : Result (Unit {0}) Refusal) →
      IfOk result (λ _. (key : Key) × (removed_key n.log (hold_count n.callers) n.limit path ≡ Ok key) × ((keys : List Key) × IsPostOrder n.log.tree key keys × (n' ≡ with_spent (record { log = logged n.log (Doom key ∷ map Unlink keys); last = n.last; limit = n.limit; callers = n.callers }) keys))) →
      IfErr result (λ refusal. IsWhyFrom (remove_held n.log path) (removed_key n.log (hold_count n.callers) n.limit path) refusal × ((spent : List Key) × (n' ≡ with_spent n spent))) → IsWholeBoard n' events texts files tokens
  whole_removed path (Ok x) done refused =
      let mid = whole_after n events texts files tokens whole (removed_log done.0 done.2.0) (Doom done.0 ∷ map Unlink done.2.0) (tt, no_tags done.2.0) refl refl in
      subst (λ m. IsWholeBoard m events texts files tokens) (sym done.2.2) (whole_held (removed_log done.0 done.2.0) (with_spent (removed_log done.0 done.2.0) done.2.0) events events texts texts files tokens files mid refl refl refl refl (held_spent n.callers files tokens (held_part n events texts files tokens whole) done.2.0))
  whole_removed path (Err refusal) done refused = spent_whole b n n' events events' texts files tokens is whole refused.1.0 refused.1.1

  pub shown_removed : (path : List ℕ) (result : Result (Unit {0}) Refusal) →
      IfOk result (λ _. (key : Key) × (removed_key n.log (hold_count n.callers) n.limit path ≡ Ok key) × ((keys : List Key) × IsPostOrder n.log.tree key keys × (n' ≡ with_spent (record { log = logged n.log (Doom key ∷ map Unlink keys); last = n.last; limit = n.limit; callers = n.callers }) keys))) →
      IfOk result (λ _. (key : Key) × (removed_key b.log (holder_count b) b.limit path ≡ Ok key) × ((keys : List Key) × IsPostOrder b.log.tree key keys × (plain_of n' events texts files tokens ≡ without b key keys)))
  shown_removed path (Ok x) done = (
    done.0,
    leads_shown b n n' events events' texts files tokens is whole (λ l c m. removed_key l c m path) (Ok done.0) done.1,
    (
      done.2.0,
      subst (λ (l : TreeLog). IsPostOrder l.tree done.0 done.2.0) (log_shown b n events texts files tokens is whole) done.2.1,
      ap (λ m. plain_of m events texts files tokens) done.2.2 ∙ ap (λ (y : Plain). without y done.0 done.2.0) is,
    ),
  )
  shown_removed path (Err refusal) done = tt

  pub shown_not_removed : (path : List ℕ) (result : Result (Unit {0}) Refusal) → IfErr result (λ refusal. IsWhyFrom (remove_held n.log path) (removed_key n.log (hold_count n.callers) n.limit path) refusal × ((spent : List Key) × (n' ≡ with_spent n spent))) →
      IfErr result (λ refusal. IsRefusedFrom (remove_held b.log path) (removed_key b.log (holder_count b) b.limit path) b refusal (plain_of n' events texts files tokens))
  shown_not_removed path (Ok x) refused = tt
  shown_not_removed path (Err refusal) refused = (why_shown b n n' events events' texts files tokens is whole (λ l. remove_held l path) (λ l c m. removed_key l c m path) refusal refused.0, spent_shown b n n' events events' texts files tokens is whole refused.1.0 refused.1.1)
