-- What a tree command does to the board: births, activations, moves, compactions, and their refusals.
use Rattle.std.proofs.Common.{◌≡◌, ℕ, ap, sym, ◌∙◌, subst, Bool, true, false, cond, List, [], ◌∷◌}
use Rattle.std.specs.Prelude.{Option, Some, Result, Ok, Err, IfOk, IfErr}
use Rattle.kf_core.specs.declared.key.Key.{Key}
use Rattle.kf_core.specs.declared.key.Node.{Node}
use Rattle.kf_core.specs.declared.key.Node.TheVariants.{Link}
use Rattle.kf_core.specs.declared.refusal.Refusal.{Refusal}
use Rattle.kf_core.specs.declared.command.Command.{Command}
use Rattle.kf_core.specs.declared.command.Command.TheVariants.{Activate, Rename}
use Rattle.kf_tree.specs.Canonical.{IsCanonical}
use Rattle.kf_tree.specs.TreeLogs.{TreeLog}
use Rattle.kf_table.specs.Children.{is_there_already}
use Rattle.kf_plain.specs.declared.nodes.visits.BoardFile.{BoardFile}
use Rattle.kf_plain.specs.declared.nodes.hiding.BoardToken.{BoardToken}
use Rattle.kf_world.specs.Bounded.{hold_count}
use Rattle.kf_plain.specs.Nodes.{Nodes, IsFreeKeyOf, listed, logged}
use Rattle.kf_plain.specs.Plain.{Plain, IsFreeKey, with_commands, with_list}
use Rattle.kf_plain.specs.PlainInside.{plain_of, IsWholeBoard, IsTaggedNode}
use Rattle.kf_plain.specs.PlainTree.{Spot, new_spot, new_link_spot, activated_key, moved_key, with_born, with_node, moved_nodes, with_move}
use Rattle.kf_core.specs.declared.refusal.Refusal.TheVariants.{NoMemory}
use Rattle.kf_plain.specs.Settled.{IsWhy, IsRefusedBy}
use Rattle.kf_plain.proofs.BoardTags.{AreTaggedCommands}
use Rattle.kf_plain.proofs.Wholes.{whole_listed, whole_after}
use Rattle.kf_plain.proofs.BoardShows.{next_shown, log_shown, born_shown, born_whole, same_shown, same_whole}

module _ (b b' : Plain) (n n' : Nodes) (events : List ℕ) (texts : List (List ℕ)) (files : List (Option BoardFile)) (tokens : List (Option BoardToken)) (is : plain_of n events texts files tokens ≡ b) (is' : plain_of n' events texts files tokens ≡ b') (whole : IsWholeBoard n events texts files tokens) where
  pub whole_created : (path : List ℕ) (node : Node) (is_live : Bool) (next : Option Key) (result : Result Key Refusal) → IfOk result (λ key. IsTaggedNode key.slot node) →
      IfOk result (λ key. (s : Spot) × (new_spot n.log path node next ≡ Ok s) × (n' ≡ with_born n key s node is_live)) → IfErr result (λ refusal. IsWhy (new_spot n.log path node next) refusal × (n' ≡ n)) → IsWholeBoard n' events texts files tokens
  whole_created path node is_live next (Ok key) x made refused = born_whole b n events texts files tokens is whole n' key made.0 node is_live x made.2
  whole_created path node is_live next (Err refusal) x made refused = same_whole b n events texts files tokens is whole n' refused.1

  pub shown_created : (path : List ℕ) (node : Node) (is_live : Bool) (next : Option Key) (result : Result Key Refusal) → IsFreeKeyOf n.log.tree n.last (hold_count n.callers) next → IfOk result (λ key. next ≡ Some key) →
      IfOk result (λ key. (s : Spot) × (new_spot n.log path node next ≡ Ok s) × (n' ≡ with_born n key s node is_live)) →
      IfOk result (λ key. IsFreeKey b (Some key) × ((s : Spot) × (new_spot b.log path node (Some key) ≡ Ok s) × (b' ≡ with_node b key s node is_live)))
  shown_created path node is_live next (Ok key) found given made = (
    subst (IsFreeKey b) given (next_shown b n events texts files tokens is whole next found),
    (
      made.0,
      subst (λ (l : TreeLog). new_spot l path node (Some key) ≡ Ok made.0) (log_shown b n events texts files tokens is whole) (subst (λ o. new_spot n.log path node o ≡ Ok made.0) given made.1),
      sym is' ∙ born_shown b n events texts files tokens is whole n' key made.0 node is_live made.2,
    ),
  )
  shown_created path node is_live next (Err refusal) found given made = tt

  -- if the nodes refuse, the board refuses for the same reason, whatever was asked for
  pub shown_why : {X : Type 0} (leads : TreeLog → Result X Refusal) {T : Type 0} (result : Result T Refusal) → IfErr result (λ refusal. IsWhy (leads n.log) refusal × (n' ≡ n)) → IfErr result (λ refusal. IsRefusedBy (leads b.log) b refusal b')
  shown_why leads (Ok x) refused = tt
  shown_why leads (Err refusal) refused = (subst (λ (l : TreeLog). IsWhy (leads l) refusal) (log_shown b n events texts files tokens is whole) refused.0, sym is' ∙ same_shown b n events texts files tokens is whole n' refused.1)

  -- the same for a request that depends on the next key
  pub shown_why_next : {X : Type 0} (leads : TreeLog → Option Key → Result X Refusal) {T : Type 0} (next : Option Key) (result : Result T Refusal) → IsFreeKeyOf n.log.tree n.last (hold_count n.callers) next → IfErr result (λ refusal. IsWhy (leads n.log next) refusal × (n' ≡ n)) →
      IfErr result (λ refusal. (o : Option Key) × IsFreeKey b o × IsRefusedBy (leads b.log o) b refusal b')
  shown_why_next leads next (Ok x) found refused = tt
  shown_why_next leads next (Err refusal) found refused = (
    next,
    next_shown b n events texts files tokens is whole next found,
    (subst (λ (l : TreeLog). IsWhy (leads l next) refusal) (log_shown b n events texts files tokens is whole) refused.0, sym is' ∙ same_shown b n events texts files tokens is whole n' refused.1),
  )

  pub whole_linked : (path target : List ℕ) (next : Option Key) (result : Result Key Refusal) →
      IfOk result (λ key. (l : Key × Spot) × (new_link_spot n.log path target next ≡ Ok l) × (n' ≡ with_born n key l.1 (Link l.0) true)) → IfErr result (λ refusal. IsWhy (new_link_spot n.log path target next) refusal × (n' ≡ n)) → IsWholeBoard n' events texts files tokens
  whole_linked path target next (Ok key) made refused = born_whole b n events texts files tokens is whole n' key made.0.1 (Link made.0.0) true tt made.2
  whole_linked path target next (Err refusal) made refused = same_whole b n events texts files tokens is whole n' refused.1

  pub shown_linked : (path target : List ℕ) (next : Option Key) (result : Result Key Refusal) → IsFreeKeyOf n.log.tree n.last (hold_count n.callers) next → IfOk result (λ key. next ≡ Some key) →
      IfOk result (λ key. (l : Key × Spot) × (new_link_spot n.log path target next ≡ Ok l) × (n' ≡ with_born n key l.1 (Link l.0) true)) →
      IfOk result (λ key. IsFreeKey b (Some key) × ((l : Key × Spot) × (new_link_spot b.log path target (Some key) ≡ Ok l) × (b' ≡ with_node b key l.1 (Link l.0) true)))
  shown_linked path target next (Ok key) found given made = (
    subst (IsFreeKey b) given (next_shown b n events texts files tokens is whole next found),
    (
      made.0,
      subst (λ (l : TreeLog). new_link_spot l path target (Some key) ≡ Ok made.0) (log_shown b n events texts files tokens is whole) (subst (λ o. new_link_spot n.log path target o ≡ Ok made.0) given made.1),
      sym is' ∙ born_shown b n events texts files tokens is whole n' key made.0.1 (Link made.0.0) true made.2,
    ),
  )
  shown_linked path target next (Err refusal) found given made = tt

  -- the board after commands that keep the last generations
  commands_shown : (cs : List Command) → n' ≡ record { log = logged n.log cs; last = n.last; limit = n.limit; callers = n.callers } → b' ≡ with_commands b cs
  commands_shown cs e = sym is' ∙ ap (λ m. plain_of m events texts files tokens) e ∙ ap (λ (x : Plain). with_commands x cs) is

  commands_whole : (cs : List Command) → AreTaggedCommands cs → n' ≡ record { log = logged n.log cs; last = n.last; limit = n.limit; callers = n.callers } → IsWholeBoard n' events texts files tokens
  commands_whole cs x e = whole_after n events texts files tokens whole n' cs x (ap (λ (m : Nodes). m.log) e) (ap (λ (m : Nodes). m.callers) e)

  pub whole_activated : (path : List ℕ) (result : Result (Unit {0}) Refusal) → IfOk result (λ _. (key : Key) × (activated_key n.log path ≡ Ok key) × (n' ≡ record { log = logged n.log (Activate key ∷ []); last = n.last; limit = n.limit; callers = n.callers })) →
      IfErr result (λ refusal. IsWhy (activated_key n.log path) refusal × (n' ≡ n)) → IsWholeBoard n' events texts files tokens
  whole_activated path (Ok x) done refused = commands_whole (Activate done.0 ∷ []) (tt, tt) done.2
  whole_activated path (Err refusal) done refused = same_whole b n events texts files tokens is whole n' refused.1

  pub shown_activated : (path : List ℕ) (result : Result (Unit {0}) Refusal) → IfOk result (λ _. (key : Key) × (activated_key n.log path ≡ Ok key) × (n' ≡ record { log = logged n.log (Activate key ∷ []); last = n.last; limit = n.limit; callers = n.callers })) →
      IfOk result (λ _. (key : Key) × (activated_key b.log path ≡ Ok key) × (b' ≡ with_commands b (Activate key ∷ [])))
  shown_activated path (Ok x) done = (done.0, subst (λ (l : TreeLog). activated_key l path ≡ Ok done.0) (log_shown b n events texts files tokens is whole) done.1, commands_shown (Activate done.0 ∷ []) done.2)
  shown_activated path (Err refusal) done = tt

  -- the board after a move; nothing moves if the node is there already
  moved_or_not : (key into : Key) (name : List ℕ) → n' ≡ moved_nodes n key into name → IsWholeBoard n' events texts files tokens × (b' ≡ with_move b key into name)
  moved_or_not key into name e =
      let after = go (is_there_already n.log.tree key into name) e in
      (after.0, after.1 ∙ ap (λ (l : TreeLog). cond (is_there_already l.tree key into name) b (with_commands b (Rename key into name ∷ []))) (log_shown b n events texts files tokens is whole))
    where
      go : (there : Bool) → n' ≡ cond there n (record { log = logged n.log (Rename key into name ∷ []); last = n.last; limit = n.limit; callers = n.callers }) → IsWholeBoard n' events texts files tokens × (b' ≡ cond there b (with_commands b (Rename key into name ∷ [])))
      go true e = (same_whole b n events texts files tokens is whole n' e, sym is' ∙ same_shown b n events texts files tokens is whole n' e)
      go false e = (commands_whole (Rename key into name ∷ []) (tt, tt) e, commands_shown (Rename key into name ∷ []) e)

  pub whole_moved : (path dir name : List ℕ) (result : Result (Unit {0}) Refusal) → IfOk result (λ _. (keys : Key × Key) × (moved_key n.log path dir name ≡ Ok keys) × (n' ≡ moved_nodes n keys.0 keys.1 name)) → IfErr result (λ refusal. IsWhy (moved_key n.log path dir name) refusal × (n' ≡ n)) → IsWholeBoard n' events texts files tokens
  whole_moved path dir name (Ok x) done refused = (moved_or_not done.0.0 done.0.1 name done.2).0
  whole_moved path dir name (Err refusal) done refused = same_whole b n events texts files tokens is whole n' refused.1

  pub shown_moved : (path dir name : List ℕ) (result : Result (Unit {0}) Refusal) → IfOk result (λ _. (keys : Key × Key) × (moved_key n.log path dir name ≡ Ok keys) × (n' ≡ moved_nodes n keys.0 keys.1 name)) →
      IfOk result (λ _. (keys : Key × Key) × (moved_key b.log path dir name ≡ Ok keys) × (b' ≡ with_move b keys.0 keys.1 name))
  shown_moved path dir name (Ok x) done = (done.0, subst (λ (l : TreeLog). moved_key l path dir name ≡ Ok done.0) (log_shown b n events texts files tokens is whole) done.1, (moved_or_not done.0.0 done.0.1 name done.2).1)
  shown_moved path dir name (Err refusal) done = tt

  -- the board stays whole after a compaction, whether or not it succeeded
  pub whole_compacted : (result : Result (Unit {0}) Refusal) → IfOk result (λ _. (cs : List Command) × IsCanonical n.log.tree cs × (n' ≡ record { log = listed n.log cs; last = n.last; limit = n.limit; callers = n.callers })) →
      IfErr result (λ refusal. (refusal ≡ NoMemory) × (n' ≡ n)) → IsWholeBoard n' events texts files tokens
  whole_compacted (Ok x) done refused = whole_listed n events texts files tokens whole n' done.0 (ap (λ (m : Nodes). m.log) done.2) (ap (λ (m : Nodes). m.callers) done.2)
  whole_compacted (Err refusal) done refused = same_whole b n events texts files tokens is whole n' refused.1

  pub shown_compacted : (result : Result (Unit {0}) Refusal) → IfOk result (λ _. (cs : List Command) × IsCanonical n.log.tree cs × (n' ≡ record { log = listed n.log cs; last = n.last; limit = n.limit; callers = n.callers })) →
      IfOk result (λ _. (cs : List Command) × IsCanonical b.log.tree cs × (b' ≡ with_list b cs))
  shown_compacted (Ok x) done = (
    done.0,
    subst (λ (l : TreeLog). IsCanonical l.tree done.0) (log_shown b n events texts files tokens is whole) done.1,
    sym is' ∙ ap (λ m. plain_of m events texts files tokens) done.2 ∙ ap (λ (x : Plain). with_list x done.0) is,
  )
  shown_compacted (Err refusal) done = tt

  pub shown_starved : (result : Result (Unit {0}) Refusal) → IfErr result (λ refusal. (refusal ≡ NoMemory) × (n' ≡ n)) → IfErr result (λ refusal. (refusal ≡ NoMemory) × (b' ≡ b))
  shown_starved (Ok x) refused = tt
  shown_starved (Err refusal) refused = (refused.0, sym is' ∙ same_shown b n events texts files tokens is whole n' refused.1)

pub untagged : (result : Result Key Refusal) → IfOk result (λ _. Unit {0})
untagged (Ok key) = tt
untagged (Err refusal) = tt
