-- What the board shows of its parts: the next key, the commands, births, what a request leads to, and holds
-- that were taken and released.
use Rattle.std.proofs.Common.{◌≡◌, inl, inr, ℕ, refl, ap, sym, ◌∙◌, subst, Bool, List, [], ◌∷◌}
use Rattle.std.specs.Prelude.{Option, Result, Err}
use Rattle.kf_core.specs.declared.key.Key.{Key}
use Rattle.kf_core.specs.declared.key.Node.{Node}
use Rattle.kf_core.specs.declared.refusal.Refusal.{Refusal}
use Rattle.kf_core.specs.declared.command.Command.TheVariants.{Create}
use Rattle.kf_tree.specs.TreeLogs.{TreeLog}
use Rattle.kf_plain.specs.declared.nodes.visits.BoardFile.{BoardFile}
use Rattle.kf_plain.specs.declared.nodes.hiding.BoardToken.{BoardToken}
use Rattle.kf_world.specs.Bounded.{hold_count}
use Rattle.kf_plain.specs.Nodes.{Nodes, IsFreeKeyOf, with_spent}
use Rattle.kf_plain.specs.Plain.{Plain, IsFreeKey, holder_count}
use Rattle.kf_plain.specs.PlainInside.{plain_of, IsWholeBoard, IsTaggedNode}
use Rattle.kf_plain.specs.PlainTree.{Spot, with_born, with_node}
use Rattle.kf_plain.specs.Settled.{Leads, IsWhyFrom}
use Rattle.kf_plain.proofs.Holding.{held_spent}
use Rattle.kf_plain.proofs.Wholes.{whole_after, counts_same, held_part, whole_held}

module _ (b : Plain) (n : Nodes) (events : List ℕ) (texts : List (List ℕ)) (files : List (Option BoardFile)) (tokens : List (Option BoardToken)) (is : plain_of n events texts files tokens ≡ b) (whole : IsWholeBoard n events texts files tokens) where
  pub next_shown : (next : Option Key) → IsFreeKeyOf n.log.tree n.last (hold_count n.callers) next → IsFreeKey b next
  next_shown next h = subst (λ (x : Plain). IsFreeKey x next) is (subst (λ count. IsFreeKeyOf n.log.tree n.last count next) (counts_same n events texts files tokens whole) h)

  pub log_shown : n.log ≡ b.log
  log_shown = ap (λ (x : Plain). x.log) is

  -- the board after a birth
  pub born_shown : (n' : Nodes) (key : Key) (spot : Spot) (node : Node) (is_live : Bool) → n' ≡ with_born n key spot node is_live → plain_of n' events texts files tokens ≡ with_node b key spot node is_live
  born_shown n' key spot node is_live e = ap (λ m. plain_of m events texts files tokens) e ∙ ap (λ (x : Plain). with_node x key spot node is_live) is

  pub born_whole : (n' : Nodes) (key : Key) (spot : Spot) (node : Node) (is_live : Bool) → IsTaggedNode key.slot node → n' ≡ with_born n key spot node is_live → IsWholeBoard n' events texts files tokens
  born_whole n' key spot node is_live x e = whole_after n events texts files tokens whole n' (Create key spot.dir spot.name node is_live ∷ []) (x, tt) (ap (λ (m : Nodes). m.log) e) (ap (λ (m : Nodes). m.callers) e)

  pub same_shown : (n' : Nodes) → n' ≡ n → plain_of n' events texts files tokens ≡ b
  same_shown n' e = ap (λ m. plain_of m events texts files tokens) e ∙ is

  pub same_whole : (n' : Nodes) → n' ≡ n → IsWholeBoard n' events texts files tokens
  same_whole n' e = subst (λ m. IsWholeBoard m events texts files tokens) (sym e) whole

module _ (b : Plain) (n n' : Nodes) (events events' : List ℕ) (texts : List (List ℕ)) (files : List (Option BoardFile)) (tokens : List (Option BoardToken)) (is : plain_of n events texts files tokens ≡ b) (whole : IsWholeBoard n events texts files tokens) where
  pub spent_whole : (keys : List Key) → n' ≡ with_spent n keys → IsWholeBoard n' events texts files tokens
  spent_whole keys e = subst (λ m. IsWholeBoard m events texts files tokens) (sym e) (whole_held n (with_spent n keys) events events texts texts files tokens files whole refl refl refl refl (held_spent n.callers files tokens (held_part n events texts files tokens whole) keys))

  pub spent_shown : (keys : List Key) → n' ≡ with_spent n keys → plain_of n' events texts files tokens ≡ b
  spent_shown keys e = ap (λ m. plain_of m events texts files tokens) e ∙ is

  -- what a removal or an open leads to, by the board's own counts of holds
  pub leads_shown : {X : Type 0} (leads : TreeLog → (ℕ → ℕ) → ℕ → X) (x : X) → leads n.log (hold_count n.callers) n.limit ≡ x → leads b.log (holder_count b) b.limit ≡ x
  leads_shown leads x e = subst (λ (y : Plain). leads y.log (holder_count y) y.limit ≡ x) is (subst (λ count. leads n.log count n.limit ≡ x) (counts_same n events texts files tokens whole) e)

  pub why_shown : {X Y : Type 0} (held : TreeLog → Result Y Refusal) (leads : TreeLog → (ℕ → ℕ) → ℕ → Result X Refusal) (refusal : Refusal)
      → IsWhyFrom (held n.log) (leads n.log (hold_count n.callers) n.limit) refusal → IsWhyFrom (held b.log) (leads b.log (holder_count b) b.limit) refusal
  why_shown held leads refusal (inl e) = inl (leads_shown leads (Err refusal) e)
  why_shown held leads refusal (inr w) = inr (w.0, subst (λ (l : TreeLog). Leads (held l)) (log_shown b n events texts files tokens is whole) w.1)
