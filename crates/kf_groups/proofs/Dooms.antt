-- A hold of a node is taken, and then the node is doomed, or its doom is refused.
use Rattle.std.proofs.Common.{◌≡◌, inr, refl, ap, subst, ◌∙◌, true, List, [], ◌∷◌}
use Rattle.std.specs.Prelude.{Option, None, Some, MatchBool, is_some}
use Rattle.std.specs.Option.{option_map}
use Rattle.std.proofs.lemmas.Option.{none-some}
use Rattle.kf_core.specs.declared.command.Command.TheVariants.{Doom}
use Rattle.kf_core.specs.declared.key.Key.{Key}
use Rattle.kf_core.specs.declared.key.Node.{Node}
use Rattle.kf_core.specs.declared.records.Record.{Record}
use Rattle.kf_core.specs.declared.refusal.Refusal.{Refusal}
use Rattle.kf_core.specs.PostOrder.{IsPostOrder}
use Rattle.kf_core.specs.Tree.{is_linked, record_at}
use Rattle.kf_tree.specs.Causes.{doom_cause}
use Rattle.kf_tree.specs.TreeLogs.{TreeLog, IsAccepted}
use Rattle.kf_shared.specs.Locked.{Locked, IsHoldOfNode, Unchanged}
use Rattle.kf_shared.specs.Removal.{DoomDone, DoomHolds, DoomRefused, keys_of}
use Rattle.kf_words.specs.Callers.{Handle, TableId}
use Rattle.kf_words.specs.Nodes.{KeepsNodes, WasPinned}
use Rattle.kf_groups.specs.TakenBack.{TakeBackRefused}

module _ (old held : Locked) (key : Key) (same : held.state ≡ old.state) (words : KeepsNodes old.master held.master) (claims : held.claims ≡ old.claims) where
  pub doom_refused : (new : Locked) (hold : Handle) (refusal : Refusal) → hold.key ≡ key → WasPinned old.master.view key.slot held.master.view
      → Unchanged held new → DoomRefused held new hold.key refusal → TakeBackRefused old new key
  doom_refused new hold refusal is pinned still refused = (
    record {
      root = still.root ∙ ap (λ (s : TreeLog). s.root) same;
      tree = still.tree ∙ ap (λ (s : TreeLog). s.tree) same;
      commands = still.commands ∙ ap (λ (s : TreeLog). s.commands) same;
      claims = still.claims ∙ claims;
      master = record {
        table = still.master.table ∙ words.table;
        limit = still.master.limit ∙ words.limit;
        nodes = still.master.nodes ∙ words.nodes;
        slots = still.master.slots ∙ words.slots;
        history = still.master.history ∙ words.history;
      };
    },
    refusal,
    inr (held, same, pinned, subst (λ k. DoomRefused held new k refusal) is refused),
  )

-- a node is linked if a hold of it was taken
there : (o : Option Record) (n : Node) → option_map (λ (r : Record). r.node) o ≡ Some n → is_some o ≡ true
there None n h = absurd (none-some n h)
there (Some r) n h = refl

module _ (table : TableId) (old held : Locked) (key : Key) (hold : Handle) (same : held.state ≡ old.state) (of_node : IsHoldOfNode table old.state.tree key hold) where
  linked : is_linked old.state.tree key ≡ true
  linked = there (record_at old.state.tree key) hold.node of_node.node

  pub doomed : (new : Locked) → DoomDone held new hold.key
      → IsAccepted old.state new.state (doom_cause old.state.tree old.state.root key) (Doom key)
  doomed new done =
      let here : DoomDone held new key = subst (λ k. DoomDone held new k) of_node.key_is done in
      let now : MatchBool (is_linked old.state.tree key)
      (IsAccepted old.state new.state (doom_cause old.state.tree old.state.root key) (Doom key)) (new ≡ held) =
      subst (λ (s : TreeLog). MatchBool (is_linked s.tree key) (IsAccepted s new.state (doom_cause s.tree s.root key) (Doom key)) (new ≡ held)) same here in
      subst (λ b. MatchBool b (IsAccepted old.state new.state (doom_cause old.state.tree old.state.root key) (Doom key)) (new ≡ held)) linked now

  pub ordered : (holds : List Handle) → DoomHolds held.state.tree hold holds → IsPostOrder old.state.tree key (keys_of holds)
  ordered holds order =
      let here : DoomHolds old.state.tree hold holds = subst (λ (s : TreeLog). DoomHolds s.tree hold holds) same order in
      let now : MatchBool (is_linked old.state.tree key) (IsPostOrder old.state.tree key (keys_of holds)) (holds ≡ hold ∷ []) =
      subst (λ k. MatchBool (is_linked old.state.tree k) (IsPostOrder old.state.tree k (keys_of holds)) (holds ≡ hold ∷ [])) of_node.key_is here in
      subst (λ b. MatchBool b (IsPostOrder old.state.tree key (keys_of holds)) (holds ≡ hold ∷ [])) linked now
