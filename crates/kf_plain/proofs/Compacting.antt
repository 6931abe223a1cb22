-- A compaction keeps the tree, and replaces its stored commands.
use Rattle.std.proofs.Common.{◌≡◌, ap, sym, ◌∙◌, subst, List, length}
use Rattle.std.specs.Prelude.{Option, Result, Ok, Err, IfOk, IfErr}
use Rattle.kf_core.specs.declared.key.Key.{Key}
use Rattle.kf_core.specs.declared.command.Command.{Command}
use Rattle.kf_core.specs.declared.refusal.Refusal.{Refusal}
use Rattle.kf_core.specs.declared.refusal.Refusal.TheVariants.{NoMemory}
use Rattle.kf_core.specs.Agrees.{AgreesHidden}
use Rattle.kf_world.specs.Bounded.{BoundedWorld}
use Rattle.kf_core.specs.Tree.{Tree}
use Rattle.kf_tree.specs.Canonical.{IsCanonical}
use Rattle.kf_tree.specs.SlotMarks.{SameMarks}
use Rattle.kf_tree.specs.TreeLogs.{TreeLog, IsCompacted}
use Rattle.kf_plain.specs.Nodes.{Nodes, nodes_of, AreTied, listed}

compacted_log : (log log' : TreeLog) → IsCompacted log log' → log' ≡ listed log log'.commands
compacted_log log log' c =
    let made : Key → Tree → Option Key → TreeLog = λ r t k. record { root = r; tree = t; commands = log'.commands; ready = k } in
    ap (λ r. made r log'.tree log'.ready) c.same_root ∙ ap (λ t. made log.root t log'.ready) c.same_tree ∙ ap (made log.root log.tree) c.not_ready

module _ (n : Nodes) (log log' : TreeLog) (w : BoundedWorld) (is : nodes_of log w ≡ n) where
  -- tree and world stay tied after a compaction, whether or not it succeeded
  pub compacted_stays_tied : (result : Result (Unit {0}) Refusal) → AreTied log w.world → AgreesHidden log.tree w.world →
      IfOk result (λ _. IsCompacted log log') → IfErr result (λ refusal. (refusal ≡ NoMemory) × (log' ≡ log)) → AreTied log' w.world × AgreesHidden log'.tree w.world
  compacted_stays_tied (Ok x) tied told done refused = (
    record {
      kept = done.kept;
      undoomed = tied.undoomed;
      marks = subst (SameMarks w.world.slots) (sym done.same_tree) tied.marks;
      slots = tied.slots ∙ ap length (sym done.same_tree);
    },
    subst (λ t. AgreesHidden t w.world) (sym done.same_tree) told,
  )
  compacted_stays_tied (Err refusal) tied told done refused = (subst (λ l. AreTied l w.world) (sym refused.1) tied, subst (λ (l : TreeLog). AgreesHidden l.tree w.world) (sym refused.1) told)

  pub seen_compacted : (result : Result (Unit {0}) Refusal) → IfOk result (λ _. IsCompacted log log') →
      IfOk result (λ _. (commands : List Command) × IsCanonical n.log.tree commands × (nodes_of log' w ≡ record { log = listed n.log commands; last = n.last; limit = n.limit; callers = n.callers }))
  seen_compacted (Ok x) done = (
    log'.commands,
    subst (λ (m : Nodes). IsCanonical m.log.tree log'.commands) is (subst (λ t. IsCanonical t log'.commands) done.same_tree done.canonical),
    ap (λ l. nodes_of l w) (compacted_log log log' done) ∙ ap (λ (m : Nodes). let v : Nodes = record { log = listed m.log log'.commands; last = m.last; limit = m.limit; callers = m.callers } in v) is,
  )
  seen_compacted (Err refusal) done = tt
