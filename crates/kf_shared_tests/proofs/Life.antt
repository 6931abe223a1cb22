-- The life of a node: at each of its moments the lock is free, and guards what the history has made.
use Rattle.std.proofs.Common.{◌≡◌, inl, ℕ, List, [], ◌∷◌, ◌++◌, length, refl, sym, ap, subst, arith}
use Rattle.std.specs.Prelude.{Option, None, Some}
use Rattle.std.proofs.lemmas.Option.{none-some, same_Some}
use Rattle.kf_core.specs.declared.key.Node.TheVariants.{Dir}
use Rattle.kf_core.specs.declared.command.Command.{Command}
use Rattle.kf_core.specs.declared.command.Command.TheVariants.{Doom, Unlink}
use Rattle.kf_core.specs.declared.records.Record.{Record}
use Rattle.kf_core.specs.declared.slot.NodeFlags.{NodeFlags}
use Rattle.kf_core.specs.Marks.{live_marks}
use Rattle.kf_core.specs.Commands.{replay, root_alone}
use Rattle.kf_core.specs.Lawful.{Lawful}
use Rattle.kf_tree.specs.SlotMarks.{SameMarks}
use Rattle.kf_words.specs.Callers.{TableId}
use Rattle.kf_words.specs.Life.{life_opening}
use Rattle.kf_words.specs.Rule.{Shown}
use Rattle.kf_words.specs.declared.note.Note.{Note}
use Rattle.kf_words.specs.declared.sight.StepKind.{StepKind}
use Rattle.kf_words.specs.TableSteps.{Table, WordRun, master_in}
use Rattle.kf_words.specs.History.{opened_as}
use Rattle.kf_words.specs.Notes.{notes_of}
use Rattle.kf_words.proofs.Runs.{opens_well, rule_kept}
use Rattle.kf_shared.specs.Agreement.{HasNodes}
use Rattle.kf_shared.specs.Locked.{Locked}
use Rattle.kf_shared.specs.Noted.{IsNoted}
use Rattle.kf_shared.specs.Running.{IsFreeLock}
use Rattle.kf_shared_tests.specs.Life.{root_key, first_key, next_key, create, call_steps, mark_steps, until_marked, drain_steps, until_drained, part_steps, until_parted, next_steps, until_again, marked_marks, Moment, NodeLife, TreeLives}
use Rattle.kf_shared_tests.proofs.Steps.{opened, called, marked, drained, parted, again, run_called, run_marked, run_drained, run_parted, run_again}
use Rattle.kf_shared_tests.proofs.Trees.{tree_with, dir_of, two_nodes, lawful_alone, lawful_with, same_alone, same_with, has_nodes}

-- a run followed by another
joined : (a b : List StepKind) (t u v : Table) → WordRun t a u → WordRun u b v → WordRun t (a ++ b) v
joined [] b t u v r s = subst (λ (x : Table). WordRun x b v) r s
joined (kind ∷ kinds) b t u v r s = (r.0, r.1, joined kinds b r.0 u v r.2 s)

begins : Shown 2 3 (opened_as life_opening)
begins = (opens_well 2 3 0 (omega arith) (omega arith)).0

met : (steps : List StepKind) (u : Table) → WordRun (opened_as life_opening) steps u → Shown 2 3 u
met steps u r = rule_kept 2 3 (opened_as life_opening) u steps begins r

all_marked : WordRun opened until_marked marked
all_marked = joined call_steps mark_steps opened called marked run_called run_marked

all_drained : WordRun opened until_drained drained
all_drained = joined until_marked drain_steps opened marked drained all_marked run_drained

all_parted : WordRun opened until_parted parted
all_parted = joined until_drained part_steps opened drained parted all_drained run_parted

all_again : WordRun opened until_again again
all_again = joined until_parted next_steps opened parted again all_parted run_again

-- the notes after the first, which says that the tree was made
abbrev after_first : List Note → List Note
after_first [] = []
after_first (note ∷ notes) = notes

-- the commands that are stored at each moment
abbrev created : List Command
created = create first_key ∷ []

abbrev doomed : List Command
doomed = create first_key ∷ Doom first_key ∷ []

abbrev unlinked : List Command
unlinked = create first_key ∷ Doom first_key ∷ Unlink first_key ∷ []

abbrev made_again : List Command
made_again = create first_key ∷ Doom first_key ∷ Unlink first_key ∷ create next_key ∷ []

is_dir : (generation : ℕ) (marks : NodeFlags) (r : Record) → Some (dir_of generation marks) ≡ Some r → r.node ≡ Dir
is_dir generation marks r e = ap (λ (x : Record). x.node) (sym (same_Some (dir_of generation marks) r e))

module _ (table : TableId) where
  -- what the lock guards
  abbrev locked : List StepKind → Table → Option Record → List Command → List ℕ → Locked
  locked steps u o commands claims = record {
    state = record { root = root_key; tree = tree_with o; commands = commands; ready = None };
    links = [];
    master = record {
      table = table;
      view = master_in u.views;
      nodes = two_nodes;
      seen = record { opening = life_opening; steps = steps };
    };
    claims = claims;
  }

  -- the lock is free and guards this, if the parts agree with one another
  free_over : (steps : List StepKind) (u : Table) (o : Option Record) (commands : List Command) (claims : List ℕ) → Lawful (tree_with o) root_key → tree_with o ≡ replay (root_alone 2 root_key) commands
      → SameMarks (master_in u.views).slots (tree_with o) → HasNodes two_nodes (tree_with o) → length (master_in u.views).slots ≡ 2 → length claims ≡ 2
      → IsNoted (locked steps u o commands claims).state claims (notes_of steps) → IsFreeLock u (locked steps u o commands claims)
  free_over steps u o commands claims lawful replayed same nodes slots claimed told = record {
    table = table;
    whole = record {
      kept = record { lawful = lawful; replayed = replayed };
      tied = record {
        same_table = refl;
        root = refl;
        marks = same;
        nodes = nodes;
        slots = slots;
        all_nodes = refl;
        claims = claimed;
      };
      told = told;
    };
    its_master = refl;
  }

  at_called : Moment table call_steps first_key (Some live_marks)
  at_called = record {
    words = called;
    locked = locked call_steps called (Some (dir_of 1 live_marks)) created (0 ∷ 0 ∷ []);
    run = run_called;
    met = met call_steps called run_called;
    free = free_over call_steps called (Some (dir_of 1 live_marks)) created (0 ∷ 0 ∷ []) (lawful_with 1 live_marks) refl (same_with 1 live_marks)
        (has_nodes (Some (dir_of 1 live_marks)) (is_dir 1 live_marks)) refl refl (record { began = (after_first (notes_of call_steps), refl); tree = refl; claimed = refl; stored = inl (refl, refl) });
    same_table = refl;
    all_seen = refl;
    marks_are = refl;
  }

  at_marked : Moment table until_marked first_key (Some marked_marks)
  at_marked = record {
    words = marked;
    locked = locked until_marked marked (Some (dir_of 1 marked_marks)) doomed (0 ∷ 1 ∷ []);
    run = all_marked;
    met = met until_marked marked all_marked;
    free = free_over until_marked marked (Some (dir_of 1 marked_marks)) doomed (0 ∷ 1 ∷ []) (lawful_with 1 marked_marks) refl (same_with 1 marked_marks)
        (has_nodes (Some (dir_of 1 marked_marks)) (is_dir 1 marked_marks)) refl refl (record { began = (after_first (notes_of until_marked), refl); tree = refl; claimed = refl; stored = inl (refl, refl) });
    same_table = refl;
    all_seen = refl;
    marks_are = refl;
  }

  at_drained : Moment table until_drained first_key (Some marked_marks)
  at_drained = record {
    words = drained;
    locked = locked until_drained drained (Some (dir_of 1 marked_marks)) doomed (0 ∷ 1 ∷ []);
    run = all_drained;
    met = met until_drained drained all_drained;
    free = free_over until_drained drained (Some (dir_of 1 marked_marks)) doomed (0 ∷ 1 ∷ []) (lawful_with 1 marked_marks) refl (same_with 1 marked_marks)
        (has_nodes (Some (dir_of 1 marked_marks)) (is_dir 1 marked_marks)) refl refl (record { began = (after_first (notes_of until_drained), refl); tree = refl; claimed = refl; stored = inl (refl, refl) });
    same_table = refl;
    all_seen = refl;
    marks_are = refl;
  }

  at_parted : Moment table until_parted first_key None
  at_parted = record {
    words = parted;
    locked = locked until_parted parted None unlinked (0 ∷ 1 ∷ []);
    run = all_parted;
    met = met until_parted parted all_parted;
    free = free_over until_parted parted None unlinked (0 ∷ 1 ∷ []) lawful_alone refl (same_alone 1)
        (has_nodes None (λ r e. absurd (none-some r e))) refl refl (record { began = (after_first (notes_of until_parted), refl); tree = refl; claimed = refl; stored = inl (refl, refl) });
    same_table = refl;
    all_seen = refl;
    marks_are = refl;
  }

  at_again : Moment table until_again next_key (Some live_marks)
  at_again = record {
    words = again;
    locked = locked until_again again (Some (dir_of 2 live_marks)) made_again (0 ∷ 1 ∷ []);
    run = all_again;
    met = met until_again again all_again;
    free = free_over until_again again (Some (dir_of 2 live_marks)) made_again (0 ∷ 1 ∷ []) (lawful_with 2 live_marks) refl (same_with 2 live_marks)
        (has_nodes (Some (dir_of 2 live_marks)) (is_dir 2 live_marks)) refl refl (record { began = (after_first (notes_of until_again), refl); tree = refl; claimed = refl; stored = inl (refl, refl) });
    same_table = refl;
    all_seen = refl;
    marks_are = refl;
  }

  life : NodeLife table
  unfolding at_called at_marked at_drained at_parted at_again
  life = record {
    called = at_called;
    runs = refl;
    marked = at_marked;
    marks = run_marked;
    runs_on = refl;
    drained = at_drained;
    drains = run_drained;
    receipt = refl;
    parted = at_parted;
    parts = run_parted;
    gone = refl;
    again = at_again;
    goes_on = run_again;
    last = (record { generation = 2; marks = Some live_marks }, refl, refl);
  }

pub tree_lives : TreeLives
tree_lives = life
