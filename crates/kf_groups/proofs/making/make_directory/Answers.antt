use Rattle.std.proofs.Common.{◌≡◌, ◌+◌, arith, inl, inr, refl, sym, subst}
use Rattle.std.proofs.lemmas.Result.{err_from_is_err_and}
use Rattle.kf_core.specs.declared.key.Node.TheVariants.{Dir}
use Rattle.kf_core.specs.declared.refusal.Refusal.TheVariants.{NoMemory}
use Rattle.kf_tree.specs.TreeLogs.{TreeLog}
use Rattle.kf_groups.specs.Attributes.{shown}
use Rattle.kf_groups.specs.Keeps.{Keeps}
use Rattle.kf_tree.specs.Subtrees.{linked_count}
use Rattle.kf_groups.proofs.Counts.{gave_up}
use Rattle.kf_groups.proofs.Makings.{all_made, created, directory_made}
use Rattle.kf_groups.proofs.Lacks.{activate_lacks, create_lacks}
use Rattle.kf_groups.proofs.Older.{keeps_linked, keeps_on}
use Rattle.kf_groups.proofs.Turns.{activated_count, directory_free, fresh, itself_linked, made_keeps, made_more, stays, stays_activated}
use Rattle.kf_groups.proofs.making.make_directory.Goals as goal

pub fill-requires : goal.fill-requires
fill-requires g c = record {
  free =
      directory_free g.N.Naming.table c.args.editor.now c.create.new.self c.args.dir c.in_ok-key.key c.args.name.now (shown c.args.attributes.now)
      c.state.ensures.whole c.in_ok-key.ensures.next c.in_ok-key.ensures.accepted c.requires.directory_free c.requires.files_free;
}

pub returns-in_err-key-clause-refused : goal.returns-in_err-key-clause-refused
returns-in_err-key-clause-refused g c =
    let p = err_from_is_err_and c.from_residual.result c.from_residual.ensures.1 in
    rw (p.1, p.2) (
      c.in_err-key.field-0.0,
      create_lacks c.args.editor.now c.create.new.self c.args.dir c.args.name.now Dir c.in_err-key.field-0.0
          c.requires.directory_free c.in_err-key.ensures.refused c.in_err-key.ensures.same,
      inl c.in_err-key.ensures.refused,
    )

pub returns-in-Err-clause-refused : goal.returns-in-Err-clause-refused
returns-in-Err-clause-refused g c =
    let rest = c.in-Err.ensures.refused in (
      rest.0,
      gave_up c.args.editor.now.state.tree c.create.new.self.state.tree c.fill.new.editor.state.tree c.give_up.new.editor.state.tree
          rest.0 c.in-Err.refusal c.give_up.result 1 (made_more g.N.Naming.table c.args.editor.now c.create.new.self c.args.dir c.in_ok-key.key _ _
          c.state.ensures.whole c.in_ok-key.ensures.next c.in_ok-key.ensures.accepted)
          rest.1 c.give_up.ensures.counted,
      inr (c.create.new.self, c.fill.new.editor, c.in_ok-key.key, c.in_ok-key.ensures.accepted, inl rest.2, c.give_up.ensures.took),
    )

pub returns-in-Err-clause-others : goal.returns-in-Err-clause-others
returns-in-Err-clause-others g c =
    stays g.N.Naming.table c.args.editor.now c.create.new.self c.args.dir c.in_ok-key.key _ _
    c.state.ensures.whole c.in_ok-key.ensures.next c.in_ok-key.ensures.accepted
    c.fill.new.editor.state.tree c.give_up.new.editor.state.tree c.fill.ensures.others c.give_up.ensures.older

pub returns-in-Err-activate-clause-refused : goal.returns-in-Err-activate-clause-refused
returns-in-Err-activate-clause-refused g c = (
  NoMemory,
  inr (activate_lacks c.fill.new.editor.state c.activate.new.self.state c.in_ok-key.key _
      (keeps_linked c.create.new.self.state.tree c.fill.new.editor.state.tree c.in_ok-key.key c.fill.ensures.others
      (itself_linked g.N.Naming.table c.args.editor.now c.create.new.self c.args.dir c.in_ok-key.key _ _
      c.state.ensures.whole c.in_ok-key.ensures.next c.in_ok-key.ensures.accepted))
      c.in-Err-activate.ensures.refused),
  inr (
    c.create.new.self,
    c.activate.new.self,
    c.in_ok-key.key,
    c.in_ok-key.ensures.accepted,
    inr (all_made c.create.new.self c.fill.new.editor c.activate.new.self c.in_ok-key.key (shown c.args.attributes.now)
        c.in-Err-activate.ensures.same c.in_default.ensures.made),
    c.take_back.ensures.took,
  ),
)

pub returns-in-Err-activate-clause-others : goal.returns-in-Err-activate-clause-others
returns-in-Err-activate-clause-others g c =
    let base = c.args.editor.now.state in
    let since = subst (λ (s : TreeLog). Keeps c.create.new.self.state.tree s.tree) (sym c.in-Err-activate.ensures.refused.unchanged) c.fill.ensures.others in
    let still = keeps_on base.tree c.create.new.self.state.tree c.activate.new.self.state.tree
    (made_keeps g.N.Naming.table c.args.editor.now c.create.new.self c.args.dir c.in_ok-key.key _ _
    c.state.ensures.whole c.in_ok-key.ensures.next c.in_ok-key.ensures.accepted) since in
    c.take_back.ensures.older base.tree base.root c.state.ensures.whole.kept.lawful
    (fresh g.N.Naming.table c.args.editor.now c.create.new.self c.args.dir c.in_ok-key.key _ _
    c.state.ensures.whole c.in_ok-key.ensures.next c.in_ok-key.ensures.accepted) still

pub returns-clause-made : goal.returns-clause-made
returns-clause-made g c =
    let files = c.in_default.ensures.made in (
      files.0,
      files.1,
      directory_made c.args.editor.now.state c.create.new.self.state c.fill.new.editor.state c.activate.new.self.state
          c.args.dir c.in_ok-key.key c.args.name.now (shown c.args.attributes.now) files.0 _
          (created c.args.editor.now c.create.new.self c.args.dir c.in_ok-key.key _ _ _ refl c.in_ok-key.ensures.accepted)
          files.2 c.in_default-activate.ensures.accepted,
    )

pub returns-clause-others : goal.returns-clause-others
returns-clause-others g c =
    stays_activated g.N.Naming.table c.args.editor.now c.create.new.self c.args.dir c.in_ok-key.key _ _
    c.state.ensures.whole c.in_ok-key.ensures.next c.in_ok-key.ensures.accepted
    c.fill.new.editor.state c.activate.new.self.state _ c.fill.ensures.others c.in_default-activate.ensures.accepted

pub returns-clause-counted : goal.returns-clause-counted
returns-clause-counted g c =
    let live = activated_count c.fill.new.editor.state c.activate.new.self.state _ c.in_ok-key.key c.in_default-activate.ensures.accepted in
    let one : linked_count c.create.new.self.state.tree ≡ linked_count c.args.editor.now.state.tree + 1 =
    made_more g.N.Naming.table c.args.editor.now c.create.new.self c.args.dir c.in_ok-key.key _ _
    c.state.ensures.whole c.in_ok-key.ensures.next c.in_ok-key.ensures.accepted in
    let files = c.in_default.ensures.counted in
    omega (arith, live, one, files)

pub returns-clause-fresh : goal.returns-clause-fresh
returns-clause-fresh g c =
    fresh g.N.Naming.table c.args.editor.now c.create.new.self c.args.dir c.in_ok-key.key _ _
    c.state.ensures.whole c.in_ok-key.ensures.next c.in_ok-key.ensures.accepted
