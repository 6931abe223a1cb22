use Rattle.std.proofs.Common.{[], get_or, ◌∙◌, inl, inr, subst, sym, rules}
use Rattle.kf_core.specs.declared.refusal.Refusal.TheVariants.{NoMemory}
use Rattle.std.proofs.lemmas.Result.{err_from_is_err_and}
use Rattle.kf_tree.specs.TreeLogs.{TreeLog}
use Rattle.kf_groups.specs.declared.attribute.Attribute.{Attribute}
use Rattle.kf_groups.specs.Attributes.{shown}
use Rattle.kf_groups.specs.Keeps.{Keeps}
use Rattle.kf_groups.proofs.Counts.{gave_up}
use Rattle.kf_groups.proofs.Makings.{created, file_made, later, live_stopped, made, not_made, one_more, stopped}
use Rattle.kf_groups.proofs.Lacks.{activate_lacks, create_lacks}
use Rattle.kf_groups.proofs.Older.{keeps_linked, keeps_on}
use Rattle.kf_groups.proofs.Turns.{activated_count, first_free, fresh, itself_linked, later_free, later_none, made_keeps, made_more, stays, stays_activated}
use Rattle.kf_groups.proofs.making.+make_files.Goals as goal

-- the default for a place past the end of a list
blank : Attribute
blank = record { name = record { ref_ptr = (0, 0); now = [] }; mode = 0; tag = 0 }

pub make_files-requires-2 : goal.make_files-requires-2
unfolding blank
make_files-requires-2 g t c κs within = (
  search rules,
  (
    search rules,
    later_free c.args.editor.now c.create.new.self c.args.dir c.args.attributes.now blank c.in-len1-up.len_at_least c.if-first-eq0.false
        c.file_of.result c.in_ok-key.key c.in_ok-key.ensures.accepted c.requires.free,
  ),
)

pub returns-in_err-key-clause-refused : goal.returns-in_err-key-clause-refused
unfolding blank
returns-in_err-key-clause-refused g t c =
    let p = err_from_is_err_and c.from_residual.result c.from_residual.ensures.1 in
    rw (p.1, p.2) (
      c.in_err-key.field-0.0,
      create_lacks c.args.editor.now c.create.new.self c.args.dir (get_or c.args.attributes.now 0 blank).name.now c.file_of.result c.in_err-key.field-0.0
          (first_free c.args.editor.now c.create.new.self c.args.dir c.args.attributes.now blank c.in-len1-up.len_at_least c.if-first-eq0.false
          c.file_of.result c.file_of.ensures.known c.requires.free)
          c.in_err-key.ensures.refused c.in_err-key.ensures.same,
      not_made c.args.dir c.args.attributes.now blank c.in-len1-up.len_at_least c.if-first-eq0.false
          c.args.editor.now c.create.new.self c.file_of.result c.in_err-key.field-0.0 c.file_of.ensures.known c.in_err-key.ensures.refused,
    )

pub returns-in-Err-clause-refused : goal.returns-in-Err-clause-refused
unfolding blank
returns-in-Err-clause-refused g t c =
    let rest = c.in-Err.ensures.refused in (
      rest.0,
      gave_up c.args.editor.now.state.tree c.create.new.self.state.tree c.make_files-2.new.editor.state.tree c.give_up.new.editor.state.tree
          rest.0 c.in-Err.refusal c.give_up.result 1 (made_more g.N.Naming.table c.args.editor.now c.create.new.self c.args.dir c.in_ok-key.key _ _
          c.state.ensures.whole c.in_ok-key.ensures.next c.in_ok-key.ensures.accepted)
          rest.1 c.give_up.ensures.counted,
      stopped c.args.dir c.args.attributes.now blank c.in-len1-up.len_at_least c.if-first-eq0.false
          c.args.editor.now c.create.new.self c.make_files-2.new.editor c.give_up.new.editor c.in_ok-key.key rest.0
          (file_made c.args.editor.now c.create.new.self c.args.dir c.in_ok-key.key (get_or c.args.attributes.now 0 blank) _ c.file_of.ensures.known c.in_ok-key.ensures.accepted)
          (inl rest.2) c.give_up.ensures.took,
    )

pub returns-in-Err-clause-others : goal.returns-in-Err-clause-others
returns-in-Err-clause-others g t c =
    stays g.N.Naming.table c.args.editor.now c.create.new.self c.args.dir c.in_ok-key.key _ _
    c.state.ensures.whole c.in_ok-key.ensures.next c.in_ok-key.ensures.accepted
    c.make_files-2.new.editor.state.tree c.give_up.new.editor.state.tree c.make_files-2.ensures.others c.give_up.ensures.older

pub returns-in-Err-activate-clause-refused : goal.returns-in-Err-activate-clause-refused
unfolding blank
returns-in-Err-activate-clause-refused g t c = (
  NoMemory,
  inr (activate_lacks c.make_files-2.new.editor.state c.activate.new.self.state c.in_ok-key.key _
      (keeps_linked c.create.new.self.state.tree c.make_files-2.new.editor.state.tree c.in_ok-key.key c.make_files-2.ensures.others
      (itself_linked g.N.Naming.table c.args.editor.now c.create.new.self c.args.dir c.in_ok-key.key _ _
      c.state.ensures.whole c.in_ok-key.ensures.next c.in_ok-key.ensures.accepted))
      c.in-Err-activate.ensures.refused),
  stopped c.args.dir c.args.attributes.now blank c.in-len1-up.len_at_least c.if-first-eq0.false
      c.args.editor.now c.create.new.self c.take_back_files.new.editor c.take_back.new.editor c.in_ok-key.key NoMemory
      (file_made c.args.editor.now c.create.new.self c.args.dir c.in_ok-key.key (get_or c.args.attributes.now 0 blank) _ c.file_of.ensures.known c.in_ok-key.ensures.accepted)
      (inr (live_stopped c.create.new.self c.make_files-2.new.editor c.activate.new.self c.take_back_files.new.editor
      c.args.dir (shown (later c.args.attributes.now)) c.in-Err-activate.ensures.same
      c.in_default-make_files.ensures.made c.take_back_files.ensures.took))
      c.take_back.ensures.took,
)

pub returns-in-Err-activate-clause-others : goal.returns-in-Err-activate-clause-others
unfolding blank
returns-in-Err-activate-clause-others g t c =
    let base = c.args.editor.now.state in
    let lawful = c.state.ensures.whole.kept.lawful in
    let since = subst (λ (s : TreeLog). Keeps c.create.new.self.state.tree s.tree) (sym c.in-Err-activate.ensures.refused.unchanged) c.make_files-2.ensures.others in
    let still = keeps_on base.tree c.create.new.self.state.tree c.activate.new.self.state.tree
    (made_keeps g.N.Naming.table c.args.editor.now c.create.new.self c.args.dir c.in_ok-key.key _ _
    c.state.ensures.whole c.in_ok-key.ensures.next c.in_ok-key.ensures.accepted) since in
    let none = later_none base c.args.dir c.args.attributes.now blank c.in-len1-up.len_at_least c.if-first-eq0.false c.requires.free in
    c.take_back.ensures.older base.tree base.root lawful
    (fresh g.N.Naming.table c.args.editor.now c.create.new.self c.args.dir c.in_ok-key.key _ _
    c.state.ensures.whole c.in_ok-key.ensures.next c.in_ok-key.ensures.accepted)
    (c.take_back_files.ensures.older base.tree base.root lawful none still)

pub returns-clause-made : goal.returns-clause-made
unfolding blank
returns-clause-made g t c =
    made c.args.editor.now.state c.create.new.self.state c.make_files-2.new.editor.state c.activate.new.self.state
    c.args.dir c.in_ok-key.key c.args.attributes.now blank _ c.in-len1-up.len_at_least c.if-first-eq0.false
    (created c.args.editor.now c.create.new.self c.args.dir c.in_ok-key.key _ _ _ c.file_of.ensures.known c.in_ok-key.ensures.accepted) c.in_default-make_files.ensures.made c.in_default-activate.ensures.accepted

pub returns-clause-others : goal.returns-clause-others
returns-clause-others g t c =
    stays_activated g.N.Naming.table c.args.editor.now c.create.new.self c.args.dir c.in_ok-key.key _ _
    c.state.ensures.whole c.in_ok-key.ensures.next c.in_ok-key.ensures.accepted
    c.make_files-2.new.editor.state c.activate.new.self.state _ c.make_files-2.ensures.others c.in_default-activate.ensures.accepted

pub returns-clause-counted : goal.returns-clause-counted
unfolding blank
returns-clause-counted g t c =
    activated_count c.make_files-2.new.editor.state c.activate.new.self.state _ c.in_ok-key.key c.in_default-activate.ensures.accepted
    ∙ one_more c.args.editor.now.state.tree c.create.new.self.state.tree c.make_files-2.new.editor.state.tree
    c.args.attributes.now blank c.in-len1-up.len_at_least c.if-first-eq0.false
    (made_more g.N.Naming.table c.args.editor.now c.create.new.self c.args.dir c.in_ok-key.key _ _
    c.state.ensures.whole c.in_ok-key.ensures.next c.in_ok-key.ensures.accepted)
    c.in_default-make_files.ensures.counted
