use Rattle.std.proofs.Common.{[], get_or, inl, rules}
use Rattle.std.proofs.lemmas.Result.{err_from_is_err_and}
use Rattle.kf_groups.specs.declared.attribute.Attribute.{Attribute}
use Rattle.kf_groups.proofs.Counts.{gave_up}
use Rattle.kf_groups.proofs.Makings.{created, file_made, filled, not_made, one_more, stopped}
use Rattle.kf_groups.proofs.Lacks.{create_lacks}
use Rattle.kf_groups.proofs.Older.{keeps_on}
use Rattle.kf_groups.proofs.Turns.{first_free, later_free, made_keeps, made_more, stays}
use Rattle.kf_groups.proofs.making.+fill.Goals as goal

-- the default for a place past the end of a list
blank : Attribute
blank = record { name = record { ref_ptr = (0, 0); now = [] }; mode = 0; tag = 0 }

pub fill-requires-2 : goal.fill-requires-2
unfolding blank
fill-requires-2 g t c κs within = (
  search rules,
  (
    search rules,
    later_free c.args.editor.now c.create.new.self c.args.dir c.args.attributes.now blank c.in-len1-up.len_at_least c.if-first-eq0.false
        c.file_of-node.result c.in_ok-key.key c.in_ok-key.ensures.accepted c.requires.free,
  ),
)

pub returns-in_err-key-clause-refused : goal.returns-in_err-key-clause-refused
unfolding blank
returns-in_err-key-clause-refused g t c =
    let p = err_from_is_err_and c.from_residual.result c.from_residual.ensures.1 in
    rw (p.1, p.2) (
      c.in_err-key.field-0.0,
      create_lacks c.args.editor.now c.create.new.self c.args.dir (get_or c.args.attributes.now 0 blank).name.now c.file_of-node.result c.in_err-key.field-0.0
          (first_free c.args.editor.now c.create.new.self c.args.dir c.args.attributes.now blank c.in-len1-up.len_at_least c.if-first-eq0.false
          c.file_of-node.result c.file_of-node.ensures.known c.requires.free)
          c.in_err-key.ensures.refused c.in_err-key.ensures.same,
      not_made c.args.dir c.args.attributes.now blank c.in-len1-up.len_at_least c.if-first-eq0.false
          c.args.editor.now c.create.new.self c.file_of-node.result c.in_err-key.field-0.0 c.file_of-node.ensures.known c.in_err-key.ensures.refused,
    )

pub returns-in-Err-clause-refused : goal.returns-in-Err-clause-refused
unfolding blank
returns-in-Err-clause-refused g t c =
    let rest = c.in-Err.ensures.refused in (
      rest.0,
      gave_up c.args.editor.now.state.tree c.create.new.self.state.tree c.fill-2.new.editor.state.tree c.give_up.new.editor.state.tree
          rest.0 c.in-Err.refusal c.give_up.result 1 (made_more g.N.Naming.table c.args.editor.now c.create.new.self c.args.dir c.in_ok-key.key _ _
          c.state.ensures.whole c.in_ok-key.ensures.next c.in_ok-key.ensures.accepted)
          rest.1 c.give_up.ensures.counted,
      stopped c.args.dir c.args.attributes.now blank c.in-len1-up.len_at_least c.if-first-eq0.false
          c.args.editor.now c.create.new.self c.fill-2.new.editor c.give_up.new.editor c.in_ok-key.key rest.0
          (file_made c.args.editor.now c.create.new.self c.args.dir c.in_ok-key.key (get_or c.args.attributes.now 0 blank) _ c.file_of-node.ensures.known c.in_ok-key.ensures.accepted)
          (inl rest.2) c.give_up.ensures.took,
    )

pub returns-in-Err-clause-others : goal.returns-in-Err-clause-others
returns-in-Err-clause-others g t c =
    stays g.N.Naming.table c.args.editor.now c.create.new.self c.args.dir c.in_ok-key.key _ _
    c.state.ensures.whole c.in_ok-key.ensures.next c.in_ok-key.ensures.accepted
    c.fill-2.new.editor.state.tree c.give_up.new.editor.state.tree c.fill-2.ensures.others c.give_up.ensures.older

pub returns-clause-made : goal.returns-clause-made
unfolding blank
returns-clause-made g t c =
    filled c.args.editor.now.state c.create.new.self.state c.fill-2.new.editor.state c.args.dir c.in_ok-key.key
    c.args.attributes.now blank c.in-len1-up.len_at_least c.if-first-eq0.false
    (created c.args.editor.now c.create.new.self c.args.dir c.in_ok-key.key _ _ _ c.file_of-node.ensures.known c.in_ok-key.ensures.accepted) c.in_default-fill.ensures.made

pub returns-clause-others : goal.returns-clause-others
returns-clause-others g t c =
    keeps_on c.args.editor.now.state.tree c.create.new.self.state.tree c.fill-2.new.editor.state.tree
    (made_keeps g.N.Naming.table c.args.editor.now c.create.new.self c.args.dir c.in_ok-key.key _ _
    c.state.ensures.whole c.in_ok-key.ensures.next c.in_ok-key.ensures.accepted)
    c.fill-2.ensures.others

pub returns-clause-counted : goal.returns-clause-counted
unfolding blank
returns-clause-counted g t c =
    one_more c.args.editor.now.state.tree c.create.new.self.state.tree c.fill-2.new.editor.state.tree
    c.args.attributes.now blank c.in-len1-up.len_at_least c.if-first-eq0.false
    (made_more g.N.Naming.table c.args.editor.now c.create.new.self c.args.dir c.in_ok-key.key _ _
    c.state.ensures.whole c.in_ok-key.ensures.next c.in_ok-key.ensures.accepted)
    c.in_default-fill.ensures.counted
