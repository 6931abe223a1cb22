use Rattle.std.proofs.Common.{[], rules}
use Rattle.std.specs.Prelude.{None}
use Rattle.kf_groups.specs.declared.attribute.Group.{Group}
use Rattle.kf_groups.proofs.Counts.{gave_up}
use Rattle.kf_groups.proofs.Older.{keeps_on}
use Rattle.kf_groups.proofs.Several.{all_made, counted, first_refused, later_refused, others_free, without_before}
use Rattle.kf_groups.proofs.groups.+make_groups.Goals as goal

-- the default for a place past the end of a list
blank : Group
blank = record { name = None; attributes = record { ref_ptr = (0, 0); now = [] } }

pub returns-in-Err-clause-refused : goal.returns-in-Err-clause-refused
unfolding blank
returns-in-Err-clause-refused g t c =
    first_refused c.args.groups.now blank c.in-len1-up.len_at_least c.args.editor.now c.create_group.new.editor c.args.dir c.in-Err.refusal
    c.requires.free c.in-Err.ensures.refused

pub make_groups-requires : goal.make_groups-requires
unfolding blank
make_groups-requires g t c κs within = (
  search rules,
  (
    search rules,
    others_free c.args.groups.now blank c.in-len1-up.len_at_least c.args.editor.now.state c.create_group.new.editor.state c.args.dir c.in-Ok.key
        c.state.ensures.whole.kept.lawful c.create_group.ensures.others c.in-Ok.ensures.made c.requires.free,
  ),
)

pub returns-in-Err-make_groups-clause-refused : goal.returns-in-Err-make_groups-clause-refused
unfolding blank
returns-in-Err-make_groups-clause-refused g t c =
    let rest = c.in-Err-make_groups.ensures.refused in (
      rest.0,
      gave_up c.args.editor.now.state.tree c.create_group.new.editor.state.tree c.make_groups.new.editor.state.tree c.give_up_group.new.editor.state.tree
          rest.0 c.in-Err-make_groups.refusal c.give_up_group.result _ c.in-Ok.ensures.counted rest.1 c.give_up_group.ensures.counted,
      later_refused c.args.groups.now blank c.in-len1-up.len_at_least c.args.editor.now c.create_group.new.editor
          c.make_groups.new.editor c.give_up_group.new.editor c.args.dir c.in-Ok.key rest.0
          c.in-Ok.ensures.made rest.2 c.give_up_group.ensures.took,
    )

pub returns-in-Err-make_groups-clause-others : goal.returns-in-Err-make_groups-clause-others
unfolding blank
returns-in-Err-make_groups-clause-others g t c =
    let base = c.args.editor.now.state in
    c.give_up_group.ensures.older base.tree base.root c.state.ensures.whole.kept.lawful
    (without_before base c.create_group.new.editor.state c.args.dir c.in-Ok.key _ c.in-Ok.ensures.made)
    (keeps_on base.tree c.create_group.new.editor.state.tree c.make_groups.new.editor.state.tree
    c.create_group.ensures.others c.make_groups.ensures.others)

pub returns-clause-made : goal.returns-clause-made
unfolding blank
returns-clause-made g t c =
    all_made c.args.groups.now blank c.in-len1-up.len_at_least c.args.editor.now.state c.create_group.new.editor.state
    c.make_groups.new.editor.state c.args.dir c.in-Ok.key c.in-Ok.ensures.made c.in_default-make_groups.ensures.made

pub returns-clause-others : goal.returns-clause-others
returns-clause-others g t c =
    keeps_on c.args.editor.now.state.tree c.create_group.new.editor.state.tree c.make_groups.new.editor.state.tree
    c.create_group.ensures.others c.make_groups.ensures.others

pub returns-clause-counted : goal.returns-clause-counted
unfolding blank
returns-clause-counted g t c =
    counted c.args.groups.now blank c.in-len1-up.len_at_least c.args.editor.now.state.tree c.create_group.new.editor.state.tree
    c.make_groups.new.editor.state.tree c.in-Ok.ensures.counted c.in_default-make_groups.ensures.counted
