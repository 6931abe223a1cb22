use Rattle.std.proofs.Common.{[], subst}
use Rattle.kf_groups.specs.declared.attribute.Attribute.{Attribute}
use Rattle.kf_groups.specs.Attributes.{HasNone}
use Rattle.kf_groups.proofs.Makings.{each_more, first_shown, one_fewer}
use Rattle.kf_groups.proofs.taking_back.+take_back_files.Goals as goal

-- the default for a place past the end of a list
blank : Attribute
blank = record { name = record { ref_ptr = (0, 0); now = [] }; mode = 0; tag = 0 }

pub returns-clause-took : goal.returns-clause-took
unfolding blank
returns-clause-took g t c =
    each_more c.args.dir c.args.attributes.now blank c.in-len1-up.len_at_least c.if-first-eq0.false
    c.args.editor.now c.take_back_files-later.new.editor c.take_back_name-one.new.editor
    c.take_back_files-later.ensures.took c.take_back_name-one.ensures.took

pub returns-clause-older : goal.returns-clause-older
unfolding blank
returns-clause-older g t c base root lawful none keeps =
    let each = subst (HasNone base c.args.dir) (first_shown c.args.attributes.now blank c.in-len1-up.len_at_least c.if-first-eq0.false) none in
    c.take_back_name-one.ensures.older base root lawful each.0 (c.take_back_files-later.ensures.older base root lawful each.1 keeps)

pub returns-clause-counted : goal.returns-clause-counted
unfolding blank
returns-clause-counted g t c =
    one_fewer c.args.editor.now.state.tree c.take_back_files-later.new.editor.state.tree c.take_back_name-one.new.editor.state.tree
    c.args.attributes.now blank c.take_back_files-later.result c.take_back_name-one.result
    c.in-len1-up.len_at_least c.if-first-eq0.false c.take_back_files-later.ensures.counted c.take_back_name-one.ensures.counted
