use Rattle.std.proofs.Common.{[], rules}
use Rattle.kf_groups.specs.declared.attribute.Attribute.{Attribute}
use Rattle.kf_groups.proofs.Leavings.{one_more, refused_first}
use Rattle.kf_groups.proofs.leaving.+begin_files.Goals as goal

-- the default for a place past the end of a list
blank : Attribute
blank = record { name = record { ref_ptr = (0, 0); now = [] }; mode = 0; tag = 0 }

pub returns-in-Ok-clause-begun : goal.returns-in-Ok-clause-begun
unfolding blank
returns-in-Ok-clause-begun g t c =
    one_more c.args.editor.now c.begin_name.new.editor c.args.dir c.args.attributes.now blank c.in-len1-up.len_at_least
    c.begin_files.new.editor c.args.files.now.items c.push_reserved.new.self.items c.begin_files.new.files.items c.in-Ok.removing _
    c.push_reserved.ensures.items c.in-Ok.ensures.begun c.begin_files.ensures.begun

pub returns-in-Err : goal.returns-in-Err
unfolding blank
returns-in-Err g t c = record {
  begun = refused_first c.args.editor.now c.begin_name.new.editor c.args.dir c.args.attributes.now blank c.in-len1-up.len_at_least
      c.args.files.now.items c.in-Err.refusal (c.in-Err.ensures.refused, c.in-Err.ensures.same);
  why = search rules;
}
