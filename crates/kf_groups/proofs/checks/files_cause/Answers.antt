use Rattle.std.proofs.Common.{[], sym, ◌∙◌}
use Rattle.kf_groups.specs.declared.attribute.Attribute.{Attribute}
use Rattle.kf_groups.specs.Attributes.{file_fault}
use Rattle.kf_groups.proofs.Names.{one_at, stops_at}
use Rattle.kf_groups.proofs.checks.files_cause.Goals as goal

-- the default for a place past the end of a list
blank : Attribute
blank = record { name = record { ref_ptr = (0, 0); now = [] }; mode = 0; tag = 0 }

pub returns-in-Some : goal.returns-in-Some
unfolding blank
returns-in-Some c = record {
  first = sym (c.loop-place.invariant
      ∙ stops_at (file_fault c.args.state.now.tree c.args.state.now.root c.args.dir) c.args.attributes.now c.loop-place.place blank
      c.in-Some.refusal c.loop-place-test.true c.in-Some.ensures.first);
}

pub loop-place-preserved : goal.loop-place-preserved
unfolding blank
loop-place-preserved c = c.loop-place.invariant
    ∙ one_at (file_fault c.args.state.now.tree c.args.state.now.root c.args.dir) c.args.attributes.now c.loop-place.place blank
    c.loop-place-test.true c.in_default.ensures.first
