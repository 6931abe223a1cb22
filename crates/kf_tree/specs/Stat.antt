-- What is reported of a node.
use Rattle.std.specs.Prelude.{◌+◌, if◌then◌else◌}
use Rattle.kf_core.specs.declared.records.Record.{Record}
use Rattle.kf_core.specs.Tree.{Tree, is_dir}
use Rattle.kf_table.specs.Children.{subdirs}
use Rattle.kf_tree.specs.declared.stat.Stat.{Stat}

-- what is reported of a record: a file or link has no child directories, and one link
abbrev pub stat_of : Tree → Record → Stat
stat_of t r = record {
  node = r.node;
  subdirs = if is_dir r.node then subdirs t r.key else 0;
  links = if is_dir r.node then subdirs t r.key + 2 else 1;
  activated = r.marks.activated;
  doomed = r.marks.doomed;
  hidden = r.hidden;
}
