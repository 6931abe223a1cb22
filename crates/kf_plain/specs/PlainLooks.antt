-- The replies to commands that only look.
use Rattle.std.specs.Prelude.{ℕ, List, Result}
use Rattle.std.specs.Option.{option_map, ok_or}
use Rattle.kf_core.specs.Limits.{most_slots}
use Rattle.kf_core.specs.declared.key.Key.{Key}
use Rattle.kf_core.specs.declared.refusal.Refusal.{Refusal}
use Rattle.kf_core.specs.declared.refusal.Refusal.TheVariants.{NoEntry}
use Rattle.kf_core.specs.Tree.{record_at}
use Rattle.kf_tree.specs.declared.stat.Stat.{Stat}
use Rattle.kf_tree.specs.Paths.{and_then, walked, seen}
use Rattle.kf_tree.specs.Stat.{stat_of}
use Rattle.kf_tree.specs.Causes.{list_cause, text_cause}
use Rattle.kf_plain.specs.Plain.{Plain}
use Rattle.kf_plain.specs.Settled.{ok_unless}

-- what is reported of the node at a path
abbrev pub told_stat : Plain → List ℕ → Result Stat Refusal
told_stat b path = and_then (walked b.log.tree b.log.root path)
    (λ key. ok_or (option_map (stat_of b.log.tree) (record_at b.log.tree key)) NoEntry)

-- the directory whose names are listed
abbrev pub listed_dir : Plain → List ℕ → Result Key Refusal
listed_dir b path =
    and_then (seen b.log.tree b.log.root path) (λ dir. ok_unless (list_cause b.log.tree dir) dir)

-- the most names that are listed: more than any directory has children
abbrev pub name_limit : ℕ
name_limit = most_slots

-- the link whose text is read
abbrev pub read_link_key : Plain → List ℕ → Result Key Refusal
read_link_key b path =
    and_then (seen b.log.tree b.log.root path) (λ link. ok_unless (text_cause b.log.tree link) link)
