-- When two keys are the same.
use Rattle.std.specs.Prelude.{Bool, ◌&&◌, ◌==◌}
use Rattle.kf_core.specs.declared.key.Key.{Key}

-- whether two keys have the same slot and the same generation
abbrev pub same_key : Key → Key → Bool
same_key a b = (a.slot == b.slot) && (a.generation == b.generation)
