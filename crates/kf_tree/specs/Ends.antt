-- The end of a list of keys.
use Rattle.std.specs.Prelude.{◌≡◌, List, [], ◌∷◌, ◌++◌}
use Rattle.kf_core.specs.declared.key.Key.{Key}

-- this key is the last of the list
abbrev pub EndsWith : List Key → Key → Type 0
EndsWith keys last = (front : List Key) × (keys ≡ front ++ last ∷ [])
