-- The keys of live records, slot by slot, after the record of one slot has changed.
use Rattle.std.proofs.Common.{◌≡◌, ℕ, zero, suc, ◌<◌, refl, ap, sym, ◌∙◌, arith, List, [], ◌∷◌, length, map, replicate, slice_set}
use Rattle.std.specs.Prelude.{Option, None, Some, slice_get}
use Rattle.std.specs.Option.{option_and_then}
use Rattle.std.proofs.lemmas.List.{length-map}
use Rattle.kf_core.specs.declared.key.Key.{Key}
use Rattle.kf_core.specs.declared.records.Record.{Record}
use Rattle.kf_core.specs.Tree.{Tree}
use Rattle.kf_table.specs.Live.{live_key}
use Rattle.kf_core.proofs.Lists.{slice_get-set_same}

pub none_live : (n : ℕ) → replicate n None ≡ map live_key (replicate n None)
none_live zero = refl
none_live (suc n) = ap (λ (r : List (Option Key)). None ∷ r) (none_live n)

keys_set : (t : Tree) (slot : ℕ) (entry : Option Record) → slice_set (map live_key t) slot (live_key entry) ≡ map live_key (slice_set t slot entry)
keys_set [] slot entry = refl
keys_set (r ∷ rs) zero entry = refl
keys_set (r ∷ rs) (suc n) entry = ap (λ (keys : List (Option Key)). live_key r ∷ keys) (keys_set rs n entry)

-- once the key that is read after the change is noted for the slot, the keys are those of the live records
pub noted : (live : List (Option Key)) (before t : Tree) (slot : ℕ) (entry : Option Record) (key : Option Key) → slot < length live
    → live ≡ map live_key before → t ≡ slice_set before slot entry → key ≡ live_key (option_and_then (λ item. item) (slice_get t slot)) → slice_set live slot key ≡ map live_key t
noted live before t slot entry key within kept is read =
    let low : slot < length before = (let e = ap length kept ∙ length-map before live_key in omega (arith, within, e)) in
    let here : slice_get t slot ≡ Some entry = ap (λ (u : Tree). slice_get u slot) is ∙ slice_get-set_same before slot entry low in
    let key_is : key ≡ live_key entry = read ∙ ap (λ o. live_key (option_and_then (λ item. item) o)) here in
    ap (λ (k : Option Key). slice_set live slot k) key_is ∙ ap (λ (l : List (Option Key)). slice_set l slot (live_key entry)) kept
    ∙ keys_set before slot entry ∙ ap (map live_key) (sym is)
