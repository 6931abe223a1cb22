-- One more hold, while several nodes are pinned.
use Rattle.std.proofs.Common.{◌≡◌, ℕ, ◌+◌, ◌<◌, refl, ap, sym, ◌∙◌, subst, List, [], ◌∷◌, ◌++◌, length, take, get_or, All}
use Rattle.std.specs.Prelude.{slice_get}
use Rattle.std.proofs.lemmas.List.{take_more}
use Rattle.std.proofs.lemmas.List.Elements.{All-push}
use Rattle.kf_core.specs.declared.key.Key.{Key}
use Rattle.kf_core.specs.declared.key.Node.{Node}
use Rattle.kf_words.specs.Callers.{Handle}
use Rattle.kf_words.specs.Nodes.{MasterState, KeepsNodes, IsNewHold}
use Rattle.kf_shared.specs.Removal.{keys_of, IsNew}
use Rattle.kf_shared.proofs.Pins.{keys_more}

pub kept_after : (a b c : MasterState) → KeepsNodes a b → KeepsNodes b c → KeepsNodes a c
kept_after a b c x y = record { table = y.table ∙ x.table; limit = y.limit ∙ x.limit; nodes = y.nodes ∙ x.nodes; slots = y.slots ∙ x.slots; history = y.history ∙ x.history }

-- the keys of the holds are those of the first nodes
pub keys_pinned : (keys : List Key) (i : ℕ) (d : Key) (old new : List Handle) (hold : Handle) → new ≡ old ++ hold ∷ [] → keys_of old ≡ take i keys → hold.key ≡ get_or keys i d → i < length keys → keys_of new ≡ take (i + 1) keys
keys_pinned keys i d old new hold is before key near =
    ap keys_of is ∙ keys_more old (hold ∷ []) ∙ ap (λ ks. ks ++ hold.key ∷ []) before ∙ ap (λ k. take i keys ++ k ∷ []) key ∙ sym (take_more keys i d near)

-- each of the holds is a new one
pub new_pinned : (a b : MasterState) (old new : List Handle) (hold : Handle) (key : Key) → new ≡ old ++ hold ∷ [] → KeepsNodes a b → All (IsNew a) old → IsNewHold b key hold → All (IsNew a) new
new_pinned a b old new hold key is kept before h = subst (All (IsNew a)) (sym is) (All-push (IsNew a) old hold before (record {
  table = h.table ∙ kept.table;
  key_is = refl;
  node = ap (λ (ns : List Node). slice_get ns hold.key.slot) (sym kept.nodes) ∙ ap (λ (k : Key). slice_get b.nodes k.slot) h.key_is ∙ h.node;
  still = h.still;
  steps = h.steps;
}))
