-- Nodes that are taken back are unlinked one after another.
use Rattle.std.proofs.Common.{◌≡◌, ◌<◌, zero, suc, List, [], ◌∷◌, ◌++◌, length, refl, sym, subst, arith}
use Rattle.std.specs.Prelude.{map, All, Contains, Option}
use Rattle.std.proofs.lemmas.List.{map-append}
use Rattle.std.proofs.lemmas.List.Elements.{All-append}
use Rattle.kf_core.specs.declared.command.Command.TheVariants.{Doom, Unlink}
use Rattle.kf_core.specs.declared.key.Key.{Key}
use Rattle.kf_core.specs.declared.refusal.Refusal.{Refusal}
use Rattle.kf_core.specs.PostOrder.{IsPostOrder}
use Rattle.kf_tree.specs.TreeLogs.{TreeLog, IsAccepted, Stores}
use Rattle.kf_tree.proofs.Storing.{one, join}
use Rattle.kf_words.specs.Callers.{Handle}
use Rattle.kf_shared.specs.Removal.{keys_of}
use Rattle.kf_shared.specs.Locked.{Locked}
use Rattle.kf_groups.specs.TakenBack.{DoomedAndUnlinked}

-- unlinks of some of these nodes were stored
abbrev pub Unlinks : List Key → TreeLog → TreeLog → Type 0
Unlinks among old new =
    (keys : List Key) × All (Contains among) keys × Stores old new (map Unlink keys)

pub all_among : (holds : List Handle) → All (λ h. Contains (keys_of holds) h.key) holds
all_among [] k d inside = absurd (omega (arith, inside))
all_among (h ∷ holds) zero d inside = (0, omega arith, refl)
all_among (h ∷ holds) (suc k) d inside =
    let below : k < length holds = omega (arith, inside) in
    let found = all_among holds k d below in (suc found.0, omega (arith, found.1), found.2)

pub rest_of : (P : Handle → Type 0) (all rest : List Handle) (hold : Handle) → all ≡ hold ∷ rest → All P all → All P rest
rest_of P all rest hold parts each = λ i d inside. subst (All P) parts each (suc i) d (omega (arith, inside))

pub first_of : (P : Handle → Type 0) (all rest : List Handle) (hold : Handle) → all ≡ hold ∷ rest → All P all → P hold
first_of P all rest hold parts each = subst (All P) parts each 0 hold (omega arith)

pub one_more : (among : List Key) (a b c : TreeLog) (key : Key) → Unlinks among a b → Contains among key
    → (keys : List Key) × All (λ k. k ≡ key) keys × Stores b c (map Unlink keys) → Unlinks among a c
one_more among a b c key before inside now = (
  before.0 ++ now.0,
  All-append (Contains among) before.0 now.0 before.1
      (λ i d l. subst (Contains among) (sym (now.1 i d l)) inside),
  subst (Stores a c) (sym (map-append Unlink before.0 now.0))
      (join a b c (map Unlink before.0) (map Unlink now.0) before.2 now.2),
)

pub took : (a b c : Locked) (key : Key) (cause : Option Refusal) (order : List Key) → IsPostOrder a.state.tree key order
    → IsAccepted a.state b.state cause (Doom key) → Unlinks order b.state c.state → DoomedAndUnlinked a c key
took a b c key cause order ordered doomed unlinked = (
  order,
  unlinked.0,
  ordered,
  unlinked.1,
  join a.state b.state c.state (Doom key ∷ []) (map Unlink unlinked.0) (one a.state b.state cause (Doom key) doomed) unlinked.2,
)
