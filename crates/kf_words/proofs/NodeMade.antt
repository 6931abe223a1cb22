-- When the Master stores a word of a node, this is the next step of the one run, which says which word was
-- stored and which number.
use Rattle.std.proofs.Common.{◌≡◌, ℕ, ◌<◌, [], length, refl, sym, subst, arith}
use Rattle.std.specs.Prelude.{Some}
use mathlib.Core.Option.{none}
use Rattle.atomic_table.specs.Table.{Allows, step, carried_after}
use Rattle.kf_words.specs.declared.sight.Opening.{Opening}
use Rattle.kf_words.specs.declared.view.View.TheVariants as seat
use Rattle.kf_words.specs.Layout.{node_index, place_of, slot_of}
use Rattle.kf_words.specs.Steps.{Sighted, plain, master_of, kept, MasterBecomes}
use Rattle.kf_words.specs.Nodes.{master_sight}
use Rattle.kf_words.specs.TableSteps.{stores_node}
use Rattle.kf_words.specs.History.{Kept}
use Rattle.kf_words.specs.Made.{WasMadeByMaster}
use Rattle.kf_words.specs.MadeByMaster.{PutsNodeWord}
use Rattle.kf_words.proofs.MasterMade.{master_made}

pub node_slot : (place slot i : ℕ) → place < 5 → node_index place slot ≡ i → slot_of i ≡ slot
node_slot place slot i few its = omega (arith, few, its)

pub node_place : (place slot i : ℕ) → place < 5 → node_index place slot ≡ i → place_of i ≡ place
node_place place slot i few its = omega (arith, few, its)

pub note_made : (o : Opening) (homes id : ℕ) (me : Sighted) (slot place i n : ℕ) → plain me ≡ (seat.Master (master_of me.0.view), []) → place < 5 → node_index place slot ≡ i
    → slot < length (master_of me.0.view).slots → (master_of me.0.view).fresh ≡ Some slot
    → Allows (Kept o) homes id me i (λ _. n) (λ _ me'. PutsNodeWord (step 0 i n 0 none) me n me')
note_made o homes id me slot place i n is few its near fresh t h far at small =
    let r = master_made o homes id me slot is i (node_index place) its (node_slot place slot (node_index place slot) few refl) (λ s. stores_node s place n) (λ j. refl) (λ _. n) kept
    (λ x x' p. (master_of me.0.view, ((near, fresh), few), p)) t h far at small in (
      r.0,
      r.1,
      r.2,
      r.3,
      subst (λ (p : ℕ). (i ≡ node_index p (slot_of i)) × (MasterBecomes kept (step 0 i n 0 none) (plain me) n (plain (r.0, carried_after me.1 r.1)) × WasMadeByMaster (stores_node (slot_of i) p n) (master_sight me.0) (master_sight r.0)))
          (sym (node_place place slot i few its)) r.4,
    )
