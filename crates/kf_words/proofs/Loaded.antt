-- A load of the Master leaves the word that it found in the Master's view.
use Rattle.std.proofs.Common.{◌≡◌, ℕ, ◌<◌, List, [], ◌∷◌, length, sym, ap, ◌∙◌}
use Rattle.std.specs.Prelude.{slice_index, Option, Some, None}
use Rattle.std.proofs.lemmas.List.{append_cancel_left}
use mathlib.Core.Option.{some-injective}
use lib.ListN.{get_elem?}
use Rattle.kf_words.specs.declared.view.Load.{Load}
use Rattle.kf_words.specs.declared.view.MasterView.{MasterView}
use Rattle.kf_words.specs.declared.view.View.TheVariants as seat
use Rattle.kf_words.specs.Layout.{active_index, hold_index}
use Rattle.kf_words.specs.Steps.{master_of, with_load, with_look}
use Rattle.kf_words.specs.Nodes.{MasterSight}
use Rattle.kf_words.specs.TableSteps.{Table, StepKind, loads_hold, looks_over, same, MasterPlays}
use Rattle.kf_words.specs.Made.{WasMadeByMaster}
use Rattle.kf_words.proofs.Noted.{put}

-- the view after a load is the one before, changed by the word that was found
loaded_view : (kind : StepKind) (before after : MasterSight) (x : WasMadeByMaster kind before after) (change : ℕ → ℕ → MasterView → MasterView) (May : MasterView → Type 0) (index : ℕ → ℕ) (slot : ℕ)
    → MasterPlays change May index same x.found slot x.left → after.view ≡ change slot (slice_index x.found.words (index slot)) before.view
loaded_view kind before after x change May index slot s =
    let m : MasterView = s.0 in
    let n : ℕ = slice_index x.found.words (index slot) in
    let same_seat : seat.Master m ≡ seat.Master before.view = some-injective _ _ (sym s.2.there ∙ x.was) in
    let same_view : m ≡ before.view = ap master_of same_seat in
    let new : get_elem? x.left.views 0 ≡ _ = ap (λ (y : Table). get_elem? y.views 0) s.2.becomes ∙ put x.found.views 0 (seat.Master m) (seat.Master (change slot n m)) s.2.there in
    let same_new : seat.Master (change slot n m) ≡ seat.Master after.view = some-injective _ _ (sym new ∙ x.is) in
    sym (ap master_of same_new) ∙ ap (λ (y : MasterView). change slot n y) same_view

abbrev first_word : List Load → ℕ
first_word [] = 0
first_word (load ∷ loads) = load.word

abbrev looked_word : Option Load → ℕ
looked_word None = 0
looked_word (Some load) = load.word

pub load_is : (slot n : ℕ) (before after : MasterSight) (x : WasMadeByMaster (loads_hold slot) before after) → after.view ≡ with_load slot n before.view → n ≡ slice_index x.found.words (hold_index slot)
load_is slot n before after x view =
    let is : after.view ≡ with_load slot (slice_index x.found.words (hold_index slot)) before.view = loaded_view (loads_hold slot) before after x with_load (λ m. slot < length m.slots) hold_index slot x.step in
    ap first_word (append_cancel_left before.view.loads _ _ (ap (λ (y : MasterView). y.loads) (sym view ∙ is)))

pub look_is : (slot n : ℕ) (before after : MasterSight) (x : WasMadeByMaster (looks_over slot) before after) → after.view ≡ with_look slot n before.view → n ≡ slice_index x.found.words (active_index slot)
look_is slot n before after x view =
    let is : after.view ≡ with_look slot (slice_index x.found.words (active_index slot)) before.view = loaded_view (looks_over slot) before after x with_look (λ m. slot < length m.slots) active_index slot x.step in
    ap (λ (y : MasterView). looked_word y.looked) (sym view ∙ is)
