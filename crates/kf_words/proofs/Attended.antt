-- What attended steps do to the world: taking out a node on which a caller is drained is an Unlink, and
-- giving a seat to a hold of a linked or held node is a Pin.
use Rattle.std.proofs.Common.{◌≡◌, ◌≢◌, ◌⊎◌, inl, inr, ℕ, true, List, [], ◌∷◌, ◌++◌, length, set, sym, ap, ◌∙◌, subst, ⊎_elim}
use Rattle.std.proofs.lemmas.Option.{get_or_from_slice_get}
use Rattle.std.specs.Prelude.{is_some}
use Rattle.kf_core.specs.declared.key.Key.{Key}
use Rattle.kf_core.specs.declared.event.Event.{Event}
use Rattle.kf_core.specs.declared.event.Event.TheVariants.{Pin, Unlink}
use Rattle.kf_core.specs.Bare.{BareWorld}
use Rattle.kf_core.specs.Steps.{BareStep, MayPin}
use Rattle.kf_words.specs.declared.view.CallerView.{CallerView}
use Rattle.kf_words.specs.declared.view.MasterView.{MasterView}
use Rattle.kf_words.specs.declared.view.View.{View}
use Rattle.kf_words.specs.declared.view.View.TheVariants as seat
use Rattle.kf_words.specs.Rule.{Shown, seats, bare_world, last_key}
use Rattle.kf_words.specs.Steps.{no_state, state_at, spent_hold, without_node}
use Rattle.kf_words.proofs.Seating.{seats-push}
use Rattle.kf_core.specs.declared.slot.SlotState.{SlotState}
use Rattle.kf_words.specs.Nodes.{marks_of}
use Rattle.kf_words.specs.TableSteps.{Table, StepKind, splits, unlinks, master_in, world, HoldsSlot, IsDrainedOn, IsPinnable, IsAttended, answers, WordStep, hands_on}
use Rattle.kf_words.proofs.MasterAllowed.{state_there}
use Rattle.kf_words.proofs.Coming.{spent_world}
use Rattle.kf_words.proofs.Events.{unlink_is_unlink}
use Rattle.kf_words.proofs.WordSteps.{IsEvent, Alone, TakenOut, Came, Passed, at, met, world_is, split_pins, linked_pins, held_pins, with_spent, word_step}

-- a step that takes out a node while a caller is drained on it is an Unlink by that caller
pub unlink_event : (slots limit : ℕ) (t : Table) (slot : ℕ) (t' : Table) → Shown slots limit t → WordStep t (unlinks slot) t' → (j : ℕ) → IsDrainedOn t slot j → BareStep (world t) (Unlink j) (world t')
unlink_event slots limit t slot t' g s j lent =
    let m : MasterView = s.0 in
    let c : CallerView = lent.0 in
    let k = met slots limit t t' g m s.2.there in
    let its = at slots limit t t' g j c lent.1 in
    let there : is_some (marks_of m c.key) ≡ true = ap (λ (l : List View). is_some (marks_of (master_in l) c.key)) (sym k.views) ∙ lent.4 in
    let m' : MasterView = without_node slot m in
    let views : t'.views ≡ seats m' g.callers = ap (λ (x : Table). x.views) s.2.becomes ∙ ap (λ (l : List View). set l 0 (seat.Master m')) k.views in
    let is = world_is t m g.callers k.views in
    let is' = world_is t' m' g.callers views in
    subst (λ (w : BareWorld). BareStep w (Unlink j) (world t')) (sym is)
    (subst (λ (w : BareWorld). BareStep (bare_world m g.callers) (Unlink j) w) (sym is')
    (subst (λ (i : ℕ). BareStep (bare_world m g.callers) (Unlink j) (bare_world (without_node i m) g.callers)) lent.2
    (unlink_is_unlink slots limit t k j c its lent.3 there)))

-- the step that gives a hold its seat is a Pin if a node is linked in the slot or a caller holds the slot
pub pin_event : (slots limit : ℕ) (t : Table) (slot : ℕ) (t' : Table) → Shown slots limit t → WordStep t (splits slot) t' → IsPinnable t slot → (e : Event) × BareStep (world t) e (world t')
pin_event slots limit t slot t' g s may =
    let m : MasterView = s.0 in
    let p = state_there m.slots slot s.2 in
    let k = met slots limit t t' g m s.1 in (
      Pin (length g.callers) (last_key slot p.0),
      split_pins slots limit t t' g m s.1 slot p.0 p.1 s.3
          (⊎_elim
          (λ (node : is_some (state_at (master_in t.views) slot).marks ≡ true). linked_pins slots limit t t' g m s.1 slot p.0 p.1 (ap (λ (l : List View). is_some (state_at (master_in l) slot).marks) (sym k.views) ∙ node))
          (λ (held : (j : ℕ) × HoldsSlot t slot j). held_pins slots limit t t' g m s.1 slot p.0 p.1 held.0 held.1)
          may) s.4,
    )

-- if the Master adds a seat that holds nothing, the world gets a spent caller; the key of this caller may be
-- pinned if the root's slot has a linked node or a holder
root_pins : (slots limit : ℕ) (t t' : Table) → Shown slots limit t → WordStep t answers t' → IsPinnable t 0 → (key : Key) × MayPin (world t) key × (world t' ≡ with_spent (world t) key)
root_pins slots limit t t' g s may =
    let m : MasterView = s.0 in
    let p = state_there m.slots 0 s.2 in
    let k = met slots limit t t' g m s.1 in
    let key : Key = last_key 0 (state_at m 0) in
    let state : state_at m 0 ≡ p.0 = get_or_from_slice_get m.slots 0 p.0 no_state p.1 in
    let pins : MayPin (bare_world m g.callers) (last_key 0 p.0) = ⊎_elim
    (λ (node : is_some (state_at (master_in t.views) 0).marks ≡ true). linked_pins slots limit t t' g m s.1 0 p.0 p.1 (ap (λ (l : List View). is_some (state_at (master_in l) 0).marks) (sym k.views) ∙ node))
    (λ (held : (j : ℕ) × HoldsSlot t 0 j). held_pins slots limit t t' g m s.1 0 p.0 p.1 held.0 held.1)
    may in
    let cs : List CallerView = g.callers ++ spent_hold key ∷ [] in
    let views : t'.views ≡ seats m cs = ap (λ (x : Table). x.views) s.3 ∙ ap (λ (l : List View). l ++ seat.Caller (spent_hold key) ∷ []) k.views ∙ seats-push m g.callers (spent_hold key) in
    let is = world_is t m g.callers k.views in
    let is' = world_is t' m cs views in
    let w : BareWorld = bare_world m g.callers in (
      key,
      subst (λ (x : BareWorld). MayPin x key) (sym is) (subst (λ (y : SlotState). MayPin w (last_key 0 y)) (sym state) pins),
      is' ∙ spent_world m g.callers key ∙ ap (λ (x : BareWorld). with_spent x key) (sym is),
    )

-- the world stays, or an event leads to the next one, or a caller pins a key that may be pinned and releases
-- its hold at once
abbrev pub Attends : BareWorld → BareWorld → Type 0
Attends w w' = (w' ≡ w) ⊎ (((e : Event) × BareStep w e w') ⊎ ((key : Key) × MayPin w key × (w' ≡ with_spent w key)))

-- an attended step does one of these three things, unless a caller hands on a hold that it counted
pub attended_event : (slots limit : ℕ) (t : Table) (kind : StepKind) (t' : Table) → Shown slots limit t → WordStep t kind t' → IsAttended t kind → ((j : ℕ) → kind ≢ hands_on j) → Attends (world t) (world t')
attended_event slots limit t kind t' h s may other = ⊎_elim
    (λ (same : world t' ≡ world t). inl same)
    (λ (more : IsEvent kind (world t) (world t') ⊎ Alone kind (world t) (world t')). ⊎_elim
    (λ (e : IsEvent kind (world t) (world t')). inr (inl (e.event, e.step)))
    (λ (alone : Alone kind (world t) (world t')). ⊎_elim
    (λ (o : TakenOut kind (world t) (world t')).
    let drained : (j : ℕ) × IsDrainedOn t o.slot j = subst (λ (k : StepKind). IsAttended t k) o.kind_is may in
    inr (inl (Unlink drained.0, unlink_event slots limit t o.slot t' h (subst (λ (k : StepKind). WordStep t k t') o.kind_is s) drained.0 drained.1)))
    (λ (m : Came kind (world t) (world t') ⊎ Passed kind (world t) (world t')). ⊎_elim
    (λ (c : Came kind (world t) (world t')). ⊎_elim
    (λ (x : (slot : ℕ) × (kind ≡ splits slot)).
    inr (inl (pin_event slots limit t x.0 t' h (subst (λ (k : StepKind). WordStep t k t') x.1 s) (subst (λ (k : StepKind). IsAttended t k) x.1 may))))
    (λ (x : (j : ℕ) × (kind ≡ hands_on j)). absurd (other x.0 x.1))
    c.kind_is)
    (λ (p : Passed kind (world t) (world t')). inr (inr (⊎_elim
    (λ (pinned : MayPin (world t) p.key). (p.key, pinned, p.is))
    (λ (its : kind ≡ answers). root_pins slots limit t t' h (subst (λ (k : StepKind). WordStep t k t') its s) (subst (λ (k : StepKind). IsAttended t k) its may))
    p.may)))
    m)
    alone)
    more)
    (word_step slots limit t kind t' h s).1
