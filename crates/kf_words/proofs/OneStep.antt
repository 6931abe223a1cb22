-- One step of the table: what is to be shown of it, and that the rule holds after it if the table allows it
-- for the one view that changes.
use Rattle.std.proofs.Common.{◌≡◌, ℕ, zero, suc, ◌<◌, List, [], ◌∷◌, map, length, set, refl, sym, ap, ◌∙◌, subst}
use Rattle.std.specs.Prelude.{slice_get, slice_index, Some, None}
use Rattle.std.proofs.lemmas.Option.{same_Some}
use mathlib.Core.Option.{some, some-ne-none, some-injective}
use lib.ListN.{get_elem?}
use Rattle.atomic_table.specs.Table.{Allows, stepped, keeps, carried_after}
use Rattle.kf_core.specs.Bare.{BareWorld}
use Rattle.kf_words.specs.declared.view.CallerView.{CallerView}
use Rattle.kf_words.specs.declared.view.MasterView.{MasterView}
use Rattle.kf_words.specs.declared.view.View.{View}
use Rattle.kf_words.specs.declared.view.View.TheVariants as seat
use Rattle.kf_words.specs.Rule.{Shows, Shown, seats, bare_world, caller}
use Rattle.kf_words.specs.Steps.{Seated, caller_of}
use Rattle.kf_words.specs.TableSteps.{Table, StepKind, master_in, callers_in, world}
use Rattle.kf_words.proofs.Led.{Led}

-- the rule holds after the step, and the world after it follows from the world before it as `Led` says
abbrev pub Goes : StepKind → ℕ → ℕ → Table → Table → Type 0
Goes kind slots limit t t' = Shown slots limit t' × Led kind (world t) (world t')

pub at_seat : (cs : List CallerView) (j : ℕ) (c : CallerView) → get_elem? (map seat.Caller cs) j ≡ some (seat.Caller c) → slice_get cs j ≡ Some c
at_seat [] j c e = absurd (some-ne-none (seat.Caller c) (sym e))
at_seat (x ∷ xs) zero c e = let is : seat.Caller x ≡ seat.Caller c = some-injective _ _ e in let one : x ≡ c = cc in ap Some one
at_seat (x ∷ xs) (suc j) c e = at_seat xs j c e

pub in_world : (cs : List CallerView) (j : ℕ) (c : CallerView) → slice_get cs j ≡ Some c → slice_get (map caller cs) j ≡ Some (caller c)
in_world [] j c e = absurd (let x : None ≡ Some c = e in cc)
in_world (x ∷ xs) zero c e = ap (λ (y : CallerView). Some (caller y)) (same_Some x c e)
in_world (x ∷ xs) (suc j) c e = in_world xs j c e

pub callers_back : (cs : List CallerView) → map caller_of (map seat.Caller cs) ≡ cs
callers_back [] = refl
callers_back (c ∷ cs) = ap (λ (l : List CallerView). c ∷ l) (callers_back cs)

-- the world of a table is the one that the views named by the rule describe
pub world_is : (t : Table) (m : MasterView) (cs : List CallerView) → t.views ≡ seats m cs → world t ≡ bare_world m cs
world_is t m cs views = ap (λ (l : List View). bare_world (master_in l) (callers_in l)) views ∙ ap (bare_world m) (callers_back cs)

pub led : (kind : StepKind) (t t' : Table) (w w' : BareWorld) → world t ≡ w → world t' ≡ w' → Led kind w w' → Led kind (world t) (world t')
led kind t t' w w' is is' l = subst (λ (x : BareWorld). Led kind x (world t')) (sym is) (subst (λ (x : BareWorld). Led kind w x) (sym is') l)

pub same_shown : (slots limit : ℕ) (s t : Table) → t.words ≡ s.words → t.views ≡ s.views → Shown slots limit s → Shown slots limit t
same_shown slots limit s t words views h = record {
  master = h.master;
  callers = h.callers;
  views = views ∙ h.views;
  all_slots = h.all_slots;
  most_holds = h.most_holds;
  shows = subst (λ (l : List ℕ). Shows l h.master h.callers) (sym words) h.shows;
}

-- a step keeps the rule if the table allows it for the view of the seat that makes it
pub by_play : (slots limit place word : ℕ) (f : ℕ → ℕ) (t t' : Table) (before after : View) (told : ℕ → Seated → Type 0)
    → Allows (Shown slots limit) (length t.homes) place (before, []) word f told
    → Shown slots limit t → get_elem? t.views place ≡ some before → slice_index t.words word < 18446744073709551616
    → t' ≡ stepped t word (f (slice_index t.words word)) place [] after keeps
    → ((me' : Seated) → told (slice_index t.words word) me' → me'.0 ≡ after) → Shown slots limit t'
by_play slots limit place word f t t' before after told allowed h there fits becomes one =
    let r = allowed t h refl there fits in
    same_shown slots limit (stepped t word (f (slice_index t.words word)) place [] r.0 r.1) t'
    (ap (λ (x : Table). x.words) becomes)
    (ap (λ (x : Table). x.views) becomes ∙ ap (λ (v : View). set t.views place v) (sym (one (r.0, carried_after [] r.1) r.4)))
    r.3
