-- A doomed node is not live, and stays doomed while other nodes change.
use Rattle.std.proofs.Common.{◌≡◌, ◌≢◌, inl, inr, refl, ap, sym, ◌∙◌, subst, Bool, true, false, ℕ, zero, suc}
use Rattle.std.specs.Prelude.{Option, None, Some, not, ◌&&◌}
use Rattle.std.specs.Option.{option_map}
use Rattle.std.proofs.lemmas.Option.{same_Some}
use Rattle.kf_core.specs.declared.key.Key.{Key}
use Rattle.kf_core.specs.declared.records.Record.{Record}
use Rattle.kf_core.specs.Lawful.{Lawful}
use Rattle.kf_core.specs.Marks.{are_doomed}
use Rattle.kf_core.specs.Tree.{Tree, record_at, parent_of, ancestor, IsIn, in_subtree}
use Rattle.kf_core.proofs.Climbs.{keys_tell, first_step}
use Rattle.kf_core.proofs.FoundRecords.{found_in, parent_known, subtree_to, subtree_from}
use Rattle.kf_table.specs.Live.{lives, lives_in}
use Rattle.kf_tree.specs.Causes.{doomed_in}
use Rattle.kf_live.specs.Live.{SameBut, StaysDoomed}

-- whether a slot has a doomed record; an empty slot counts as doomed
abbrev pub is_doomed : Option Record → Bool
is_doomed o = are_doomed (option_map (λ (r : Record). r.marks) o)

pub doomed_not_live : (o : Option Record) → is_doomed o ≡ true → lives_in o ≡ false
doomed_not_live None h = refl
doomed_not_live (Some r) h = ap (λ d. (r.marks.activated && not d) && not r.hidden) h ∙ none r.marks.activated
  where
    none : (b : Bool) → ((b && false) && not r.hidden) ≡ false
    none true = refl
    none false = refl

-- a live node is not doomed
pub live_active : (t : Tree) (key : Key) (r : Record) → record_at t key ≡ Some r → lives r ≡ true → doomed_in t key ≡ false
live_active t key r known live = elim (doomed_in t key) as (λ b. doomed_in t key ≡ b → b ≡ false) [
  | true ↦ λ e. absurd (let never : false ≡ true = sym (doomed_not_live (record_at t key) e) ∙ ap lives_in known ∙ live in cc (never))
  | false ↦ λ e. refl
] refl

-- if trees differ only at one key, and that key stays doomed if it was, all that was doomed is still doomed
pub was_active : (t t' : Tree) (key : Key) → SameBut key t t' → StaysDoomed key t t' → (dir : Key) → doomed_in t' dir ≡ false → doomed_in t dir ≡ false
was_active t t' key same stays dir active = elim (keys_tell dir key) [
  | inl e ↦ subst (λ k. doomed_in t k ≡ false) (sym e.1) (stays (subst (λ k. doomed_in t' k ≡ false) e.1 active))
  | inr n ↦ ap is_doomed (sym (same dir n.1)) ∙ active
]

-- the directory of each record below the top is in the subtree of the top, too
pub subtree_dir : (t : Tree) (root top dir : Key) (r : Record) → Lawful t root → record_at t r.key ≡ Some r → r.parent ≡ Some dir → r.key ≢ top
    → in_subtree t top r.key ≡ true → (d : Record) × (record_at t dir ≡ Some d) × (in_subtree t top d.key ≡ true)
subtree_dir t root top dir r lawful known parent other inside = (let up = subtree_to t root lawful top r.key inside in go up.0 up.1)
  where
    is_in : IsIn t r
    is_in = (found_in t r.key r known).0

    go : (n : ℕ) → ancestor t n r.key ≡ Some top → (d : Record) × (record_at t dir ≡ Some d) × (in_subtree t top d.key ≡ true)
    go zero e = absurd (other (same_Some r.key top e))
    go (suc n) e =
        let step = first_step (parent_of t) n r.key top e in
        let above : step.0 ≡ dir = same_Some step.0 dir (sym step.1 ∙ parent_known t r is_in ∙ parent) in
        let d = lawful.in_directory r dir is_in parent in
        let there = found_in t dir d.dir d.known in
        (d.dir, d.known, subtree_from t root lawful d.dir n top there.0 (ap (ancestor t n) (there.1 ∙ sym above) ∙ step.2))
