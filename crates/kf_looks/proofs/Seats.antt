-- What one step after another does to a seat.
use Rattle.std.proofs.Common.{◌≡◌, ◌≢◌, ℕ, ◌+◌, ◌*◌, ◌%◌, ◌<◌, ◌≤◌, inl, inr, List, length, length-set, set, get_or, refl, sym, ap, ◌∙◌, subst, arith, get_or-set_same, get_or-set_other}
use mathlib.Core.Logic.{dite}
use native.Mathlib.Decide.{ℕ_discrete}
use Rattle.atomic_table.specs.declared.shared.Seat.{Seat}
use Rattle.kf_looks.specs.declared.view.Plan.{Plan}
use Rattle.kf_looks.specs.declared.view.Role.{Role}
use Rattle.kf_looks.specs.declared.view.Role.TheVariants.{Writing}
use Rattle.kf_looks.specs.declared.view.LookView.{LookView}
use Rattle.kf_looks.specs.Lines.{SaysTrue, IsPlaced, words_for}
use Rattle.kf_looks.specs.Reading.{IsSameSeat}
use Rattle.kf_looks.specs.Rule.{plan_of}
use Rattle.kf_looks.specs.Steps.{grown, put, moved}
use Rattle.kf_looks.specs.Writing.{plan, links_of, IsWriter, WritesTrue, Plans, Keeps, IsFilled, SameLines}

pub same_again : (a b c : Seat (Unit {0}) LookView) → IsSameSeat a b → IsSameSeat b c → IsSameSeat a c
same_again a b c ab bc = record { table = bc.table ∙ ab.table; slots = bc.slots ∙ ab.slots; seen = bc.seen ∙ ab.seen; carried = bc.carried ∙ ab.carried }

-- ---- the writer's loads

unread : (i x : ℕ) (p : Plan) (role : Role) → role ≡ Writing p → grown i x role ≡ role
unread i x p role is = subst (λ (r : Role). grown i x r ≡ r) (sym is) refl

-- a load by the writer leaves what the writer knows as it was
pub load_keeps : (a b : Seat (Unit {0}) LookView) (i x : ℕ) → IsWriter a.me.0 → IsSameSeat a b → b.me.0.role ≡ grown i x a.me.0.role
    → Keeps a b × ((plan b).draft ≡ (plan a).draft)
load_keeps a b i x writes same read =
    let role : b.me.0.role ≡ a.me.0.role = read ∙ unread i x (plan_of a.me.0.role) a.me.0.role writes in (
      record {
        table = same.table;
        slots = same.slots;
        writes = subst (λ (r : Role). r ≡ Writing (plan_of r)) (sym role) writes;
        version_is = ap (λ (r : Role). (plan_of r).version) role;
        links_are = ap (λ (r : Role). (plan_of r).links) role;
      },
      ap (λ (r : Role). (plan_of r).draft) role,
    )

-- ---- the writer's stores

pub is_writer : (v : LookView) (p : Plan) → v.role ≡ Writing p → IsWriter v
is_writer v p is = is ∙ sym (ap (λ (r : Role). Writing (plan_of r)) is)

pub keeps_own : (a : Seat (Unit {0}) LookView) → IsWriter a.me.0 → Keeps a a
keeps_own a writes = record { table = refl; slots = refl; writes = writes; version_is = refl; links_are = refl }

pub keeps_again : (a b c : Seat (Unit {0}) LookView) → Keeps a b → Keeps b c → Keeps a c
keeps_again a b c ab bc = record {
  table = bc.table ∙ ab.table;
  slots = bc.slots ∙ ab.slots;
  writes = bc.writes;
  version_is = bc.version_is ∙ ab.version_is;
  links_are = bc.links_are ∙ ab.links_are;
}

-- the writer stores a word
pub put_keeps : (a b : Seat (Unit {0}) LookView) (i x : ℕ) → Plans a b (put i x (plan a)) → Keeps a b × ((plan b).draft ≡ set (plan a).draft i x)
put_keeps a b i x made = (
  record {
    table = made.table;
    slots = made.slots;
    writes = is_writer b.me.0 (put i x (plan a)) made.role_is;
    version_is = ap (λ (r : Role). (plan_of r).version) made.role_is;
    links_are = ap (λ (r : Role). (plan_of r).links) made.role_is;
  },
  ap (λ (r : Role). (plan_of r).draft) made.role_is,
)

pub none_filled : (old words : List ℕ) (at : ℕ) → IsFilled old old at words 0
none_filled old words at = record { long = refl; words_are = λ k few. absurd (omega (arith, few)); others_are = λ i out. refl }

-- one more of the words that are stored
pub filled_more : (old new words : List ℕ) (at k x : ℕ) → x ≡ get_or words k 0 → at + k < length old
    → IsFilled old new at words k → IsFilled old (set new (at + k) x) at words (k + 1)
filled_more old new words at k x is inside filled = let long = filled.long in record {
  long = length-set new (at + k) x ∙ filled.long;
  words_are = λ j few. dite (ℕ_discrete j k)
      (λ same. subst (λ (z : ℕ). get_or (set new (at + k) x) (at + z) 0 ≡ get_or words z 0) (sym same)
      (get_or-set_same new (at + k) x 0 (omega arith) ∙ is))
      (λ other. get_or-set_other new (at + k) (at + j) x 0 (λ e. other (omega arith)) ∙ filled.words_are j (omega arith));
  others_are = λ i out. get_or-set_other new (at + k) i x 0 (λ e. elim out [ inl low ↦ omega (arith, low, e) | inr high ↦ omega (arith, high, e) ])
      ∙ filled.others_are i (elim out [ inl low ↦ inl low | inr high ↦ inr (omega (arith, high)) ]);
}

pub draft_same : (slots : ℕ) (old new : List ℕ) → new ≡ old → SameLines slots old new
draft_same slots old new is = record { long = ap length is; words_are = λ i inside. ap (λ (l : List ℕ). get_or l i 0) is }

-- storing a word behind all lines leaves the lines as they were
pub hint_put : (slots at x : ℕ) (old new : List ℕ) → new ≡ set old at x → 8 * slots + 8 ≤ at → SameLines slots old new
hint_put slots at x old new is behind = record {
  long = ap length is ∙ length-set old at x;
  words_are = λ i inside. ap (λ (l : List ℕ). get_or l i 0) is ∙ get_or-set_other old at i x 0 (λ e. omega arith);
}

-- after the next version is stored, the plan still says what is true
pub moved_true : (a b : Seat (Unit {0}) LookView) (version : ℕ) → WritesTrue a.me.0 version → Plans a b (moved (plan a)) → WritesTrue b.me.0 (version + 1)
moved_true a b version old made =
    let draft : (plan b).draft ≡ (plan a).draft = ap (λ (r : Role). (plan_of r).draft) made.role_is in
    let links : links_of b ≡ links_of a = ap (λ (r : Role). (plan_of r).links) made.role_is in
    record {
      writes = is_writer b.me.0 (moved (plan a)) made.role_is;
      version_is = ap (λ (r : Role). (plan_of r).version) made.role_is ∙ ap (λ (n : ℕ). n + 1) old.version_is;
      long = ap length draft ∙ (old.long ∙ ap words_for (sym made.slots));
      says = subst (λ (x : ℕ × List ℕ). SaysTrue x.0 x.1 (links_of b)) (λ i. (sym made.slots i, sym draft i)) (subst (SaysTrue a.me.0.slots (plan a).draft) (sym links) old.says);
      placed = subst (λ (x : ℕ × List ℕ). IsPlaced x.0 x.1) (λ i. (sym made.slots i, sym draft i)) old.placed;
    }

-- a version that is odd only if it is the last is even if it is not the last
pub even_unless : (version last : ℕ) → (version % 2 ≡ 1 → version ≡ last) → version ≢ last → version % 2 ≡ 0
even_unless version last odd other = dite (ℕ_discrete (version % 2) 1) (λ e. absurd (other (odd e))) (λ e. omega arith)
