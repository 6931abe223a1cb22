-- What the writer's seat knows between two of its calls.
use Rattle.std.specs.Prelude.{◌≡◌, ℕ, ◌+◌, ◌*◌, ◌<◌, ◌≤◌, ◌⊎◌, List, length, slice_index}
use Rattle.atomic_table.specs.declared.shared.Seat.{Seat}
use Rattle.kf_looks.specs.declared.view.Link.{Link}
use Rattle.kf_looks.specs.declared.view.Plan.{Plan}
use Rattle.kf_looks.specs.declared.view.Role.TheVariants.{Writing}
use Rattle.kf_looks.specs.declared.view.LookView.{LookView}
use Rattle.kf_looks.specs.Lines.{SaysTrue, IsPlaced, words_for}
use Rattle.kf_looks.specs.Rule.{plan_of}

-- what the seat plans
abbrev pub plan : Seat (Unit {0}) LookView → Plan
plan seat = plan_of seat.me.0.role

-- all links, as the writer knows them
abbrev pub links_of : Seat (Unit {0}) LookView → List Link
links_of seat = (plan seat).links

-- the view is the writer's
abbrev pub IsWriter : LookView → Type 0
IsWriter v = v.role ≡ Writing (plan_of v.role)

-- the view is the writer's, at this version. The draft has all the words; what it says is true of all links,
-- and each child is in the line of its slot
pub record WritesTrue (v : LookView) (version : ℕ) : Type 0 where
  pub writes : IsWriter v
  pub version_is : (plan_of v.role).version ≡ version
  pub long : length (plan_of v.role).draft ≡ words_for v.slots
  pub says : SaysTrue v.slots (plan_of v.role).draft (plan_of v.role).links
  pub placed : IsPlaced v.slots (plan_of v.role).draft

-- the seat is still at the same table, with the same number of slots, and now has this plan
pub record Plans (old new : Seat (Unit {0}) LookView) (next : Plan) : Type 0 where
  pub table : new.table_id ≡ old.table_id
  pub slots : new.me.0.slots ≡ old.me.0.slots
  pub role_is : new.me.0.role ≡ Writing next

-- the seat is still at the same table, and knows the same
pub record IsSameWriter (old new : Seat (Unit {0}) LookView) : Type 0 where
  pub table : new.table_id ≡ old.table_id
  pub me : new.me ≡ old.me

-- the seat is still the writer's at the same table, with the same number of slots, at the same version and
-- with the same links
pub record Keeps (old new : Seat (Unit {0}) LookView) : Type 0 where
  pub table : new.table_id ≡ old.table_id
  pub slots : new.me.0.slots ≡ old.me.0.slots
  pub writes : IsWriter new.me.0
  pub version_is : (plan new).version ≡ (plan old).version
  pub links_are : links_of new ≡ links_of old

-- the first n of these words were stored from this place on, and all others are as before
pub record IsFilled (old new : List ℕ) (at : ℕ) (words : List ℕ) (count : ℕ) : Type 0 where
  pub long : length new ≡ length old
  pub words_are : (k : ℕ) → k < count → slice_index new (at + k) ≡ slice_index words k
  pub others_are : (i : ℕ) → (i < at) ⊎ (at + count ≤ i) → slice_index new i ≡ slice_index old i

-- no word of a line changed
pub record SameLines (slots : ℕ) (old new : List ℕ) : Type 0 where
  pub long : length new ≡ length old
  pub words_are : (i : ℕ) → i < 8 * slots + 8 → slice_index new i ≡ slice_index old i
