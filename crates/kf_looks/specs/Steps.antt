-- How each step changes the view of its seat.
use Rattle.std.specs.Prelude.{◌≡◌, ℕ, ◌+◌, ◌-◌, ◌/◌, ◌%◌, List, [], ◌∷◌, slice_index, slice_set}
use Rattle.atomic_table.specs.Table.{Me, Step}
use Rattle.kf_looks.specs.declared.view.Link.{Link}
use Rattle.kf_looks.specs.declared.view.Read.{Read}
use Rattle.kf_looks.specs.declared.view.Plan.{Plan}
use Rattle.kf_looks.specs.declared.view.Role.{Role}
use Rattle.kf_looks.specs.declared.view.Role.TheVariants.{Idle, Reading, Writing}
use Rattle.kf_looks.specs.declared.view.LookView.{LookView}
use Rattle.kf_looks.specs.Links.{IsLater}
use Rattle.kf_looks.specs.Lines.{SaysTrue, lines_at, link_at}
use Rattle.kf_looks.specs.Rule.{AllIn, plan_of}

-- the view of a seat, and the slots that it holds, of which there are none
abbrev pub Seated : Type 0
Seated = Me (Unit {0}) LookView

abbrev pub view : ℕ → Role → List Link → LookView
view slots role seen = record { slots = slots; role = role; seen = seen }

abbrev pub read : ℕ → ℕ → Read
read word found = record { word = word; found = found }

-- ---- readers

-- one more read, if the seat is a reader
abbrev pub grown : ℕ → ℕ → Role → Role
grown word found Idle = Idle
grown word found (Reading at reads) = Reading at (read word found ∷ reads)
grown word found (Writing plan) = Writing plan

abbrev pub MakesSeat : Step (Unit {0}) → Seated → ℕ → Seated → Type 0
MakesSeat st me found me' = me' ≡ (view me.0.slots Idle [], [])

-- the slots and the seen links are as before; if the version that was found is even, the seat reads at this
-- version from then on
abbrev pub Begun : ℕ → LookView → LookView → Type 0
Begun found old new = (new.slots ≡ old.slots) × (new.seen ≡ old.seen)
    × (found % 2 ≡ 0 → new.role ≡ Reading found [])

abbrev pub MakesBegin : Step (Unit {0}) → Seated → ℕ → Seated → Type 0
MakesBegin st me found me' = Begun found me.0 me'.0 × (me'.1 ≡ me.1)

abbrev pub MakesPeek : Step (Unit {0}) → Seated → ℕ → Seated → Type 0
MakesPeek st me found me' =
    me' ≡ (view me.0.slots (grown (st.word - lines_at) found me.0.role) me.0.seen, me.1)

-- the seat has now seen all links that it had seen, and maybe later ones. If the version is the one that was
-- found first, one content has all the reads and is true of these links
pub record Passed (found : ℕ) (old new : LookView) : Type 0 where
  pub slots_are : new.slots ≡ old.slots
  pub role_is : new.role ≡ old.role
  pub later : IsLater new.seen old.seen
  pub at_once : (reads : List Read) → old.role ≡ Reading found reads
      → (content : List ℕ) × AllIn content reads × SaysTrue old.slots content new.seen

abbrev pub MakesCheck : Step (Unit {0}) → Seated → ℕ → Seated → Type 0
MakesCheck st me found me' = Passed found me.0 me'.0 × (me'.1 ≡ me.1)

-- ---- the writer

abbrev pub moved : Plan → Plan
moved plan = record plan { version = plan.version + 1 }

abbrev pub put : ℕ → ℕ → Plan → Plan
put word value plan = record plan { draft = slice_set plan.draft word value }

-- the last word of a line is stored, and the link that the line now says is put in front of the links
abbrev pub entered : ℕ → ℕ → Plan → Plan
entered word value plan = record plan {
  draft = slice_set plan.draft word value;
  links = link_at (slice_set plan.draft word value) (word / 8) ∷ plan.links;
}

-- a load of one of the words after the version finds the one that the writer planned, and changes nothing
abbrev pub MakesRecall : Step (Unit {0}) → Seated → ℕ → Seated → Type 0
MakesRecall st me found me' =
    (me' ≡ me) × (found ≡ slice_index (plan_of me.0.role).draft (st.word - lines_at))

-- the step gives the writer this plan, and changes nothing else of its view
abbrev pub Becomes : Plan → Seated → Seated → Type 0
Becomes plan me me' = me' ≡ (view me.0.slots (Writing plan) me.0.seen, me.1)

abbrev pub MakesMove : Step (Unit {0}) → Seated → ℕ → Seated → Type 0
MakesMove st me found me' = Becomes (moved (plan_of me.0.role)) me me'

abbrev pub MakesPut : Step (Unit {0}) → Seated → ℕ → Seated → Type 0
MakesPut st me found me' = Becomes (put (st.word - lines_at) st.first (plan_of me.0.role)) me me'

abbrev pub MakesEntry : Step (Unit {0}) → Seated → ℕ → Seated → Type 0
MakesEntry st me found me' = Becomes (entered (st.word - lines_at) st.first (plan_of me.0.role)) me me'

-- the view of a new reader, which has seen all links that the writer has made
abbrev pub told : LookView → LookView
told v = view v.slots Idle (plan_of v.role).links

-- the view of a new reader, which has seen what another reader has
abbrev pub like : LookView → LookView
like v = view v.slots Idle v.seen
