-- The rule of the table: how its words and the views of all seats fit together.
use Rattle.std.specs.Prelude.{◌≡◌, ℕ, ◌+◌, ◌%◌, ◌≤◌, ◌<◌, List, [], ◌∷◌, length, slice_index, replicate}
use mathlib.Core.Option.{some}
use lib.ListN.{get_elem?}
use Rattle.atomic_table.specs.Table.{State}
use Rattle.kf_looks.specs.declared.view.Link.{Link}
use Rattle.kf_looks.specs.declared.view.Read.{Read}
use Rattle.kf_looks.specs.declared.view.Plan.{Plan}
use Rattle.kf_looks.specs.declared.view.Role.{Role}
use Rattle.kf_looks.specs.declared.view.Role.TheVariants.{Idle, Reading, Writing}
use Rattle.kf_looks.specs.declared.view.LookView.{LookView}
use Rattle.kf_looks.specs.Links.{IsLater}
use Rattle.kf_looks.specs.Lines.{SaysTrue, lines_at, words_for}

abbrev pub Table : Type 0
Table = State (Unit {0}) LookView

abbrev pub no_plan : Plan
no_plan = record { version = 0; draft = []; links = [] }

-- the plan of a writer; other roles have an empty one
abbrev pub plan_of : Role → Plan
plan_of Idle = no_plan
plan_of (Reading at reads) = no_plan
plan_of (Writing plan) = plan

-- the content has all that was read
abbrev pub AllIn : List ℕ → List Read → Type 0
AllIn content [] = Unit {0}
AllIn content (read ∷ reads) = (slice_index content read.word ≡ read.found) × AllIn content reads

-- the plan has this version, this draft and these links
pub record IsPlan (version : ℕ) (draft : List ℕ) (links : List Link) (plan : Plan) : Type 0 where
  pub version_is : plan.version ≡ version
  pub draft_is : plan.draft ≡ draft
  pub links_are : plan.links ≡ links

-- the version that a reader found first is even and not later than this one, and if it is this one, the draft
-- has all that was read. A writer has this plan, and its seat is the first
abbrev pub Knows : ℕ → List ℕ → List Link → ℕ → Role → Type 0
Knows version draft links seat Idle = Unit {0}
Knows version draft links seat (Reading at reads) =
    (at % 2 ≡ 0) × (at ≤ version) × (at ≡ version → AllIn draft reads)
Knows version draft links seat (Writing plan) = IsPlan version draft links plan × (seat ≡ 0)

-- the words are the version and the draft. While the version is even, the draft is true of all links. Each
-- seat knows of at most this many slots, knows what its role says, and has seen these links, or those at an
-- earlier moment
pub record Kept (slots : ℕ) (t : Table) : Type 0 where
  pub version : ℕ
  pub draft : List ℕ
  pub links : List Link
  pub wide : length t.words ≡ words_for slots + lines_at
  pub long : length draft ≡ words_for slots
  pub version_is : slice_index t.words 0 ≡ version
  pub draft_is : (i : ℕ) → i < words_for slots → slice_index t.words (i + lines_at) ≡ slice_index draft i
  pub says : version % 2 ≡ 0 → SaysTrue slots draft links
  pub seats : (seat : ℕ) (v : LookView) → get_elem? t.views seat ≡ some v
      → (v.slots ≤ slots) × Knows version draft links seat v.role × IsLater links v.seen

-- the plan with which the first seat begins, which is the writer's
abbrev pub first_plan : ℕ → ℕ → Plan
first_plan slots version =
    record { version = version; draft = replicate (words_for slots) 0; links = [] }

-- the view with which the first seat begins
abbrev pub opened : ℕ → ℕ → LookView
opened slots version = record { slots = slots; role = Writing (first_plan slots version); seen = [] }
