-- What reads show.
use Rattle.std.specs.Prelude.{◌≡◌, ℕ, List}
use Rattle.atomic_table.specs.declared.shared.Seat.{Seat}
use Rattle.kf_looks.specs.declared.view.Link.{Link}
use Rattle.kf_looks.specs.declared.view.Read.{Read}
use Rattle.kf_looks.specs.declared.view.Role.{Role}
use Rattle.kf_looks.specs.declared.view.Role.TheVariants.{Reading}
use Rattle.kf_looks.specs.declared.view.LookView.{LookView}
use Rattle.kf_looks.specs.Lines.{SaysTrue}
use Rattle.kf_looks.specs.Rule.{AllIn}

-- the seat is still at the same table, with the same number of slots, has seen the same links, and carries
-- what it carried
pub record IsSameSeat (old new : Seat (Unit {0}) LookView) : Type 0 where
  pub table : new.table_id ≡ old.table_id
  pub slots : new.me.0.slots ≡ old.me.0.slots
  pub seen : new.me.0.seen ≡ old.me.0.seen
  pub carried : new.me.1 ≡ old.me.1

-- a reader made more reads; and if a content has all of these reads, it also has the earlier ones, and this
-- is true of it
abbrev pub Follows : Role → Role → (List ℕ → Type 0) → Type 0
Follows before after Fact = (at : ℕ) (reads : List Read) → before ≡ Reading at reads
    → (more : List Read) × (after ≡ Reading at more)
    × ((content : List ℕ) → AllIn content more → AllIn content reads × Fact content)

-- this is true of all links of which the content is true
abbrev pub Tells : ℕ → (List Link → Type 0) → List ℕ → Type 0
Tells slots Fact content = (links : List Link) → SaysTrue slots content links → Fact links

-- the seat reads at this version, and what it has read so far shows the fact: the fact is true of all links
-- of which any content with these reads is true
abbrev pub Stands : LookView → ℕ → (List Link → Type 0) → Type 0
Stands v version Fact = (reads : List Read) × (v.role ≡ Reading version reads)
    × ((content : List ℕ) → AllIn content reads → Tells v.slots Fact content)
