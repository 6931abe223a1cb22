-- What the writer's links say if there are words for look-ups.
use Rattle.std.proofs.Common.{◌≡◌, sym, subst, List}
use Rattle.std.specs.Prelude.{◌<◌, Option, None, Some, IsSomeAnd}
use Rattle.kf_looks.specs.declared.lookup_table.LookupTable.{LookupTable}
use Rattle.kf_looks.specs.declared.writer.Writer.{Writer}
use Rattle.kf_looks.specs.declared.view.Link.{Link}
use Rattle.kf_looks.specs.Writing.{links_of}
use Rattle.kf_live.specs.Live.{Writes}

-- the writer belongs to this table, and the fact is true of its links
abbrev pub IsWriterOf : LookupTable → (List Link → Type 0) → Writer → Type 0
IsWriterOf looks Fact w = (w.seat.table_id ≡ looks.table.shared.table_id) × Fact (links_of w.seat)

some_then : (looks : LookupTable) (F G : List Link → Type 0) (o : Option Writer) → IsSomeAnd o (IsWriterOf looks F) → ((links : List Link) → F links → G links) → IsSomeAnd o (IsWriterOf looks G)
some_then looks F G None h f = h
some_then looks F G (Some w) h f = (h.0, f (links_of w.seat) h.1)

pub writes_then : (looks : LookupTable) (F G : List Link → Type 0) (o : Option Writer) → Writes looks F o → ((links : List Link) → F links → G links) → Writes looks G o
writes_then looks F G o h f some = some_then looks F G o (h some) f

-- the writer and its words are the same, and what follows from the fact is true of the links
pub writes_on : (looks here : LookupTable) (F G : List Link → Type 0) (o taken : Option Writer) → taken ≡ o → here ≡ looks → Writes looks F o → ((links : List Link) → F links → G links) → Writes here G taken
writes_on looks here F G o taken same at h f = subst (λ x. Writes here G x) (sym same) (subst (λ l. Writes l G o) (sym at) (writes_then looks F G o h f))

-- if any slot has words, the fact is true of the links of the writer that is there
pub writer_there : (looks : LookupTable) (F : List Link → Type 0) (o : Option Writer) (w : Writer) → o ≡ Some w → Writes looks F o → 0 < looks.slots → IsWriterOf looks F w
writer_there looks F o w is h some = subst (λ x. IsSomeAnd x (IsWriterOf looks F)) is (h some)
