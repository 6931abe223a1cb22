-- What a handle owns, which is what a box of a place owns; and what the memory for a new handle owns.
use base.Fml.{Fml, ftrue}
use base.Stored.{Coded}
use denote.RawPtr.{Ptr}
use Rattle.std.specs.Coded.{coded_option}
use Rattle.std.specs.Prelude.{Option, None, Some}
use Rattle.std.specs.Box.Ownership.{box_owns}
use Rattle.std.specs.Global.{Global}
use Rattle.std_heap.specs.contracts.GlobalAllocator.TheImpl.{ghosts}
use Rattle.kf_handles.specs.contracts.object.Place.{the_row}

-- the place at the pointer, and the right to free it
abbrev pub handle_owns : Global → Ptr → the_row.Denot → Fml
handle_owns alloc = box_owns (ghosts.dealloc_token alloc) the_row

-- how the logic stores a place
abbrev pub place_coded : Coded the_row.Denot
place_coded = the_row.coded

-- the memory for a new handle owns nothing before it gets the handle, and then what the handle owns
abbrev pub given_owns : Global → Ptr → Option the_row.Denot → Fml
given_owns alloc at None = ftrue
given_owns alloc at (Some place) = handle_owns alloc at place

-- how the logic stores the place of a new handle, or that there is none yet
abbrev pub given_coded : Coded (Option the_row.Denot)
given_coded = coded_option place_coded
