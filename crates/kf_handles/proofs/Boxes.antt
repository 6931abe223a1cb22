-- A box of a place, as it appears whole, taken apart, and behind a handle.
use mir.Syntax.{impl, tnil, dnil}
use mathlib.Core.List.{[]}
use denote.Signature.{Slot, plain}
use Rattle.std_alloc.proofs.BoxSteps.Form.{Bx}
use Rattle.std_heap.specs.contracts.Global as Heap
use Rattle.std_heap.specs.contracts.GlobalAllocator.TheImpl.{ghosts, dict}
use Rattle.std_heap.proofs.Global.TheLaws as heap
use Rattle.kf_handles.specs.contracts.object.Place as Place
use Rattle.kf_handles.proofs.object.Place.TheLaws as place
use Rattle.kf_handles.specs.contracts.handle.apart.Apart as Apart
use Rattle.kf_handles.specs.contracts.handle.KtHandle as Handle

-- a box on the heap that owns a place
abbrev pub place_box : Bx
place_box = record {
  row = Place.the_row;
  laws = place.the_row_laws;
  al = record { row = Heap.the_row; laws = heap.the_row_laws; g = ghosts; d = dict; drops = impl [] tnil dnil };
}

-- a parameter that is such a box, taken apart
abbrev pub an_apart : Slot 0
an_apart = plain (λ _. Apart.the_row Place.the_row Heap.the_row ghosts)

-- a parameter that is a handle
abbrev pub a_handle : Slot 0
a_handle = plain (λ _. Handle.the_row)
