-- A handle may be sent to another thread: the place that it owns may be, and any thread may free the place.
use mir.Raw.{raw}
use denote.Memory.{lone}
use denote.Struct.Struct.{exits_of}
use denote.Struct.Owning.{shape, fields, to}
use denote.Param.Send.{IsSend, AllSend, owning_send, struct_send, sendable}
use Rattle.std.proofs.Crossing as crossing
use Rattle.std_alloc.proofs.SendSync.{quiet, lies}
use Rattle.std_heap.proofs.Global.TheSendSync as global
use Rattle.kf_handles.specs.contracts.object.Place as place
use Rattle.kf_handles.proofs.object.Place.TheSendSync.{the_send as place_goes}
use Rattle.kf_handles.specs.contracts.handle.KtHandle.{the_row, the_type}

-- both the pointer and the allocator may be sent
both_go : AllSend (fields the_type)
both_go = (search sendable, (global.the_field_send, tt))

pub send : IsSend the_row
send =
    owning_send the_type both_go
    (λ h. (lies place.the_row place_goes h.at h.place, crossing.frees.frees h.alloc (raw (lone place.the_row.mir)) h.at))
    (λ k. quiet (to the_type) (exits_of k (fields the_type)) ((struct_send (shape the_type) both_go).leaving k))
