-- What a handle lends.
use Rattle.std.specs.Borrow.{Lends, MutBor, Fml}
use Rattle.kf_handles.specs.declared.handle.KtHandle.{KtHandle}
use Rattle.kf_handles.specs.declared.object.Place.{Place}
use Rattle.kf_handles.specs.contracts.handle.KtHandle.{the_row}
use Rattle.kf_handles.specs.contracts.object.Place as place

-- the handle with this place behind it
abbrev pub with_place : KtHandle → Place → KtHandle
with_place h p = record h { place = p }

-- in the end the place of h is the last value behind r
abbrev pub LendsPlace : MutBor KtHandle → MutBor Place → Fml
LendsPlace h r = Lends the_row place.the_row h r (with_place h.now)
