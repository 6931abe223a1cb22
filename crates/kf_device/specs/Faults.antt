-- Why a callback of a bus fails.
use Rattle.kf_core.specs.declared.refusal.Refusal.{Refusal}
use Rattle.kf_core.specs.Refusals.{number_of}
use Rattle.kf_pages.specs.declared.ops.Fault.{Fault}

-- a fault with the number of the refusal
abbrev pub fault_of : Refusal → Fault
fault_of refusal = record { number = number_of refusal }
