-- What the callbacks of a bus may return.
use Rattle.std.specs.Prelude.{◌≡◌, ◌⊎◌, ℕ, List, length, decimal, Option, None, Some, Result, Ok, Err, IfErr, MatchResult}
use Rattle.kf_core.specs.declared.refusal.Refusal.{Refusal}
use Rattle.kf_core.specs.declared.refusal.Refusal.TheVariants.{NoMemory}
use Rattle.kf_pages.specs.declared.ops.Fault.{Fault}
use Rattle.kf_device.specs.declared.tags.DeviceFile.{DeviceFile}
use Rattle.kf_device.specs.declared.tags.DeviceFile.TheVariants.{Value, Serial, Delete}
use Rattle.kf_device.specs.declared.tags.DeviceTag.{DeviceTag}
use Rattle.kf_device.specs.Faults.{fault_of}
use Rattle.kf_pages.specs.Files.{unknown_tag}
use Rattle.kf_device.specs.Tags.{meaning}

-- a value is shown, or the bus keeps none; the number of a plug is shown in decimal, or no such plug has
-- begun; `delete` has no text
abbrev pub ShowsFile : DeviceFile → ℕ → Result (List ℕ) Fault → Type 0
ShowsFile Value serial answer = IfErr answer (λ fault. fault ≡ unknown_tag)
ShowsFile Serial serial answer = (answer ≡ Ok (decimal serial)) ⊎ (answer ≡ Err unknown_tag)
ShowsFile Delete serial answer = answer ≡ Err unknown_tag

-- what a show may return, by what the tag means; a tag without a meaning is unknown
abbrev pub ShowsMeant : Option DeviceTag → Result (List ℕ) Fault → Type 0
ShowsMeant None answer = answer ≡ Err unknown_tag
ShowsMeant (Some tag) answer = ShowsFile tag.file tag.serial answer

-- what a show may put on the page, or fail with, by the tag
abbrev pub MayShow : ℕ → Result (List ℕ) Fault → Type 0
MayShow tag answer = ShowsMeant (meaning tag) answer

-- all of the bytes were taken, or the store failed with one of these faults
abbrev pub TakesAll : (Fault → Type 0) → List ℕ → Result ℕ Fault → Type 0
TakesAll MayFail bytes answer = MatchResult answer (λ count. count ≡ length bytes) MayFail

-- why a store to `value` fails: the bus keeps no such value, or there was no memory
abbrev pub ValueFault : Fault → Type 0
ValueFault fault = (fault ≡ unknown_tag) ⊎ (fault ≡ fault_of NoMemory)

-- why a store to `delete` fails: the fault has the number of the refusal that was met
abbrev pub DeleteFault : Fault → Type 0
DeleteFault fault = (refusal : Refusal) × (fault ≡ fault_of refusal)

-- what a store may return, by the device's file
abbrev pub StoresFile : DeviceFile → List ℕ → Result ℕ Fault → Type 0
StoresFile Value bytes answer = TakesAll ValueFault bytes answer
StoresFile Serial bytes answer = answer ≡ Err unknown_tag
StoresFile Delete bytes answer = TakesAll DeleteFault bytes answer

-- what a store may return, by what the tag means
abbrev pub StoresMeant : Option DeviceTag → List ℕ → Result ℕ Fault → Type 0
StoresMeant None bytes answer = answer ≡ Err unknown_tag
StoresMeant (Some tag) bytes answer = StoresFile tag.file bytes answer

-- what a store may return, by the tag
abbrev pub MayStore : ℕ → List ℕ → Result ℕ Fault → Type 0
MayStore tag bytes answer = StoresMeant (meaning tag) bytes answer
