-- The name of each refusal, its error number in Linux, and orders of refusals.
use Rattle.std.specs.Prelude.{ℕ, Bool, true, false, List, [], ◌∷◌, Option, None, Some, codes}
use Rattle.kf_core.specs.declared.refusal.Refusal.{Refusal}
use Rattle.kf_core.specs.declared.refusal.Refusal.TheVariants.{NoEntry, NoMemory, Access, Busy, Exists, NoDevice, NotDir, IsDir, Invalid, TooManyHolds, NoSpace, NameTooLong}

-- the refusal's error number in Linux
abbrev pub number_of : Refusal → ℕ
number_of NoEntry = 2
number_of NoMemory = 12
number_of Access = 13
number_of Busy = 16
number_of Exists = 17
number_of NoDevice = 19
number_of NotDir = 20
number_of IsDir = 21
number_of Invalid = 22
number_of TooManyHolds = 24
number_of NoSpace = 28
number_of NameTooLong = 36

-- the refusal's name, as bytes
abbrev pub name_of : Refusal → List ℕ
name_of NoEntry = codes "NoEntry"
name_of NoMemory = codes "NoMemory"
name_of Access = codes "Access"
name_of Busy = codes "Busy"
name_of Exists = codes "Exists"
name_of NoDevice = codes "NoDevice"
name_of NotDir = codes "NotDir"
name_of IsDir = codes "IsDir"
name_of Invalid = codes "Invalid"
name_of TooManyHolds = codes "TooManyHolds"
name_of NoSpace = codes "NoSpace"
name_of NameTooLong = codes "NameTooLong"

-- this refusal unless the test passes
abbrev pub unless : Bool → Refusal → Option Refusal
unless true refusal = None
unless false refusal = Some refusal

-- the first cause in the list: an order of refusals is a list, read from its head
abbrev pub first_cause : List (Option Refusal) → Option Refusal
first_cause [] = None
first_cause (None ∷ causes) = first_cause causes
first_cause (Some refusal ∷ causes) = Some refusal
