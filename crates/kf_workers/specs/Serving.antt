-- Which callbacks serve a tag: below the first tag of devices those of scripts' files, else those of devices.
use Rattle.std.specs.Prelude.{ℕ, List, Bool, true, false, nat_le, Result}
use Rattle.kf_pages.specs.declared.ops.Fault.{Fault}

-- 2^63, the least tag of a device's file
abbrev pub first_device_tag : ℕ
first_device_tag = 9223372036854775808

-- if the test is true, what holds of devices, else what holds of scripts' files
abbrev pub OfDevices : Bool → Type 0 → Type 0 → Type 0
OfDevices true devices texts = devices
OfDevices false devices texts = texts

-- what a show may return: the tag decides whether it is a show of the devices or of the texts
abbrev pub shown_by : (ℕ → Result (List ℕ) Fault → Type 0) → (ℕ → Result (List ℕ) Fault → Type 0) → ℕ
    → Result (List ℕ) Fault → Type 0
shown_by texts devices tag filled =
    OfDevices (nat_le first_device_tag tag) (devices tag filled) (texts tag filled)

-- what a store may return: the tag decides whether it is a store of the devices or of the texts
abbrev pub stored_by : (ℕ → List ℕ → Result ℕ Fault → Type 0) → (ℕ → List ℕ → Result ℕ Fault → Type 0) → ℕ
    → List ℕ → Result ℕ Fault → Type 0
stored_by texts devices tag bytes answer =
    OfDevices (nat_le first_device_tag tag) (devices tag bytes answer) (texts tag bytes answer)
