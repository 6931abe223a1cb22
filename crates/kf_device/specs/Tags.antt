-- What a tag means to a bus.
use Rattle.std.specs.Prelude.{ℕ, Bool, true, false, ◌-◌, ◌/◌, ◌%◌, Option, None, Some, ◌==◌, nat_lt, if◌then◌else◌}
use Rattle.std.specs.Option.{option_map}
use Rattle.kf_device.specs.declared.tags.DeviceFile.{DeviceFile}
use Rattle.kf_device.specs.declared.tags.DeviceFile.TheVariants.{Value, Serial, Delete}
use Rattle.kf_device.specs.declared.tags.DeviceTag.{DeviceTag}

-- the lowest tag of a bus
abbrev pub first_tag : ℕ
first_tag = 9223372036854775808

-- the file that has this place among the tags of its device
abbrev pub file_at : ℕ → Option DeviceFile
file_at place =
    if place == 0 then Some Value
    else (if place == 1 then Some Serial else (if place == 2 then Some Delete else None))

-- the file of the plug of this number, if there is such a file
abbrev pub with_serial : ℕ → Option DeviceFile → Option DeviceTag
with_serial serial file = option_map (λ f. record { serial = serial; file = f }) file

-- what a tag means: each plug has four tags, in the order of the plugs' numbers, and the fourth means nothing
abbrev pub meaning : ℕ → Option DeviceTag
meaning tag =
    if nat_lt tag first_tag then None
    else with_serial ((tag - first_tag) / 4) (file_at ((tag - first_tag) % 4))

-- whether a store to this file of a device unplugs the device
abbrev pub is_delete_file : DeviceFile → Bool
is_delete_file Value = false
is_delete_file Serial = false
is_delete_file Delete = true

-- whether the tag is that of a device's `delete`
abbrev pub is_delete : Option DeviceTag → Bool
is_delete None = false
is_delete (Some tag) = is_delete_file tag.file
