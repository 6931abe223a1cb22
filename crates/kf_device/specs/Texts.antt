-- What a bus keeps of one device.
use Rattle.std.specs.Prelude.{ℕ, List, Option}
use Rattle.std.specs.Option.{option_map, option_and_then}
use Rattle.kf_device.specs.declared.devices.Device.{Device}
use Rattle.kf_device.specs.declared.devices.Nodes.{Nodes}

-- the bytes of a device's value
abbrev pub value_in : Option Device → Option (List ℕ)
value_in device = option_map (λ (d : Device). d.value.items) device

-- the name of a device
abbrev pub name_in : Option Device → Option (List ℕ)
name_in device = option_map (λ (d : Device). d.name) device

-- the nodes that a device's plug made, once the plug is over
abbrev pub nodes_in : Option Device → Option Nodes
nodes_in device = option_and_then (λ (d : Device). d.nodes) device
