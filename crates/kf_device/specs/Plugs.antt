-- What a plug makes in the tree under the lock, one step after the other.
use Rattle.std.specs.Prelude.{◌≡◌, ◌⊎◌, ℕ, false, true, List, Some, Ok, Err, codes}
use Rattle.kf_core.specs.declared.command.Command.TheVariants.{Activate}
use Rattle.kf_core.specs.declared.key.Key.{Key}
use Rattle.kf_core.specs.declared.key.Node.TheVariants.{Dir, File, Link}
use Rattle.kf_core.specs.declared.refusal.Refusal.TheVariants.{NoEntry}
use Rattle.kf_tree.specs.Causes.{linked_cause}
use Rattle.kf_tree.specs.Paths.{found}
use Rattle.kf_tree.specs.TreeLogs.{IsAccepted}
use Rattle.kf_shared.specs.Locked.{Locked, Created}
use Rattle.kf_device.specs.Tags.{meaning}
use Rattle.kf_device.specs.declared.devices.Nodes.{Nodes}
use Rattle.kf_device.specs.declared.tags.DeviceFile.{DeviceFile}
use Rattle.kf_device.specs.declared.tags.DeviceFile.TheVariants.{Value, Serial, Delete}

-- the base with this name: a node with this name was there, or a directory was made live
abbrev pub HasBase : Locked → Locked → Key → List ℕ → Key → Type 0
HasBase s s' parent name key =
    ((found s.state.tree parent name ≡ Ok key) × (s' ≡ s))
    ⊎ ((found s.state.tree parent name ≡ Err NoEntry) × Created s s' parent name Dir true key)

-- the base directories `/devices`, `/bus` and `/bus/devices`: each was there, or was made live
pub record HasBases (s s' : Locked) (devices links : Key) : Type 0 where
  pub after_devices : Locked
  pub after_bus : Locked
  pub bus : Key
  pub devices_there : HasBase s after_devices s.state.root (codes "devices") devices
  pub bus_there : HasBase after_devices after_bus s.state.root (codes "bus") bus
  pub links_there : HasBase after_bus s' bus (codes "devices") links

-- a file of the plug with this number was made, with this name and mode, and is not activated yet
abbrev pub HasFile : Locked → Locked → Key → List ℕ → ℕ → ℕ → DeviceFile → Key → Type 0
HasFile s s' dir name mode serial file key = (tag : ℕ)
    × (meaning tag ≡ Some (record { serial = serial; file = file }))
    × Created s s' dir name (File mode tag) false key

-- the device's files are made, with the modes 644, 444 and 200 in octal; then its directory is activated,
-- with all of them; then its link is made live. `nodes` has the keys of the files `value` and `delete`
pub record Filled (s s' : Locked) (links dir : Key) (name : List ℕ) (serial : ℕ) (nodes : Nodes)
    : Type 0 where
  pub after_value : Locked
  pub after_serial : Locked
  pub after_delete : Locked
  pub activated : Locked
  pub value : Key
  pub shown : Key
  pub delete : Key
  pub link : Key
  pub value_made : HasFile s after_value dir (codes "value") 420 serial Value value
  pub serial_made : HasFile after_value after_serial dir (codes "serial") 292 serial Serial shown
  pub delete_made : HasFile after_serial after_delete dir (codes "delete") 128 serial Delete delete
  pub live : IsAccepted after_delete.state activated.state (linked_cause after_delete.state.tree dir)
      (Activate dir)
  pub linked : Created activated s' links name (Link dir) true link
  pub value_known : nodes.value ≡ Some value
  pub delete_known : nodes.delete ≡ Some delete

-- the base directories that were not there are made, then the device's directory, then what is in it, and
-- then its link. `nodes` has the key of the directory
pub record Plugged (s s' : Locked) (name : List ℕ) (serial : ℕ) (nodes : Nodes) (dir : Key) : Type 0 where
  pub based : Locked
  pub made : Locked
  pub devices : Key
  pub links : Key
  pub bases : HasBases s based devices links
  pub dir_made : Created based made devices name Dir false dir
  pub filled : Filled made s' links dir name serial nodes
  pub dir_known : nodes.dir ≡ Some dir

-- the plug of some number has made all of this
abbrev pub IsPlugged : Locked → Locked → List ℕ → Key → Type 0
IsPlugged s s' name dir = (serial : ℕ) × (nodes : Nodes) × Plugged s s' name serial nodes dir
