-- Why a plug is refused, and what it had made of its device by then.
use Rattle.std.specs.Prelude.{◌≡◌, ◌⊎◌, ℕ, false, List, Option, None, Some, codes}
use Rattle.kf_core.specs.declared.command.Command.TheVariants.{Activate, Doom}
use Rattle.kf_core.specs.declared.key.Key.{Key}
use Rattle.kf_core.specs.declared.key.Node.TheVariants.{Dir}
use Rattle.kf_core.specs.declared.refusal.Refusal.{Refusal}
use Rattle.kf_core.specs.declared.refusal.Refusal.TheVariants.{NoEntry, NotDir, Exists, NoSpace, NoMemory}
use Rattle.kf_core.specs.Names.{name_fault}
use Rattle.kf_core.specs.PostOrder.{IsPostOrder}
use Rattle.kf_tree.specs.Causes.{doom_cause, linked_cause}
use Rattle.kf_tree.specs.TreeLogs.{IsAccepted}
use Rattle.kf_shared.specs.Locked.{Locked, Created, Unchanged}
use Rattle.kf_shared.specs.Removal.{keys_of}
use Rattle.kf_words.specs.Callers.{Handle}
use Rattle.kf_device.specs.Plugs.{HasBase, HasBases, HasFile}
use Rattle.kf_device.specs.declared.devices.Nodes.{Nodes}
use Rattle.kf_device.specs.declared.tags.DeviceFile.TheVariants.{Value, Serial, Delete}

-- why a step of a plug is refused: a base is doomed, or is not a directory; the name is taken; no free slot
-- was found; or there was no memory
abbrev pub StepRefusal : Refusal → Type 0
StepRefusal refusal = (refusal ≡ NoEntry) ⊎ (refusal ≡ NotDir) ⊎ (refusal ≡ Exists) ⊎ (refusal ≡ NoSpace)
    ⊎ (refusal ≡ NoMemory)

-- why a plug is refused: its name is not lawful, for this reason; or it is lawful, and a step was refused
abbrev pub PlugRefusal : List ℕ → Refusal → Type 0
PlugRefusal name refusal =
    (name_fault name ≡ Some refusal) ⊎ ((name_fault name ≡ None) × StepRefusal refusal)

-- a node was not made, and nothing changed; or it was made, and then the rest may have been cut short
abbrev pub CutShort : (Locked → Locked → Key → Type 0) → (Key → Locked → Locked → Type 0)
    → Locked → Locked → Type 0
CutShort Makes Rest s s' =
    Unchanged s s' ⊎ ((between : Locked) × (key : Key) × Makes s between key × Rest key between s')

-- the base directories were made one after another, and this may have been cut short at any of them
abbrev pub FewBases : Locked → Locked → Type 0
FewBases s s' =
    CutShort (λ a b key. HasBase a b s.state.root (codes "devices") key) (λ _.
    CutShort (λ a b key. HasBase a b s.state.root (codes "bus") key) (λ bus.
    CutShort (λ a b key. HasBase a b bus (codes "devices") key) (λ _. Unchanged))) s s'

-- the directory was activated or not, and nothing else changed
abbrev pub MayBeLive : Key → Locked → Locked → Type 0
MayBeLive dir s s' =
    Unchanged s s' ⊎ ((live : Locked)
    × IsAccepted s.state live.state (linked_cause s.state.tree dir) (Activate dir) × Unchanged live s')

-- the device's files were made one after another, and then their directory was activated; this may have been
-- cut short at any step
abbrev pub FewFiles : Key → ℕ → Locked → Locked → Type 0
FewFiles dir serial s s' =
    CutShort (λ a b key. HasFile a b dir (codes "value") 420 serial Value key) (λ _.
    CutShort (λ a b key. HasFile a b dir (codes "serial") 292 serial Serial key) (λ _.
    CutShort (λ a b key. HasFile a b dir (codes "delete") 128 serial Delete key) (λ _. MayBeLive dir))) s s'

-- the removal of the directory, with all that is in it, was begun with these holds; or it was refused, and
-- nothing changed
abbrev pub TakesBack : Locked → Locked → Key → Option (List Handle) → Type 0
TakesBack s s' dir None = Unchanged s s'
TakesBack s s' dir (Some holds) = IsPostOrder s.state.tree dir (keys_of holds)
    × IsAccepted s.state s'.state (doom_cause s.state.tree s.state.root dir) (Doom dir)

-- the device's directory was made, with some of what belongs in it, and then its removal was begun or refused
pub record HasTakenBack (s s' : Locked) (name : List ℕ) (serial : ℕ) (begun : Option (List Handle))
    (dir : Key) : Type 0 where
  pub based : Locked
  pub made : Locked
  pub stopped : Locked
  pub devices : Key
  pub links : Key
  pub bases : HasBases s based devices links
  pub dir_made : Created based made devices name Dir false dir
  pub filled : FewFiles dir serial made stopped
  pub taken_back : TakesBack stopped s' dir begun

-- what a refused plug leaves: none, some or all of the base directories, and no removal is begun; or all of
-- them and the device's directory, whose removal was begun or refused
abbrev pub IsStopped : Locked → Locked → List ℕ → ℕ → Nodes → Option (List Handle) → Type 0
IsStopped s s' name serial nodes begun =
    ((nodes.dir ≡ None) × (begun ≡ None) × FewBases s s')
    ⊎ ((dir : Key) × (nodes.dir ≡ Some dir) × HasTakenBack s s' name serial begun dir)

-- what a refused plug leaves: nothing has changed and no removal is begun, or a plug of some number was
-- stopped as above
abbrev pub IsStoppedPlug : Locked → Locked → List ℕ → Option (List Handle) → Type 0
IsStoppedPlug s s' name begun = ((begun ≡ None) × (s' ≡ s))
    ⊎ ((serial : ℕ) × (nodes : Nodes) × IsStopped s s' name serial nodes begun)
