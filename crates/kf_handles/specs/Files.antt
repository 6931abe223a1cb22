-- What the calls on open files do.
use Rattle.std.specs.Prelude.{◌≡◌, ◌<◌, ◌⊎◌, ℕ, ℤ, negsuc, Bool, true, false, not, ◌&&◌, List, Option, None, Some, Ok, Err, IsTrue, IsSome, MatchBool}
use Rattle.std.specs.Option.{option_map}
use Rattle.kf_core.specs.declared.caller.Phase.TheVariants.{Running}
use Rattle.kf_core.specs.declared.key.Key.{Key}
use Rattle.kf_core.specs.declared.key.Node.{Node}
use Rattle.kf_core.specs.declared.key.Node.TheVariants.{Dir, File, Link}
use Rattle.kf_core.specs.declared.refusal.Refusal.{Refusal}
use Rattle.kf_core.specs.declared.refusal.Refusal.TheVariants.{IsDir, Invalid, NoMemory}
use Rattle.kf_core.specs.Tree.{record_at}
use Rattle.kf_tree.specs.declared.stat.Stat.{Stat}
use Rattle.kf_tree.specs.Stat.{stat_of}
use Rattle.kf_notify.specs.PostStates.{IsNewPost}
use Rattle.kf_pages.specs.declared.contents.Want.{Want}
use Rattle.kf_pages.specs.Files.{open_cause, new_file, text_of, text_in_file, slice, is_changed}
use Rattle.kf_handles.specs.declared.object.Object.{Object}
use Rattle.kf_handles.specs.declared.object.Object.TheVariants as behind
use Rattle.kf_handles.specs.declared.object.Place.{Place}
use Rattle.kf_handles.specs.declared.object.Seat.{Seat}
use Rattle.kf_handles.specs.declared.object.Seat.TheVariants as seat
use Rattle.kf_handles.specs.declared.replies.KtKey.{KtKey}
use Rattle.kf_handles.specs.declared.questions.Question.TheVariants as asks
use Rattle.kf_handles.specs.declared.questions.TreeReply.TheVariants as told
use Rattle.kf_handles.specs.Answers.{AnsweredBehind}
use Rattle.kf_handles.specs.Calls.{HoldsNode, key_in}
use Rattle.kf_handles.specs.LookUps.{stat_behind}
use Rattle.kf_handles.specs.Numbers.{PostRefused}
use Rattle.kf_handles.specs.Taken.{NumberTaken}
use Rattle.kf_handles.specs.Steps.{WasEnteredToShow, WasRefused, IsNotRunning, enter_error}

-- whether the stat of a node says that it is live
abbrev pub tells_live : Stat → Bool
tells_live stat = stat.activated && not stat.doomed && not stat.hidden

-- why a node with this stat may not be opened as wanted
abbrev pub open_fault : Stat → Node → Want → Option Refusal
open_fault stat Dir want = Some IsDir
open_fault stat (Link target) want = Some Invalid
open_fault stat (File mode tag) want = open_cause mode want (tells_live stat)

-- the stat of the node says that it may not be opened as wanted, for this cause
abbrev pub OpenFaultTold : Object → Key → Want → Refusal → Type 0
OpenFaultTold tree key want why =
    (stat : Stat) × (stat_behind tree key ≡ Ok stat) × (open_fault stat stat.node want ≡ Some why)

-- why a file is not opened: there is no stat of the node; its stat is against it; its hold or its post was
-- refused; or there was no memory
abbrev pub OpenRefused : Object → Object → Key → Want → Refusal → Type 0
OpenRefused old new key want why = (stat_behind old key ≡ Err why)
    ⊎ OpenFaultTold old key want why
    ⊎ AnsweredBehind (asks.Hold key) old new (told.Refused why)
    ⊎ PostRefused old key why
    ⊎ (why ≡ NoMemory)

-- it is a file that was just opened; its node is in the tree, is live, and may be opened as wanted
abbrev pub IsOpened : Object → KtKey → Want → Object → Type 0
IsOpened (behind.Tree tree) key want (behind.File file) = (stat : Stat)
    × (option_map (stat_of tree.value.nodes.state.tree)
    (record_at tree.value.nodes.state.tree (key_in key)) ≡ Some stat)
    × (open_fault stat stat.node want ≡ None) × (file.value.state ≡ new_file want)
    × IsNewPost tree.value.posts key.slot file.value.post
IsOpened tree key want other = ⊥

-- the place has the same seat and the same object as before
abbrev pub IsSamePlace : Place → Place → Type 0
IsSamePlace old new = (new.seat ≡ old.seat) × (new.object ≡ old.object)

-- whether it is a file that was opened for reading
abbrev pub is_readable : Object → Bool
is_readable (behind.File file) = file.value.state.want.read
is_readable other = false

-- whether it is a file that was opened for writing
abbrev pub is_writable : Object → Bool
is_writable (behind.File file) = file.value.state.want.write
is_writable other = false

-- the try to enter was refused, and nothing else was done
abbrev pub WasKeptOut : Place → Place → Type 0
WasKeptOut old new = WasRefused old.seat new.seat × (new.object ≡ old.object)

-- the place has a file that was just opened like this, and a hold of its node
abbrev pub OpenedIn : Object → KtKey → Want → Place → Type 0
OpenedIn tree key want place = HoldsNode tree key place.seat × IsOpened tree key want place.object

-- the file was opened for reading, and its text serves a read at this offset
abbrev pub Serves : ℕ → Object → Type 0
Serves offset (behind.File file) =
    IsTrue file.value.state.want.read × (0 < offset) × IsSome file.value.state.text
Serves offset other = ⊥

-- no text of the file serves a read at this offset
abbrev pub NeedsShow : ℕ → Object → Type 0
NeedsShow offset (behind.File file) = (offset ≡ 0) ⊎ (file.value.state.text ≡ None)
NeedsShow offset other = ⊥

-- the file was opened for reading, and no text served a read at this offset; now the file has no text, and
-- its event number was loaded for a show
abbrev pub Begins : ℕ → Object → Object → Type 0
Begins offset (behind.File old) (behind.File new) = IsTrue old.value.state.want.read
    × ((offset ≡ 0) ⊎ (old.value.state.text ≡ None))
    × NumberTaken old.value.post new.value.state.number new.value.post
    × (new.value.state ≡ record old.value.state { text = None; number = new.value.state.number })
Begins offset old new = ⊥

-- the node was entered, and then the show was begun
abbrev pub BeganRead : ℕ → Place → Place → Type 0
BeganRead offset old new = WasEnteredToShow old.seat new.seat × Begins offset old.object new.object

-- a read was refused: if there is a file opened for reading, no text served the read, and the try to enter
-- was refused; else nothing was done
abbrev pub ReadRefused : ℕ → Place → Place → Type 0
ReadRefused offset old new = MatchBool (is_readable old.object)
    (NeedsShow offset old.object × WasKeptOut old new) (IsSamePlace old new)

-- a write was refused: if there is a file opened for writing, the try to enter was refused; else nothing was
-- done
abbrev pub WriteRefused : Place → Place → Type 0
WriteRefused old new = MatchBool (is_writable old.object) (WasKeptOut old new) (IsSamePlace old new)

-- the error number of a refused read or write: -EACCES if the file was not opened for it, else that of the
-- try
abbrev pub access_error : Bool → Seat → ℤ
access_error true at = enter_error at
access_error false at = negsuc 12

-- the error number of a refused read; -EINVAL if there is no file
abbrev pub read_error : Object → Seat → ℤ
read_error (behind.File file) at = access_error file.value.state.want.read at
read_error other at = negsuc 21

-- the error number of a refused write; -EINVAL if there is no file
abbrev pub write_error : Object → Seat → ℤ
write_error (behind.File file) at = access_error file.value.state.want.write at
write_error other at = negsuc 21

-- the seat is a call in which a show was begun
abbrev pub IsShowing : Seat → Type 0
IsShowing (seat.Show inside) = Unit {0}
IsShowing other = ⊥

-- the seat is a running call
abbrev pub IsRunning : Seat → Type 0
IsRunning (seat.Call inside) = inside.call.phase ≡ Running
IsRunning (seat.Show inside) = inside.call.phase ≡ Running
IsRunning other = ⊥

-- the object is not a file, or the seat is not a running call
abbrev pub IsNotAsked : Seat → Object → Type 0
IsNotAsked at (behind.File file) = IsNotRunning at
IsNotAsked at other = Unit {0}

-- the object is not a file, or the seat is not a call that began a show
abbrev pub IsNotShowing : Seat → Object → Type 0
IsNotShowing (seat.Show inside) (behind.File file) = ⊥
IsNotShowing at object = Unit {0}

-- the file now has the text of these bytes
abbrev pub Keeps : List ℕ → Object → Object → Type 0
Keeps shown (behind.File old) (behind.File new) = (new.value.post ≡ old.value.post)
    × (new.value.state ≡ record old.value.state { text = Some (text_of shown) })
Keeps shown old new = ⊥

-- the seat is a call that began a show, and the file now has this text
abbrev pub HasShown : List ℕ → Place → Place → Type 0
HasShown shown old new = IsShowing old.seat × (new.seat ≡ old.seat) × Keeps shown old.object new.object

-- these are the bytes of the file's text from the offset on, at most this many
abbrev pub TextFrom : Object → ℕ → ℕ → List ℕ → Type 0
TextFrom (behind.File file) offset most bytes = IsSome file.value.state.text
    × (bytes ≡ slice (text_in_file file.value.state) offset most)
TextFrom other offset most bytes = ⊥

-- why no text is copied: the file has none, or the object is not a file
abbrev pub HasNoText : Object → Refusal → Type 0
HasNoText (behind.File file) why = (why ≡ Invalid) × (file.value.state.text ≡ None)
HasNoText other why = why ≡ Invalid

-- the file was opened for writing
abbrev pub MayWrite : Object → Type 0
MayWrite (behind.File file) = IsTrue file.value.state.want.write
MayWrite other = ⊥

-- the slot's event number was loaded now, and differs from that of the last show, or not, as this says
abbrev pub Polled : Bool → Object → Object → Type 0
Polled changed (behind.File old) (behind.File new) =
    NumberTaken old.value.post new.value.post.found new.value.post
    × (is_changed old.value.state (Some new.value.post.found) ≡ changed)
    × (new.value.state ≡ old.value.state)
Polled changed old new = ⊥

-- the seat is a running call, and the file was polled
abbrev pub WasPolled : Bool → Place → Place → Type 0
WasPolled changed old new = IsRunning old.seat × (new.seat ≡ old.seat) × Polled changed old.object new.object
