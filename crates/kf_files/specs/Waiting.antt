-- Visits to a node of a shared tree by one hold. About callbacks only their results are stated.
use Rattle.std.specs.Prelude.{◌≡◌, ◌≢◌, ◌⊎◌, ℕ, true, List, [], ◌∷◌, length, take, Result, Ok}
use Rattle.kf_core.specs.Calls.{CallView, Visit, Visits}
use Rattle.kf_words.specs.Callers.{Handle, SeatId, id_of, seat_view, IsSameSeat, Entered, WasTurned, WasLeft}
use Rattle.kf_words.specs.Layout.{keeps_out}
use Rattle.kf_words.specs.Runs.{WasLetInLive, WasATryUndoneThenWake, WasALeaveThenWake}
use Rattle.kf_pages.specs.declared.ops.Fault.{Fault}
use Rattle.kf_pages.specs.Binary.{front_of}
use Rattle.kf_files.specs.Opened.{Opened}

module _ {G : Type 0} where
  -- one try of this hold's seat found the key live, and gave the call
  abbrev pub lets_in : G → Handle → Handle → G → Type 0
  lets_in _ hold call _ =
      IsSameSeat hold call × Entered hold call × WasLetInLive (seat_view hold) (seat_view call)

  -- one try of this hold's seat found a word that keeps it out, and was undone
  abbrev pub turns_away : G → Handle → Handle → G → Type 0
  turns_away _ hold back _ =
      IsSameSeat hold back × WasTurned hold back × WasATryUndoneThenWake (seat_view hold) (seat_view back)

  -- one step of the call's seat ended the call
  abbrev pub lets_go : G → Handle → Handle → G → Type 0
  lets_go _ call hold _ =
      IsSameSeat call hold × WasLeft call hold × WasALeaveThenWake (seat_view call) (seat_view hold)

-- the call as its callback sees it
abbrev pub call_view : Handle → CallView SeatId
call_view call = record { caller = id_of call; key = call.key; phase = call.phase }

-- a visit by this hold; `idle` holds if nothing is done, and `does` holds of what is done
abbrev pub WaitVisits : {Done : Type 0} → Type 0 → (Done → Type 0) → Handle → Handle → Visit Done → Type 0
WaitVisits idle does hold hold' =
    Visits {Guard = Unit {0}} lets_in turns_away lets_go call_view idle does tt hold tt hold'

-- what a write of these bytes may return: what a store of the first 4,096 of them may return; without bytes
-- there is no store, and the write returns 0
abbrev pub MayStore : (ℕ → List ℕ → Result ℕ Fault → Type 0) → ℕ → List ℕ → Result ℕ Fault → Type 0
MayStore stores tag [] answer = answer ≡ Ok 0
MayStore stores tag (byte ∷ bytes) answer = stores tag (take 4096 (byte ∷ bytes)) answer

-- what a read at an offset may return, if `out'` is the buffer after it; if the buffer has no room there is
-- no callback, and the read returns 0
abbrev pub MayReadAt : (ℕ → ℕ → ℕ → Result (List ℕ) Fault → Type 0) → ℕ → ℕ → List ℕ → List ℕ
    → Result ℕ Fault → Type 0
MayReadAt reads_at tag offset [] out' answer = answer ≡ Ok 0
MayReadAt reads_at tag offset (byte ∷ out) out' answer =
    reads_at tag offset (length (byte ∷ out)) (front_of answer out')

-- what a write of these bytes at an offset may return; without bytes there is no callback, and the write
-- returns 0
abbrev pub MayWriteAt : (ℕ → ℕ → List ℕ → Result ℕ Fault → Type 0) → ℕ → ℕ → List ℕ
    → Result ℕ Fault → Type 0
MayWriteAt writes_at tag offset [] answer = answer ≡ Ok 0
MayWriteAt writes_at tag offset (byte ∷ bytes) answer = writes_at tag offset (byte ∷ bytes) answer

-- the file's last load found an event number other than this one, or its last try found a word that keeps it
-- out
abbrev pub HasChanged : ℕ → Opened Handle → Type 0
HasChanged number file = (file.post.found ≢ number) ⊎ (keeps_out file.hold.found ≡ true)
