-- How a request is settled: by what it does, or by a refusal after which all is as before.
use Rattle.std.specs.Prelude.{◌≡◌, ◌⊎◌, List, ℕ, Option, Some, None, Result, Ok, Err}
use Rattle.kf_core.specs.declared.refusal.Refusal.{Refusal}
use Rattle.kf_core.specs.declared.refusal.Refusal.TheVariants.{NoMemory}
use Rattle.kf_script.specs.ReplyText.{refusal_text}
use Rattle.kf_plain.specs.Plain.{Plain}

-- this value, if there is no cause against it; otherwise the cause
abbrev pub ok_unless : {X : Type 0} → Option Refusal → X → Result X Refusal
ok_unless None x = Ok x
ok_unless (Some refusal) x = Err refusal

-- what is done with what the request leads to; if that is refused, the request is refused too, and nothing
-- changes
abbrev pub Settled : {X : Type 0} → Result X Refusal → (X → Type 0) → Plain → List ℕ → Plain → Type 0
Settled (Ok x) does before reply now = does x
Settled (Err refusal) does before reply now = (reply ≡ refusal_text refusal) × (now ≡ before)

-- nothing refuses it
abbrev pub Leads : {X : Type 0} → Result X Refusal → Type 0
Leads {X} leads = (x : X) × (leads ≡ Ok x)

-- why a call was refused: what it leads to is refused with this; or memory was lacking, and nothing refuses
-- the call as far as `held`
abbrev pub IsWhyFrom : {X Y : Type 0} → Result Y Refusal → Result X Refusal → Refusal → Type 0
IsWhyFrom held leads refusal = (leads ≡ Err refusal) ⊎ ((refusal ≡ NoMemory) × Leads held)

-- the same; but if memory was lacking, nothing else refuses the call at all
abbrev pub IsWhy : {X : Type 0} → Result X Refusal → Refusal → Type 0
IsWhy leads refusal = IsWhyFrom leads leads refusal

-- a call of the board was refused, and nothing changed
abbrev pub IsRefusedFrom : {X Y : Type 0} → Result Y Refusal → Result X Refusal → Plain → Refusal → Plain
    → Type 0
IsRefusedFrom held leads before refusal now = IsWhyFrom held leads refusal × (now ≡ before)

-- the same; but if memory was lacking, nothing else refuses the call at all
abbrev pub IsRefusedBy : {X : Type 0} → Result X Refusal → Plain → Refusal → Plain → Type 0
IsRefusedBy leads before refusal now = IsRefusedFrom leads leads before refusal now
