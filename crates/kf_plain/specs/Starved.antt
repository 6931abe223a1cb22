-- The reply if memory is lacking.
use Rattle.std.specs.Prelude.{ℕ, List}
use Rattle.kf_core.specs.declared.refusal.Refusal.TheVariants.{NoMemory}
use Rattle.kf_core.specs.Refusals.{number_of}
use Rattle.kf_script.specs.Requests.{RequestWords, write_file}
use Rattle.kf_script.specs.ReplyText.{fault_text, refusal_text}

-- the reply to a request that lacked memory: for a write the fault of its store, with the number of NoMemory;
-- for any other request the refusal NoMemory
abbrev pub starved_text : RequestWords → List ℕ
starved_text (write_file file text) = fault_text (number_of NoMemory)
starved_text _ = refusal_text NoMemory
