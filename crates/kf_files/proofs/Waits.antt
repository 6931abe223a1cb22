-- Visits by a guard that keeps nothing, and what is stated about them.
use Rattle.std.proofs.Common.{ℕ, List, None, Some, Option, Result, refl}
use Rattle.kf_core.specs.Calls.{Visit, unvisited, tried, Visits}
use Rattle.kf_words.specs.Callers.{Handle}
use Rattle.kf_pages.specs.declared.ops.FileError.{FileError}
use Rattle.kf_core.specs.declared.key.Node.{Node}
use Rattle.kf_core.specs.declared.refusal.Refusal.{Refusal}
use Rattle.kf_pages.specs.declared.contents.Want.{Want}
use Rattle.kf_pages.specs.Files.{FileState, Opens, Reads, ShowResult}
use Rattle.kf_files.specs.Waiting.{lets_in, turns_away, lets_go, call_view, WaitVisits}

module _ {G Done : Type 0} {idle idle' : Type 0} {does does' : Done → Type 0} (guard guard' : G) (hold hold' : Handle) (rests : idle → idle') (did : (d : Done) → does d → does' d) where
  -- a visit by some guard that keeps nothing, with less stated about it
  pub visits_told : (v : Visit Done) → Visits {Guard = G} lets_in turns_away lets_go call_view idle does guard hold guard' hold' v → WaitVisits idle' does' hold hold' v
  visits_told unvisited v = (refl, v.1, rests v.2)
  visits_told (tried None) v = (v.0, rests v.1)
  visits_told (tried (Some d)) v = record { call = v.call; ended = v.ended; inside = tt; entered = v.entered; running = v.running; did = did d v.did; given_back = v.given_back; left = v.left }

-- less may be stated about an open's visit
pub opens_told : {V V' : Visit (Unit {0}) → Type 0} {node : Node} {want : Want} {refused : Option Refusal} → ((v : Visit (Unit {0})) → V v → V' v) → Opens V node want refused → Opens V' node want refused
opens_told f o = record {
  dir = λ is. let d = o.dir is in (f unvisited d.0, d.1);
  link = λ target is. let l = o.link target is in (f unvisited l.0, l.1);
  file = λ mode tag is. let r = o.file mode tag is in (r.0, f (tried r.0) r.1, r.2);
}

-- less may be stated about a read's visit
pub reads_told : {V V' : Visit ShowResult → Type 0} {A : Result (List ℕ) FileError → Type 0} {state state' : FileState} {offset count : ℕ} → ((v : Visit ShowResult) → V v → V' v) → Reads V A state offset count state' → Reads V' A state offset count state'
reads_told f r = record {
  denied = λ no. let d = r.denied no in (f unvisited d.0, d.1, d.2);
  buffered = λ text yes far is. let b = r.buffered text yes far is in (f unvisited b.0, b.1, b.2);
  shown = λ yes anew. let s = r.shown yes anew in (s.0, f (tried s.0) s.1, s.2, s.3);
}
