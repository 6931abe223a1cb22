-- What a read returns, stated in terms of what its callback shows.
use Rattle.std.proofs.Common.{◌≡◌, ℕ, sym, subst, refl, List, ◌++◌, length, drop, Result, Ok, Err}
use Rattle.kf_core.specs.Calls.{Visit}
use Rattle.kf_pages.specs.declared.ops.FileError.{FileError}
use Rattle.kf_pages.specs.Files.{FileState, Gives, Reads, ShowResult}

-- if one statement about the result of a read follows from another, it may take the place of the other
pub reads_answered : {V : Visit ShowResult → Type 0} {A A' : Result (List ℕ) FileError → Type 0} {state state' : FileState} {offset count : ℕ}
    → ((answer : Result (List ℕ) FileError) → A answer → A' answer) → Reads V A state offset count state' → Reads V A' state offset count state'
reads_answered f r = record {
  denied = λ no. let d = r.denied no in (d.0, f _ d.1, d.2);
  buffered = λ text yes far is. let b = r.buffered text yes far is in (b.0, f _ b.1, b.2);
  shown = λ yes anew. let s = r.shown yes anew in (s.0, s.1, f _ s.2, s.3);
}

pub gives_error : (out : List ℕ) (error : FileError) (answer : Result (List ℕ) FileError) → answer ≡ Err error → Gives out (Err error) out answer
gives_error out error answer is = subst (Gives out (Err error) out) (sym is) (refl, refl)

pub gives_bytes : (out bytes out' : List ℕ) (answer : Result (List ℕ) FileError) → answer ≡ Ok bytes → out' ≡ bytes ++ drop (length bytes) out → Gives out (Ok (length bytes)) out' answer
gives_bytes out bytes out' answer is put = subst (Gives out (Ok (length bytes)) out') (sym is) (refl, put)
