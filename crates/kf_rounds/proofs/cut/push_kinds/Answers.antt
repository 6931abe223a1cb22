-- Each line that has bytes gives one kind.
use Rattle.std.proofs.Common.{◌≡◌, ℕ, ◌+◌, ◌<◌, false, List, [], ◌∷◌, ◌++◌, map, filter, length, arith, ap, sym, ◌∙◌, length-append, rules}
use Rattle.std.proofs.lemmas.List.{length-map}
use Rattle.std.specs.Prelude.{◌==◌}
use Rattle.kf_script.specs.Lines.{has_bytes}
use Rattle.kf_rounds.proofs.cut.push_kinds.Goals as goal

-- a line is left, so there are fewer kinds so far than lines
fewer : {L V : Type 0} (view : L → V) (kind : List ℕ → V) (told : List L) (line : List ℕ) (later left lines : List (List ℕ)) → map view told ++ map kind (filter has_bytes left) ≡ map kind lines
    → left ≡ line ∷ later → (length line == 0) ≡ false → length told < length lines
fewer view kind told [] later left lines e split some = absurd (cc)
fewer view kind told (byte ∷ line) later left lines e split some =
    let all = rw split at e in
    let sum : length (map view told) + length (map kind ((byte ∷ line) ∷ filter has_bytes later)) ≡ length (map kind lines) =
    sym (length-append (map view told) (map kind ((byte ∷ line) ∷ filter has_bytes later))) ∙ ap length all in
    omega (arith, sum, length-map told view, length-map (filter has_bytes later) kind, length-map lines kind)

pub returns-in_err-push-clause-fits : goal.returns-in_err-push-clause-fits
returns-in_err-push-clause-fits c = λ fits.
    let (told, room) = c.loop-left.invariant in
    let full = c.in_err-push.ensures.full in
    let here = rw c.in-Some.is at told in
    let some = c.if-not-is_empty.true in
    let less = fewer _ _ c.loop-left.kinds.items _ _ _ _ here c.cut_line.ensures.cut (search rules) in
    let whole = c.loop-left.kinds.ok.0 in
    absurd (omega (arith, fits, room, full, less, whole))
