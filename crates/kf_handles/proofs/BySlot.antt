-- Tokens are put into their slots and taken out of them, and all of them are of one table.
use Rattle.std.proofs.Common.{◌≡◌, ℕ, List, Option, None, Some, refl, subst, slice_set}
use Rattle.std.specs.Prelude.{IfSome, slice_get}
use Rattle.std.proofs.lemmas.Option.{get_or_from_slice_get, slice_get_within}
use Rattle.std.proofs.lemmas.List.{set-set}
use Rattle.std.proofs.lemmas.List.Elements.{All-set}
use Rattle.kf_core.specs.declared.key.Key.{Key}
use Rattle.kf_words.specs.Callers.{TableId, Handle}
use Rattle.kf_handles.specs.Kept.{AreTokensOf}

-- to empty a slot and then fill it is the same as to fill it
pub put_back : (tokens taken put : List (Option Handle)) (key at : Key) (place : Option Handle)
    → taken ≡ slice_set tokens key.slot None → at ≡ key → put ≡ slice_set taken at.slot place
    → put ≡ slice_set tokens key.slot place
put_back tokens taken put key at place out same back = rw (back, out, same, set-set) refl

-- if no token was taken out, only the slot that is filled changes
pub put_new : (tokens taken put : List (Option Handle)) (key at : Key) (place : Option Handle)
    → taken ≡ tokens → at ≡ key → put ≡ slice_set taken at.slot place → put ≡ slice_set tokens key.slot place
put_new tokens taken put key at place out same back = rw (back, out, same) refl

-- all tokens are of the table after one of the table is put into a slot
pub put_of_table : (table : TableId) (tokens put : List (Option Handle)) (slot : ℕ) (token : Handle)
    → AreTokensOf table tokens → token.table ≡ table → put ≡ slice_set tokens slot (Some token)
    → AreTokensOf table put
put_of_table table tokens put slot token all is back =
    rw back (All-set (λ place. IfSome place (λ t. t.table ≡ table)) tokens slot (Some token) is all)

-- all tokens are of the table after a slot is emptied
pub taken_of_table : (table : TableId) (tokens taken : List (Option Handle)) (slot : ℕ)
    → AreTokensOf table tokens → taken ≡ slice_set tokens slot None → AreTokensOf table taken
taken_of_table table tokens taken slot all out =
    rw out (All-set (λ place. IfSome place (λ t. t.table ≡ table)) tokens slot None tt all)

-- the token in a slot is of the table
pub table_of : (table : TableId) (tokens : List (Option Handle)) (slot : ℕ) (token : Handle)
    → AreTokensOf table tokens → slice_get tokens slot ≡ Some (Some token) → token.table ≡ table
table_of table tokens slot token all there =
    let At : Option Handle → Type 0 = λ place. IfSome place (λ t. t.table ≡ table) in
    subst At (get_or_from_slice_get tokens slot (Some token) None there)
    (all slot None (slice_get_within tokens slot (Some token) there))
