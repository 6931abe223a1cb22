-- The end of a removal's critical section: the first of its nodes are unlinked, and its last hold or receipt
-- has then seen that.
use Rattle.std.proofs.Common.{◌≡◌, ℕ, zero, suc, ◌+◌, ◌<◌, inl, inr, List, [], ◌∷◌, ◌++◌, length, drop, get_or, slice_set, refl, sym, ap, ◌∙◌, subst, arith}
use Rattle.std.proofs.lemmas.List.{append_assoc, length-append, same_from_push}
use mathlib.Core.List.{IsPrefix}
use Rattle.kf_core.specs.declared.command.Command.TheVariants.{Unlink}
use Rattle.kf_core.specs.declared.key.Key.{Key}
use Rattle.kf_words.specs.declared.note.Note.{Note}
use Rattle.kf_words.specs.declared.note.Note.TheVariants.{Did, LockReleased}
use Rattle.kf_words.specs.declared.sight.Seen.{Seen}
use Rattle.kf_words.specs.Callers.{TableId, Handle, having_seen}
use Rattle.kf_words.specs.Notes.{history_of}
use Rattle.kf_shared.specs.Locked.{Locked, Adds, history}
use Rattle.kf_shared.specs.Receipts.{AreOf, Owner, owner, owners_of}
use Rattle.kf_shared.specs.Removal.{keys_of}
use Rattle.kf_shared.specs.Sections.{HasMet, WasEnded, unlinks_of}
use Rattle.kf_shared.proofs.Receipts.{keys_more, owners_more, same_owner_keys}

-- if two lists of handles have the same owners, they are of the same table
pub same_owner_tables : (table : TableId) (xs ys : List Handle) → owners_of ys ≡ owners_of xs → AreOf table xs → AreOf table ys
same_owner_tables table [] [] e a i d l = a i d l
same_owner_tables table [] (y ∷ ys) e a i d l = absurd (let n = ap length e in omega (arith, n))
same_owner_tables table (x ∷ xs) [] e a i d l = absurd (omega (arith, l))
same_owner_tables table (x ∷ xs) (y ∷ ys) e a zero d l = ap (λ (os : List Owner). (get_or os 0 (owner x)).seat.table) e ∙ a 0 x (omega arith)
same_owner_tables table (x ∷ xs) (y ∷ ys) e a (suc i) d l = same_owner_tables table xs ys (ap (λ (os : List Owner). drop 1 os) e) (λ j f m. a (suc j) f (omega (arith, m))) i d (omega (arith, l))

-- if a list of handles is of a table, so is its last one
pub last_of : (table : TableId) (items front : List Handle) (last : Handle) → items ≡ front ++ last ∷ [] → AreOf table items → last.table ≡ table
last_of table items front last e a = go front (subst (AreOf table) e a)
  where
    go : (front : List Handle) → AreOf table (front ++ last ∷ []) → last.table ≡ table
    go [] h = h 0 last (omega arith)
    go (x ∷ xs) h = go xs (λ i d l. h (suc i) d (omega (arith, l)))

-- setting the last item of a list leaves the items before it
pub last_set : (i : ℕ) (xs : List Handle) (last new : Handle) → i + 1 ≡ length xs → last ≡ get_or xs i last → (front : List Handle) × (xs ≡ front ++ last ∷ []) × (slice_set xs i new ≡ front ++ new ∷ [])
last_set i [] last new h is = absurd (omega (arith, h))
last_set zero (x ∷ []) last new h is = ([], ap (λ y. y ∷ []) (sym is), refl)
last_set zero (x ∷ y ∷ xs) last new h is = absurd (omega (arith, h))
last_set (suc i) (x ∷ xs) last new h is = (let r = last_set i xs last new (omega (arith, h)) is in (x ∷ r.0, ap (λ ys. x ∷ ys) r.1, ap (λ ys. x ∷ ys) r.2))

-- if the last of a list has met the Master, the list still has the same owners
pub met_owners : (found : List Note) (seen : Seen) (before after : List Handle) → HasMet found seen before after → owners_of after ≡ owners_of before
met_owners found seen before after h = elim h [
  | inl none ↦ ap owners_of none.1
  | inr m ↦ ap owners_of m.3 ∙ owners_more m.0 (having_seen seen m.1 ∷ []) ∙ sym (owners_more m.0 (m.1 ∷ [])) ∙ sym (ap owners_of m.2)
]

pub met_pushed : (front before after : List Handle) (last met : Handle) (seen : Seen) → before ≡ front ++ last ∷ [] → met ≡ having_seen seen last → after ≡ front ++ met ∷ [] → owners_of after ≡ owners_of before
met_pushed front before after last met seen was is push =
    ap owners_of push ∙ ap (λ h. owners_of (front ++ h ∷ [])) is ∙ owners_more front (having_seen seen last ∷ []) ∙ sym (owners_more front (last ∷ [])) ∙ sym (ap owners_of was)

-- if the last of a list has met the Master, it is also the last of the list with others before it
pub met_behind : (found : List Note) (seen : Seen) (others before after : List Handle) (last : Handle) (front : List Handle) → before ≡ front ++ last ∷ [] → after ≡ front ++ having_seen seen last ∷ [] → IsPrefix (history_of last.seen) found
    → HasMet found seen (others ++ before) (others ++ after)
met_behind found seen others before after last front was is came = inr (
  others ++ front,
  last,
  ap (λ l. others ++ l) was ∙ sym (append_assoc others front (last ∷ [])),
  ap (λ l. others ++ l) is ∙ sym (append_assoc others front (having_seen seen last ∷ [])),
  came,
)

-- the same behind more others, if the list is not empty
pub met_far : (found : List Note) (seen : Seen) (others more before after : List Handle) → 0 < length before → HasMet found seen before after → HasMet found seen (others ++ (more ++ before)) (others ++ (more ++ after))
met_far found seen others more before after some h = elim h [
  | inl none ↦ absurd (omega (arith, none.0, some))
  | inr m ↦ met_behind found seen others (more ++ before) (more ++ after) m.1 (more ++ m.0)
      (ap (λ l. more ++ l) m.2 ∙ sym (append_assoc more m.0 (m.1 ∷ []))) (ap (λ l. more ++ l) m.3 ∙ sym (append_assoc more m.0 (having_seen seen m.1 ∷ []))) m.4
]

unlinks_more : (keys : List Key) (key : Key) → unlinks_of (keys ++ key ∷ []) ≡ unlinks_of keys ++ Did (Unlink key) ∷ []
unlinks_more [] key = refl
unlinks_more (k ∷ keys) key = ap (λ notes. Did (Unlink k) ∷ notes) (unlinks_more keys key)

-- one more unlink was noted
pub next_gone : (first before after : List Note) (gone : List Key) (key : Key) → before ≡ first ++ unlinks_of gone → after ≡ before ++ Did (Unlink key) ∷ [] → after ≡ first ++ unlinks_of (gone ++ key ∷ [])
next_gone first before after gone key so noted =
    noted ∙ ap (λ l. l ++ Did (Unlink key) ∷ []) so ∙ append_assoc first (unlinks_of gone) (Did (Unlink key) ∷ []) ∙ ap (λ l. first ++ l) (sym (unlinks_more gone key))

pub next_unlinked : (first before after : List Note) (receipts new : List Handle) (hold parted : Handle) → before ≡ first ++ unlinks_of (keys_of receipts) → after ≡ before ++ Did (Unlink hold.key) ∷ [] → parted.key ≡ hold.key
    → new ≡ receipts ++ parted ∷ [] → after ≡ first ++ unlinks_of (keys_of new)
next_unlinked first before after receipts new hold parted so noted key push =
    next_gone first before after (keys_of receipts) hold.key so noted
    ∙ ap (λ ks. first ++ unlinks_of ks) (ap (λ k. keys_of receipts ++ k ∷ []) (sym key) ∙ sym (keys_more receipts (parted ∷ [])) ∙ sym (ap keys_of push))

-- the keys of the receipts are the first of all keys, also with the next key added
pub first_keys : (receipts rest holds : List Handle) → owners_of receipts ++ owners_of rest ≡ owners_of holds → IsPrefix (keys_of receipts) (keys_of holds)
first_keys receipts rest holds e = (keys_of rest, sym (keys_more receipts rest) ∙ same_owner_keys (receipts ++ rest) holds (owners_more receipts rest ∙ e))

pub first_keys_next : (receipts rest holds : List Handle) (next : Handle) → owners_of receipts ++ owner next ∷ owners_of rest ≡ owners_of holds → IsPrefix (keys_of receipts ++ next.key ∷ []) (keys_of holds)
first_keys_next receipts rest holds next e = (
  keys_of rest,
  append_assoc (keys_of receipts) (next.key ∷ []) (keys_of rest) ∙ sym (keys_more receipts (next ∷ rest)) ∙ same_owner_keys (receipts ++ next ∷ rest) holds (owners_more receipts (next ∷ rest) ∙ e),
)

owners_long : (xs : List Handle) → length (owners_of xs) ≡ length xs
owners_long [] = refl
owners_long (x ∷ xs) = (let n = owners_long xs in omega (arith, n))

-- the last hold met the Master, the first nodes were unlinked, the release of the lock was noted, and the
-- last hold met the Master again
pub ended_turn : (old mid cut shut : Locked) (seen last_seen : Seen) (removing holds rest ended : List Handle) (gone : List Key) → HasMet (history old) seen removing holds → history mid ≡ history old
    → owners_of rest ≡ owners_of holds → IsPrefix gone (keys_of holds) → history cut ≡ history mid ++ unlinks_of gone → Adds cut shut LockReleased → HasMet (history shut) last_seen rest ended → history_of last_seen ≡ history shut
    → WasEnded old removing ended
ended_turn old mid cut shut seen last_seen removing holds rest ended gone first same owners prefix noted released again still = record {
  owners = met_owners (history shut) last_seen rest ended again ∙ as_before;
  gone = gone;
  first = subst (IsPrefix gone) (same_owner_keys holds removing (met_owners (history old) seen removing holds first)) prefix;
  came = λ front last e. (elim first [
    | inl none ↦ absurd (let n = sym none.0 ∙ ap length e ∙ length-append front (last ∷ []) in omega (arith, n))
    | inr m ↦ subst (λ (h : Handle). IsPrefix (history_of h.seen) (history old)) (same_from_push m.0 front m.1 last (sym m.2 ∙ e)).1 m.4
  ]);
  seen = λ front last e. (elim again [
    | inl none ↦ absurd (let n = sym none.0 ∙ sym (owners_long rest) ∙ ap length (as_before ∙ ap owners_of e ∙ owners_more front (last ∷ [])) ∙ length-append (owners_of front) (owner last ∷ []) in omega (arith, n))
    | inr m ↦ (
      m.0,
      having_seen last_seen m.1,
      m.3,
      still ∙ released ∙ ap (λ l. l ++ LockReleased ∷ []) (noted ∙ ap (λ l. l ++ unlinks_of gone) same),
    )
  ]);
}
  where
    as_before : owners_of rest ≡ owners_of removing
    as_before = owners ∙ met_owners (history old) seen removing holds first
