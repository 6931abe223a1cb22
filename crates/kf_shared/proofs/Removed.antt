-- What the receipts of a removal have seen of its doom, and of the unlinks.
use Rattle.std.proofs.Common.{◌≡◌, Bool, true, false, List, [], ◌∷◌, ◌++◌, refl, sym, ap, ◌∙◌, subst}
use Rattle.std.specs.Prelude.{MatchBool, Result, Ok, Err, IfOk}
use Rattle.std.proofs.lemmas.List.{append-nil, append_assoc, same_from_push}
use mathlib.Core.List.{IsPrefix}
use Rattle.kf_core.specs.declared.command.Command.TheVariants.{Doom}
use Rattle.kf_core.specs.declared.key.Key.{Key}
use Rattle.kf_core.specs.PostOrder.{IsPostOrder}
use Rattle.kf_core.specs.Tree.{is_linked}
use Rattle.kf_words.specs.declared.note.Note.{Note}
use Rattle.kf_words.specs.declared.note.Note.TheVariants.{Did, LockReleased}
use Rattle.kf_words.specs.Callers.{TableId, Handle}
use Rattle.kf_words.specs.Nodes.{MasterState}
use Rattle.kf_words.specs.Notes.{history_of}
use Rattle.kf_shared.specs.Locked.{Locked, Adds, IsWhole, history}
use Rattle.kf_shared.specs.Noted.{tree_in}
use Rattle.kf_shared.specs.Removal.{keys_of, AreHolds, DoomHolds, DoomNoted, CameAfter}
use Rattle.kf_shared.specs.Receipts.{EndsAt, IsDoomList, owners_of}
use Rattle.kf_shared.specs.Sections.{IsTaken, SawItsRemoval, SawMore, WasAdded, WasDone, WasEnded, WasFinished, WasRemoved, WasRemovedIn, AllEnded, Last, doom_note, unlink_note, unlinks_of, note_where}
use Rattle.kf_shared.proofs.Finished.{last_ended}
use Rattle.kf_shared.proofs.Notes.{tree_told}
use Rattle.kf_shared.proofs.Receipts.{receipts_end, receipts_listed, same_owner_keys}
use Rattle.kf_shared.proofs.Hearing.{prefix_trans, more_told}

-- what was added between two sights was also added between an earlier sight and a later one
pub added_on : (before mid after last : Handle) (found added : List Note) → SawMore before.seen mid.seen → SawMore after.seen last.seen → WasAdded mid.seen after.seen found added → WasAdded before.seen last.seen found added
added_on before mid after last found added first more w = record {
  came = prefix_trans (history_of before.seen) (history_of mid.seen) found (more_told before.seen mid.seen first) w.came;
  next = prefix_trans ((found ++ added) ++ LockReleased ∷ []) (history_of after.seen) (history_of last.seen) w.next (more_told after.seen last.seen more);
}

pub finished_on : (before mid after last : Handle) → mid.key ≡ before.key → SawMore before.seen mid.seen → SawMore after.seen last.seen → WasFinished mid after → WasFinished before last
finished_on before mid after last is first more w =
    let on : WasFinished' = (w.0, record { taken = w.1.taken; section = added_on before mid after last w.0 _ first more w.1.section }) in
    subst (λ k. (found : List Note) × WasDone before.seen last.seen found (unlink_note (tree_in found) k)) is on
  where
    WasFinished' : Type 0
    WasFinished' = (found : List Note) × WasDone before.seen last.seen found (unlink_note (tree_in found) mid.key)

pub keys_ended : (old : Locked) (before after : List Handle) → WasEnded old before after → keys_of after ≡ keys_of before
keys_ended old before after e = same_owner_keys after before e.owners

-- the last receipt has seen what was added before the unlock
pub saw_removal : {Such : Handle → Type 0} (old new : Locked) (key : Key) (removing ended receipts : List Handle) → Adds old new (Did (Doom key)) → Last Such removing → WasEnded new removing ended → AllEnded ended receipts
    → owners_of receipts ≡ owners_of ended → Last (SawItsRemoval (history old) key (keys_of receipts)) receipts
saw_removal old new key removing ended receipts noted l e finished owners =
    let its = e.seen l.0 l.1 l.2 in
    let r = last_ended its.0 receipts its.1 (subst (λ c. AllEnded c receipts) its.2 finished) in (
      r.0,
      r.1,
      r.2,
      (
        e.gone,
        subst (IsPrefix e.gone) (sym (same_owner_keys receipts removing (owners ∙ e.owners))) e.first,
        subst (λ n. IsPrefix n (history_of r.1.seen))
            (its.3 ∙ ap (λ n. n ++ LockReleased ∷ []) (ap (λ h. h ++ unlinks_of e.gone) noted ∙ append_assoc (history old) (Did (Doom key) ∷ []) (unlinks_of e.gone)))
            (more_told its.1.seen r.1.seen r.3),
      ),
    )

-- what a doom added to the history
pub doom_added : (old new : Locked) (key : Key) → DoomNoted old new key → history new ≡ history old ++ doom_note old.state.tree key
doom_added old new key noted = go (is_linked old.state.tree key) noted
  where
    go : (b : Bool) → MatchBool b (Adds old new (Did (Doom key))) (history new ≡ history old) → history new ≡ history old ++ note_where b (Did (Doom key))
    go true e = e
    go false e = e ∙ sym (append-nil (history old))

-- a doom, the unlock, and the waits
module _ (old new : Locked) (hold : Handle) (removing ended receipts : List Handle) (m : MasterState) (holds : AreHolds m hold removing) (order : DoomHolds old.state.tree hold removing) (after : CameAfter old hold)
    (noted : DoomNoted old new hold.key) (e : WasEnded new removing ended) (finished : AllEnded ended receipts) (owners : owners_of receipts ≡ owners_of ended) where
  abbrev its : Last (λ last. history_of last.seen ≡ (history new ++ unlinks_of e.gone) ++ LockReleased ∷ []) ended
  its = e.seen holds.0 holds.1 holds.2

  -- what the given hold had seen is a beginning of the old history
  came : IsPrefix (history_of hold.seen) (history old)
  came = go (is_linked old.state.tree hold.key) order after noted
    where
      go : (b : Bool) → MatchBool b (IsPostOrder old.state.tree hold.key (keys_of removing)) (removing ≡ hold ∷ []) → (b ≡ true → IsPrefix (history_of hold.seen) (history old))
          → MatchBool b (Adds old new (Did (Doom hold.key))) (history new ≡ history old) → IsPrefix (history_of hold.seen) (history old)
      go true o a n = a refl
      go false o a n = subst (IsPrefix (history_of hold.seen)) n
          (subst (λ (h : Handle). IsPrefix (history_of h.seen) (history new)) (same_from_push holds.0 [] holds.1 hold (sym holds.2 ∙ o ∙ (let r : hold ∷ [] ≡ [] ++ hold ∷ [] = refl in r))).1 (e.came holds.0 holds.1 holds.2))

  same_owners : owners_of receipts ≡ owners_of removing
  same_owners = owners ∙ e.owners

  pub was_removed_in : Last (WasRemovedIn (history old) old.state.tree hold (keys_of receipts)) receipts
  was_removed_in =
      let l = last_ended its.0 receipts its.1 (subst (λ c. AllEnded c receipts) its.2 finished) in (
        l.0,
        l.1,
        l.2,
        (
          e.gone,
          subst (IsPrefix e.gone) (sym (same_owner_keys receipts removing same_owners)) e.first,
          record {
            came = came;
            next = subst (λ n. IsPrefix n (history_of l.1.seen))
                (its.3 ∙ ap (λ n. n ++ LockReleased ∷ []) (ap (λ h. h ++ unlinks_of e.gone) (doom_added old new hold.key noted) ∙ append_assoc (history old) (doom_note old.state.tree hold.key) (unlinks_of e.gone)))
                (more_told its.1.seen l.1.seen l.3);
          },
        ),
      )

  -- the last receipt has the given hold's seat
  pub receipts_at_end : EndsAt receipts hold
  receipts_at_end = receipts_end hold removing [] [] receipts refl refl same_owners m holds

  pub receipts_of_doom : IsDoomList old.state.tree hold.key (keys_of receipts)
  receipts_of_doom = receipts_listed hold removing [] [] receipts refl refl same_owners old.state.tree order

-- the same in terms of the history, if the lock was just taken
pub was_removed : (table : TableId) (old : Locked) (hold : Handle) (receipts : List Handle) → IsWhole table old → IsTaken (history old)
    → Last (WasRemovedIn (history old) old.state.tree hold (keys_of receipts)) receipts → IsDoomList old.state.tree hold.key (keys_of receipts) → Last (WasRemoved hold (keys_of receipts)) receipts
was_removed table old hold receipts whole taken l listed =
    let tree : old.state.tree ≡ tree_in (history old) = tree_told old.state old.claims (history old) whole.told in (
      l.0,
      l.1,
      l.2,
      (
        history old,
        taken,
        subst (λ t. WasRemovedIn (history old) t hold (keys_of receipts) l.1) tree l.3,
        subst (λ t. IsDoomList t hold.key (keys_of receipts)) tree listed,
      ),
    )

pub removed_in : {X E : Type 0} (table : TableId) (old : Locked) (hold : Handle) (items : X → List Handle) (r : Result X E) → IsWhole table old → IsTaken (history old)
    → IfOk r (λ x. Last (WasRemovedIn (history old) old.state.tree hold (keys_of (items x))) (items x)) → IfOk r (λ x. IsDoomList old.state.tree hold.key (keys_of (items x)))
    → IfOk r (λ x. Last (WasRemoved hold (keys_of (items x))) (items x))
removed_in table old hold items (Ok x) whole taken l listed = was_removed table old hold (items x) whole taken l listed
removed_in table old hold items (Err e) whole taken l listed = tt
