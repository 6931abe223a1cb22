-- What a search, an insert or a removal does with pairs in rising order, restated for the map that they make.
use Rattle.std.proofs.Common.{◌≡◌, ℕ, List, Option, Some, None, Result, Ok, Err, length, drop, sym, ap, ◌∙◌, subst, arith, inl, inr}
use Rattle.std.specs.Prelude.{IfSome, IfNone, IfErr, OnOk, OnErr, if◌then◌else◌}
use Rattle.std.specs.FinMap as map_of
use Rattle.kf_core.specs.declared.key.Key.{Key}
use Rattle.kf_core.specs.declared.refusal.Refusal.{Refusal}
use Rattle.kf_core.specs.declared.refusal.Refusal.TheVariants.{Exists, NoMemory}
use Rattle.kf_index.specs.Entries.{AreAbove}
use Rattle.kf_index.specs.Pairs.{Pairs, IsRising, IsFirstAbove}
use Rattle.kf_index.specs.Places.{no_entry}
use Rattle.kf_index.specs.Chunks.{HasKey, LacksName, IsPut, WasRefused, IsTakenOut}
use Rattle.kf_index.proofs.Found.{entries_of, get_at_place, get_in_gap}
use Rattle.kf_index.proofs.Edited.{entries-insert, rising_insert, entries-remove, rising_remove, remove_absent}
use Rattle.kf_index.proofs.Above.{all_above}

module _ (pairs : Pairs) (name : List ℕ) where
  pub got : (result : Option Key) → IsRising pairs → IfSome result (λ key. HasKey pairs name key) → IfNone result (LacksName pairs name)
      → result ≡ map_of.get (entries_of pairs) name
  got (Some key) rising found none = ap Some found.read ∙ sym (get_at_place pairs rising name found.at found.place no_entry)
  got None rising found none = sym (get_in_gap pairs name none.at none.gap)

  module _ (more : Pairs) (key : Key) {X : Type 0} where
    pub rising_put : (result : Result X Refusal) → IsRising pairs → OnOk result (IsPut pairs name key more) → OnErr result (more ≡ pairs) → IsRising more
    rising_put (Ok x) rising put same = subst IsRising (sym put.put) (rising_insert pairs name put.at put.gap key rising)
    rising_put (Err e) rising put same = subst IsRising (sym same) rising

    pub added : (result : Result X Refusal) → OnOk result (IsPut pairs name key more) → OnOk result (entries_of more ≡ map_of.insert (entries_of pairs) name key)
    added (Ok x) put = ap entries_of put.put ∙ entries-insert pairs name put.at put.gap key
    added (Err e) put = tt

    pub was_absent : (result : Result X Refusal) → OnOk result (IsPut pairs name key more) → OnOk result (map_of.get (entries_of pairs) name ≡ None)
    was_absent (Ok x) put = get_in_gap pairs name put.at put.gap
    was_absent (Err e) put = tt

  refused_for : (refusal : Refusal) → IsRising pairs → WasRefused pairs name refusal
      → refusal ≡ (if map_of.contains_key (entries_of pairs) name then Exists else NoMemory)
  refused_for refusal rising (inl there) = rw (get_at_place pairs rising name there.1.0 there.1.1 no_entry) there.0
  refused_for refusal rising (inr starved) = rw (get_in_gap pairs name starved.1.at starved.1.gap) starved.0

  pub refused : {X : Type 0} (result : Result X Refusal) → IsRising pairs → IfErr result (WasRefused pairs name)
      → IfErr result (λ refusal. refusal ≡ (if map_of.contains_key (entries_of pairs) name then Exists else NoMemory))
  refused (Ok x) rising why = tt
  refused (Err refusal) rising why = refused_for refusal rising why

  module _ (left : Pairs) where
    pub was_there : (result : Option Key) → IsRising pairs → IfSome result (λ key. IsTakenOut pairs name key left) → IfNone result (LacksName pairs name)
        → result ≡ map_of.get (entries_of pairs) name
    was_there (Some key) rising out none = ap Some out.read ∙ sym (get_at_place pairs rising name out.at out.place no_entry)
    was_there None rising out none = sym (get_in_gap pairs name none.at none.gap)

    pub rising_left : (result : Option Key) → IsRising pairs → IfSome result (λ key. IsTakenOut pairs name key left) → IfNone result (left ≡ pairs) → IsRising left
    rising_left (Some key) rising out same = subst IsRising (sym out.taken) (rising_remove pairs rising name out.at out.place)
    rising_left None rising out same = subst IsRising (sym same) rising

    pub removed : (result : Option Key) → IsRising pairs → IfSome result (λ key. IsTakenOut pairs name key left) → IfNone result (LacksName pairs name)
        → IfNone result (left ≡ pairs) → entries_of left ≡ map_of.remove (entries_of pairs) name
    removed (Some key) rising out none same = ap entries_of out.taken ∙ entries-remove pairs rising name out.at out.place
    removed None rising out none same = ap entries_of same ∙ remove_absent pairs name none.at none.gap

pub listed : (pairs : Pairs) → IsRising pairs → (bound : Option (List ℕ)) (all : Pairs) → (at : ℕ) × (IsFirstAbove pairs bound at × (all ≡ drop at pairs))
    → AreAbove (entries_of pairs) bound all
listed pairs rising bound all found =
    subst (AreAbove (entries_of pairs) bound) (sym found.1.1) (all_above pairs rising (length pairs) bound found.0 (omega arith) found.1.0)
