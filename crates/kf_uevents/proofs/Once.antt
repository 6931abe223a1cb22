-- A node is reported once as added, and once as removed.
use Rattle.std.proofs.Common.{◌≡◌, ℕ, zero, suc, refl, ap, ◌∙◌, Bool, true, false, cond, length}
use Rattle.std.specs.Prelude.{Option, None, Some, not, ◌&&◌}
use Rattle.std.specs.Option.{option_map, option_map_or}
use Rattle.kf_core.specs.declared.key.Key.{Key}
use Rattle.kf_core.specs.declared.records.Record.{Record}
use Rattle.kf_core.specs.declared.command.Command.TheVariants.{Activate, Doom}
use Rattle.kf_core.specs.Commands.{after, activated_record, doomed_record}
use Rattle.kf_core.specs.Tree.{Tree, in_subtree, meets, parent_of, record_at}
use Rattle.kf_core.proofs.Climbs.{same_key_self}
use Rattle.kf_core.proofs.FoundRecords.{found_in}
use Rattle.kf_core.proofs.Mapped.{find_mapped}
use Rattle.kf_table.proofs.ChildTests.{both}
use Rattle.kf_uevents.specs.declared.uevent.Action.{Action}
use Rattle.kf_uevents.specs.declared.uevent.Action.TheVariants.{Add, Remove}
use Rattle.kf_uevents.specs.Devices.{AddedOnce, NeverBoth, RemovedOnce}
use Rattle.kf_uevents.specs.News.{is_told, tells}

-- a key is in its own subtree
itself : (t : Tree) (key : Key) → in_subtree t key key ≡ true
itself t key = go (length t)
  where
    go : (n : ℕ) → meets (parent_of t) n key (Some key) ≡ true
    go zero = same_key_self key
    go (suc n) = rw (same_key_self key) refl

-- whether a record is reported
abbrev by_record : Action → Option Record → Bool
by_record action o = option_map_or (tells action) (option_map (λ (r : Record). r.marks) o) false

module _ (t : Tree) (key : Key) where
  abbrev risen : Record → Record
  risen r = cond (in_subtree t key r.key && not r.marks.doomed) (activated_record r) r

  abbrev marked : Record → Record
  marked r = cond (in_subtree t key r.key) (doomed_record r) r

  same_risen : (r : Record) → (risen r).key ≡ r.key
  same_risen r = elim (in_subtree t key r.key && not r.marks.doomed) as (λ b. (cond b (activated_record r) r).key ≡ r.key) [ true ↦ refl | false ↦ refl ]

  same_marked : (r : Record) → (marked r).key ≡ r.key
  same_marked r = elim (in_subtree t key r.key) as (λ b. (cond b (doomed_record r) r).key ≡ r.key) [ true ↦ refl | false ↦ refl ]

  -- the key's record is in the subtree of the key
  inside : (r : Record) → record_at t key ≡ Some r → in_subtree t key r.key ≡ true
  inside r e = ap (in_subtree t key) (found_in t key r e).1 ∙ itself t key

  added : is_told t Add key ≡ true → (is_told (after t (Activate key)) Add key ≡ false) × (is_told (after t (Activate key)) Remove key ≡ true)
  added told = go (record_at t key) refl told
    where
      go : (o : Option Record) → record_at t key ≡ o → by_record Add o ≡ true
          → (is_told (after t (Activate key)) Add key ≡ false) × (is_told (after t (Activate key)) Remove key ≡ true)
      go None e h = absurd (let no : false ≡ true = h in cc)
      go (Some r) e h =
          let marks = both (not r.marks.activated) (not r.marks.doomed) h in
          let chosen : (in_subtree t key r.key && not r.marks.doomed) ≡ true = rw (inside r e, marks.1) refl in
          let at : record_at (after t (Activate key)) key ≡ Some (activated_record r) =
          find_mapped t risen same_risen key ∙ ap (option_map risen) e ∙ ap (λ b. Some (cond b (activated_record r) r)) chosen in
          (ap (by_record Add) at, ap (by_record Remove) at ∙ marks.1)

  removed : (is_told (after t (Doom key)) Remove key ≡ false) × (is_told (after t (Doom key)) Add key ≡ false)
  removed = go (record_at t key) refl
    where
      last : (b : Bool) → (b && false) ≡ false
      last true = refl
      last false = refl

      go : (o : Option Record) → record_at t key ≡ o → (is_told (after t (Doom key)) Remove key ≡ false) × (is_told (after t (Doom key)) Add key ≡ false)
      go None e =
          let at : record_at (after t (Doom key)) key ≡ None = find_mapped t marked same_marked key ∙ ap (option_map marked) e in
          (ap (by_record Remove) at, ap (by_record Add) at)
      go (Some r) e =
          let at : record_at (after t (Doom key)) key ≡ Some (doomed_record r) =
          find_mapped t marked same_marked key ∙ ap (option_map marked) e ∙ ap (λ b. Some (cond b (doomed_record r) r)) (inside r e) in
          (ap (by_record Remove) at ∙ last r.marks.activated, ap (by_record Add) at ∙ last (not r.marks.activated))

  never : is_told t Remove key ≡ true → is_told t Add key ≡ false
  never told = go (record_at t key) told
    where
      go : (o : Option Record) → by_record Remove o ≡ true → by_record Add o ≡ false
      go None h = refl
      go (Some r) h = ap (λ a. not a && not r.marks.doomed) (both r.marks.activated (not r.marks.doomed) h).0

pub added_once : AddedOnce
added_once t key told = added t key told

pub removed_once : RemovedOnce
removed_once t key = removed t key

pub never_both : NeverBoth
never_both t key told = never t key told
