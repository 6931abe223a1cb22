-- An empty list of links says that no directory has anything in it, as in the tree that has only the root.
use Rattle.std.proofs.Common.{◌≡◌, inl, inr, ap, sym, ◌∙◌, [], ℕ, zero, suc}
use Rattle.std.specs.Prelude.{None, Some, slice_get, replicate}
use Rattle.std.proofs.lemmas.Option.{same_Some, none-some}
use Rattle.kf_core.specs.declared.key.Key.{Key}
use Rattle.kf_core.specs.declared.records.Record.{Record}
use Rattle.kf_core.specs.Commands.{root_alone}
use Rattle.kf_core.specs.Lawful.{root_record}
use Rattle.kf_core.specs.Tree.{IsIn}
use Rattle.kf_core.proofs.FoundRecords.{found_in}
use Rattle.kf_core.proofs.Lists.{after_set}
use Rattle.kf_live.specs.Live.{Say}

-- an empty table has no record
no_record : (n i : ℕ) (r : Record) → slice_get (replicate n None) i ≡ Some (Some r) → ⊥
no_record zero i r h = none-some (Some r) h
no_record (suc n) zero r h = none-some r (same_Some _ _ h)
no_record (suc n) (suc i) r h = no_record n i r h

-- the only record is the root's
only_root : (n : ℕ) (root : Key) (r : Record) → IsIn (root_alone n root) r → r ≡ root_record root
only_root n root r is = elim (after_set (replicate n None) root.slot r.key.slot (Some (root_record root)) (Some r) is) [
  | inl e ↦ sym (same_Some _ _ e)
  | inr there ↦ absurd (no_record n r.key.slot r there)
]

pub said_alone : (n : ℕ) (root : Key) → Say [] (root_alone n root)
said_alone n root = record {
  told = λ dir name r stands live. absurd (none-some dir (sym (ap (λ (x : Record). x.parent) (only_root n root r (found_in (root_alone n root) r.key r stands.known).0)) ∙ stands.directory));
  known = λ dir name found is. absurd (none-some found is);
}
