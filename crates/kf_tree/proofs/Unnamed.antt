-- No node has an empty name, so no walk over an empty name succeeds.
use Rattle.std.proofs.Common.{◌≡◌, ℕ, ap, arith, sym, ◌∙◌, true, false, cond, Bool, refl, List, [], ◌∷◌, length}
use Rattle.std.specs.Prelude.{Option, None, Some, Ok, Err}
use Rattle.std.specs.List.{list_any}
use Rattle.kf_core.specs.declared.key.Key.{Key}
use Rattle.kf_core.specs.declared.records.Record.{Record}
use Rattle.kf_core.specs.declared.refusal.Refusal.TheVariants.{NoEntry, NotDir}
use Rattle.kf_core.specs.Tree.{Tree, record_at, is_dir}
use Rattle.kf_core.specs.Lawful.{Lawful}
use Rattle.kf_core.specs.Paths.{is_empty}
use Rattle.kf_tree.specs.Paths.{and_then, entry_key, found, walk}
use Rattle.kf_table.specs.Children.{child}
use Rattle.kf_tree.specs.Shown.{shown, shown_record}
use Rattle.kf_tree.proofs.Listed.{child_is}
use Rattle.kf_tree.proofs.LiveOnly.{child_shown}

none_refused : (dir : Option Record) (next : Key) → entry_key dir None ≡ Ok next → ⊥
none_refused None next e = absurd (cc)
none_refused (Some dir) next e = elim (is_dir dir.node) as (λ b. cond b (Err NoEntry) (Err NotDir) ≡ Ok next → ⊥) [ true ↦ λ h. absurd (cc) | false ↦ λ h. absurd (cc) ] e

module _ (t : Tree) (root : Key) (lawful : Lawful t root) (live_only : Bool) where
  no_child : (dir : Key) → child t dir [] ≡ None
  no_child dir = elim (child t dir []) as (λ o. child t dir [] ≡ o → o ≡ None) [
    | None ↦ λ e. refl
    | Some r ↦ λ e. (let (inside, parent, name) = child_is t root dir [] r lawful e in
        let some = (lawful.in_directory r dir inside parent).lawful_name.some in
        let none = ap length name in
        absurd (omega (arith, some, none)))
  ] refl

  none_shown : (b : Bool) → shown_record b None ≡ None
  none_shown true = refl
  none_shown false = refl

  nothing_found : (dir next : Key) → found (shown live_only t) dir [] ≡ Ok next → ⊥
  nothing_found dir next e =
      let none = child_shown live_only t root dir [] lawful ∙ ap (shown_record live_only) (no_child dir) ∙ none_shown live_only in
      none_refused (record_at (shown live_only t) dir) next (sym (ap (entry_key (record_at (shown live_only t) dir)) none) ∙ e)

  -- a walk that succeeds goes over no empty name
  pub walked_named : (names : List (List ℕ)) (start end : Key) → walk (shown live_only t) start names ≡ Ok end → list_any is_empty names ≡ false
  walked_named [] start end e = refl
  walked_named ([] ∷ names) start end e = elim (found (shown live_only t) start []) as (λ r. found (shown live_only t) start [] ≡ r → and_then r (λ next. walk (shown live_only t) next names) ≡ Ok end → list_any is_empty ([] ∷ names) ≡ false) [
    | Ok next ↦ λ f h. absurd (nothing_found start next f)
    | Err why ↦ λ f h. absurd (cc)
  ] refl e
  walked_named ((byte ∷ bytes) ∷ names) start end e = elim (found (shown live_only t) start (byte ∷ bytes)) as (λ r. and_then r (λ next. walk (shown live_only t) next names) ≡ Ok end → list_any is_empty names ≡ false) [
    | Ok next ↦ λ h. walked_named names next end h
    | Err why ↦ λ h. absurd (cc)
  ] e
