-- A file on the board has its own slot as its tag, whatever commands are stored.
use Rattle.std.proofs.Common.{◌≡◌, inl, inr, ℕ, refl, ap, sym, ◌∙◌, subst, Bool, true, false, cond, List, [], ◌∷◌, slice_set}
use Rattle.std.specs.Prelude.{Option, None, Some, slice_get, map}
use Rattle.std.specs.Option.{option_map}
use Rattle.std.proofs.lemmas.Option.{same_Some, none-some, slice_get-map}
use Rattle.kf_core.specs.declared.key.Key.{Key}
use Rattle.kf_core.specs.declared.records.Record.{Record}
use Rattle.kf_core.specs.declared.command.Command.{Command}
use Rattle.kf_core.specs.declared.command.Command.TheVariants.{Create, Activate, Doom, Unlink, Rename, Hide, Show}
use Rattle.kf_core.specs.Tree.{Tree, is_linked}
use Rattle.kf_core.specs.Commands.{after, replay, new_record, activated_record, doomed_record, hidden_record, moved_record}
use Rattle.kf_plain.specs.PlainInside.{IsTagged, IsTaggedNode}
use Rattle.kf_core.proofs.Lists.{after_set}

abbrev pub AllTagged : Tree → Type 0
AllTagged t = (slot : ℕ) (o : Option Record) → slice_get t slot ≡ Some o → IsTagged o

pub tagged_set : (t : Tree) (slot : ℕ) (new : Option Record) → IsTagged new → AllTagged t → AllTagged (slice_set t slot new)
tagged_set t slot new n h i o e = elim (after_set t slot i new o e) [ inl s ↦ subst IsTagged s n | inr s ↦ h i o s ]

tagged_mapped : (t : Tree) (g : Record → Record) → ((r : Record) → (g r).key ≡ r.key) → ((r : Record) → (g r).node ≡ r.node) → AllTagged t → AllTagged (map (option_map g) t)
tagged_mapped t g k n h i o e = go (slice_get t i) refl (sym (slice_get-map (option_map g) t i) ∙ e)
  where
    tagged : (r : Record) → IsTagged (Some r) → IsTagged (Some (g r))
    tagged r x = subst (λ slot. IsTaggedNode slot (g r).node) (ap (λ (key : Key). key.slot) (sym (k r))) (subst (λ node. IsTaggedNode r.key.slot node) (sym (n r)) x)

    go : (p : Option (Option Record)) → slice_get t i ≡ p → option_map (option_map g) p ≡ Some o → IsTagged o
    go None f e = absurd (none-some o e)
    go (Some None) f e = subst IsTagged (same_Some None o e) tt
    go (Some (Some r)) f e = subst IsTagged (same_Some (Some (g r)) o e) (tagged r (h i (Some r) f))

abbrev IsTaggedCommand : Command → Type 0
IsTaggedCommand (Create key parent name node is_live) = IsTaggedNode key.slot node
IsTaggedCommand (Activate key) = Unit {0}
IsTaggedCommand (Doom key) = Unit {0}
IsTaggedCommand (Unlink key) = Unit {0}
IsTaggedCommand (Rename key dir name) = Unit {0}
IsTaggedCommand (Hide key) = Unit {0}
IsTaggedCommand (Show key) = Unit {0}

chosen_key : (b : Bool) (f : Record → Record) (r : Record) → (f r).key ≡ r.key → (cond b (f r) r).key ≡ r.key
chosen_key true f r e = e
chosen_key false f r e = refl

chosen_node : (b : Bool) (f : Record → Record) (r : Record) → (f r).node ≡ r.node → (cond b (f r) r).node ≡ r.node
chosen_node true f r e = e
chosen_node false f r e = refl

cleared : (b : Bool) (t u : Tree) → AllTagged t → AllTagged u → AllTagged (cond b t u)
cleared true t u h g = h
cleared false t u h g = g

pub tagged_after : (t : Tree) (c : Command) → IsTaggedCommand c → AllTagged t → AllTagged (after t c)
tagged_after t (Create key parent name node is_live) x h = tagged_set t key.slot (Some (new_record key parent name node is_live)) x h
tagged_after t (Activate key) x h = tagged_mapped t _ (λ r. chosen_key _ activated_record r refl) (λ r. chosen_node _ activated_record r refl) h
tagged_after t (Doom key) x h = tagged_mapped t _ (λ r. chosen_key _ doomed_record r refl) (λ r. chosen_node _ doomed_record r refl) h
tagged_after t (Unlink key) x h = cleared (is_linked t key) (slice_set t key.slot None) t (tagged_set t key.slot None tt h) h
tagged_after t (Rename key dir name) x h = tagged_mapped t _ (λ r. chosen_key _ (moved_record dir name) r refl) (λ r. chosen_node _ (moved_record dir name) r refl) h
tagged_after t (Hide key) x h = tagged_mapped t _ (λ r. chosen_key _ (hidden_record true) r refl) (λ r. chosen_node _ (hidden_record true) r refl) h
tagged_after t (Show key) x h = tagged_mapped t _ (λ r. chosen_key _ (hidden_record false) r refl) (λ r. chosen_node _ (hidden_record false) r refl) h

abbrev pub AreTaggedCommands : List Command → Type 0
AreTaggedCommands [] = Unit {0}
AreTaggedCommands (c ∷ cs) = IsTaggedCommand c × AreTaggedCommands cs

pub tagged_replay : (t : Tree) (cs : List Command) → AreTaggedCommands cs → AllTagged t → AllTagged (replay t cs)
tagged_replay t [] x h = h
tagged_replay t (c ∷ cs) x h = tagged_replay (after t c) cs x.1 (tagged_after t c x.0 h)

pub no_tags : (keys : List Key) → AreTaggedCommands (map Unlink keys)
no_tags [] = tt
no_tags (key ∷ keys) = (tt, no_tags keys)
