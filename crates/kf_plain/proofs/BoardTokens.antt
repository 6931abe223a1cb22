-- The board keeps the token of a hidden file by slot, and drops it when the file is shown.
use Rattle.std.proofs.Common.{◌≡◌, ℕ, ◌<◌, refl, ap, sym, ◌∙◌, subst, Bool, true, false, List, [], ◌∷◌, ◌++◌, length, slice_set}
use Rattle.std.specs.Prelude.{Option, None, Some, slice_get, is_some, Result, Ok, Err}
use Rattle.std.specs.Option.{option_map, option_and_then, option_map_or, ok_or}
use Rattle.std.proofs.lemmas.Option.{slice_get_within, slice_get-map}
use Rattle.kf_core.specs.declared.key.Key.{Key}
use Rattle.kf_core.specs.declared.records.Record.{Record}
use Rattle.kf_core.specs.declared.refusal.Refusal.{Refusal}
use Rattle.kf_core.specs.declared.command.Command.{Command}
use Rattle.kf_core.specs.declared.command.Command.TheVariants.{Hide, Show}
use Rattle.kf_core.specs.Tree.{is_linked, record_at}
use Rattle.kf_tree.specs.declared.stat.Stat.{Stat}
use Rattle.kf_tree.specs.Stat.{stat_of}
use Rattle.kf_tree.specs.TreeLogs.{TreeLog}
use Rattle.kf_tree.proofs.Opening.{length_after}
use Rattle.kf_plain.specs.declared.nodes.visits.BoardFile.{BoardFile}
use Rattle.kf_plain.specs.declared.nodes.hiding.BoardToken.{BoardToken}
use Rattle.kf_world.specs.Bounded.{hold_count}
use Rattle.kf_plain.specs.Nodes.{Nodes, NoneHides, hidden_on, logged, spent_on}
use Rattle.kf_plain.specs.Plain.{Plain, holder_count, with_commands, with_token, token_at}
use Rattle.kf_plain.specs.PlainInside.{plain_of, plain_files, plain_token, IsWholeBoard}
use Rattle.kf_core.specs.Refusals.{unless, first_cause}
use Rattle.kf_core.specs.declared.refusal.Refusal.TheVariants.{Invalid, NoEntry}
use Rattle.kf_tree.specs.Paths.{and_then, walked, seen}
use Rattle.kf_plain.specs.PlainHide.{hidden_key, with_hidden, has_token, shown_cause, shown_key, with_shown}
use Rattle.kf_plain.specs.Settled.{ok_unless}
use Rattle.kf_plain.proofs.HoldingTokens.{held_hidden, held_shown}
use Rattle.kf_plain.proofs.Holding.{AreHeld}
use Rattle.kf_core.specs.declared.caller.Caller.{Caller}
use Rattle.kf_core.specs.Keys.{same_key}
use Rattle.kf_core.proofs.Climbs.{same_key_self}
use Rattle.kf_core.proofs.FoundRecords.{linked_here}
use Rattle.std.proofs.lemmas.List.{map-set}
use Rattle.kf_core.proofs.Lists.{length_set}
use Rattle.kf_plain.proofs.BoardTags.{AllTagged, tagged_after}
use Rattle.kf_plain.proofs.Wholes.{held_part, whole_tokens}
use Rattle.kf_plain.proofs.BoardShows.{leads_shown}

pub not_a_token : (o : Option BoardToken) → ((t : BoardToken) → o ≡ Some t → ⊥) → o ≡ None
not_a_token None h = refl
not_a_token (Some t) h = absurd (h t refl)

-- if a node's stat is reported, the node is linked
pub stat_linked : (log seen : TreeLog) (key : Key) (s : Stat) → seen ≡ log → ok_or (option_map (stat_of seen.tree) (record_at seen.tree key)) NoEntry ≡ Ok s → is_linked log.tree key ≡ true
stat_linked log seen key s same told = subst (λ (l : TreeLog). is_linked l.tree key ≡ true) same (go (record_at seen.tree key) told)
  where
    go : (o : Option Record) → ok_or (option_map (stat_of seen.tree) o) NoEntry ≡ Ok s → is_some o ≡ true
    go None e = absurd (cc)
    go (Some r) e = refl

module _ (b : Plain) (n n' : Nodes) (events : List ℕ) (texts : List (List ℕ)) (files : List (Option BoardFile)) (tokens : List (Option BoardToken)) (is : plain_of n events texts files tokens ≡ b) (whole : IsWholeBoard n events texts files tokens) where
  tokens_set : (slot : ℕ) (token : Option BoardToken) (c : Command) (callers : List Caller) → n' ≡ record { log = logged n.log (c ∷ []); last = n.last; limit = n.limit; callers = callers } →
      plain_of n' events texts files (slice_set tokens slot token) ≡ with_token (with_commands b (c ∷ [])) slot (option_map plain_token token)
  tokens_set slot token c callers e =
      ap (λ m. plain_of m events texts files (slice_set tokens slot token)) e
      ∙ ap (λ ks. let v : Plain = record { log = logged n.log (c ∷ []); last = n.last; limit = n.limit; events = events; texts = texts; files = plain_files files; tokens = ks } in v) (map-set (option_map plain_token) tokens slot token)
      ∙ ap (λ (y : Plain). with_token (with_commands y (c ∷ [])) slot (option_map plain_token token)) is

  pub token_inside : (key : Key) → is_linked n.log.tree key ≡ true → key.slot < length tokens
  token_inside key linked = let r = linked_here n.log.tree key linked in
      subst (λ m. key.slot < m) (sym whole.a_token_each) (subst (λ (k : Key). k.slot < length n.log.tree) r.2 (slice_get_within n.log.tree r.0.key.slot (Some r.0) r.1))

  -- one more token
  module _ (t : BoardToken) (hidden : n' ≡ record { log = logged n.log (Hide t.key ∷ []); last = n.last; limit = n.limit; callers = n.callers ++ hidden_on t.key ∷ [] }) where
    pub whole_hidden : is_linked n.log.tree t.key ≡ true → t.hold ≡ length n.callers → NoneHides n.callers t.key.slot → IsWholeBoard n' events texts files (slice_set tokens t.key.slot (Some t))
    whole_hidden linked hold first = whole_tokens n n' events texts files tokens (slice_set tokens t.key.slot (Some t)) whole
        (ap (λ (m : Nodes). length m.log.tree) hidden ∙ length_after n.log.tree (Hide t.key))
        (subst (λ (m : Nodes). AllTagged m.log.tree) (sym hidden) (tagged_after n.log.tree (Hide t.key) tt whole.tagged))
        (length_set tokens t.key.slot (Some t))
        (subst (λ (m : Nodes). AreHeld m.callers files (slice_set tokens t.key.slot (Some t))) (sym hidden)
        (held_hidden n.callers files tokens (held_part n events texts files tokens whole) t first hold (token_inside t.key linked)))

    pub shown_hidden : (path : List ℕ) → hidden_key n.log (hold_count n.callers) n.limit path ≡ Ok t.key →
        (key : Key) × (hidden_key b.log (holder_count b) b.limit path ≡ Ok key) × (plain_of n' events texts files (slice_set tokens t.key.slot (Some t)) ≡ with_hidden b key)
    shown_hidden path leads = (t.key, leads_shown b n n' events events texts files tokens is whole (λ l c m. hidden_key l c m path) (Ok t.key) leads, tokens_set t.key.slot (Some t) (Hide t.key) _ hidden)

  -- the token of the key that a path leads to
  module _ (path : List ℕ) (key : Key) (walk : walked n.log.tree n.log.root path ≡ Ok key) where
    led_shown : is_linked n.log.tree key ≡ true → (has : Bool) → has_token b key ≡ has → shown_key b path ≡ ok_unless (unless has Invalid) key
    led_shown linked has e = ap (λ (r : Result Key Refusal). and_then r (λ k. ok_unless (shown_cause b k) k)) (subst (λ (y : Plain). walked y.log.tree y.log.root path ≡ Ok key) is walk)
        ∙ ap (λ l. ok_unless (first_cause (unless l NoEntry ∷ unless (has_token b key) Invalid ∷ [])) key) (subst (λ (y : Plain). is_linked y.log.tree key ≡ true) is linked)
        ∙ ap (λ h. ok_unless (first_cause (unless h Invalid ∷ [])) key) e ∙ last has
      where
        last : (h : Bool) → ok_unless (first_cause (unless h Invalid ∷ [])) key ≡ ok_unless (unless h Invalid) key
        last true = refl
        last false = refl

    has_from : (o : Option BoardToken) → slice_get tokens key.slot ≡ Some o → has_token b key ≡ option_map_or (λ k. same_key k key) (option_map plain_token o) false
    has_from o at = ap (λ (k : Option Key). option_map_or (λ x. same_key x key) k false)
        (subst (λ (y : Plain). token_at y key.slot ≡ option_map plain_token o) is (ap (option_and_then (λ (k : Option Key). k)) (slice_get-map (option_map plain_token) tokens key.slot ∙ ap (option_map (option_map plain_token)) at)))

    pub not_shown : is_linked n.log.tree key ≡ true → (o : Option BoardToken) → slice_get tokens key.slot ≡ Some o → ((t : BoardToken) → o ≡ Some t → same_key t.key key ≡ false) → shown_key b path ≡ Err Invalid
    not_shown linked None at other = led_shown linked false (has_from None at)
    not_shown linked (Some t) at other = led_shown linked false (has_from (Some t) at ∙ other t refl)

    -- one token fewer
    module _ (t : BoardToken) (at : slice_get tokens key.slot ≡ Some (Some t)) (own : t.key ≡ key)
        (shown : n' ≡ record { log = logged n.log (Show t.key ∷ []); last = n.last; limit = n.limit; callers = slice_set n.callers t.hold (spent_on t.key) }) where
      pub whole_shown : IsWholeBoard n' events texts files (slice_set tokens key.slot None)
      whole_shown = whole_tokens n n' events texts files tokens (slice_set tokens key.slot None) whole
          (ap (λ (m : Nodes). length m.log.tree) shown ∙ length_after n.log.tree (Show t.key))
          (subst (λ (m : Nodes). AllTagged m.log.tree) (sym shown) (tagged_after n.log.tree (Show t.key) tt whole.tagged))
          (length_set tokens key.slot None)
          (subst (λ (m : Nodes). AreHeld m.callers files (slice_set tokens key.slot None)) (sym shown) (held_shown n.callers files tokens (held_part n events texts files tokens whole) key.slot t at))

      pub shown_shown : is_linked n.log.tree key ≡ true → (k : Key) × (shown_key b path ≡ Ok k) × (plain_of n' events texts files (slice_set tokens key.slot None) ≡ with_shown b k)
      shown_shown linked = (
        key,
        led_shown linked true (has_from (Some t) at ∙ ap (λ k. same_key k key) own ∙ same_key_self key),
        tokens_set key.slot None (Show t.key) _ shown ∙ ap (λ k. with_token (with_commands b (Show k ∷ [])) key.slot None) own,
      )
