-- What the board shows when a letter is given a file, has one, or loses it.
use Rattle.std.proofs.Common.{◌≡◌, inl, inr, ℕ, refl, ap, sym, ◌∙◌, subst, false, List, [], ◌∷◌, ◌++◌, slice_set}
use Rattle.std.specs.Prelude.{Option, None, Some, slice_get, is_some, IsTrue, Result, Ok, Err, not}
use Rattle.std.specs.Option.{option_map, option_and_then, ok_or}
use Rattle.std.proofs.lemmas.Option.{slice_get-map}
use Rattle.kf_core.specs.declared.key.Key.{Key}
use Rattle.kf_core.specs.declared.caller.Phase.{Phase}
use Rattle.kf_core.specs.declared.refusal.Refusal.{Refusal}
use Rattle.kf_plain.specs.declared.nodes.visits.BoardFile.{BoardFile}
use Rattle.kf_plain.specs.declared.nodes.hiding.BoardToken.{BoardToken}
use Rattle.kf_world.specs.Bounded.{hold_count}
use Rattle.kf_plain.specs.Nodes.{Nodes, Waits, with_spent}
use Rattle.kf_plain.specs.Plain.{Plain, OpenPlainFile, file_at, holder_count, with_file}
use Rattle.kf_plain.specs.PlainInside.{plain_of, plain_file, plain_files, plain_tokens, IsWholeBoard, IsTaggedNode, IsOpened, IsShort}
use Rattle.kf_core.specs.Phases.{is_waiting}
use Rattle.kf_core.specs.Refusals.{unless}
use Rattle.kf_core.specs.declared.caller.Phase.TheVariants.{Spent}
use Rattle.kf_core.specs.declared.refusal.Refusal.TheVariants.{Busy, Invalid}
use Rattle.kf_tree.specs.Paths.{and_then, seen}
use Rattle.kf_pages.specs.declared.contents.Want.{Want}
use Rattle.kf_pages.specs.Files.{FileState, tag_of}
use Rattle.kf_pages.specs.Held.{Held}
use Rattle.kf_plain.specs.PlainFiles.{opened_node, open_held, opened_key, new_open, known_file}
use Rattle.kf_plain.specs.Settled.{ok_unless, IsWhyFrom, IsRefusedFrom}
use Rattle.kf_plain.proofs.Holding.{AreHeld, held_opened, held_closed}
use Rattle.kf_core.proofs.FoundRecords.{found_in}
use Rattle.std.proofs.lemmas.List.{map-set}
use Rattle.kf_core.proofs.Lists.{length_set}
use Rattle.kf_plain.proofs.Wholes.{held_part, whole_held}
use Rattle.kf_plain.proofs.BoardShows.{spent_whole, spent_shown, leads_shown, why_shown}

module _ (b : Plain) (n n' : Nodes) (events events' : List ℕ) (texts : List (List ℕ)) (files : List (Option BoardFile)) (tokens : List (Option BoardToken)) (is : plain_of n events texts files tokens ≡ b) (whole : IsWholeBoard n events texts files tokens) where
  -- an open for a letter that had no file
  module _ (file : ℕ) (path : List ℕ) (want : Want) (index : Option BoardFile) (at : slice_get files file ≡ Some index) (empty : is_some index ≡ false) (same_posts : events' ≡ events) where
    no_file : slice_get files file ≡ Some None
    no_file = at ∙ ap (λ o. Some o) (none index empty)
      where
        none : (o : Option BoardFile) → is_some o ≡ false → o ≡ None
        none None e = refl
        none (Some f) e = absurd (cc)

    free_letter : file_at b file ≡ None
    free_letter = subst (λ (y : Plain). file_at y file ≡ None) is (ap (option_and_then (λ (o : Option OpenPlainFile). o)) (slice_get-map (option_map plain_file) files file ∙ ap (option_map (option_map plain_file)) no_file))

    leads_to : (result : Result Key Refusal) → opened_node b.log (holder_count b) b.limit path want ≡ result → opened_key b file path want ≡ result
    leads_to result e = ap (λ (o : Option OpenPlainFile). and_then (ok_unless (unless (not (is_some o)) Busy) file) (λ _. opened_node b.log (holder_count b) b.limit path want)) free_letter ∙ e

    pub not_opened : (refusal : Refusal) → IsWhyFrom (seen n.log.tree n.log.root path) (opened_node n.log (hold_count n.callers) n.limit path want) refusal → (keys : List Key) → n' ≡ with_spent n keys → IsRefusedFrom (open_held b file path) (opened_key b file path want) b refusal (plain_of n' events' texts files tokens)
    not_opened refusal why keys e = (go (why_shown b n n' events events' texts files tokens is whole (λ l. seen l.tree l.root path) (λ l c m. opened_node l c m path want) refusal why), ap (λ ev. plain_of n' ev texts files tokens) same_posts ∙ spent_shown b n n' events events' texts files tokens is whole keys e)
      where
        go : IsWhyFrom (seen b.log.tree b.log.root path) (opened_node b.log (holder_count b) b.limit path want) refusal → IsWhyFrom (open_held b file path) (opened_key b file path want) refusal
        go (inl x) = inl (leads_to (Err refusal) x)
        go (inr x) = inr (x.0, (x.1.0, ap (λ (o : Option OpenPlainFile). and_then (ok_unless (unless (not (is_some o)) Busy) file) (λ _. seen b.log.tree b.log.root path)) free_letter ∙ x.1.1))

    pub not_opened_whole : (keys : List Key) → n' ≡ with_spent n keys → IsWholeBoard n' events' texts files tokens
    not_opened_whole keys e = subst (λ ev. IsWholeBoard n' ev texts files tokens) (sym same_posts) (spent_whole b n n' events events' texts files tokens is whole keys e)

    module _ (f : BoardFile) (new : IsOpened n path want f) (held : (phase : Phase) × IsTrue (is_waiting phase) × (n' ≡ record { log = n.log; last = n.last; limit = n.limit; callers = n.callers ++ record { key = f.key; phase = phase } ∷ [] })) where
      its_tag : f.file.tag ≡ f.key.slot
      its_tag =
          let found = found_in n.log.tree f.key new.node new.known in
          let tagged = whole.tagged new.node.key.slot (Some new.node) found.0 in
          ap (λ (o : Held ℕ). o.tag) new.new ∙ ap tag_of new.is_file.2 ∙ subst (λ node. IsTaggedNode new.node.key.slot node) new.is_file.2 tagged ∙ ap (λ (k : Key). k.slot) found.1

      pub opened_whole : IsWholeBoard n' events' texts (slice_set files file (Some f)) tokens
      opened_whole = subst (λ ev. IsWholeBoard n' ev texts (slice_set files file (Some f)) tokens) (sym same_posts)
          (whole_held n n' events events texts texts files tokens (slice_set files file (Some f)) whole (ap (λ (m : Nodes). m.log) held.2) refl refl (length_set files file (Some f))
          (subst (λ (m : Nodes). AreHeld m.callers (slice_set files file (Some f)) tokens) (sym held.2)
          (held_opened n.callers files tokens (held_part n events texts files tokens whole) file f held.0 no_file held.1 (ap (λ (o : Held ℕ). o.hold) new.new) its_tag (subst (λ (o : Held ℕ). IsShort o.state.text) (sym new.new) tt))))

      pub opened_shown : (key : Key) × (opened_key b file path want ≡ Ok key) × (plain_of n' events' texts (slice_set files file (Some f)) tokens ≡ with_file b file (Some (new_open key want)))
      opened_shown = (
        f.key,
        leads_to (Ok f.key) (leads_shown b n n' events events' texts files tokens is whole (λ l c m. opened_node l c m path want) (Ok f.key) new.leads),
        ap (λ ev. plain_of n' ev texts (slice_set files file (Some f)) tokens) same_posts
            ∙ ap (λ m. plain_of m events texts (slice_set files file (Some f)) tokens) held.2
            ∙ ap (λ fs. let v : Plain = record { log = n.log; last = n.last; limit = n.limit; events = events; texts = texts; files = fs; tokens = plain_tokens tokens } in v) (map-set (option_map plain_file) files file (Some f) ∙ ap (λ (s : FileState). slice_set (plain_files files) file (Some (let v : OpenPlainFile = record { key = f.key; kept = s } in v))) (ap (λ (o : Held ℕ). o.state) new.new))
            ∙ ap (λ (y : Plain). with_file y file (Some (new_open f.key want))) is,
      )

  -- the file of a letter
  module _ (file : ℕ) (f : BoardFile) (at : slice_get files file ≡ Some (Some f)) where
    pub known_shown : known_file b file ≡ Ok (plain_file f)
    known_shown = ap (λ (o : Option OpenPlainFile). ok_or o Invalid) (subst (λ (y : Plain). file_at y file ≡ Some (plain_file f)) is (ap (option_and_then (λ (o : Option OpenPlainFile). o)) (slice_get-map (option_map plain_file) files file ∙ ap (option_map (option_map plain_file)) at)))

    pub its_waits : Waits n.callers f.file.hold f.key
    its_waits = (whole.held file f at).waits

    pub closed_whole : n' ≡ record { log = n.log; last = n.last; limit = n.limit; callers = slice_set n.callers f.file.hold (record { key = f.key; phase = Spent }) } → IsWholeBoard n' events texts (slice_set files file None) tokens
    closed_whole e = whole_held n n' events events texts texts files tokens (slice_set files file None) whole (ap (λ (m : Nodes). m.log) e) refl refl (length_set files file None)
        (subst (λ (m : Nodes). AreHeld m.callers (slice_set files file None) tokens) (sym e) (held_closed n.callers files tokens (held_part n events texts files tokens whole) file f at))

    pub closed_shown : n' ≡ record { log = n.log; last = n.last; limit = n.limit; callers = slice_set n.callers f.file.hold (record { key = f.key; phase = Spent }) } → plain_of n' events texts (slice_set files file None) tokens ≡ with_file b file None
    closed_shown e = ap (λ m. plain_of m events texts (slice_set files file None) tokens) e
        ∙ ap (λ fs. let v : Plain = record { log = n.log; last = n.last; limit = n.limit; events = events; texts = texts; files = fs; tokens = plain_tokens tokens } in v) (map-set (option_map plain_file) files file None)
        ∙ ap (λ (y : Plain). with_file y file None) is

  pub unknown_shown : (file : ℕ) → slice_get files file ≡ Some None → known_file b file ≡ Err Invalid
  unknown_shown file at = ap (λ (o : Option OpenPlainFile). ok_or o Invalid) (subst (λ (y : Plain). file_at y file ≡ None) is (ap (option_and_then (λ (o : Option OpenPlainFile). o)) (slice_get-map (option_map plain_file) files file ∙ ap (option_map (option_map plain_file)) at)))
