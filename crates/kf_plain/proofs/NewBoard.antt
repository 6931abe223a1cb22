-- The parts of a new board fit each other, and show a new board.
use Rattle.std.proofs.Common.{◌≡◌, ℕ, zero, suc, ◌+◌, ◌≤◌, refl, ap, arith, sym, ◌∙◌, subst, false, List, [], ◌∷◌, length, replicate}
use Rattle.std.specs.Prelude.{Option, None, Some, slice_get, count_by, map}
use Rattle.std.specs.Option.{option_map}
use Rattle.std.proofs.lemmas.Option.{same_Some, none-some}
use Rattle.kf_core.specs.Limits.{most_slots}
use Rattle.kf_core.specs.declared.records.Record.{Record}
use Rattle.kf_plain.specs.declared.nodes.visits.BoardFile.{BoardFile}
use Rattle.kf_plain.specs.declared.nodes.hiding.BoardToken.{BoardToken}
use Rattle.kf_plain.specs.Nodes.{Nodes, new_nodes, root_key}
use Rattle.kf_plain.specs.Plain.{Plain, new_board, OpenPlainFile, is_on, token_count}
use Rattle.kf_plain.specs.PlainInside.{plain_of, plain_file, plain_files, plain_tokens, IsWholeBoard, IsTagged}
use Rattle.std.proofs.lemmas.List.{length-replicate}
use Rattle.kf_core.specs.Lawful.{root_record}
use Rattle.kf_plain.proofs.Counts.{none_counted}
use Rattle.kf_core.proofs.Lists.{length_set}
use Rattle.kf_plain.proofs.BoardTags.{AllTagged, tagged_set}

nothing_there : {X : Type 0} (n i : ℕ) (x : X) → slice_get (replicate n (let o : Option X = None in o)) i ≡ Some (Some x) → ⊥
nothing_there zero i x e = none-some (Some x) e
nothing_there (suc n) zero x e = none-some x (same_Some None (Some x) e)
nothing_there (suc n) (suc i) x e = nothing_there n i x e

nothing_tagged : (n : ℕ) → AllTagged (replicate n None)
nothing_tagged zero slot o e = absurd (none-some o e)
nothing_tagged (suc n) zero o e = subst IsTagged (same_Some None o e) tt
nothing_tagged (suc n) (suc slot) o e = nothing_tagged n slot o e

no_file_on : (slot n i : ℕ) (o : Option OpenPlainFile) → slice_get (map (option_map plain_file) (replicate n None)) i ≡ Some o → is_on slot o ≡ false
no_file_on slot zero i o e = absurd (none-some o e)
no_file_on slot (suc n) zero o e = subst (λ p. is_on slot p ≡ false) (same_Some None o e) refl
no_file_on slot (suc n) (suc i) o e = no_file_on slot n i o e

new_whole : (slots holds start : ℕ) → slots ≤ most_slots → IsWholeBoard (new_nodes slots holds start) (replicate slots 1) (replicate slots []) (replicate 26 None) (replicate slots None)
new_whole slots holds start few = record {
  few = rw as_long few;
  an_event_each = length-replicate slots _ ∙ sym as_long;
  a_text_each = length-replicate slots _ ∙ sym as_long;
  a_file_each = length-replicate 26 (let o : Option BoardFile = None in o);
  a_token_each = length-replicate slots (let o : Option BoardToken = None in o) ∙ sym as_long;
  tagged = tagged_set (replicate slots None) 0 (Some (root_record (root_key start))) tt (nothing_tagged slots);
  idle = λ id key phase e. absurd (none-some _ e);
  held = λ file f e. absurd (nothing_there 26 file f e);
  apart = λ one other f g e d same. absurd (nothing_there 26 one f e);
  hidden = λ slot t e. absurd (nothing_there slots slot t e);
  counted = λ slot. sym (none_held (count_by (is_on slot) (plain_files (replicate 26 None))) _ (none_counted (is_on slot) (plain_files (replicate 26 None)) (no_file_on slot 26)) (no_token_in slots slot));
}
  where
    as_long : length (new_nodes slots holds start).log.tree ≡ slots
    as_long = length_set (replicate slots (let o : Option Record = None in o)) 0 _ ∙ length-replicate slots _

    none_held : (a b : ℕ) → a ≡ 0 → b ≡ 0 → a + b ≡ 0
    none_held a b x y = omega (arith, x, y)

    no_token_in : (n slot : ℕ) → token_count (slice_get (plain_tokens (replicate n None)) slot) ≡ 0
    no_token_in zero slot = refl
    no_token_in (suc n) zero = refl
    no_token_in (suc n) (suc slot) = no_token_in n slot

pub whole_new : (slots holds start : ℕ) (n : Nodes) (events : List ℕ) (texts : List (List ℕ)) (files : List (Option BoardFile)) (tokens : List (Option BoardToken)) → slots ≤ most_slots → n ≡ new_nodes slots holds start → events ≡ replicate slots 1 → texts ≡ replicate slots [] → files ≡ replicate 26 None → tokens ≡ replicate slots None → IsWholeBoard n events texts files tokens
whole_new slots holds start n events texts files tokens few a b c d k =
    subst (λ m. IsWholeBoard m events texts files tokens) (sym a) (subst (λ ev. IsWholeBoard (new_nodes slots holds start) ev texts files tokens) (sym b) (subst (λ ts. IsWholeBoard (new_nodes slots holds start) (replicate slots 1) ts files tokens) (sym c)
    (subst (λ fs. IsWholeBoard (new_nodes slots holds start) (replicate slots 1) (replicate slots []) fs tokens) (sym d)
    (subst (λ ks. IsWholeBoard (new_nodes slots holds start) (replicate slots 1) (replicate slots []) (replicate 26 None) ks) (sym k) (new_whole slots holds start few)))))

pub shown_new : (slots holds start : ℕ) (n : Nodes) (events : List ℕ) (texts : List (List ℕ)) (files : List (Option BoardFile)) (tokens : List (Option BoardToken)) → n ≡ new_nodes slots holds start → events ≡ replicate slots 1 → texts ≡ replicate slots [] → files ≡ replicate 26 None → tokens ≡ replicate slots None →
    plain_of n events texts files tokens ≡ new_board slots holds start
shown_new slots holds start n events texts files tokens a b c d k =
    ap (λ m. plain_of m events texts files tokens) a ∙ ap (λ ev. plain_of (new_nodes slots holds start) ev texts files tokens) b ∙ ap (λ ts. plain_of (new_nodes slots holds start) (replicate slots 1) ts files tokens) c
    ∙ ap (λ fs. plain_of (new_nodes slots holds start) (replicate slots 1) (replicate slots []) fs tokens) d
    ∙ ap (λ ks. plain_of (new_nodes slots holds start) (replicate slots 1) (replicate slots []) (replicate 26 None) ks) k
    ∙ ap (λ ks. let v : Plain = record (new_board slots holds start) { tokens = ks } in v) (none_seen slots)
  where
    none_seen : (m : ℕ) → plain_tokens (replicate m None) ≡ replicate m None
    none_seen zero = refl
    none_seen (suc m) = ap (λ ks. None ∷ ks) (none_seen m)
