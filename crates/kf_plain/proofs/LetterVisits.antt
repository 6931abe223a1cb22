-- What a visit to the file of a letter does to the board.
use Rattle.std.proofs.Common.{◌≡◌, inl, inr, ℕ, zero, suc, refl, ap, sym, ◌∙◌, subst, Bool, List, [], ◌∷◌, length, slice_set}
use Rattle.std.specs.Prelude.{Option, None, Some, slice_get, slice_index, slice_index_or, take, IsTrue, IsFalse, Result, Ok}
use Rattle.std.specs.Option.{option_map}
use Rattle.std.proofs.lemmas.Option.{same_Some, slice_get-map}
use Rattle.kf_core.specs.declared.key.Key.{Key}
use Rattle.kf_table.specs.Live.{live_in}
use Rattle.kf_plain.specs.declared.nodes.visits.BoardFile.{BoardFile}
use Rattle.kf_plain.specs.declared.nodes.hiding.BoardToken.{BoardToken}
use Rattle.kf_plain.specs.Nodes.{Nodes, StillWaits}
use Rattle.kf_plain.specs.Plain.{Plain, OpenPlainFile, with_file}
use Rattle.kf_plain.specs.PlainInside.{plain_of, plain_file, plain_files, plain_tokens, IsWholeBoard, IsShort}
use Rattle.kf_pages.specs.declared.ops.Fault.{Fault}
use Rattle.kf_pages.specs.Files.{FileState, ShowResult, Stored}
use Rattle.kf_core.specs.Calls.{Visit, unvisited, tried}
use Rattle.kf_plain.specs.Visits.{VisitsLive}
use Rattle.kf_plain.specs.TextTable.{ShowsOf, StoresIn}
use Rattle.kf_plain.specs.PlainFiles.{ShowsText, StoresOnBoard}
use Rattle.kf_plain.proofs.Holding.{held_visited}
use Rattle.std.proofs.lemmas.List.{map-set}
use Rattle.kf_core.proofs.Lists.{length_set}
use Rattle.kf_plain.proofs.Wholes.{held_part, whole_held}

set_same : {X : Type 0} (xs : List X) (i : ℕ) (x : X) → slice_get xs i ≡ Some x → slice_set xs i x ≡ xs
set_same [] i x e = refl
set_same (y ∷ xs) zero x e = ap (λ z. z ∷ xs) (sym (same_Some y x e))
set_same (y ∷ xs) (suc i) x e = ap (λ zs. y ∷ zs) (set_same xs i x e)

-- writing nothing to an empty place changes nothing on the board
pub emptied_shown : (b : Plain) (n : Nodes) (events : List ℕ) (texts : List (List ℕ)) (files : List (Option BoardFile)) (tokens : List (Option BoardToken)) (file : ℕ) (place : Option BoardFile) → plain_of n events texts files tokens ≡ b → slice_get files file ≡ Some None → place ≡ None → plain_of n events texts (slice_set files file place) tokens ≡ b
emptied_shown b n events texts files tokens file place is at e = ap (λ fs. plain_of n events texts fs tokens) (ap (slice_set files file) e ∙ set_same files file None at) ∙ is

pub not_a_file : (o : Option BoardFile) → ((f : BoardFile) → o ≡ Some f → ⊥) → o ≡ None
not_a_file None h = refl
not_a_file (Some f) h = absurd (h f refl)

pub visits_to : {Done : Type 0} (live live' : Bool) (idle idle' : Type 0) (does does' : Done → Type 0) (v : Visit Done) → live ≡ live' → (idle → idle') → ((d : Done) → does d → does' d) → VisitsLive live idle does v → VisitsLive live' idle' does' v
visits_to live live' idle idle' does does' unvisited e i d h = i h
visits_to live live' idle idle' does does' (tried None) e i d h = (subst (λ x. IsFalse x) e h.0, i h.1)
visits_to live live' idle idle' does does' (tried (Some x)) e i d h = (subst (λ x. IsTrue x) e h.0, d x h.1)

module _ (b : Plain) (n n' : Nodes) (events events' : List ℕ) (texts texts' : List (List ℕ)) (files : List (Option BoardFile)) (tokens : List (Option BoardToken)) (is : plain_of n events texts files tokens ≡ b) (whole : IsWholeBoard n events texts files tokens)
    (file : ℕ) (f f' : BoardFile) (at : slice_get files file ≡ Some (Some f)) (same : n' ≡ record { log = n.log; last = n.last; limit = n.limit; callers = n'.callers }) (waiting : StillWaits n.callers f.file.hold f.key n'.callers)
    (same_posts : events' ≡ events) (as_many : length texts' ≡ length texts) (keeps : f' ≡ record { key = f.key; file = record { hold = f.file.hold; tag = f.file.tag; state = f'.file.state } }) where
  pub visited_whole : IsShort f'.file.state.text → IsWholeBoard n' events' texts' (slice_set files file (Some f')) tokens
  visited_whole short = whole_held n n' events events' texts texts' files tokens (slice_set files file (Some f')) whole (ap (λ (m : Nodes). m.log) same) (ap length same_posts) as_many (length_set files file (Some f'))
      (held_visited n.callers files tokens (held_part n events texts files tokens whole) file f f' n'.callers at waiting (ap (λ (g : BoardFile). g.key) keeps) (ap (λ (g : BoardFile). g.file.hold) keeps) (ap (λ (g : BoardFile). g.file.tag) keeps) short)

  -- the board has the new texts and, for the file, what the file keeps now
  pub visited_shown : plain_of n' events' texts' (slice_set files file (Some f')) tokens ≡ record (with_file b file (Some (record { key = f.key; kept = f'.file.state }))) { texts = texts' }
  visited_shown =
      ap (λ ev. plain_of n' ev texts' (slice_set files file (Some f')) tokens) same_posts
      ∙ ap (λ m. plain_of m events texts' (slice_set files file (Some f')) tokens) same
      ∙ ap (λ fs. let v : Plain = record { log = n.log; last = n.last; limit = n.limit; events = events; texts = texts'; files = fs; tokens = plain_tokens tokens } in v) (map-set (option_map plain_file) files file (Some f') ∙ ap (λ (k : Key). slice_set (plain_files files) file (Some (let v : OpenPlainFile = record { key = k; kept = f'.file.state } in v))) (ap (λ (g : BoardFile). g.key) keeps))
      ∙ ap (λ (y : Plain). let v : Plain = record (with_file y file (Some (record { key = f.key; kept = f'.file.state }))) { texts = texts' } in v) is

  pub read_shown : texts' ≡ texts → plain_of n' events' texts' (slice_set files file (Some f')) tokens ≡ with_file b file (Some (record { key = f.key; kept = f'.file.state }))
  read_shown t = visited_shown ∙ ap (λ ts. let v : Plain = record (with_file b file (Some (record { key = f.key; kept = f'.file.state }))) { texts = ts } in v) (t ∙ ap (λ (y : Plain). y.texts) is)

  -- if the file keeps what it kept, only the texts are new
  pub unchanged_shown : f'.file.state ≡ f.file.state → plain_of n' events' texts' (slice_set files file (Some f')) tokens ≡ record b { texts = texts' }
  unchanged_shown e = visited_shown
      ∙ ap (λ (s : FileState). let v : Plain = record (with_file b file (Some (record { key = f.key; kept = s }))) { texts = texts' } in v) e
      ∙ ap (λ fs. let v : Plain = record { log = b.log; last = b.last; limit = b.limit; events = b.events; texts = texts'; files = fs; tokens = b.tokens } in v)
      (set_same b.files file (Some (plain_file f)) (subst (λ (y : Plain). slice_get y.files file ≡ Some (Some (plain_file f))) is (slice_get-map (option_map plain_file) files file ∙ ap (option_map (option_map plain_file)) at)))

  pub its_live : live_in n.log.tree f.key ≡ live_in b.log.tree f.key
  its_live = ap (λ (y : Plain). live_in y.log.tree f.key) is

  pub its_number : (number : ℕ) → number ≡ slice_index events f.key.slot → number ≡ slice_index b.events f.key.slot
  its_number number e = e ∙ ap (λ (y : Plain). slice_index y.events f.key.slot) is

  pub its_show : (shown : ShowResult) → (shown.number ≡ slice_index events f.key.slot) × ShowsOf texts f.file.tag shown.filled texts → ShowsText b f.key.slot shown
  its_show shown h = (its_number shown.number h.0, h.1.0 ∙ ap (λ slot. let r : Result (List ℕ) Fault = Ok (take 4096 (slice_index_or texts slot [])) in r) (whole.held file f at).tag ∙ ap (λ (y : Plain). let r : Result (List ℕ) Fault = Ok (take 4096 (slice_index_or y.texts f.key.slot [])) in r) is)

  module _ (e : f'.file.state ≡ f.file.state) where
    pub same_now : texts' ≡ texts → plain_of n' events' texts' (slice_set files file (Some f')) tokens ≡ b
    same_now t = unchanged_shown e ∙ ap (λ ts. let v : Plain = record b { texts = ts } in v) (t ∙ ap (λ (y : Plain). y.texts) is)

    pub its_store : (bytes : List ℕ) (stored : Result ℕ Fault) → Stored StoresIn texts f.file.tag bytes texts' stored → Stored StoresOnBoard b f.key.slot bytes (plain_of n' events' texts' (slice_set files file (Some f')) tokens) stored
    its_store [] stored h = (h.0, same_now h.1)
    its_store (byte ∷ bytes) stored (inl h) = inl (h.0, unchanged_shown e ∙ ap (λ ts. let v : Plain = record b { texts = ts } in v) (h.1 ∙ ap (λ slot. slice_set texts slot (take 4096 (byte ∷ bytes))) (whole.held file f at).tag ∙ ap (λ (y : Plain). slice_set y.texts f.key.slot (take 4096 (byte ∷ bytes))) is))
    its_store (byte ∷ bytes) stored (inr h) = inr (h.0, same_now h.1)

-- a visit that leaves the file as it was
pub kept_form : (f f' : BoardFile) → f' ≡ f → f' ≡ record { key = f.key; file = record { hold = f.file.hold; tag = f.file.tag; state = f'.file.state } }
kept_form f f' e = e ∙ ap (λ (s : FileState). let g : BoardFile = record { key = f.key; file = record { hold = f.file.hold; tag = f.file.tag; state = s } } in g) (sym (ap (λ (g : BoardFile). g.file.state) e))

pub kept_short : (n : Nodes) (events : List ℕ) (texts : List (List ℕ)) (files : List (Option BoardFile)) (tokens : List (Option BoardToken)) (whole : IsWholeBoard n events texts files tokens) (file : ℕ) (f f' : BoardFile) → slice_get files file ≡ Some (Some f) → f' ≡ f → IsShort f'.file.state.text
kept_short n events texts files tokens whole file f f' at e = subst (λ (g : BoardFile). IsShort g.file.state.text) (sym e) (whole.held file f at).short

-- a store does not change the number of texts
stored_length : (texts texts' : List (List ℕ)) (slot : ℕ) (bytes : List ℕ) (stored : Result ℕ Fault) → Stored StoresIn texts slot bytes texts' stored → length texts' ≡ length texts
stored_length texts texts' slot [] stored h = ap length h.1
stored_length texts texts' slot (byte ∷ bytes) stored (inl h) = ap length h.1 ∙ length_set texts slot _
stored_length texts texts' slot (byte ∷ bytes) stored (inr h) = ap length h.1

pub written_length : (live : Bool) (texts texts' : List (List ℕ)) (slot : ℕ) (bytes : List ℕ) (v : Visit (Result ℕ Fault)) → VisitsLive live (texts' ≡ texts) (Stored StoresIn texts slot bytes texts') v → length texts' ≡ length texts
written_length live texts texts' slot bytes unvisited h = ap length h
written_length live texts texts' slot bytes (tried None) h = ap length h.1
written_length live texts texts' slot bytes (tried (Some stored)) h = stored_length texts texts' slot bytes stored h.1
