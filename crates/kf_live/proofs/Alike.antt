-- A walk along the links is a walk through the live records of the tree.
use Rattle.std.proofs.Common.{◌≡◌, inl, inr, refl, ap, sym, ◌∙◌, true, cond, List, [], ◌∷◌, ℕ}
use Rattle.std.specs.Prelude.{Option, None, Some, Ok, map}
use Rattle.std.specs.Option.{option_and_then, ok_or}
use Rattle.std.proofs.lemmas.Option.{same_Some, none-some}
use Rattle.kf_core.specs.declared.key.Key.{Key}
use Rattle.kf_core.specs.declared.records.Record.{Record}
use Rattle.kf_core.specs.declared.refusal.Refusal.TheVariants.{Invalid}
use Rattle.kf_core.specs.Lawful.{Lawful, root_record}
use Rattle.kf_core.specs.Paths.{names_of}
use Rattle.kf_core.specs.Tree.{Tree, IsIn, record_at, is_dir}
use Rattle.kf_core.proofs.FoundRecords.{found_in, in_found}
use Rattle.kf_table.specs.Children.{child}
use Rattle.kf_table.specs.Live.{lives}
use Rattle.kf_tree.specs.Paths.{only_live, and_then, walk, found as next_key}
use Rattle.kf_tree.proofs.Listed.{child_known}
use Rattle.kf_tree.proofs.LiveOnly.{in_shown, found_shown}
use Rattle.kf_looks.specs.declared.found.Found.{Found}
use Rattle.kf_looks.specs.declared.view.Link.{Link}
use Rattle.kf_looks.specs.Links.{child_of, walked, top}
use Rattle.kf_live.specs.Laws.{LeadAlike, LeadSoundly}
use Rattle.kf_live.specs.Live.{AreSound, StandsAt, found_of}
use Rattle.kf_live.proofs.Doomed.{live_active}

module _ (links : List Link) (t : Tree) (root : Key) (sound : AreSound links t) (lawful : Lawful t root) where
  abbrev LeadsOn : Key → List (List ℕ) → Found → Type 0
  LeadsOn key names f = (walk (map only_live t) key names ≡ Ok f.key) × ((r : Record) × (record_at t f.key ≡ Some r) × (lives r ≡ true) × (f ≡ found_of r))

  shows : (r : Record) → lives r ≡ true → Some r ≡ only_live (Some r)
  shows r live = sym (ap (λ b. cond b (Some r) None) live)

  -- one step of the walk leads from a live directory to a live record in that directory
  one_step : (here r : Record) (name : List ℕ) → record_at t here.key ≡ Some here → lives here ≡ true → StandsAt t here.key name r → lives r ≡ true → next_key (map only_live t) here.key name ≡ Ok r.key
  one_step here r name known live stands lives_too =
      let is_here : IsIn t here = (found_in t here.key here known).0 in
      let is_r : IsIn t r = (found_in t r.key r stands.known).0 in
      let above = lawful.in_directory r here.key is_r stands.directory in
      let dir : is_dir here.node ≡ true = ap (λ (x : Record). is_dir x.node) (same_Some here above.dir (sym known ∙ above.known)) ∙ ap is_dir above.is_dir in
      found_shown true t root name lawful here (in_shown true t here here is_here (shows here live)) here.key refl r dir
      (shows r lives_too ∙ ap only_live (sym (child_known t root here.key r lawful is_r stands.directory) ∙ ap (child t here.key) stands.named))

  pub walks_alike : (names : List (List ℕ)) (here : Record) (f : Found) → record_at t here.key ≡ Some here → lives here ≡ true → walked links (found_of here) names ≡ Some f → LeadsOn here.key names f
  walks_alike [] here f known live is =
      let same : found_of here ≡ f = same_Some (found_of here) f is in
      (ap (λ (x : Found). Ok x.key) same, (here, ap (λ (x : Found). record_at t x.key) (sym same) ∙ known, live, sym same))
  walks_alike (name ∷ names) here f known live is = elim (child_of links here.key name) as (λ o. child_of links here.key name ≡ o → option_and_then (λ next. walked links next names) o ≡ Some f → LeadsOn here.key (name ∷ names) f) [
    | None ↦ λ e g. absurd (none-some f g)
    | Some next ↦ λ e g. (let there = sound here.key name next e in elim (there.3 (live_active t here.key here known live)) [
      | inl never ↦ absurd (cc (never))
      | inr now ↦ (let rest = walks_alike names there.0 f there.1.known now.0 (ap (λ n. walked links n names) (sym now.1) ∙ g) in
          (ap (λ o. and_then o (λ k. walk (map only_live t) k names)) (one_step here there.0 name known live there.1 now.0) ∙ rest.0, rest.1))
    ])
  ] refl is

pub lead_soundly : LeadSoundly
lead_soundly links t root path f sound lawful is = go (names_of path) refl is
  where
    go : (o : Option (List (List ℕ))) → names_of path ≡ o → option_and_then (walked links (top root)) o ≡ Some f
        → (and_then (ok_or (names_of path) Invalid) (walk (map only_live t) root) ≡ Ok f.key) × ((r : Record) × (record_at t f.key ≡ Some r) × (lives r ≡ true) × (f ≡ found_of r))
    go None e g = absurd (none-some f g)
    go (Some names) e g =
        let leads = walks_alike links t root sound lawful names (root_record root) f (in_found t (root_record root) lawful.rooted) refl g in
        (ap (λ o. and_then (ok_or o Invalid) (walk (map only_live t) root)) e ∙ leads.0, leads.1)

pub lead_alike : LeadAlike
lead_alike links t root path f says = lead_soundly links t root path f says.known
