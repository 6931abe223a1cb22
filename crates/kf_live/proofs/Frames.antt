-- After a command, the links say the same as before, except about the nodes that the command changed.
use Rattle.std.proofs.Common.{◌≡◌, ◌⊎◌, inl, inr, ◌≢◌, refl, ap, sym, ◌∙◌, subst, Bool, true, false, cond, List, [], ◌∷◌, ℕ}
use Rattle.std.specs.Prelude.{Option, None, Some, map, ◌&&◌, ◌||◌, not}
use Rattle.std.specs.Option.{option_map}
use Rattle.std.proofs.lemmas.Option.{same_Some, none-some}
use Rattle.kf_core.specs.declared.key.Key.{Key}
use Rattle.kf_core.specs.declared.key.Node.{Node}
use Rattle.kf_core.specs.declared.records.Record.{Record}
use Rattle.kf_core.specs.declared.command.Command.TheVariants.{Activate, Doom}
use Rattle.kf_core.specs.Keys.{same_key}
use Rattle.kf_core.specs.Lawful.{Lawful}
use Rattle.kf_core.specs.PostOrder.{IsPostOrder}
use Rattle.kf_core.specs.Tree.{Tree, record_at, in_subtree}
use Rattle.kf_core.specs.Commands.{after, change, activated_record, doomed_record, hidden_record}
use Rattle.kf_core.proofs.Climbs.{keys_tell}
use Rattle.kf_core.proofs.Mapped.{find_mapped}
use Rattle.kf_core.proofs.FoundRecords.{found_in}
use Rattle.kf_table.specs.Live.{lives, live_in, lives_in}
use Rattle.kf_tree.specs.Causes.{doomed_in}
use Rattle.kf_tree.specs.SlotMarks.{contains_key}
use Rattle.kf_tree.proofs.SameMarks.{listed_below}
use Rattle.kf_looks.specs.declared.found.Found.{Found}
use Rattle.kf_looks.specs.declared.view.Link.{Link}
use Rattle.kf_live.specs.Live.{AreSound, SayBut, Say, StandsAt, SameBut, found_of}
use Rattle.kf_live.proofs.Doomed.{is_doomed, doomed_not_live, subtree_dir}
use Rattle.kf_live.proofs.Said.{sound_but}

-- the two records have the same key, directory, name and node
pub record KeepsPlace (s r : Record) : Type 0 where
  pub key : s.key ≡ r.key
  pub directory : s.parent ≡ r.parent
  pub named : s.name ≡ r.name
  pub node : s.node ≡ r.node

same_found : (a b : Record) → a.key ≡ b.key → a.node ≡ b.node → found_of a ≡ found_of b
same_found a b k n = (let both : Key → Node → Found = λ k n. record { key = k; node = n } in ap (λ x. both x a.node) k ∙ ap (both b.key) n)

-- a key that is not in the list of one key is a different key
pub not_listed : (key k : Key) → contains_key (key ∷ []) k ≡ false → k ≢ key
not_listed key k out e = elim (keys_tell key k) [
  | inl f ↦ absurd (let never : true ≡ false = sym (ap (λ c. c || false) f.0) ∙ out in cc (never))
  | inr f ↦ absurd (f.1 (sym e))
]

-- a change of records that leaves each one in its place, and doomed if it was. Except for the records of
-- these keys, each one is live as before, or is no longer live and its directory is doomed
module _ (t : Tree) (g : Record → Record) (keeps : (r : Record) → KeepsPlace (g r) r) (dooms : (r : Record) → (g r).marks.doomed ≡ false → r.marks.doomed ≡ false)
    (keys : List Key) (links : List Link) where
  abbrev changed : Tree
  changed = map (option_map g) t

  at : (k : Key) → record_at changed k ≡ option_map g (record_at t k)
  at = find_mapped t g (λ r. (keeps r).key)

  came_from : (s : Record) → record_at changed s.key ≡ Some s → (r : Record) × (record_at t r.key ≡ Some r) × (s ≡ g r)
  came_from s e = elim (record_at t s.key) as (λ o. record_at t s.key ≡ o → option_map g o ≡ Some s → (r : Record) × (record_at t r.key ≡ Some r) × (s ≡ g r)) [
    | None ↦ λ was is. absurd (none-some s is)
    | Some r ↦ λ was is. (r, subst (λ k. record_at t k ≡ Some r) (sym (found_in t s.key r was).1) was, sym (same_Some (g r) s is))
  ] refl (sym (at s.key) ∙ e)

  stood : (dir : Key) (name : List ℕ) (r : Record) → record_at t r.key ≡ Some r → StandsAt changed dir name (g r) → StandsAt t dir name r
  stood dir name r known s = record { known = known; directory = sym (keeps r).directory ∙ s.directory; named = sym (keeps r).named ∙ s.named; short = s.short }

  stands : (dir : Key) (name : List ℕ) (r : Record) → StandsAt t dir name r → StandsAt changed dir name (g r)
  stands dir name r s = record {
    known = ap (record_at changed) (keeps r).key ∙ at r.key ∙ ap (option_map g) s.known;
    directory = (keeps r).directory ∙ s.directory;
    named = (keeps r).named ∙ s.named;
    short = s.short;
  }

  found_same : (r : Record) → found_of (g r) ≡ found_of r
  found_same r = same_found (g r) r (keeps r).key (keeps r).node

  was_undoomed : (dir : Key) → doomed_in changed dir ≡ false → doomed_in t dir ≡ false
  was_undoomed dir active = go (record_at t dir) (ap is_doomed (sym (at dir)) ∙ active)
    where
      go : (o : Option Record) → is_doomed (option_map g o) ≡ false → is_doomed o ≡ false
      go None h = h
      go (Some r) h = dooms r h

  -- the record is live as before, or is no longer live and was left behind in a doomed directory
  abbrev IsSameOrLeft : Key → Record → Type 0
  IsSameOrLeft dir r = (lives (g r) ≡ lives r) ⊎ ((lives (g r) ≡ false) × (doomed_in changed dir ≡ true))

  module _ (others : (dir : Key) (name : List ℕ) (r : Record) → StandsAt t dir name r → contains_key keys r.key ≡ false → IsSameOrLeft dir r) where
    listed_or_other : (dir : Key) (name : List ℕ) (r : Record) → StandsAt t dir name r → (contains_key keys (g r).key ≡ true) ⊎ IsSameOrLeft dir r
    listed_or_other dir name r there = elim (contains_key keys r.key) as (λ b. contains_key keys r.key ≡ b → (contains_key keys (g r).key ≡ true) ⊎ IsSameOrLeft dir r) [
      | true ↦ λ e. inl (ap (contains_key keys) (keeps r).key ∙ e)
      | false ↦ λ e. inr (others dir name r there e)
    ] refl

    pub said_changed : Say links t → SayBut keys links changed
    said_changed says = record {
      told = λ dir name s there live. (let was = came_from s there.known in
          let before : StandsAt t dir name was.0 = stood dir name was.0 was.1 (subst (StandsAt changed dir name) was.2 there) in
          elim (listed_or_other dir name was.0 before) [
            | inl c ↦ inl (ap (λ (x : Record). contains_key keys x.key) was.2 ∙ c)
            | inr (inl same) ↦ elim (says.told dir name was.0 before (sym same ∙ sym (ap lives was.2) ∙ live)) [
              | inl never ↦ absurd (cc (never))
              | inr is ↦ inr (is ∙ ap Some (sym (found_same was.0) ∙ sym (ap found_of was.2)))
            ]
            | inr (inr left) ↦ absurd (let never : false ≡ true = sym left.0 ∙ sym (ap lives was.2) ∙ live in cc (never))
          ]);
      known = λ dir name found is. (let was = says.known dir name found is in (
        g was.0,
        stands dir name was.0 was.1,
        was.2 ∙ sym (keeps was.0).key,
        λ active. elim (listed_or_other dir name was.0 was.1) [
          | inl c ↦ inl c
          | inr (inl same) ↦ elim (was.3 (was_undoomed dir active)) [
            | inl never ↦ absurd (cc (never))
            | inr now ↦ inr (same ∙ now.0, now.1 ∙ sym (found_same was.0))
          ]
          | inr (inr left) ↦ absurd (let never : true ≡ false = sym left.1 ∙ active in cc (never))
        ],
      ));
    }

  -- if each live record stays live, all that the links find is still right
  pub sound_changed : ((r : Record) → lives r ≡ true → lives (g r) ≡ true) → Say links t → AreSound links changed
  sound_changed stays says dir name found is = (let was = says.known dir name found is in (
    g was.0,
    stands dir name was.0 was.1,
    was.2 ∙ sym (keeps was.0).key,
    λ active. elim (was.3 (was_undoomed dir active)) [
      | inl never ↦ absurd (cc (never))
      | inr now ↦ inr (stays was.0 now.0, now.1 ∙ sym (found_same was.0))
    ],
  ))

-- an activation
module _ (t : Tree) (top : Key) (keys : List Key) (links : List Link) where
  abbrev risen : Record → Record
  risen r = cond (in_subtree t top r.key && not r.marks.doomed) (activated_record r) r

  keeps_risen : (r : Record) → KeepsPlace (risen r) r
  keeps_risen r = elim (in_subtree t top r.key && not r.marks.doomed) as (λ b. KeepsPlace (cond b (activated_record r) r) r) [
    | true ↦ record { key = refl; directory = refl; named = refl; node = refl }
    | false ↦ record { key = refl; directory = refl; named = refl; node = refl }
  ]

  dooms_risen : (r : Record) → (risen r).marks.doomed ≡ false → r.marks.doomed ≡ false
  dooms_risen r = elim (in_subtree t top r.key && not r.marks.doomed) as (λ b. (cond b (activated_record r) r).marks.doomed ≡ false → r.marks.doomed ≡ false) [
    | true ↦ λ h. h
    | false ↦ λ h. h
  ]

  stays_live : (r : Record) → lives r ≡ true → lives (risen r) ≡ true
  stays_live r live = elim (in_subtree t top r.key && not r.marks.doomed) as (λ b. lives (cond b (activated_record r) r) ≡ true) [
    | true ↦ once r.marks.activated r.marks.doomed r.hidden live
    | false ↦ live
  ]
    where
      once : (a d h : Bool) → (a && not d) && not h ≡ true → (true && not d) && not h ≡ true
      once true d h live = live
      once false d h live = absurd (cc (live))

  pub said_risen : IsPostOrder t top keys → Say links t → SayBut keys links (after t (Activate top))
  said_risen order = said_changed t risen keeps_risen dooms_risen keys links (λ dir name r there out. inl (ap (λ b. lives (cond (b && not r.marks.doomed) (activated_record r) r))
      (sym (listed_below t top keys r order (found_in t r.key r there.known).0) ∙ out)))

  pub sound_risen : Say links t → AreSound links (after t (Activate top))
  sound_risen = sound_changed t risen keeps_risen dooms_risen keys links stays_live

-- a doom: the links say what the tree says, except about the top
module _ (t : Tree) (root top : Key) (links : List Link) (lawful : Lawful t root) where
  abbrev doomed : Record → Record
  doomed r = cond (in_subtree t top r.key) (doomed_record r) r

  pub said_doomed : Say links t → SayBut (top ∷ []) links (after t (Doom top))
  said_doomed = said_changed t doomed keeps dooms (top ∷ []) links left
    where
      keeps : (r : Record) → KeepsPlace (doomed r) r
      keeps r = elim (in_subtree t top r.key) as (λ b. KeepsPlace (cond b (doomed_record r) r) r) [
        | true ↦ record { key = refl; directory = refl; named = refl; node = refl }
        | false ↦ record { key = refl; directory = refl; named = refl; node = refl }
      ]

      dooms : (r : Record) → (doomed r).marks.doomed ≡ false → r.marks.doomed ≡ false
      dooms r = elim (in_subtree t top r.key) as (λ b. (cond b (doomed_record r) r).marks.doomed ≡ false → r.marks.doomed ≡ false) [
        | true ↦ λ h. absurd (cc (h))
        | false ↦ λ h. h
      ]

      below_doomed : (dir : Key) (d : Record) → record_at t dir ≡ Some d → in_subtree t top d.key ≡ true → doomed_in (after t (Doom top)) dir ≡ true
      below_doomed dir d known inside = ap is_doomed (find_mapped t doomed (λ r. (keeps r).key) dir ∙ ap (option_map doomed) known)
          ∙ ap (λ b. (cond b (doomed_record d) d).marks.doomed) inside

      left : (dir : Key) (name : List ℕ) (r : Record) → StandsAt t dir name r → contains_key (top ∷ []) r.key ≡ false
          → (lives (doomed r) ≡ lives r) ⊎ ((lives (doomed r) ≡ false) × (doomed_in (after t (Doom top)) dir ≡ true))
      left dir name r there out = elim (in_subtree t top r.key) as (λ b. in_subtree t top r.key ≡ b
          → (lives (cond b (doomed_record r) r) ≡ lives r) ⊎ ((lives (cond b (doomed_record r) r) ≡ false) × (doomed_in (after t (Doom top)) dir ≡ true))) [
            | true ↦ λ inside. (let above = subtree_dir t root top dir r lawful there.known there.directory (not_listed top r.key out) inside in
                inr (doomed_not_live (Some (doomed_record r)) refl, below_doomed dir above.0 above.1 above.2))
            | false ↦ λ outside. inl refl
          ] refl

-- a file that is hidden or shown
module _ (t : Tree) (key : Key) (b : Bool) (links : List Link) where
  abbrev veiled : Record → Record
  veiled r = cond (same_key r.key key) (hidden_record b r) r

  pub said_hidden : Say links t → SayBut (key ∷ []) links (change (λ r. same_key r.key key) (hidden_record b) t)
  said_hidden = said_changed t veiled keeps dooms (key ∷ []) links (λ dir name r there out. inl (ap (λ c. lives (cond c (hidden_record b r) r)) (another r.key out)))
    where
      another : (k : Key) → contains_key (key ∷ []) k ≡ false → same_key k key ≡ false
      another k out = elim (keys_tell k key) [
        | inl e ↦ absurd (not_listed key k out e.1)
        | inr e ↦ e.0
      ]

      keeps : (r : Record) → KeepsPlace (veiled r) r
      keeps r = elim (same_key r.key key) as (λ c. KeepsPlace (cond c (hidden_record b r) r) r) [
        | true ↦ record { key = refl; directory = refl; named = refl; node = refl }
        | false ↦ record { key = refl; directory = refl; named = refl; node = refl }
      ]

      dooms : (r : Record) → (veiled r).marks.doomed ≡ false → r.marks.doomed ≡ false
      dooms r = elim (same_key r.key key) as (λ c. (cond c (hidden_record b r) r).marks.doomed ≡ false → r.marks.doomed ≡ false) [
        | true ↦ λ h. h
        | false ↦ λ h. h
      ]

-- two trees that differ only at one key
module _ (t t' : Tree) (key : Key) (links : List Link) (same : SameBut key t t') where
  pub was_there : (dir : Key) (name : List ℕ) (s : Record) → s.key ≢ key → StandsAt t' dir name s → StandsAt t dir name s
  was_there dir name s n there = record { known = sym (same s.key n) ∙ there.known; directory = there.directory; named = there.named; short = there.short }

  pub is_there : (dir : Key) (name : List ℕ) (r : Record) → r.key ≢ key → StandsAt t dir name r → StandsAt t' dir name r
  is_there dir name r n there = record { known = same r.key n ∙ there.known; directory = there.directory; named = there.named; short = there.short }

  pub only_key : (k : Key) → k ≡ key → contains_key (key ∷ []) k ≡ true
  only_key k e = elim (keys_tell key k) [ inl f ↦ ap (λ b. b || false) f.0 | inr f ↦ absurd (f.1 (sym e)) ]

  -- a new node, whose key was not linked before: nothing was in it, and nothing is in it now
  module _ (root : Key) (lawful : Lawful t root) (vacant : record_at t key ≡ None) (says : Say links t) where
    another : (dir : Key) (name : List ℕ) (r : Record) → StandsAt t dir name r → r.key ≢ key
    another dir name r there e = none-some r (sym vacant ∙ sym (ap (record_at t) e) ∙ there.known)

    elsewhere : (dir : Key) (name : List ℕ) (r : Record) → StandsAt t dir name r → dir ≢ key
    elsewhere dir name r there e = (let d = lawful.in_directory r dir (found_in t r.key r there.known).0 there.directory in
        none-some d.dir (sym vacant ∙ sym (ap (record_at t) e) ∙ d.known))

    sound_new : AreSound links t'
    sound_new dir name found is = (let was = says.known dir name found is in (
      was.0,
      is_there dir name was.0 (another dir name was.0 was.1) was.1,
      was.2,
      λ active. was.3 (ap is_doomed (sym (same dir (elsewhere dir name was.0 was.1))) ∙ active),
    ))

    pub said_created : SayBut (key ∷ []) links t'
    said_created = record {
      told = λ dir name s there live. elim (keys_tell s.key key) [
        | inl e ↦ inl (only_key s.key e.1)
        | inr n ↦ elim (says.told dir name s (was_there dir name s n.1 there) live) [ inl never ↦ absurd (cc (never)) | inr is ↦ inr is ]
      ];
      known = sound_but t' links (key ∷ []) sound_new;
    }

    -- a new node that is not live
    pub said_quiet : live_in t' key ≡ false → Say links t'
    said_quiet quiet = record {
      told = λ dir name s there live. elim (keys_tell s.key key) [
        | inl e ↦ absurd (let never : true ≡ false = sym (ap lives_in (sym (ap (record_at t') e.1) ∙ there.known) ∙ live) ∙ quiet in cc (never))
        | inr n ↦ says.told dir name s (was_there dir name s n.1 there) live
      ];
      known = sound_new;
    }
