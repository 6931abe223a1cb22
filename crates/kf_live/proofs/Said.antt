-- What the links say once they say about one node what the tree says.
use Rattle.std.proofs.Common.{◌≡◌, ◌≢◌, ◌⊎◌, inl, inr, refl, ap, sym, drop, drop-cons, get_or, add-one, length, ◌+◌, ◌<◌, ◌∙◌, subst, true, false, cond, List, [], ◌∷◌, ℕ}
use Rattle.std.specs.Prelude.{Option, None, Some, ◌||◌}
use Rattle.std.proofs.lemmas.Option.{same_Some, none-some}
use Rattle.kf_core.specs.declared.key.Key.{Key}
use Rattle.kf_core.specs.declared.records.Record.{Record}
use Rattle.kf_core.specs.Lawful.{Lawful}
use Rattle.kf_core.specs.Tree.{Tree, record_at}
use Rattle.kf_core.proofs.Climbs.{keys_tell}
use Rattle.kf_core.proofs.FoundRecords.{found_in}
use Rattle.kf_table.specs.Live.{lives}
use Rattle.kf_tree.specs.Causes.{doomed_in}
use Rattle.kf_tree.specs.SlotMarks.{contains_key}
use Rattle.kf_looks.specs.declared.found.Found.{Found}
use Rattle.kf_looks.specs.declared.view.Link.{Link}
use Rattle.kf_looks.specs.Links.{link, is_of, child_of, IsOfSlot}
use Rattle.kf_looks.proofs.Naming.{of_tells, of_own}
use Rattle.kf_live.specs.Live.{FindBut, AreSound, SayBut, StandsAt, IsGiven, found_of, live_found, IsOut}

-- an owed key is the first of those owed, or one of the others
owed_first : (key : Key) (owed : List Key) (k : Key) → contains_key (key ∷ owed) k ≡ true → (key ≡ k) ⊎ (contains_key owed k ≡ true)
owed_first key owed k h = elim (keys_tell key k) [
  | inl e ↦ inl e.1
  | inr n ↦ inr (sym (ap (λ b. b || contains_key owed k) n.0) ∙ h)
]

-- two records of one key are equal
pub one_record : (t : Tree) (r s : Record) → record_at t r.key ≡ Some r → record_at t s.key ≡ Some s → r.key ≡ s.key → r ≡ s
one_record t r s a b e = same_Some r s (sym a ∙ ap (record_at t) e ∙ b)

-- what look-ups must find for a live record, and that they must find nothing for another record
found_live : (r : Record) → lives r ≡ true → live_found r ≡ Some (found_of r)
found_live r h = ap (λ b. cond b (Some (found_of r)) None) h

live_of : (r : Record) (found : Found) → live_found r ≡ Some found → (lives r ≡ true) × (found ≡ found_of r)
live_of r found h = elim (lives r) as (λ b. lives r ≡ b → cond b (Some (found_of r)) None ≡ Some found → (lives r ≡ true) × (found ≡ found_of r)) [
  | true ↦ λ e f. (e, sym (same_Some (found_of r) found f))
  | false ↦ λ e f. absurd (none-some found f)
] refl h

-- sound links are right in what they find, whichever keys are owed
pub sound_but : (t : Tree) (links : List Link) (owed : List Key) → AreSound links t → FindBut owed links t
sound_but t links owed sound dir name found is = (let there = sound dir name found is in
    (there.0, there.1, there.2, λ active. elim (there.3 active) [ inl never ↦ absurd (cc (never)) | inr now ↦ inr now ]))

-- if no record of a key is under a short name in a directory, the key is no longer owed
pub told_none : (t : Tree) (links : List Link) (owed : List Key) (key : Key) → SayBut (key ∷ owed) links t → IsOut t key → SayBut owed links t
told_none t links owed key says out = record {
  told = λ dir name r stands live. elim (says.told dir name r stands live) [
    | inl c ↦ elim (owed_first key owed r.key c) [ inl e ↦ absurd (out dir name r stands (sym e)) | inr later ↦ inl later ]
    | inr there ↦ inr there
  ];
  known = λ dir name found is. (let there = says.known dir name found is in (
    there.0,
    there.1,
    there.2,
    λ active. elim (there.3 active) [
      | inl c ↦ elim (owed_first key owed there.0.key c) [ inl e ↦ absurd (out dir name there.0 there.1 (sym e)) | inr later ↦ inl later ]
      | inr now ↦ inr now
    ],
  ));
}

module _ (t : Tree) (root : Key) (lawful : Lawful t root) (links : List Link) where
  -- two records under the same name in the same directory are equal
  pub one_place : (dir : Key) (name : List ℕ) (r s : Record) → StandsAt t dir name r → StandsAt t dir name s → r ≡ s
  one_place dir name r s a b = one_record t r s a.known b.known
      (lawful.siblings r s (found_in t r.key r a.known).0 (found_in t s.key s b.known).0 (a.directory ∙ sym b.directory) (a.named ∙ sym b.named))

  -- what the links find in the place of a record has the slot of that record
  pub of_slot : (owed : List Key) (dir : Key) (name : List ℕ) (r : Record) → SayBut owed links t → StandsAt t dir name r → IsOfSlot links dir name r.key.slot
  of_slot owed dir name r says stands found is =
      let there = says.known dir name found is in
      ap (λ (k : Key). k.slot) (there.2 ∙ ap (λ (x : Record). x.key) (one_place dir name there.0 r there.1 stands))

  module _ (owed : List Key) (key : Key) (dir : Key) (name : List ℕ) (r : Record) (own : r.key ≡ key) (stands : StandsAt t dir name r) where
    abbrev made : Link
    made = link dir name (live_found r)

    -- a record in another place has another key
    elsewhere : (d : Key) (n : List ℕ) (s : Record) → StandsAt t d n s → is_of d n made ≡ false → key ≢ s.key
    elsewhere d n s other apart e =
        let same : r ≡ s = one_record t r s stands.known other.known (own ∙ e) in
        let here : (d ≡ dir) × (n ≡ name) = (same_Some d dir (sym other.directory ∙ ap (λ (x : Record). x.parent) (sym same) ∙ stands.directory), sym other.named ∙ ap (λ (x : Record). x.name) (sym same) ∙ stands.named) in
        absurd (let no : true ≡ false = sym (of_own made) ∙ subst (λ d. is_of d name made ≡ false) here.0 (subst (λ n. is_of d n made ≡ false) here.1 apart) in cc (no))

    -- if the key of a record in another place is owed, it is one of the other owed keys, not this one
    later : (d : Key) (n : List ℕ) (s : Record) → StandsAt t d n s → is_of d n made ≡ false → contains_key (key ∷ owed) s.key ≡ true → contains_key owed s.key ≡ true
    later d n s other apart c = elim (owed_first key owed s.key c) [ inl e ↦ absurd (elsewhere d n s other apart e) | inr more ↦ more ]

    here : (d : Key) (n : List ℕ) → is_of d n made ≡ true → StandsAt t d n r × (child_of (made ∷ links) d n ≡ live_found r)
    here d n e = let p = of_tells d n made e in
        (subst (λ x. StandsAt t x n r) p.0 (subst (λ x. StandsAt t dir x r) p.1 stands), ap (λ b. cond b (live_found r) (child_of links d n)) e)

    found_one : FindBut (key ∷ owed) links t → FindBut owed (made ∷ links) t
    found_one known d n found = elim (is_of d n made) as (λ b. is_of d n made ≡ b → cond b (live_found r) (child_of links d n) ≡ Some found → (s : Record) × StandsAt t d n s × (found.key ≡ s.key)
        × (doomed_in t d ≡ false → (contains_key owed s.key ≡ true) ⊎ ((lives s ≡ true) × (found ≡ found_of s)))) [
          | true ↦ λ e is. (let now = live_of r found is in (r, (here d n e).0, ap (λ (f : Found). f.key) now.1, λ active. inr now))
          | false ↦ λ e is. (let there = known d n found is in (
            there.0,
            there.1,
            there.2,
            λ active. elim (there.3 active) [
              | inl c ↦ inl (later d n there.0 there.1 e c)
              | inr now ↦ inr now
            ],
          ))
        ] refl

    -- once a link says what the record in this place is, the key of the record is no longer owed
    pub told_one : SayBut (key ∷ owed) links t → SayBut owed (made ∷ links) t
    told_one says = record {
      told = λ d n s other live. elim (is_of d n made) as (λ b. is_of d n made ≡ b → (contains_key owed s.key ≡ true) ⊎ (cond b (live_found r) (child_of links d n) ≡ Some (found_of s))) [
        | true ↦ λ e. (let same : r ≡ s = one_place d n r s (here d n e).0 other in
            inr (ap live_found same ∙ found_live s live))
        | false ↦ λ e. elim (says.told d n s other live) [
          | inl c ↦ inl (later d n s other e c)
          | inr there ↦ inr there
        ]
      ] refl;
      known = found_one says.known;
    }

    same_place : (d : Key) (n : List ℕ) (s : Record) → StandsAt t d n s → key ≡ s.key → (r ≡ s) × (dir ≡ d) × (name ≡ n)
    same_place d n s other e =
        let same : r ≡ s = one_record t r s stands.known other.known (own ∙ e) in
        (same, same_Some dir d (sym stands.directory ∙ ap (λ (x : Record). x.parent) same ∙ other.directory), sym stands.named ∙ ap (λ (x : Record). x.name) same ∙ other.named)

    -- the links say already that the record is in this place
    module _ (alive : lives r ≡ true) (there : child_of links dir name ≡ Some (found_of r)) where
      at_place : (d : Key) (n : List ℕ) (s : Record) → StandsAt t d n s → key ≡ s.key → child_of links d n ≡ Some (found_of r)
      at_place d n s other e = let p = same_place d n s other e in
          subst (λ x. child_of links x n ≡ Some (found_of r)) p.1 (subst (λ x. child_of links dir x ≡ Some (found_of r)) p.2 there)

      found_already : FindBut (key ∷ owed) links t → FindBut owed links t
      found_already known d n found is = (let was = known d n found is in (
        was.0,
        was.1,
        was.2,
        λ active. elim (was.3 active) [
          | inl c ↦ elim (owed_first key owed was.0.key c) [
            | inl e ↦ (let p = same_place d n was.0 was.1 e in
                inr (subst (λ x. lives x ≡ true) p.0 alive, same_Some found (found_of r) (sym is ∙ at_place d n was.0 was.1 e) ∙ ap found_of p.0))
            | inr more ↦ inl more
          ]
          | inr now ↦ inr now
        ],
      ))

      told_already : SayBut (key ∷ owed) links t → SayBut owed links t
      told_already says = record {
        told = λ d n s other live. elim (says.told d n s other live) [
          | inl c ↦ elim (owed_first key owed s.key c) [ inl e ↦ inr (at_place d n s other e ∙ ap (λ x. Some (found_of x)) (same_place d n s other e).0) | inr more ↦ inl more ]
          | inr is ↦ inr is
        ];
        known = found_already says.known;
      }

    -- the record is live, and its name was given this child, or had it already
    module _ (child : Found) (now : List Link) (live : live_found r ≡ Some child) where
      pub told_live : IsGiven dir name child links now → SayBut (key ∷ owed) links t → SayBut owed now t
      told_live (inl made_now) says = subst (λ l. SayBut owed l t) (sym made_now)
          (subst (λ (c : Option Found). SayBut owed (link dir name c ∷ links) t) live (told_one says))
      told_live (inr already) says = let alive = live_of r child live in
          subst (λ l. SayBut owed l t) (sym already.0) (told_already alive.0 (already.1 ∙ ap Some alive.1) says)

      found_given : IsGiven dir name child links now → FindBut (key ∷ owed) links t → FindBut owed now t
      found_given (inl made_now) known = subst (λ l. FindBut owed l t) (sym made_now)
          (subst (λ (c : Option Found). FindBut owed (link dir name c ∷ links) t) live (found_one known))
      found_given (inr already) known = let alive = live_of r child live in
          subst (λ l. FindBut owed l t) (sym already.0) (found_already alive.0 (already.1 ∙ ap Some alive.1) known)

  -- sound links stay sound after a link says what this record is
  module _ (key dir : Key) (name : List ℕ) (r : Record) (own : r.key ≡ key) (stands : StandsAt t dir name r) where
    pub sound_one : AreSound links t → AreSound (link dir name (live_found r) ∷ links) t
    sound_one sound = found_one [] key dir name r own stands (sound_but t links (key ∷ []) sound)

    pub sound_live : (child : Found) (now : List Link) → live_found r ≡ Some child → IsGiven dir name child links now → AreSound links t → AreSound now t
    sound_live child now live given sound = found_given [] key dir name r own stands child now live given (sound_but t links (key ∷ []) sound)

-- the keys that are left are the first of them and the others
pub drop_one : (keys : List Key) (i : ℕ) (d : Key) → i < length keys → drop i keys ≡ get_or keys i d ∷ drop (i + 1) keys
drop_one keys i d l = drop-cons keys i d l ∙ ap (λ n. get_or keys i d ∷ drop n keys) (sym (add-one i))
