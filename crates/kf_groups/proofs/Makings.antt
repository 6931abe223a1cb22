-- Files are made one after another, and are taken back in reverse order.
use Rattle.std.proofs.Common.{◌≡◌, ◌≢◌, ◌⊎◌, ◌≤◌, ◌+◌, ◌-◌, ◌∙◌, ℕ, suc, Bool, true, false, cond, List, [], ◌∷◌, ◌++◌, length, take, drop, get_or, ap, refl, sym, subst, inl, inr, arith}
use Rattle.std.specs.Prelude.{Option, ◌&&◌}
use Rattle.std.proofs.lemmas.Bool.Decides.{nat_tests}
use Rattle.kf_core.specs.declared.command.Command.TheVariants.{Create, Activate}
use Rattle.kf_core.specs.declared.key.Key.{Key}
use Rattle.kf_core.specs.declared.key.Node.{Node}
use Rattle.kf_core.specs.declared.key.Node.TheVariants.{Dir}
use Rattle.kf_core.specs.declared.refusal.Refusal.{Refusal}
use Rattle.kf_core.specs.Tree.{Tree}
use Rattle.kf_table.proofs.ChildTests.{both}
use Rattle.kf_tree.specs.TreeLogs.{TreeLog, IsAccepted, Stores}
use Rattle.kf_tree.proofs.Storing.{one, join}
use Rattle.kf_core.specs.declared.refusal.Refusal.TheVariants.{NoMemory}
use Rattle.kf_shared.specs.Locked.{Locked, Created, CreateRefused}
use Rattle.kf_groups.specs.declared.attribute.Attribute.{Attribute}
use Rattle.kf_groups.specs.Attributes.{file_of, is_shown, shown}
use Rattle.kf_groups.specs.Making.{creation, creations, live_creations, named_creations}
use Rattle.kf_tree.specs.Subtrees.{linked_count}
use Rattle.kf_groups.specs.TakenBack.{EachTookBack, FileMade, FilesTakenBack, LiveTakenBack, NameTookBack, NotActivated, TookBack}
use Rattle.kf_groups.proofs.Names.{rest_of}

-- if the node that was made is this one, the stored command creates it
pub created : (old new : Locked) (parent key : Key) (name : List ℕ) (node node' : Node) → node ≡ node'
    → Created old new parent name node false key → Stores old.state new.state (Create key parent name node' false ∷ [])
created old new parent key name node node' same made =
    subst (λ n. Stores old.state new.state (Create key parent name n false ∷ [])) same
    (one old.state new.state _ (Create key parent name node false) made)

-- if the node that was made is the attribute's file, that file was made
pub file_made : (old new : Locked) (dir key : Key) (a : Attribute) (node : Node) → node ≡ file_of a
    → Created old new dir a.name.now node false key → FileMade old new dir a key
file_made old new dir key a node same made = subst (λ n. Created old new dir a.name.now n false key) same made

-- the attributes after the first
abbrev pub later : List Attribute → List Attribute
later attributes = take (length attributes - 1) (drop 1 attributes)

-- if the first attribute has a file, it is the first of the attributes that have one
pub first_shown : (attributes : List Attribute) (d : Attribute) → 1 ≤ length attributes → (get_or attributes 0 d).mode ≢ 0
    → shown attributes ≡ get_or attributes 0 d ∷ shown (later attributes)
first_shown [] d some there = absurd (omega (arith, some))
first_shown (a ∷ rest) d some there =
    let here : is_shown a ≡ true = grind (arith, nat_tests) in
    ap (λ b. cond b (a ∷ shown rest) (shown rest)) here ∙ ap (λ xs. a ∷ shown xs) (sym (rest_of (a ∷ rest) 1))

-- if the first file and then all later ones were made, all files were made
pub filled : (s0 s1 s2 : TreeLog) (dir key : Key) (attributes : List Attribute) (d : Attribute)
    → 1 ≤ length attributes → (get_or attributes 0 d).mode ≢ 0
    → Stores s0 s1 (creation dir (get_or attributes 0 d) key ∷ [])
    → (keys : List Key) × (length keys ≡ length (shown (later attributes)))
    × Stores s1 s2 (creations dir (shown (later attributes)) keys)
    → (keys : List Key) × (length keys ≡ length (shown attributes))
    × Stores s0 s2 (creations dir (shown attributes) keys)
filled s0 s1 s2 dir key attributes d some there created rest =
    let a = get_or attributes 0 d in
    subst (λ xs. (keys : List Key) × (length keys ≡ length xs) × Stores s0 s2 (creations dir xs keys))
    (sym (first_shown attributes d some there)) (
      key ∷ rest.0,
      ap suc rest.1,
      join s0 s1 s2 (creation dir a key ∷ []) (creations dir (shown (later attributes)) rest.0)
          created rest.2,
    )

-- the number of linked nodes grew by the number of files
pub one_more : (t0 t1 t2 : Tree) (attributes : List Attribute) (d : Attribute)
    → 1 ≤ length attributes → (get_or attributes 0 d).mode ≢ 0
    → linked_count t1 ≡ linked_count t0 + 1 → linked_count t2 ≡ linked_count t1 + length (shown (later attributes))
    → linked_count t2 ≡ linked_count t0 + length (shown attributes)
one_more t0 t1 t2 attributes d some there first rest =
    let all : length (shown attributes) ≡ suc (length (shown (later attributes))) = ap length (first_shown attributes d some there) in
    omega (arith, first, rest, all)

-- if all files were taken back, the number of linked nodes fell by the number of files
pub one_fewer : (t0 t1 t2 : Tree) (attributes : List Attribute) (d : Attribute) (later_gone gone : Bool)
    → 1 ≤ length attributes → (get_or attributes 0 d).mode ≢ 0
    → (later_gone ≡ true → linked_count t1 + length (shown (later attributes)) ≡ linked_count t0)
    → (gone ≡ true → linked_count t2 + 1 ≡ linked_count t1)
    → (later_gone && gone) ≡ true → linked_count t2 + length (shown attributes) ≡ linked_count t0
one_fewer t0 t1 t2 attributes d later_gone gone some there rest first h =
    let all : length (shown attributes) ≡ suc (length (shown (later attributes))) = ap length (first_shown attributes d some there) in
    let b = both later_gone gone h in
    let x = rest b.0 in
    let y = first b.1 in
    omega (arith, x, y, all)

-- if the first file was made, the later ones made live, and then the first activated, all were made live
pub made : (s0 s1 s2 s3 : TreeLog) (dir key : Key) (attributes : List Attribute) (d : Attribute)
    (cause : Option Refusal) → 1 ≤ length attributes → (get_or attributes 0 d).mode ≢ 0
    → Stores s0 s1 (creation dir (get_or attributes 0 d) key ∷ [])
    → (keys : List Key) × (length keys ≡ length (shown (later attributes)))
    × Stores s1 s2 (live_creations dir (shown (later attributes)) keys)
    → IsAccepted s2 s3 cause (Activate key)
    → (keys : List Key) × (length keys ≡ length (shown attributes))
    × Stores s0 s3 (live_creations dir (shown attributes) keys)
made s0 s1 s2 s3 dir key attributes d cause some there created rest activated =
    let a = get_or attributes 0 d in
    let live = live_creations dir (shown (later attributes)) rest.0 in
    subst (λ xs. (keys : List Key) × (length keys ≡ length xs) × Stores s0 s3 (live_creations dir xs keys))
    (sym (first_shown attributes d some there)) (
      key ∷ rest.0,
      ap suc rest.1,
      join s0 s1 s3 (creation dir a key ∷ []) (live ++ Activate key ∷ [])
          created
          (join s1 s2 s3 live (Activate key ∷ []) rest.2 (one s2 s3 cause (Activate key) activated)),
    )

-- files were made and activated, and then taken back
pub live_stopped : (s0 s1 s2 s3 : Locked) (dir : Key) (attributes : List Attribute) → s2 ≡ s1
    → (keys : List Key) × (length keys ≡ length attributes) × Stores s0.state s1.state (live_creations dir attributes keys)
    → EachTookBack s2 s3 dir attributes → LiveTakenBack s0 s3 dir attributes NoMemory
live_stopped s0 s1 s2 s3 dir attributes same live undone =
    (refl, s1, live, subst (λ s. EachTookBack s s3 dir attributes) same undone)

module _ (dir : Key) (attributes : List Attribute) (d : Attribute) (some : 1 ≤ length attributes) (there : (get_or attributes 0 d).mode ≢ 0) where
  abbrev first : Attribute
  first = get_or attributes 0 d

  parts : shown attributes ≡ first ∷ shown (later attributes)
  parts = first_shown attributes d some there

  -- the later files were taken back, and then the first file was
  pub each_more : (s0 s1 s2 : Locked) → EachTookBack s0 s1 dir (shown (later attributes)) → NameTookBack s1 s2 dir first.name.now
      → EachTookBack s0 s2 dir (shown attributes)
  each_more s0 s1 s2 rest back = subst (EachTookBack s0 s2 dir) (sym parts) (s1, rest, back)

  -- the first file was made; then the later files were taken back, live or not, and then the first file was
  pub stopped : (s0 s1 s2 s3 : Locked) (key : Key) (why : Refusal) → FileMade s0 s1 dir first key
      → FilesTakenBack s1 s2 dir (shown (later attributes)) why ⊎ LiveTakenBack s1 s2 dir (shown (later attributes)) why
      → TookBack s2 s3 key → FilesTakenBack s0 s3 dir (shown attributes) why
  stopped s0 s1 s2 s3 key why made rest back =
      subst (λ xs. FilesTakenBack s0 s3 dir xs why) (sym parts) (inr (s1, s2, key, made, rest, back))

  -- the first file was refused
  pub not_made : (s0 s1 : Locked) (node : Node) (why : Refusal) → node ≡ file_of first → CreateRefused s0 s1 dir first.name.now node why
      → FilesTakenBack s0 s1 dir (shown attributes) why
  not_made s0 s1 node why same refused =
      subst (λ xs. FilesTakenBack s0 s1 dir xs why) (sym parts) (inl (subst (λ n. CreateRefused s0 s1 dir first.name.now n why) same refused))

-- the directory and its files were made, and then the directory was activated
pub directory_made : (s0 s1 s2 s3 : TreeLog) (dir key : Key) (name : List ℕ) (attributes : List Attribute) (keys : List Key)
    (cause : Option Refusal) → Stores s0 s1 (Create key dir name Dir false ∷ [])
    → Stores s1 s2 (creations key attributes keys) → IsAccepted s2 s3 cause (Activate key)
    → Stores s0 s3 (named_creations dir name attributes key keys)
directory_made s0 s1 s2 s3 dir key name attributes keys cause created files activated =
    join s0 s1 s3 (Create key dir name Dir false ∷ []) (creations key attributes keys ++ Activate key ∷ [])
    created
    (join s1 s2 s3 (creations key attributes keys) (Activate key ∷ []) files (one s2 s3 cause (Activate key) activated))

-- the directory and all of its files were made, but the directory was not activated
pub all_made : (s0 s1 s2 : Locked) (key : Key) (attributes : List Attribute) → s2 ≡ s1
    → (keys : List Key) × (length keys ≡ length attributes) × Stores s0.state s1.state (creations key attributes keys)
    → NotActivated s0 s2 key attributes NoMemory
all_made s0 s1 s2 key attributes same files = (
  refl,
  files.0,
  files.1,
  subst (λ (s : Locked). Stores s0.state s.state (creations key attributes files.0)) (sym same) files.2,
)
