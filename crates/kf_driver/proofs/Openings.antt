-- What an open of a held file returns, by a path and by a hold.
use Rattle.std.proofs.Common.{◌≡◌, ◌∙◌, [], ◌∷◌, ℕ, Bool, true, false, Option, None, Some, is_some, refl, sym, ap, subst, inl, inr}
use Rattle.std.specs.Prelude.{◌⊎◌, IfOk, IfErr, List, Result, Ok, Err}
use Rattle.kf_core.specs.Calls.{tried}
use Rattle.kf_core.specs.declared.key.Key.{Key}
use Rattle.kf_core.specs.declared.key.Node.{Node}
use Rattle.kf_core.specs.declared.key.Node.TheVariants.{Dir, File, Link}
use Rattle.kf_core.specs.declared.refusal.Refusal.{Refusal}
use Rattle.kf_core.specs.declared.refusal.Refusal.TheVariants.{Access, NoDevice}
use Rattle.kf_core.specs.Refusals.{unless, first_cause}
use Rattle.kf_core.specs.Tree.{Tree}
use Rattle.kf_words.specs.Callers.{Handle}
use Rattle.kf_words.specs.declared.view.MasterView.{MasterView}
use Rattle.kf_notify.specs.PostStates.{Numbers, IsNewPost}
use Rattle.kf_pages.specs.declared.contents.Want.{Want}
use Rattle.kf_pages.specs.Files.{Opens, allows, new_file, open_cause}
use Rattle.kf_files.specs.Waiting.{WaitVisits}
use Rattle.kf_files.specs.Opened.{Opened}
use Rattle.kf_tree.specs.Paths.{seen}
use Rattle.kf_shared.specs.Locked.{Locked}
use Rattle.kf_driver.specs.Opening.{node_at, only_file, file_at, FileRefused, NotOpened, OpenRefused, OpenedAt, IsOpened, PostRefused}

abbrev pub Visited : Handle → Handle → Node → Want → Option Refusal → Type 0
Visited hold hold' node want why = Opens (WaitVisits (Unit {0}) (λ _. Unit {0}) hold hold') node want why

allowed : (is_allowed : Bool) → None ≡ first_cause (unless true NoDevice ∷ unless is_allowed Access ∷ [])
    → is_allowed ≡ true
allowed true none = refl
allowed false none = absurd (cc)

let_in : (hold hold' : Handle) (mode : ℕ) (want : Want) (came : Option (Unit {0}))
    → WaitVisits (Unit {0}) (λ _. Unit {0}) hold hold' (tried came)
    → None ≡ open_cause mode want (is_some came)
    → (hold'.key ≡ hold.key) × (hold'.node ≡ hold.node) × (allows mode want ≡ true)
let_in hold hold' mode want None visit none = absurd (cc)
let_in hold hold' mode want (Some done) visit none = (
  visit.left.0.key ∙ visit.given_back.key ∙ visit.entered.0.key,
  visit.left.0.node ∙ ap (λ c. c.node) visit.given_back.caller ∙ visit.entered.0.node,
  allowed (allows mode want) none,
)

pub opened : (hold hold' : Handle) (node : Node) (want : Want) (mode tag : ℕ)
    → Visited hold hold' node want None → node ≡ File mode tag
    → (hold'.key ≡ hold.key) × (hold'.node ≡ hold.node) × (allows mode want ≡ true)
opened hold hold' node want mode tag opens is_file =
    let (came, visit, none) = opens.file mode tag is_file in let_in hold hold' mode want came visit none

denied : (refusal : Refusal) (active is_allowed : Bool)
    → Some refusal ≡ first_cause (unless active NoDevice ∷ unless is_allowed Access ∷ [])
    → (refusal ≡ NoDevice) ⊎ ((refusal ≡ Access) × (is_allowed ≡ false))
denied refusal false is_allowed why = inl (cc)
denied refusal true false why = inr (cc, refl)
denied refusal true true why = absurd (cc)

pub refused : (hold hold' : Handle) (node : Node) (want : Want) (mode tag : ℕ) (refusal : Refusal)
    → Visited hold hold' node want (Some refusal) → node ≡ File mode tag → NotOpened mode want refusal
refused hold hold' node want mode tag refusal opens is_file =
    let (came, visit, why) = opens.file mode tag is_file in
    denied refusal (is_some came) (allows mode want) why

-- ---- by a path

-- if `only_file` returns a key, it is the key that was asked about, and its node is a file
is_file : (place key : Key) (node : Option Node) → only_file place node ≡ Ok key
    → (place ≡ key) × (mode : ℕ) × (tag : ℕ) × (node ≡ Some (File mode tag))
is_file place key None only = absurd (cc)
is_file place key (Some Dir) only = absurd (cc)
is_file place key (Some (Link target)) only = absurd (cc)
is_file place key (Some (File mode tag)) only = (cc, mode, tag, refl)

held_file : (t : Tree) (place key : Key) → file_at t (Ok place) ≡ Ok key
    → (place ≡ key) × (mode : ℕ) × (tag : ℕ) × (node_at t key ≡ Some (File mode tag))
held_file t place key only =
    let (same, mode, tag, there) = is_file place key (node_at t place) only in
    (same, mode, tag, subst (λ k. node_at t k ≡ Some (File mode tag)) same there)

unsome : (one other : Node) → Some one ≡ Some other → one ≡ other
unsome one other same = cc

pub path_opened : (t : Tree) (root : Key) (numbers : Numbers) (place key : Key) (path : List ℕ) (want : Want)
    (hold : Handle) (result : Result (Opened Handle) Refusal) → seen t root path ≡ Ok place → file_at t (Ok place) ≡ Ok key
    → hold.key ≡ key → node_at t key ≡ Some hold.node
    → IfOk result (λ file. (mode tag : ℕ) → hold.node ≡ File mode tag
    → (file.hold.key ≡ hold.key) × (file.hold.node ≡ hold.node) × (file.tag ≡ tag) × (allows mode want ≡ true))
    → IfOk result (λ file. IsNewPost numbers hold.key.slot file.post) → IfOk result (λ file. file.state ≡ new_file want)
    → IfOk result (λ file. OpenedAt t root numbers path want file)
path_opened t root numbers place key path want hold (Err why) named only key_is node held fresh new = tt
path_opened t root numbers place key path want hold (Ok file) named only key_is node held fresh new =
    let (same, mode, tag, there) = held_file t place key only in
    let is_file = unsome hold.node (File mode tag) (sym node ∙ there) in
    let (hold_is, node_is, tag_is, allowed) = held mode tag is_file in
    record {
      key = key;
      mode = mode;
      named = named ∙ ap Ok same;
      there = there ∙ ap (λ n. Some (File mode n)) (sym tag_is);
      held = hold_is ∙ key_is;
      node = node_is ∙ is_file ∙ ap (λ n. File mode n) (sym tag_is);
      allowed = allowed;
      fresh = subst (λ k. IsNewPost numbers k.slot file.post) key_is fresh;
      new = new;
    }

pub path_refused : (s : Locked) (m' : MasterView) (slots : ℕ) (place key : Key) (path : List ℕ)
    (want : Want) (hold : Handle) (result : Result (Opened Handle) Refusal)
    → seen s.state.tree s.state.root path ≡ Ok place → file_at s.state.tree (Ok place) ≡ Ok key
    → hold.key ≡ key → node_at s.state.tree key ≡ Some hold.node
    → IfErr result (λ refusal. (mode tag : ℕ) → hold.node ≡ File mode tag
    → PostRefused slots hold.key.slot refusal ⊎ NotOpened mode want refusal)
    → IfErr result (λ refusal. OpenRefused s m' slots path want refusal)
path_refused s m' slots place key path want hold (Ok file) named only key_is node why = tt
path_refused s m' slots place key path want hold (Err refusal) named only key_is node why =
    subst (λ p. FileRefused s m' slots want p refusal) (sym (ap (file_at s.state.tree) named ∙ only))
    (λ mode tag there. inr (subst (λ k. PostRefused slots k.slot refusal ⊎ NotOpened mode want refusal) key_is
    (why mode tag (unsome hold.node (File mode tag) (sym node ∙ there)))))

-- a file that was opened by a path was opened on the node of its hold
pub of_its_hold : (t : Tree) (root : Key) (numbers : Numbers) (path : List ℕ) (want : Want) (file : Opened Handle)
    → OpenedAt t root numbers path want file → IsOpened numbers want file
of_its_hold t root numbers path want file opened = record {
  mode = opened.mode;
  node = opened.node;
  allowed = opened.allowed;
  fresh = subst (λ k. IsNewPost numbers k.slot file.post) (sym opened.held) opened.fresh;
  new = opened.new;
}

-- ---- by a hold

pub of_hold : (numbers : Numbers) (want : Want) (hold : Handle) (mode tag : ℕ) (file : Opened Handle)
    → hold.node ≡ File mode tag
    → ((mode tag : ℕ) → hold.node ≡ File mode tag
    → (file.hold.key ≡ hold.key) × (file.hold.node ≡ hold.node) × (file.tag ≡ tag) × (allows mode want ≡ true))
    → IsNewPost numbers hold.key.slot file.post → file.state ≡ new_file want
    → (file.hold.key ≡ hold.key) × IsOpened numbers want file
of_hold numbers want hold mode tag file is_file held fresh new =
    let (hold_is, node_is, tag_is, allowed) = held mode tag is_file in (
      hold_is,
      record {
        mode = mode;
        node = node_is ∙ is_file ∙ ap (λ n. File mode n) (sym tag_is);
        allowed = allowed;
        fresh = subst (λ k. IsNewPost numbers k.slot file.post) (sym hold_is) fresh;
        new = new;
      },
    )
