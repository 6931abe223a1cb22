-- What follows if there is no cause to refuse a call.
use Rattle.std.proofs.Common.{◌≡◌, ◌≢◌, ℕ, refl, ap, sym, ◌∙◌, Bool, true, false, List, [], ◌∷◌}
use Rattle.std.specs.Prelude.{Option, None, Some, slice_get, is_some, not, ◌&&◌}
use Rattle.std.specs.List.{find as first}
use Rattle.std.specs.Str.{bytes_eq}
use Rattle.std.specs.Option.{option_and_then, option_map_or, option_map}
use Rattle.std.proofs.lemmas.Option.{none-some}
use Rattle.std.proofs.lemmas.Slice.Eq.{bytes_eq-Decides}
use Rattle.kf_core.specs.declared.key.Key.{Key}
use Rattle.kf_core.specs.declared.key.Node.{Node}
use Rattle.kf_core.specs.declared.key.Node.TheVariants.{Dir, File, Link}
use Rattle.kf_core.specs.declared.records.Record.{Record}
use Rattle.kf_core.specs.declared.refusal.Refusal.{Refusal}
use Rattle.kf_core.specs.declared.refusal.Refusal.TheVariants.{NoEntry, Exists, Busy, Invalid, IsDir}
use Rattle.kf_core.specs.Refusals.{unless, first_cause}
use Rattle.kf_core.specs.Keys.{same_key}
use Rattle.kf_core.specs.Marks.{are_doomed}
use Rattle.kf_core.specs.Tree.{Tree, record_at, IsIn, is_dir, is_linked}
use Rattle.kf_table.specs.Children.{is_under, has_child}
use Rattle.kf_tree.specs.Causes.{create_fault, doom_cause, unlink_cause, hide_cause, is_directory, is_link, hidden_in, target_fault, doomed_in, has_entry, target_of}
use Rattle.kf_core.proofs.Climbs.{same_key_self}
use Rattle.kf_core.proofs.Names.{lawful_without_fault}
use Rattle.kf_table.proofs.ChildTests.{some_first, some_any, is_key_self}
use Rattle.kf_tree.proofs.Created.{MayCreate}

pub no_first : (c : Option Refusal) (cs : List (Option Refusal)) → first_cause (c ∷ cs) ≡ None → (c ≡ None) × (first_cause cs ≡ None)
no_first None cs h = (refl, h)
no_first (Some e) cs h = absurd (none-some e (sym h))

pub passed : (b : Bool) (e : Refusal) → unless b e ≡ None → b ≡ true
passed true e h = refl
passed false e h = absurd (none-some e (sym h))

pub not_passed : (b : Bool) (e : Refusal) → unless (not b) e ≡ None → b ≡ false
not_passed true e h = absurd (none-some e (sym h))
not_passed false e h = refl

pub linked_record : (t : Tree) (key : Key) → is_linked t key ≡ true → (r : Record) × (record_at t key ≡ Some r)
linked_record t key h = elim (record_at t key) as (λ o. is_some o ≡ true → (r : Record) × (o ≡ Some r)) [
  | None ↦ λ e. absurd (let x : false ≡ true = e in cc)
  | Some r ↦ λ e. (r, refl)
] h

pub dir_node : (node : Node) → is_dir node ≡ true → node ≡ Dir
dir_node Dir h = refl
dir_node (File mode tag) h = absurd (let x : false ≡ true = h in cc)
dir_node (Link target) h = absurd (let x : false ≡ true = h in cc)

-- if the directory has no entry of this name, no record in it has the name
pub name_free : (t : Tree) (dir : Key) (name : List ℕ) → has_entry t dir name ≡ false → (s : Record) → IsIn t s → s.parent ≡ Some dir → s.name ≡ name → ⊥
name_free t dir name h s i p n =
    (let is : is_under dir (λ (r : Record). bytes_eq r.name name) (Some s) ≡ true = ap (λ b. b && bytes_eq s.name name) (is_key_self dir s.parent p) ∙ (bytes_eq-Decides s.name name).1 n in
    let f = some_first (is_under dir (λ (r : Record). bytes_eq r.name name)) t s.key.slot (Some s) i is in
    elim f.0 as (λ o. first (is_under dir (λ (r : Record). bytes_eq r.name name)) t ≡ Some o → is_under dir (λ (r : Record). bytes_eq r.name name) o ≡ true → ⊥) [
      | None ↦ λ e b. let x : false ≡ true = b in cc
      | Some r ↦ λ e b. (let found : has_entry t dir name ≡ true = ap (λ o. is_some (option_and_then (λ place. place) o)) e in cc (found, h))
    ] f.1 f.2)

-- if the directory has no child, no record is in it
pub childless : (t : Tree) (dir : Key) → has_child t dir ≡ false → (s : Record) → IsIn t s → s.parent ≡ Some dir → ⊥
childless t dir h s i p = (let any = some_any (is_under dir (λ r. true)) t s.key.slot (Some s) i (ap (λ b. b && true) (is_key_self dir s.parent p)) in cc (any, h))

pub may_create : (t : Tree) (root key parent : Key) (name : List ℕ) (node : Node) → create_fault t root parent name node ≡ None → slice_get t key.slot ≡ Some None → MayCreate t key parent name
may_create t root key parent name node h v =
    (let c = no_first _ _ h in
    let d = linked_record t parent (passed _ _ c.0) in
    let c2 = no_first _ _ c.1 in
    let c3 = no_first _ _ c2.1 in
    let c4 = no_first _ _ c3.1 in
    let last : List (Option Refusal) = [] in
    let c5 = no_first (target_fault t root (target_of node)) (unless (not (has_entry t parent name)) Exists ∷ last) c4.1 in
    let c6 = no_first (unless (not (has_entry t parent name)) Exists) last c5.1 in
    record {
      vacant = v;
      dir = d.0;
      known = d.1;
      is_dir = dir_node d.0.node (ap (λ o. option_map_or (λ (r : Record). is_dir r.node) o false) (sym d.1) ∙ passed _ _ c3.0);
      undoomed = ap (λ o. are_doomed (option_map (λ (r : Record). r.marks) o)) (sym d.1) ∙ not_passed _ _ c4.0;
      lawful_name = lawful_without_fault name c2.0;
      unused = name_free t parent name (not_passed (has_entry t parent name) Exists c6.0);
    })

pub record MayUnlink (t : Tree) (root key : Key) : Type 0 where
  pub gone : Record
  pub known : record_at t key ≡ Some gone
  pub is_doomed : gone.marks.doomed ≡ true
  pub leaf : (s : Record) → IsIn t s → s.parent ≡ Some key → ⊥

pub may_unlink : (t : Tree) (root key : Key) → is_linked t key ≡ true → unlink_cause t key ≡ None → MayUnlink t root key
may_unlink t root key linked h =
    (let r = linked_record t key linked in
    let last : List (Option Refusal) = unless (not (has_child t key)) Busy ∷ [] in
    let c = no_first (unless (doomed_in t key) Invalid) last h in
    let c2 = no_first (unless (not (has_child t key)) Busy) [] c.1 in
    record {
      gone = r.0;
      known = r.1;
      is_doomed = ap (λ o. are_doomed (option_map (λ (x : Record). x.marks) o)) (sym r.1) ∙ passed (doomed_in t key) Invalid c.0;
      leaf = childless t key (not_passed (has_child t key) Busy c2.0);
    })

pub unlink_allowed : (t seen : Tree) (root key : Key) (linked : Bool) → seen ≡ t → (is_linked seen key ≡ linked) × (linked ≡ true → unlink_cause seen key ≡ None) → linked ≡ true → MayUnlink t root key
unlink_allowed t seen root key linked same h is =
    may_unlink t root key (ap (λ x. is_linked x key) (sym same) ∙ h.0 ∙ is) (ap (λ x. unlink_cause x key) (sym same) ∙ h.1 is)

pub not_root : (t : Tree) (root key : Key) → doom_cause t root key ≡ None → key ≢ root
not_root t root key h e =
    (let c = no_first (unless (is_linked t key) NoEntry) (unless (not (same_key key root)) Invalid ∷ []) h in
    let d = no_first (unless (not (same_key key root)) Invalid) [] c.1 in
    let other : same_key key root ≡ false = not_passed (same_key key root) Invalid d.0 in
    let same : same_key key root ≡ true = ap (same_key key) (sym e) ∙ same_key_self key in
    let no : true ≡ false = sym same ∙ other in cc)

pub record MayHide (t : Tree) (key : Key) : Type 0 where
  pub file : Record
  pub known : record_at t key ≡ Some file
  pub no_dir : is_dir file.node ≡ false
  pub shown : file.hidden ≡ false

pub may_hide : (t : Tree) (key : Key) → hide_cause t key ≡ None → MayHide t key
may_hide t key h =
    (let last : List (Option Refusal) = unless (not (hidden_in t key)) Busy ∷ [] in
    let c = no_first (unless (is_linked t key) NoEntry) (unless (not (is_directory t key)) IsDir ∷ unless (not (is_link t key)) Invalid ∷ unless (not (doomed_in t key)) NoEntry ∷ last) h in
    let r = linked_record t key (passed (is_linked t key) NoEntry c.0) in
    let c2 = no_first (unless (not (is_directory t key)) IsDir) (unless (not (is_link t key)) Invalid ∷ unless (not (doomed_in t key)) NoEntry ∷ last) c.1 in
    let c3 = no_first (unless (not (is_link t key)) Invalid) (unless (not (doomed_in t key)) NoEntry ∷ last) c2.1 in
    let c4 = no_first (unless (not (doomed_in t key)) NoEntry) last c3.1 in
    let c5 = no_first (unless (not (hidden_in t key)) Busy) [] c4.1 in
    record {
      file = r.0;
      known = r.1;
      no_dir = ap (λ o. option_map_or (λ (x : Record). is_dir x.node) o false) (sym r.1) ∙ not_passed (is_directory t key) IsDir c2.0;
      shown = ap (λ o. option_map_or (λ (x : Record). x.hidden) o false) (sym r.1) ∙ not_passed (hidden_in t key) Busy c5.0;
    })

pub hidden_record_of : (t : Tree) (key : Key) → hidden_in t key ≡ true → (r : Record) × (record_at t key ≡ Some r) × (r.hidden ≡ true)
hidden_record_of t key h = elim (record_at t key) as (λ o. option_map_or (λ (x : Record). x.hidden) o false ≡ true → (r : Record) × (o ≡ Some r) × (r.hidden ≡ true)) [
  | None ↦ λ e. absurd (let x : false ≡ true = e in cc)
  | Some r ↦ λ e. (r, refl, e)
] h
