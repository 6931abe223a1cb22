-- What the tree commands that take paths lead to.
use Rattle.std.proofs.Common.{◌≡◌, ℕ, ap, ◌∙◌, subst, Bool, true, List, [], ◌∷◌, slice_set, inl, inr}
use Rattle.std.specs.Prelude.{Option, None, Some, Result, Ok, Err, IfOk, IfErr, MatchResult}
use Rattle.kf_core.specs.declared.key.Key.{Key}
use Rattle.kf_core.specs.declared.key.Node.{Node}
use Rattle.kf_core.specs.declared.key.Node.TheVariants.{Link}
use Rattle.kf_core.specs.declared.refusal.Refusal.{Refusal}
use Rattle.kf_core.specs.declared.command.Command.TheVariants.{Create}
use Rattle.kf_tree.specs.TreeLogs.{TreeLog}
use Rattle.kf_tree.specs.Paths.{and_then, walked, walked_parent}
use Rattle.kf_tree.specs.Causes.{Refuses, create_cause, linked_cause, rename_cause}
use Rattle.kf_plain.specs.Nodes.{Nodes, logged}
use Rattle.kf_plain.specs.Settled.{ok_unless, Leads, IsWhy}
use Rattle.kf_plain.specs.PlainTree.{Spot, new_spot, new_link_spot, activated_key, moved_key, moved_nodes, with_born}

abbrev spot : Key → List ℕ → Spot
spot dir name = record { dir = dir; name = name }

spot_is : (log : TreeLog) (path : List ℕ) (node : Node) (next : Option Key) (dir : Key) (name : List ℕ) → walked_parent log.tree log.root path ≡ Ok (dir, name) → create_cause log.tree log.root dir name node next ≡ None → new_spot log path node next ≡ Ok (spot dir name)
spot_is log path node next dir name w e =
    ap (λ (r : Result (Key × List ℕ) Refusal). and_then r (λ at. ok_unless (create_cause log.tree log.root at.0 at.1 node next) (spot at.0 at.1))) w ∙ ap (λ c. ok_unless c (spot dir name)) e

pub created_at : (n n' : Nodes) (seen : TreeLog) (path name own : List ℕ) (node : Node) (is_live : Bool) (next : Option Key) (dir : Key) (result : Result Key Refusal) → seen ≡ n.log → walked_parent seen.tree seen.root path ≡ Ok (dir, name) →
    IfOk result (λ _. create_cause n.log.tree n.log.root dir name node next ≡ None) →
    IfOk result (λ key. n' ≡ record n { log = logged n.log (Create key dir name node is_live ∷ []); last = slice_set n.last key.slot key.generation }) →
    IfOk result (λ key. (s : Spot) × (new_spot n.log path node next ≡ Ok s) × (n' ≡ with_born n key s node is_live))
created_at n n' seen path name own node is_live next dir (Ok key) same w none made = (spot dir name, spot_is n.log path node next dir name (subst (λ (l : TreeLog). walked_parent l.tree l.root path ≡ Ok (dir, name)) same w) none, made)
created_at n n' seen path name own node is_live next dir (Err refusal) same w none made = tt

pub linked_at : (n n' : Nodes) (seen seen' : TreeLog) (path target name : List ℕ) (next : Option Key) (dir to : Key) (result : Result Key Refusal) → seen ≡ n.log → seen' ≡ n.log → walked_parent seen.tree seen.root path ≡ Ok (dir, name) → walked seen'.tree seen'.root target ≡ Ok to →
    IfOk result (λ _. create_cause n.log.tree n.log.root dir name (Link to) next ≡ None) →
    IfOk result (λ key. n' ≡ record n { log = logged n.log (Create key dir name (Link to) true ∷ []); last = slice_set n.last key.slot key.generation }) →
    IfOk result (λ key. (l : Key × Spot) × (new_link_spot n.log path target next ≡ Ok l) × (n' ≡ with_born n key l.1 (Link l.0) true))
linked_at n n' seen seen' path target name next dir to (Ok key) same same' w t none made = ((to, spot dir name), leads, made)
  where
    leads : new_link_spot n.log path target next ≡ Ok (to, spot dir name)
    leads =
        ap (λ (r : Result (Key × List ℕ) Refusal). and_then r (λ at. and_then (walked n.log.tree n.log.root target) (λ to. ok_unless (create_cause n.log.tree n.log.root at.0 at.1 (Link to) next) (to, spot at.0 at.1))))
        (subst (λ (l : TreeLog). walked_parent l.tree l.root path ≡ Ok (dir, name)) same w)
        ∙ ap (λ (r : Result Key Refusal). and_then r (λ to. ok_unless (create_cause n.log.tree n.log.root dir name (Link to) next) (to, spot dir name))) (subst (λ (l : TreeLog). walked l.tree l.root target ≡ Ok to) same' t)
        ∙ ap (λ c. ok_unless c (to, spot dir name)) none
linked_at n n' seen seen' path target name next dir to (Err refusal) same same' w t none made = tt

pub moved_at : (n n' : Nodes) (seen seen' : TreeLog) (path dir name : List ℕ) (key into : Key) (result : Result (Unit {0}) Refusal) → seen ≡ n.log → seen' ≡ n.log → walked seen.tree seen.root path ≡ Ok key → walked seen'.tree seen'.root dir ≡ Ok into →
    IfOk result (λ _. rename_cause n.log.tree n.log.root key into name ≡ None) → IfOk result (λ _. n' ≡ moved_nodes n key into name) →
    IfOk result (λ _. (keys : Key × Key) × (moved_key n.log path dir name ≡ Ok keys) × (n' ≡ moved_nodes n keys.0 keys.1 name))
moved_at n n' seen seen' path dir name key into (Ok done) same same' w t none made = ((key, into), leads, made)
  where
    leads : moved_key n.log path dir name ≡ Ok (key, into)
    leads =
        ap (λ (r : Result Key Refusal). and_then r (λ key. and_then (walked n.log.tree n.log.root dir) (λ into. ok_unless (rename_cause n.log.tree n.log.root key into name) (key, into)))) (subst (λ (l : TreeLog). walked l.tree l.root path ≡ Ok key) same w)
        ∙ ap (λ (r : Result Key Refusal). and_then r (λ into. ok_unless (rename_cause n.log.tree n.log.root key into name) (key, into))) (subst (λ (l : TreeLog). walked l.tree l.root dir ≡ Ok into) same' t)
        ∙ ap (λ c. ok_unless c (key, into)) none
moved_at n n' seen seen' path dir name key into (Err refusal) same same' w t none made = tt

-- if the second path of a move leads nowhere, the move is refused for the same cause
pub moved_nowhere : (log seen seen' : TreeLog) (path dir name : List ℕ) (key : Key) (refusal : Refusal) → seen ≡ log → seen' ≡ log → walked seen.tree seen.root path ≡ Ok key → walked seen'.tree seen'.root dir ≡ Err refusal → moved_key log path dir name ≡ Err refusal
moved_nowhere log seen seen' path dir name key refusal same same' w t =
    ap (λ (r : Result Key Refusal). and_then r (λ key. and_then (walked log.tree log.root dir) (λ into. ok_unless (rename_cause log.tree log.root key into name) (key, into)))) (subst (λ (l : TreeLog). walked l.tree l.root path ≡ Ok key) same w)
    ∙ ap (λ (r : Result Key Refusal). and_then r (λ into. ok_unless (rename_cause log.tree log.root key into name) (key, into))) (subst (λ (l : TreeLog). walked l.tree l.root dir ≡ Err refusal) same' t)

-- ---- why a command is refused

-- if only this cause stands against a request, a refusal for the cause is a refusal of the request
pub refused_so : {X : Type 0} (cause : Option Refusal) (x : X) (leads : Result X Refusal) (refusal : Refusal) → leads ≡ ok_unless cause x → Refuses cause refusal → IsWhy leads refusal
refused_so cause x leads refusal e (inl caused) = inl (e ∙ ap (λ c. ok_unless c x) caused)
refused_so cause x leads refusal e (inr wanting) = inr (wanting.1, (x, e ∙ ap (λ c. ok_unless c x) wanting.0))

refused_as : {X T : Type 0} (n n' : Nodes) (cause : Option Refusal) (x : X) (leads : Result X Refusal) (result : Result T Refusal) → leads ≡ ok_unless cause x
    → IfErr result (λ refusal. Refuses cause refusal × (n' ≡ n)) → IfErr result (λ refusal. IsWhy leads refusal × (n' ≡ n))
refused_as n n' cause x leads (Ok done) e refused = tt
refused_as n n' cause x leads (Err refusal) e refused = (refused_so cause x leads refusal e refused.0, refused.1)

spot_from : (log seen : TreeLog) (path : List ℕ) (node : Node) (next : Option Key) (dir : Key) (name : List ℕ) → seen ≡ log → walked_parent seen.tree seen.root path ≡ Ok (dir, name)
    → new_spot log path node next ≡ ok_unless (create_cause log.tree log.root dir name node next) (spot dir name)
spot_from log seen path node next dir name same w =
    ap (λ (r : Result (Key × List ℕ) Refusal). and_then r (λ at. ok_unless (create_cause log.tree log.root at.0 at.1 node next) (spot at.0 at.1)))
    (subst (λ (l : TreeLog). walked_parent l.tree l.root path ≡ Ok (dir, name)) same w)

pub not_created_at : (n n' : Nodes) (seen : TreeLog) (path name : List ℕ) (node : Node) (next : Option Key) (dir : Key) (result : Result Key Refusal) → seen ≡ n.log → walked_parent seen.tree seen.root path ≡ Ok (dir, name)
    → IfErr result (λ refusal. Refuses (create_cause n.log.tree n.log.root dir name node next) refusal × (n' ≡ n)) → IfErr result (λ refusal. IsWhy (new_spot n.log path node next) refusal × (n' ≡ n))
not_created_at n n' seen path name node next dir result same w refused =
    refused_as n n' (create_cause n.log.tree n.log.root dir name node next) (spot dir name) (new_spot n.log path node next) result (spot_from n.log seen path node next dir name same w) refused

-- whether a node may be created
pub may_be_created : (log seen seen' : TreeLog) (path name : List ℕ) (node : Node) (next : Option Key) (dir : Key) (result : Result (Unit {0}) Refusal) → seen ≡ log → seen' ≡ log → walked_parent seen.tree seen.root path ≡ Ok (dir, name)
    → MatchResult result (λ _. create_cause seen'.tree seen'.root dir name node next ≡ None) (λ cause. create_cause seen'.tree seen'.root dir name node next ≡ Some cause)
    → MatchResult result (λ _. Leads (new_spot log path node next)) (λ cause. new_spot log path node next ≡ Err cause)
may_be_created log seen seen' path name node next dir (Ok x) same same' w checked =
    (spot dir name, spot_from log seen path node next dir name same w ∙ ap (λ c. ok_unless c (spot dir name)) (subst (λ (l : TreeLog). create_cause l.tree l.root dir name node next ≡ None) same' checked))
may_be_created log seen seen' path name node next dir (Err cause) same same' w checked =
    spot_from log seen path node next dir name same w ∙ ap (λ c. ok_unless c (spot dir name)) (subst (λ (l : TreeLog). create_cause l.tree l.root dir name node next ≡ Some cause) same' checked)

pub not_linked_at : (n n' : Nodes) (seen seen' : TreeLog) (path target name : List ℕ) (next : Option Key) (dir to : Key) (result : Result Key Refusal) → seen ≡ n.log → seen' ≡ n.log → walked_parent seen.tree seen.root path ≡ Ok (dir, name) → walked seen'.tree seen'.root target ≡ Ok to
    → IfErr result (λ refusal. Refuses (create_cause n.log.tree n.log.root dir name (Link to) next) refusal × (n' ≡ n)) → IfErr result (λ refusal. IsWhy (new_link_spot n.log path target next) refusal × (n' ≡ n))
not_linked_at n n' seen seen' path target name next dir to result same same' w t refused =
    refused_as n n' (create_cause n.log.tree n.log.root dir name (Link to) next) (to, spot dir name) (new_link_spot n.log path target next) result leads refused
  where
    leads : new_link_spot n.log path target next ≡ ok_unless (create_cause n.log.tree n.log.root dir name (Link to) next) (to, spot dir name)
    leads =
        ap (λ (r : Result (Key × List ℕ) Refusal). and_then r (λ at. and_then (walked n.log.tree n.log.root target) (λ to. ok_unless (create_cause n.log.tree n.log.root at.0 at.1 (Link to) next) (to, spot at.0 at.1))))
        (subst (λ (l : TreeLog). walked_parent l.tree l.root path ≡ Ok (dir, name)) same w)
        ∙ ap (λ (r : Result Key Refusal). and_then r (λ to. ok_unless (create_cause n.log.tree n.log.root dir name (Link to) next) (to, spot dir name))) (subst (λ (l : TreeLog). walked l.tree l.root target ≡ Ok to) same' t)

pub not_moved_at : (n n' : Nodes) (seen seen' : TreeLog) (path dir name : List ℕ) (key into : Key) (result : Result (Unit {0}) Refusal) → seen ≡ n.log → seen' ≡ n.log → walked seen.tree seen.root path ≡ Ok key → walked seen'.tree seen'.root dir ≡ Ok into
    → IfErr result (λ refusal. Refuses (rename_cause n.log.tree n.log.root key into name) refusal × (n' ≡ n)) → IfErr result (λ refusal. IsWhy (moved_key n.log path dir name) refusal × (n' ≡ n))
not_moved_at n n' seen seen' path dir name key into result same same' w t refused =
    refused_as n n' (rename_cause n.log.tree n.log.root key into name) (key, into) (moved_key n.log path dir name) result leads refused
  where
    leads : moved_key n.log path dir name ≡ ok_unless (rename_cause n.log.tree n.log.root key into name) (key, into)
    leads =
        ap (λ (r : Result Key Refusal). and_then r (λ key. and_then (walked n.log.tree n.log.root dir) (λ into. ok_unless (rename_cause n.log.tree n.log.root key into name) (key, into)))) (subst (λ (l : TreeLog). walked l.tree l.root path ≡ Ok key) same w)
        ∙ ap (λ (r : Result Key Refusal). and_then r (λ into. ok_unless (rename_cause n.log.tree n.log.root key into name) (key, into))) (subst (λ (l : TreeLog). walked l.tree l.root dir ≡ Ok into) same' t)

pub not_activated_at : (n n' : Nodes) (seen : TreeLog) (path : List ℕ) (key : Key) (result : Result (Unit {0}) Refusal) → seen ≡ n.log → walked seen.tree seen.root path ≡ Ok key
    → IfErr result (λ refusal. Refuses (linked_cause n.log.tree key) refusal × (n' ≡ n)) → IfErr result (λ refusal. IsWhy (activated_key n.log path) refusal × (n' ≡ n))
not_activated_at n n' seen path key result same w refused =
    refused_as n n' (linked_cause n.log.tree key) key (activated_key n.log path) result
    (ap (λ (r : Result Key Refusal). and_then r (λ k. ok_unless (linked_cause n.log.tree k) k)) (subst (λ (l : TreeLog). walked l.tree l.root path ≡ Ok key) same w))
    refused
