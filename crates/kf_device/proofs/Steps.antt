-- Why a step of a plug is refused.
use Rattle.std.proofs.Common.{◌≡◌, ◌≢◌, inl, inr, refl, ap, subst, sym, ◌∙◌, true, false, [], ◌∷◌, ℕ, List}
use Rattle.std.specs.Prelude.{Bool, not, Option, None, Some, is_some}
use Rattle.std.proofs.lemmas.Option.{none-some, same_Some}
use Rattle.kf_core.specs.declared.key.Key.{Key}
use Rattle.kf_core.specs.declared.key.Node.{Node}
use Rattle.kf_core.specs.declared.key.Node.TheVariants.{Link}
use Rattle.kf_core.specs.declared.refusal.Refusal.{Refusal}
use Rattle.kf_core.specs.declared.refusal.Refusal.TheVariants.{NoEntry, NotDir, Exists, NoSpace, NoMemory, Invalid}
use Rattle.kf_core.specs.Keys.{same_key}
use Rattle.kf_core.specs.Names.{name_fault}
use Rattle.kf_core.specs.Refusals.{first_cause, unless}
use Rattle.kf_core.specs.Tree.{Tree, is_linked}
use Rattle.kf_core.proofs.Climbs.{same_key_is}
use Rattle.kf_tree.specs.Causes.{Refuses, create_fault, doomed_in, has_entry, is_directory, linked_cause, target_fault, target_of}
use Rattle.kf_shared.specs.Locked.{Locked, CreateRefused}
use Rattle.kf_device.specs.Stops.{StepRefusal}

-- if there is a cause, this is true of it
abbrev Gives : (Refusal → Type 0) → Option Refusal → Type 0
Gives P cause = (refusal : Refusal) → cause ≡ Some refusal → P refusal

gives_none : (P : Refusal → Type 0) (cause : Option Refusal) → cause ≡ None → Gives P cause
gives_none P cause none refusal h = absurd (none-some refusal (sym none ∙ h))

gives_unless : (P : Refusal → Type 0) (b : Bool) (why : Refusal) → P why → Gives P (unless b why)
gives_unless P true why p refusal h = absurd (none-some refusal h)
gives_unless P false why p refusal h = subst P (same_Some why refusal h) p

gives_more : (P : Refusal → Type 0) (cause : Option Refusal) (causes : List (Option Refusal)) → Gives P cause → Gives P (first_cause causes) → Gives P (first_cause (cause ∷ causes))
gives_more P None causes first later refusal h = later refusal h
gives_more P (Some why) causes first later refusal h = first refusal h

gives_end : (P : Refusal → Type 0) → Gives P (first_cause [])
gives_end P refusal h = absurd (none-some refusal h)

-- any fault of a target that is not the root is one of the reasons of `StepRefusal`
gives_target : (t : Tree) (root target : Key) → same_key target root ≡ false → Gives StepRefusal (target_fault t root (Some target))
gives_target t root target other =
    gives_more StepRefusal (unless (is_linked t target) NoEntry) (unless (not (same_key target root)) Invalid ∷ [])
    (gives_unless StepRefusal (is_linked t target) NoEntry (inl refl))
    (gives_more StepRefusal (unless (not (same_key target root)) Invalid) []
    (gives_none StepRefusal (unless (not (same_key target root)) Invalid) (ap (λ b. unless (not b) Invalid) other))
    (gives_end StepRefusal))

-- if the name is lawful, and any fault of the target is a reason of `StepRefusal`, so is any fault of the
-- node
gives_create : (t : Tree) (root parent : Key) (name : List ℕ) (node : Node) → name_fault name ≡ None
    → Gives StepRefusal (target_fault t root (target_of node)) → Gives StepRefusal (create_fault t root parent name node)
gives_create t root parent name node lawful target =
    let taken : Option Refusal = unless (not (has_entry t parent name)) Exists in
    let targeted : Option Refusal = target_fault t root (target_of node) in
    let marked : Option Refusal = unless (not (doomed_in t parent)) NoEntry in
    let directory : Option Refusal = unless (is_directory t parent) NotDir in
    let linked : Option Refusal = unless (is_linked t parent) NoEntry in
    let p5 : Gives StepRefusal (first_cause (taken ∷ [])) = gives_more StepRefusal taken []
    (gives_unless StepRefusal (not (has_entry t parent name)) Exists (inr (inr (inl refl)))) (gives_end StepRefusal) in
    let p4 : Gives StepRefusal (first_cause (targeted ∷ taken ∷ [])) = gives_more StepRefusal targeted (taken ∷ []) target p5 in
    let p3 : Gives StepRefusal (first_cause (marked ∷ targeted ∷ taken ∷ [])) = gives_more StepRefusal marked (targeted ∷ taken ∷ [])
    (gives_unless StepRefusal (not (doomed_in t parent)) NoEntry (inl refl)) p4 in
    let p2 : Gives StepRefusal (first_cause (directory ∷ marked ∷ targeted ∷ taken ∷ [])) =
    gives_more StepRefusal directory (marked ∷ targeted ∷ taken ∷ [])
    (gives_unless StepRefusal (is_directory t parent) NotDir (inr (inl refl))) p3 in
    let p1 : Gives StepRefusal (first_cause (name_fault name ∷ directory ∷ marked ∷ targeted ∷ taken ∷ [])) =
    gives_more StepRefusal (name_fault name) (directory ∷ marked ∷ targeted ∷ taken ∷ []) (gives_none StepRefusal (name_fault name) lawful) p2 in
    gives_more StepRefusal linked (name_fault name ∷ directory ∷ marked ∷ targeted ∷ taken ∷ [])
    (gives_unless StepRefusal (is_linked t parent) NoEntry (inl refl)) p1

-- lack of memory is one of the reasons of `StepRefusal`
no_memory : (refusal : Refusal) → refusal ≡ NoMemory → StepRefusal refusal
no_memory refusal h = inr (inr (inr (inr h)))

-- a creation is refused for what was wrong with the node, for lack of a slot, or for lack of memory
refused_create : (s s' : Locked) (parent : Key) (name : List ℕ) (node : Node) (refusal : Refusal)
    → Gives StepRefusal (create_fault s.state.tree s.state.root parent name node)
    → CreateRefused s s' parent name node refusal → StepRefusal refusal
refused_create s s' parent name node refusal gives refused = elim refused [
  | inl c ↦ gives refusal c.0
  | inr r ↦ elim r.1.2.named [
    | inl c ↦ (let lacks : Option Refusal = unless (is_some r.1.0) NoSpace in
        gives_more StepRefusal (create_fault s.state.tree s.state.root parent name node) (lacks ∷ []) gives
        (gives_more StepRefusal lacks [] (gives_unless StepRefusal (is_some r.1.0) NoSpace (inr (inr (inr (inl refl))))) (gives_end StepRefusal))
        refusal c)
    | inr m ↦ no_memory refusal m.1
  ]
]

-- a directory or a file with a lawful name is refused only for one of the reasons of `StepRefusal`
pub made_refused : (s s' : Locked) (parent : Key) (name : List ℕ) (node : Node) (refusal : Refusal) → name_fault name ≡ None → target_of node ≡ None
    → CreateRefused s s' parent name node refusal → StepRefusal refusal
made_refused s s' parent name node refusal lawful none =
    refused_create s s' parent name node refusal
    (gives_create s.state.tree s.state.root parent name node lawful
    (gives_none StepRefusal (target_fault s.state.tree s.state.root (target_of node)) (ap (target_fault s.state.tree s.state.root) none)))

-- a slot that is not 0 is not the root's
not_root : (root key : Key) → root.slot ≡ 0 → key.slot ≢ 0 → same_key key root ≡ false
not_root root key top other = elim (same_key key root) as (λ b. same_key key root ≡ b → b ≡ false) [
  | true ↦ λ e. absurd (other (ap (λ (k : Key). k.slot) (same_key_is key root e) ∙ top))
  | false ↦ λ e. refl
] refl

-- a link with a lawful name to a node that is not the root is refused only for a reason of `StepRefusal`
pub link_refused : (s s' : Locked) (parent target : Key) (name : List ℕ) (refusal : Refusal) → name_fault name ≡ None → s.state.root.slot ≡ 0 → target.slot ≢ 0
    → CreateRefused s s' parent name (Link target) refusal → StepRefusal refusal
link_refused s s' parent target name refusal lawful root below =
    refused_create s s' parent name (Link target) refusal
    (gives_create s.state.tree s.state.root parent name (Link target) lawful
    (gives_target s.state.tree s.state.root target (not_root s.state.root target root below)))

-- an activation is refused only for one of the reasons of `StepRefusal`
pub activate_refused : (t : Tree) (key : Key) (refusal : Refusal) → Refuses (linked_cause t key) refusal → StepRefusal refusal
activate_refused t key refusal (inl c) = gives_unless StepRefusal (is_linked t key) NoEntry (inl refl) refusal c
activate_refused t key refusal (inr m) = no_memory refusal m.1
