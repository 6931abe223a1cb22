-- What a removal stores, step by step.
use Rattle.std.proofs.Common.{◌≡◌, ◌<◌, zero, suc, Bool, true, false, inl, inr, List, [], ◌∷◌, ◌++◌, length, refl, sym, ◌∙◌, ap, subst, arith}
use Rattle.std.specs.Prelude.{Contains, All, Option, None, Some, Result, Ok, Err, IfOk, IfErr, MatchBool, is_some, unwrap_or}
use Rattle.std.specs.Option.{option_map, ok_or}
use Rattle.std.proofs.lemmas.List.Elements.{All-nil, All-cons, All-append, All-weaker}
use Rattle.kf_core.specs.declared.command.Command.{Command}
use Rattle.kf_core.specs.declared.command.Command.TheVariants.{Create, Activate, Doom, Unlink, Rename, Hide, Show}
use Rattle.kf_core.specs.declared.key.Key.{Key}
use Rattle.kf_core.specs.declared.records.Record.{Record}
use Rattle.kf_core.specs.declared.refusal.Refusal.{Refusal}
use Rattle.kf_core.specs.declared.refusal.Refusal.TheVariants.{NoEntry}
use Rattle.kf_core.specs.Marks.{are_doomed}
use Rattle.kf_core.specs.PostOrder.{IsPostOrder}
use Rattle.kf_core.specs.Tree.{Tree, record_at, is_linked}
use Rattle.kf_tree.specs.declared.stat.Stat.{Stat}
use Rattle.kf_tree.specs.Causes.{doomed_in, hidden_in}
use Rattle.kf_tree.specs.Stat.{stat_of}
use Rattle.kf_tree.specs.TreeLogs.{IsAccepted, Stores}
use Rattle.kf_tree.proofs.Storing.{none, none_same, one, join}
use Rattle.kf_words.specs.Callers.{Handle}
use Rattle.kf_shared.specs.Locked.{Locked, Unchanged, UnlinkDone, UnlinkRefused}
use Rattle.kf_shared.specs.Removal.{keys_of}
use Rattle.kf_handles.specs.declared.questions.TreeReply.{TreeReply}
use Rattle.kf_handles.specs.declared.questions.TreeReply.TheVariants as told
use Rattle.kf_handles.specs.Answers.{DoneOr}
use Rattle.kf_handles.specs.Hiding.{IsUnhidden, IsHiddenStill, UnhidingRefused}
use Rattle.kf_handles.specs.Removing.{IsEndOf, Ends, Removes}

-- ---- commands that take a node out or show it

-- nothing was done
pub no_end : (keys : List Key) (old new : Locked) → new.state ≡ old.state → new.claims ≡ old.claims → Ends keys old new
no_end keys old new same claims = ([], All-nil (IsEndOf keys), none_same old.state new.state same, claims)

pub no_end_same : (keys : List Key) (old new : Locked) → new ≡ old → Ends keys old new
no_end_same keys old new same = no_end keys old new (ap (λ (s : Locked). s.state) same) (ap (λ (s : Locked). s.claims) same)

pub no_end_unchanged : (keys : List Key) (old new : Locked) → Unchanged old new → Ends keys old new
no_end_unchanged keys old new same =
    ([], All-nil (IsEndOf keys), none old.state new.state same.root same.tree same.commands, same.claims)

-- one command was stored
pub one_end : (keys : List Key) (old new : Locked) (cause : Option Refusal) (command : Command) → IsEndOf keys command
    → IsAccepted old.state new.state cause command → new.claims ≡ old.claims → Ends keys old new
one_end keys old new cause command is accepted claims = (
  command ∷ [],
  All-cons (IsEndOf keys) command [] is (All-nil (IsEndOf keys)),
  one old.state new.state cause command accepted,
  claims,
)

-- two parts, one after the other
pub both_ends : (keys : List Key) (a b c : Locked) → Ends keys a b → Ends keys b c → Ends keys a c
both_ends keys a b c first other = (
  first.0 ++ other.0,
  All-append (IsEndOf keys) first.0 other.0 first.1 other.1,
  join a.state b.state c.state first.0 other.0 first.2 other.2,
  other.3 ∙ first.3,
)

-- a command that takes out or shows this one node does so to a node of any list that has it
end_of_more : (keys : List Key) (key : Key) → Contains keys key → (command : Command) → IsEndOf (key ∷ []) command
    → IsEndOf keys command
end_of_more keys key here (Unlink k) (zero, less, is) = subst (λ (x : Key). Contains keys x) is here
end_of_more keys key here (Unlink k) (suc i, less, is) = absurd (omega (arith, less))
end_of_more keys key here (Show k) (zero, less, is) = subst (λ (x : Key). Contains keys x) is here
end_of_more keys key here (Show k) (suc i, less, is) = absurd (omega (arith, less))
end_of_more keys key here (Create k dir name node live) never = absurd never
end_of_more keys key here (Activate k) never = absurd never
end_of_more keys key here (Doom k) never = absurd never
end_of_more keys key here (Rename k dir name) never = absurd never
end_of_more keys key here (Hide k) never = absurd never

pub ends_of_more : (keys : List Key) (key : Key) (a b : Locked) → Contains keys key → Ends (key ∷ []) a b → Ends keys a b
ends_of_more keys key a b here (more, all, stores, claims) =
    (more, All-weaker (IsEndOf (key ∷ [])) (IsEndOf keys) (end_of_more keys key here) more all, stores, claims)

-- a key is in the list that has only this key
pub alone : (key : Key) → Contains (key ∷ []) key
alone key = (0, omega arith, refl)

-- ---- the holds of nodes

pub all_among : (holds : List Handle) → All (λ h. Contains (keys_of holds) h.key) holds
all_among [] k d inside = absurd (omega (arith, inside))
all_among (h ∷ holds) zero d inside = (0, omega arith, refl)
all_among (h ∷ holds) (suc k) d inside =
    let below : k < length holds = omega (arith, inside) in
    let found = all_among holds k d below in (suc found.0, omega (arith, found.1), found.2)

pub rest_of : (P : Handle → Type 0) (all rest : List Handle) (hold : Handle) → all ≡ hold ∷ rest → All P all → All P rest
rest_of P all rest hold parts each = λ i d inside. subst (All P) parts each (suc i) d (omega (arith, inside))

pub first_of : (P : Handle → Type 0) (all rest : List Handle) (hold : Handle) → all ≡ hold ∷ rest → All P all → P hold
first_of P all rest hold parts each = subst (All P) parts each 0 hold (omega arith)

-- ---- what is reported of a node

doomed_of : (t : Tree) (found : Option Record) (stat : Stat) → option_map (stat_of t) found ≡ Some stat
    → stat.doomed ≡ are_doomed (option_map (λ r. r.marks) found)
doomed_of t None stat never = cc
doomed_of t (Some r) stat is =
    ap (λ (o : Option Stat). unwrap_or (option_map (λ (s : Stat). s.doomed) o) false) (sym is)

linked_of : (t : Tree) (found : Option Record) (stat : Stat) → option_map (stat_of t) found ≡ Some stat
    → is_some found ≡ true
linked_of t None stat never = cc
linked_of t (Some r) stat is = refl

told_of : (o : Option Stat) (stat : Stat) → ok_or o NoEntry ≡ Ok stat → o ≡ Some stat
told_of None stat never = cc
told_of (Some s) stat is = cc

pub is_told : (t : Tree) (key : Key) (stat : Stat)
    → ok_or (option_map (stat_of t) (record_at t key)) NoEntry ≡ Ok stat
    → (is_linked t key ≡ true) × (stat.doomed ≡ doomed_in t key)
is_told t key stat told =
    let some = told_of (option_map (stat_of t) (record_at t key)) stat told in
    (linked_of t (record_at t key) stat some, doomed_of t (record_at t key) stat some)

-- ---- what the steps stored

-- a drained node was taken out or not
pub unlinked_or_not : (old new : Locked) (key drained : Key) (r : Result Bool Refusal) → drained ≡ key
    → IfOk r (λ unlinked. UnlinkDone old new drained unlinked)
    → IfErr r (λ why. UnlinkRefused old new drained why)
    → new.claims ≡ old.claims → Ends (key ∷ []) old new
unlinked_or_not old new key drained (Ok true) same done why claims =
    one_end (key ∷ []) old new _ (Unlink drained) (subst (λ (k : Key). Contains (k ∷ []) drained) same (alone drained)) done claims
unlinked_or_not old new key drained (Ok false) same done why claims = no_end_same (key ∷ []) old new done
unlinked_or_not old new key drained (Err refusal) same done (inl refused) claims = no_end_same (key ∷ []) old new refused.1
unlinked_or_not old new key drained (Err refusal) same done (inr refused) claims =
    no_end_unchanged (key ∷ []) old new refused.3

-- a hidden node was shown or not
shown_at : (old new : Locked) (key : Key) (hidden : Bool)
    → MatchBool hidden (IsAccepted old.state new.state None (Show key)) (new.state ≡ old.state)
    → new.claims ≡ old.claims → Ends (key ∷ []) old new
shown_at old new key true accepted claims = one_end (key ∷ []) old new None (Show key) (alone key) accepted claims
shown_at old new key false same claims = no_end (key ∷ []) old new same claims

pub shown_or_not : (old new : Locked) (tokens tokens' : List (Option Handle)) (key : Key) (reply : TreeReply)
    → DoneOr (IsUnhidden old tokens new tokens' key) (IsHiddenStill old tokens new tokens' key)
    (λ why. UnhidingRefused old tokens key why × (new ≡ old) × (tokens' ≡ tokens)) reply
    → Ends (key ∷ []) old new
shown_or_not old new tokens tokens' key told.Done shown =
    shown_at old new key (hidden_in old.state.tree key) shown.2 shown.3
shown_or_not old new tokens tokens' key told.Not still = no_end_same (key ∷ []) old new still.4.0
shown_or_not old new tokens tokens' key (told.Refused why) same = no_end_same (key ∷ []) old new same.1
shown_or_not old new tokens tokens' key (told.Named k) never = absurd never
shown_or_not old new tokens tokens' key (told.Held h) never = absurd never
shown_or_not old new tokens tokens' key (told.Counted n) never = absurd never
shown_or_not old new tokens tokens' key told.Gone never = absurd never
shown_or_not old new tokens tokens' key told.Wrong never = absurd never

-- ---- a removal

-- if the node was marked before, only what ends nodes of its subtree is stored
pub went_on : (old new : Locked) (key : Key) (keys : List Key) → IsPostOrder old.state.tree key keys
    → Ends keys old new → Removes true old new key
went_on old new key keys order (more, all, stores, claims) = (keys, more, order, all, stores, claims)

-- if the node is marked now, its doom is stored, and then what ends nodes of its subtree
pub begun : (old marked new : Locked) (key : Key) (keys : List Key) → IsPostOrder old.state.tree key keys
    → Stores old.state marked.state (Doom key ∷ []) → marked.claims ≡ old.claims
    → Ends keys marked new → Removes false old new key
begun old marked new key keys order doomed same (more, all, stores, claims) = (
  keys,
  more,
  order,
  all,
  join old.state marked.state new.state (Doom key ∷ []) more doomed stores,
  claims ∙ same,
)
