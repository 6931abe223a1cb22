-- While the lock is free, the tree says what the words say, so what lasts over runs of the words is true of
-- the tree.
use Rattle.std.proofs.Common.{◌≡◌, inl, inr, ℕ, ◌+◌, ◌≤◌, Bool, true, false, cond, not, ◌&&◌, refl, sym, ap, ◌∙◌, subst, ⊎_elim, arith, ne_eqb}
use Rattle.std.specs.Prelude.{slice_get, Option, None, Some, is_some, if◌then◌else◌}
use Rattle.std.specs.Option.{option_map}
use Rattle.std.proofs.lemmas.Option.{none-some, same_Some, slice_get_within}
use Rattle.std.proofs.lemmas.Bool.Decides.{eqb_tells}
use Rattle.kf_core.specs.declared.caller.Caller.{Caller}
use Rattle.kf_core.specs.declared.caller.Phase.{Phase}
use Rattle.kf_core.specs.declared.caller.Phase.TheVariants.{Turned, Running, Hidden}
use Rattle.kf_core.specs.declared.event.Event.TheVariants.{Enter}
use Rattle.kf_core.specs.declared.key.Key.{Key}
use Rattle.kf_core.specs.declared.slot.NodeFlags.{NodeFlags}
use Rattle.kf_core.specs.declared.slot.SlotState.{SlotState}
use Rattle.kf_core.specs.declared.records.Record.{Record}
use Rattle.kf_core.specs.Marks.{are_live, are_doomed}
use Rattle.kf_core.specs.Bare.{BareWorld, IsCaller, marks, marks_in, is_hidden, is_live}
use Rattle.kf_core.specs.Bare.{is_linked as is_linked_in}
use Rattle.kf_core.specs.Agrees.{Agrees}
use Rattle.kf_core.specs.Steps.{BareStep}
use Rattle.kf_core.specs.Tree.{record_at, is_linked}
use Rattle.kf_core.proofs.Climbs.{same_parts}
use Rattle.kf_core.proofs.Lists.{slice_get-set_same}
use Rattle.kf_core.proofs.Passing.{HasCome, Finished, Lost}
use Rattle.kf_core.proofs.Runs.{seen_finished, linked_has_come}
use Rattle.kf_words.proofs.Runs.{safe_now, rule_kept, run_holds, come_for_good, lost_for_good, done_for_good, run_is_safe, marked_keeps_out, passed_for_good, born_unheld, try_enters, taken_live, opens_well}
use Rattle.kf_words.specs.Runs.{Table, world, opened_table, WasLetIn}
use Rattle.kf_words.specs.declared.view.MasterView.{MasterView}
use Rattle.kf_shared.specs.Locked.{Locked}
use Rattle.kf_shared.specs.Running.{IsFreeLock, StartsWell, IsReplay, IsOfHistory, TreeAgrees, lets_in, StartsLive, RunsLinked, MarkedForGood, RemovedForGood, PartedForGood, HiddenIsStill, HeldNotGiven, HeldIsLast, GoneForGood, TakenWhileLive}
use Rattle.kf_shared.proofs.Gone.{Gone, step_gone, alone_gone, parted_gone}

pub starts_well : StartsWell
starts_well slots limit start s table some_slot few whole opens =
    ((opens_well slots limit start some_slot few).0, record { table = table; whole = whole; its_master = sym opens })

pub is_of_history : IsOfHistory
is_of_history slots limit t u kinds s h r free = free.whole.told

pub is_replay : IsReplay
is_replay slots limit t u kinds s h r free = free.whole.kept.replayed

-- the tree and the world of the words agree
agrees : (u : Table) (s : Locked) → IsFreeLock u s → Agrees s.state.tree (world u)
agrees u s free key = sym (free.whole.tied.marks key) ∙ ap (λ (m : MasterView). marks_in (slice_get m.slots key.slot) key.generation) (sym free.its_master)

pub tree_agrees : TreeAgrees
tree_agrees slots limit t u kinds s h r free = agrees u s free

-- what an Enter does to its caller
entered : (w w' : BareWorld) (j : ℕ) (key : Key) (phase : Phase) → BareStep w (Enter j) w' → IsCaller w j key phase → IsCaller w' j key (if is_live w key then Running else Turned)
entered w w' j key phase s there =
    let old : Caller = record { key = key; phase = phase } in
    let known : Caller = record { key = s.0; phase = s.1 } in
    let its : key ≡ s.0 = ap (λ (x : Caller). x.key) (same_Some old known (sym there ∙ s.2)) in
    let now : Caller = record { key = s.0; phase = if is_live w s.0 then Running else Turned } in
    ap (λ (x : BareWorld). slice_get x.callers j) s.4 ∙ slice_get-set_same w.callers j now (slice_get_within w.callers j known s.2)
    ∙ ap (λ (k : Key). let x : Caller = record { key = k; phase = if is_live w k then Running else Turned } in Some x) (sym its)

pub starts_live : StartsLive
starts_live slots limit t u kinds s h r free j key phase v there step =
    let live : is_live (world u) key ≡ lets_in s.state.tree u key = ap (λ m. are_live m && not (is_hidden (world u) key)) (sym (agrees u s free key)) in
    subst (λ b. IsCaller (world v) j key (if b then Running else Turned)) live
    (entered (world u) (world v) j key phase (try_enters slots limit u v (rule_kept slots limit t u kinds h r) j step) there)

has_marks : (o : Option Record) → is_some (option_map (λ (r : Record). r.marks) o) ≡ is_some o
has_marks None = refl
has_marks (Some r) = refl

-- the same nodes are linked in the tree and in the words
same_linked : (u : Table) (s : Locked) → IsFreeLock u s → (key : Key) → is_linked s.state.tree key ≡ is_linked_in (world u) key
same_linked u s free key = sym (has_marks (record_at s.state.tree key)) ∙ ap is_some (agrees u s free key)

pub runs_linked : RunsLinked
runs_linked slots limit t u kinds s h r free key gone c runs =
    let safe = run_is_safe slots limit t u kinds h r in
    let linked : is_linked s.state.tree key ≡ true = same_linked u s free key ∙ safe.running_linked c key runs in
    let x : true ≡ false = sym linked ∙ gone in cc

dead : (o : Option NodeFlags) → are_doomed o ≡ true → are_live o ≡ false
dead None e = refl
dead (Some m) e = off m.activated m.doomed e
  where
    off : (a b : Bool) → b ≡ true → (a && not b) ≡ false
    off true true e = refl
    off false true e = refl
    off true false e = absurd (let x : false ≡ true = e in cc)
    off false false e = refl

pub marked_for_good : MarkedForGood
marked_for_good slots limit t u kinds s h r free key linked doomed =
    let lost : Lost (world u) key = lost_for_good slots limit kinds t u key h r (record { doomed = doomed; come = linked_has_come (world t) key linked }) in
    ((marked_keeps_out slots limit t u kinds h r key linked doomed).1, ap are_live (agrees u s free key) ∙ dead (marks (world u) key) lost.doomed)

pub removed_for_good : RemovedForGood
removed_for_good slots limit t u kinds s h r free c key phase there past =
    let done : Finished (world u) key = done_for_good slots limit kinds t u key h r (seen_finished (world t) c key phase (safe_now slots limit t h) there past) in
    (done.alone, ap are_live (agrees u s free key) ∙ dead (marks (world u) key) done.doomed)

pub parted_for_good : PartedForGood
parted_for_good slots limit t u kinds s h r free c key there =
    let gone : Gone (world u) key = run_holds (λ (x : BareWorld). Gone x key) (λ x e y q f. step_gone x e y key q f) (alone_gone key) slots limit kinds t u h r (parted_gone (world t) c key (safe_now slots limit t h) there) in
    same_linked u s free key ∙ ap is_some gone.unlinked

pub hidden_is_still : HiddenIsStill
hidden_is_still slots limit t u kinds h r c key there = (run_is_safe slots limit t u kinds h r).none_running c key Hidden there refl

pub held_not_given : HeldNotGiven
held_not_given = born_unheld

-- a linked key of a slot has the slot's last generation
last_linked : (o : Option SlotState) (state : SlotState) (generation : ℕ) → o ≡ Some state → is_some (marks_in o generation) ≡ true → state.generation ≡ generation
last_linked None state generation e l = absurd (none-some state e)
last_linked (Some p) state generation e l = elim (eqb_tells p.generation generation) [
  | inl g ↦ ap (λ (x : SlotState). x.generation) (sym (same_Some p state e)) ∙ g.1
  | inr n ↦ absurd (let x : false ≡ true = sym (ap (λ b. is_some (cond b p.marks None)) n.0) ∙ l in cc)
]

pub held_is_last : HeldIsLast
held_is_last slots limit t u kinds s h r free c key other phase there holds linked slot =
    let last = (run_is_safe slots limit t u kinds h r).held_last c key phase there holds in
    let its : last.0.generation ≡ other.generation = last_linked (slice_get (world u).slots other.slot) last.0 other.generation (ap (slice_get (world u).slots) slot ∙ last.1) (sym (same_linked u s free other) ∙ linked) in
    same_parts other key slot (sym its ∙ last.2)

pub gone_for_good : GoneForGood
gone_for_good slots limit t u kinds s h r free key generation last more =
    let next : Key = record { slot = key.slot; generation = key.generation + 1 } in
    let come : HasCome (world u) next = come_for_good slots limit kinds t u next h r (record {
      last = last.0;
      there = last.1;
      come = (let e : last.0.generation ≡ generation = last.2 in omega arith);
    }) in
    let later : key.generation + 1 ≤ come.last.generation = come.come in
    let none : marks (world u) key ≡ None =
    ap (λ (o : Option SlotState). marks_in o key.generation) come.there
    ∙ ap (λ (b : Bool). cond b come.last.marks None) (ne_eqb come.last.generation key.generation (λ e. omega arith)) in
    (passed_for_good slots limit t u kinds h r key generation last more, same_linked u s free key ∙ ap is_some none)

pub taken_while_live : TakenWhileLive
taken_while_live slots limit start u kinds some_slot few r c key runs = ⊎_elim
    (λ (old : IsCaller (world (opened_table limit slots start)) c key Running). absurd (none-some _ old))
    (λ (new : WasLetIn (opened_table limit slots start) kinds u c key). new)
    (taken_live slots limit (opened_table limit slots start) u kinds (opens_well slots limit start some_slot few).0 r c key runs)
