-- What holds over every run of steps of the table.
use Rattle.std.proofs.Common.{◌≡◌, ◌⊎◌, inl, inr, ℕ, suc, ◌+◌, arith, Bool, true, false, List, [], ◌∷◌, ◌++◌, map, set, if◌then◌else◌, refl, sym, ap, ◌∙◌, subst, ⊎_elim}
use Rattle.std.specs.Prelude.{slice_get, slice_index, Some, None}
use Rattle.std.proofs.lemmas.Option.{same_Some, slice_get_within}
use Rattle.kf_core.specs.declared.key.Key.{Key}
use Rattle.kf_core.specs.declared.key.Node.TheVariants.{Dir}
use Rattle.kf_core.specs.declared.caller.Caller.{Caller}
use Rattle.kf_core.specs.declared.caller.Phase.{Phase}
use Rattle.kf_core.specs.declared.caller.Phase.TheVariants.{Still, Turned, Running, Spent}
use Rattle.kf_core.specs.declared.event.Event.{Event}
use Rattle.kf_core.specs.declared.event.Event.TheVariants.{Enter}
use Rattle.kf_core.specs.Bare.{BareWorld, IsCaller, is_live}
use Rattle.kf_core.specs.Phases.{saw_unused}
use Rattle.kf_core.specs.Safe.{Safe}
use Rattle.kf_core.specs.Steps.{BareStep, OnlySpent, with_caller}
use Rattle.kf_core.proofs.Lists.{slice_get-set_same, after_push}
use Rattle.kf_core.proofs.Hiding.{hider_not_live}
use Rattle.kf_core.proofs.Runs.{seen_finished, linked_has_come, passed_unheld, step_starts}
use Rattle.kf_core.proofs.Passing.{HasCome, Lost, Finished, linked_come, linked_lost, linked_finished, caller_finished, step_come, step_lost, step_finished, lost_not_live}
use Rattle.kf_words.specs.declared.view.CallerView.{CallerView}
use Rattle.kf_words.specs.declared.view.MasterView.{MasterView}
use Rattle.kf_words.specs.declared.view.View.{View}
use Rattle.kf_words.specs.declared.view.View.TheVariants as seat
use Rattle.kf_words.specs.Layout.{active_index}
use Rattle.kf_words.specs.Rule.{Shown, seats, bare_world}
use Rattle.kf_words.specs.Steps.{after_try}
use Rattle.kf_words.specs.TableSteps.{Table, StepKind, tries, world, WordStep}
use Rattle.kf_words.specs.Runs.{WordRun, AttendedRun, OpensWell, RuleKept, RunIsRun, HeldIsNamed, newcomer, RunIsSafe, DrainedForGood, MarkedKeepsOut, HiddenKeepsOut, PassedForGood, BornUnheld, LetInLive, WasLetIn, TakenLive}
use Rattle.kf_words.proofs.Seating.{seats-set}
use Rattle.kf_words.proofs.MasterAllowed.{state_there}
use Rattle.kf_words.proofs.Opening.{opening_shown}
use Rattle.kf_words.proofs.Events.{try_is_enter, birth_is_born}
use Rattle.kf_words.proofs.WordSteps.{Led, IsEvent, Alone, TakenOut, Came, Passed, with_spent, at, met, world_is, word_step}
use Rattle.kf_words.proofs.Followed.{followed_from}

-- a run keeps the rule
word_run : (slots limit : ℕ) (kinds : List StepKind) (t u : Table) → Shown slots limit t → WordRun t kinds u → Shown slots limit u
word_run slots limit [] t u h r = subst (λ (x : Table). Shown slots limit x) (sym r) h
word_run slots limit (kind ∷ kinds) t u h r = word_run slots limit kinds r.0 u (word_step slots limit t kind r.0 h r.1).0 r.2

-- what is kept by each event, and by each change that is not one event, is kept by a run
pub run_holds : (P : BareWorld → Type 0) → ((w : BareWorld) (e : Event) (w' : BareWorld) → BareStep w e w' → P w → P w') → ((kind : StepKind) (w w' : BareWorld) → Alone kind w w' → P w → P w')
    → (slots limit : ℕ) (kinds : List StepKind) (t u : Table) → Shown slots limit t → WordRun t kinds u → P (world t) → P (world u)
run_holds P events alone slots limit [] t u h r p = subst (λ (x : Table). P (world x)) (sym r) p
run_holds P events alone slots limit (kind ∷ kinds) t u h r p =
    let v : Table = r.0 in
    let s = word_step slots limit t kind v h r.1 in
    run_holds P events alone slots limit kinds v u s.0 r.2
    (⊎_elim
    (λ (same : world v ≡ world t). subst P (sym same) p)
    (λ (more : IsEvent kind (world t) (world v) ⊎ Alone kind (world t) (world v)). ⊎_elim
    (λ (e : IsEvent kind (world t) (world v)). events (world t) e.event (world v) e.step p)
    (λ (a : Alone kind (world t) (world v)). alone kind (world t) (world v) a p)
    more)
    s.1)

pub alone_come : (k : Key) (kind : StepKind) (w w' : BareWorld) → Alone kind w w' → HasCome w k → HasCome w' k
alone_come k kind w w' a h = ⊎_elim
    (λ (o : TakenOut kind w w'). subst (λ (x : BareWorld). HasCome x k) (sym o.is) (linked_come w o.key k o.had None o.linked h))
    (λ (m : Came kind w w' ⊎ Passed kind w w'). ⊎_elim
    (λ (c : Came kind w w'). subst (λ (x : BareWorld). HasCome x k) (sym c.is) (record { last = h.last; there = h.there; come = h.come }))
    (λ (p : Passed kind w w'). subst (λ (x : BareWorld). HasCome x k) (sym p.is) (record { last = h.last; there = h.there; come = h.come }))
    m)
    a

alone_lost : (k : Key) (kind : StepKind) (w w' : BareWorld) → Alone kind w w' → Lost w k → Lost w' k
alone_lost k kind w w' a f = ⊎_elim
    (λ (o : TakenOut kind w w'). subst (λ (x : BareWorld). Lost x k) (sym o.is) (linked_lost w o.key k o.had None o.linked (λ _. refl) f))
    (λ (m : Came kind w w' ⊎ Passed kind w w'). ⊎_elim
    (λ (c : Came kind w w'). subst (λ (x : BareWorld). Lost x k) (sym c.is)
    (record { doomed = f.doomed; come = record { last = f.come.last; there = f.come.there; come = f.come.come } }))
    (λ (p : Passed kind w w'). subst (λ (x : BareWorld). Lost x k) (sym p.is)
    (record { doomed = f.doomed; come = record { last = f.come.last; there = f.come.there; come = f.come.come } }))
    m)
    a

alone_finished : (k : Key) (kind : StepKind) (w w' : BareWorld) → Alone kind w w' → Finished w k → Finished w' k
alone_finished k kind w w' a f = ⊎_elim
    (λ (o : TakenOut kind w w'). subst (λ (x : BareWorld). Finished x k) (sym o.is) (linked_finished w o.key k o.had None o.linked (λ _. refl) f))
    (λ (m : Came kind w w' ⊎ Passed kind w w'). ⊎_elim
    (λ (c : Came kind w w'). subst (λ (x : BareWorld). Finished x k) (sym c.is)
    (caller_finished w (with_caller w c.key).callers c.key Still k (λ d y h. after_push w.callers d (record { key = c.key; phase = Still }) y h) (λ e. absurd (let x : Still ≡ Running = e in cc)) f))
    (λ (p : Passed kind w w'). subst (λ (x : BareWorld). Finished x k) (sym p.is)
    (caller_finished w (with_spent w p.key).callers p.key Spent k (λ d y h. after_push w.callers d (record { key = p.key; phase = Spent }) y h) (λ e. absurd (let x : Spent ≡ Running = e in cc)) f))
    m)
    a

-- a slot that has reached a key's generation never falls below it, and what is lost or finished stays so
pub come_for_good : (slots limit : ℕ) (kinds : List StepKind) (t u : Table) (k : Key) → Shown slots limit t → WordRun t kinds u → HasCome (world t) k → HasCome (world u) k
come_for_good slots limit kinds t u k h r = run_holds (λ x. HasCome x k) (λ x e y s p. step_come x e y k s p) (alone_come k) slots limit kinds t u h r

pub lost_for_good : (slots limit : ℕ) (kinds : List StepKind) (t u : Table) (k : Key) → Shown slots limit t → WordRun t kinds u → Lost (world t) k → Lost (world u) k
lost_for_good slots limit kinds t u k h r = run_holds (λ x. Lost x k) (λ x e y s p. step_lost x e y k s p) (alone_lost k) slots limit kinds t u h r

pub done_for_good : (slots limit : ℕ) (kinds : List StepKind) (t u : Table) (k : Key) → Shown slots limit t → WordRun t kinds u → Finished (world t) k → Finished (world u) k
done_for_good slots limit kinds t u k h r = run_holds (λ x. Finished x k) (λ x e y s p. step_finished x e y k s p) (alone_finished k) slots limit kinds t u h r

pub opens_well : OpensWell
opens_well slots limit start some_slot few = (opening_shown slots limit start some_slot few, refl)

pub rule_kept : RuleKept
rule_kept slots limit t u kinds h r = word_run slots limit kinds t u h r

-- an attended run is a run
attended_runs : (kinds : List StepKind) (t u : Table) → AttendedRun t kinds u → WordRun t kinds u
attended_runs [] t u r = r
attended_runs (kind ∷ kinds) t u r = (r.0, r.2, attended_runs kinds r.0 u r.3)

-- an attended run is a run of events, too
pub run_is_run : RunIsRun
run_is_run slots limit t u kinds h r = (attended_runs kinds t u r, followed_from slots limit kinds t u h r)

pub held_is_named : HeldIsNamed
held_is_named t none =
    ap (λ (keys : List Key). let w : BareWorld = record { slots = (world t).slots; callers = (world t).callers ++ map newcomer keys } in w) none
    ∙ ap (λ (l : List Caller). let w : BareWorld = record { slots = (world t).slots; callers = l } in w) (nothing_more (world t).callers)
  where
    nothing_more : (l : List Caller) → l ++ [] ≡ l
    nothing_more [] = refl
    nothing_more (x ∷ xs) = ap (λ l. x ∷ l) (nothing_more xs)

-- the world of a table that meets the rule is safe
pub safe_now : (slots limit : ℕ) (t : Table) → Shown slots limit t → Safe (world t)
safe_now slots limit t h = subst Safe (sym (world_is t h.master h.callers h.views)) h.shows.safe

pub run_is_safe : RunIsSafe
run_is_safe slots limit t u kinds h r = safe_now slots limit u (rule_kept slots limit t u kinds h r)

pub drained_for_good : DrainedForGood
drained_for_good slots limit t u kinds h r c key phase there past =
    (done_for_good slots limit kinds t u key h r (seen_finished (world t) c key phase (safe_now slots limit t h) there past)).alone

pub passed_for_good : PassedForGood
passed_for_good slots limit t u kinds h r key generation last more =
    let next : Key = record { slot = key.slot; generation = key.generation + 1 } in
    passed_unheld (world u) key (safe_now slots limit u (rule_kept slots limit t u kinds h r))
    (come_for_good slots limit kinds t u next h r (record {
      last = last.0;
      there = last.1;
      come = (let e : last.0.generation ≡ generation = last.2 in omega (arith, more, e));
    }))

pub born_unheld : BornUnheld
born_unheld slots limit t u kinds g r slot v s =
    let k = rule_kept slots limit t u kinds g r in
    let m : MasterView = s.0 in
    let k' = met slots limit u v k m s.2.there in
    let p = state_there m.slots slot s.1.0 in
    let key : Key = record { slot = slot; generation = p.0.generation + 1 } in
    subst (λ (w : BareWorld). OnlySpent w slot) (sym (world_is u m k.callers k'.views)) (birth_is_born slots limit u k' slot p.0 key [] Dir s.1.1 p.1).0.unheld

let_in : (b : Bool) → (if b then Running else Turned) ≡ Running → b ≡ true
let_in true e = refl
let_in false e = absurd (let x : Turned ≡ Running = e in cc)

enter_live : (w w' : BareWorld) (j : ℕ) (key : Key) → BareStep w (Enter j) w' → IsCaller w' j key Running → is_live w key ≡ true
enter_live w w' j key s runs =
    let phase : Phase = if is_live w s.0 then Running else Turned in
    let now : Caller = record { key = s.0; phase = phase } in
    let old : Caller = record { key = s.0; phase = s.1 } in
    let then_runs : Caller = record { key = key; phase = Running } in
    let there : slice_get (set w.callers j now) j ≡ Some now = slice_get-set_same w.callers j now (slice_get_within w.callers j old s.2) in
    let one : now ≡ then_runs = same_Some now then_runs (sym there ∙ ap (λ (x : BareWorld). slice_get x.callers j) (sym s.4) ∙ runs) in
    ap (λ (x : Key). is_live w x) (sym (ap (λ (x : Caller). x.key) one)) ∙ let_in (is_live w s.0) (ap (λ (x : Caller). x.phase) one)

-- a try on the words is an Enter in the world
pub try_enters : (slots limit : ℕ) (u v : Table) → Shown slots limit u → (j : ℕ) → WordStep u (tries j) v → BareStep (world u) (Enter j) (world v)
try_enters slots limit u v k j s =
    let c : CallerView = s.0 in
    let n : ℕ = slice_index u.words (active_index c.key.slot) in
    let enters = try_is_enter slots limit u k j c (at slots limit u v k j c s.2.there) s.1 in
    let c' : CallerView = after_try n c in
    let views : v.views ≡ seats k.master (set k.callers j c') =
    ap (λ (x : Table). x.views) s.2.becomes ∙ ap (λ (l : List View). set l (suc j) (seat.Caller c')) k.views ∙ seats-set k.master k.callers j c' in
    let is_u = world_is u k.master k.callers k.views in
    let is_v = world_is v k.master (set k.callers j c') views in
    subst (λ (w : BareWorld). BareStep w (Enter j) (world v)) (sym is_u) (subst (λ (w : BareWorld). BareStep (bare_world k.master k.callers) (Enter j) w) (sym is_v) enters)

pub let_in_live : LetInLive
let_in_live slots limit t u kinds g r j key v s runs =
    enter_live (world u) (world v) j key (try_enters slots limit u v (rule_kept slots limit t u kinds g r) j s) runs

-- a try of a key that is not live is refused
enter_refused : (w w' : BareWorld) (j : ℕ) (key : Key) (phase : Phase) → BareStep w (Enter j) w' → IsCaller w j key phase → is_live w key ≡ false → IsCaller w' j key Turned
enter_refused w w' j key phase s there dead =
    let old : Caller = record { key = key; phase = phase } in
    let known : Caller = record { key = s.0; phase = s.1 } in
    let its : key ≡ s.0 = ap (λ (x : Caller). x.key) (same_Some old known (sym there ∙ s.2)) in
    let after : Phase = if is_live w s.0 then Running else Turned in
    let now : Caller = record { key = s.0; phase = after } in
    let turned : after ≡ Turned = ap (λ (b : Bool). if b then Running else Turned) (ap (is_live w) (sym its) ∙ dead) in
    let new : slice_get (set w.callers j now) j ≡ Some now = slice_get-set_same w.callers j now (slice_get_within w.callers j known s.2) in
    ap (λ (x : BareWorld). slice_get x.callers j) s.4 ∙ new
    ∙ ap (λ (k : Key). let x : Caller = record { key = k; phase = after } in Some x) (sym its)
    ∙ ap (λ (p : Phase). let x : Caller = record { key = key; phase = p } in Some x) turned

pub marked_keeps_out : MarkedKeepsOut
marked_keeps_out slots limit t u kinds g r key linked doomed =
    let k = rule_kept slots limit t u kinds g r in
    let dead = lost_not_live (world u) key (lost_for_good slots limit kinds t u key g r (record { doomed = doomed; come = linked_has_come (world t) key linked })) in (
      dead,
      λ j old v tried s. enter_refused (world u) (world v) j key old (try_enters slots limit u v k j s) tried dead,
    )

pub hidden_keeps_out : HiddenKeepsOut
hidden_keeps_out slots limit t u kinds g r c key phase there hiding =
    let k = rule_kept slots limit t u kinds g r in (
      λ j old v tried s. enter_refused (world u) (world v) j key old (try_enters slots limit u v k j s) tried (hider_not_live (world u) c key phase there hiding),
      λ hidden. (safe_now slots limit u k).none_running c key phase there (ap saw_unused hidden),
    )

-- a caller that runs after a step ran before it, or the step is its try, on a live key
started : (kind : StepKind) (w w' : BareWorld) (c : ℕ) (key : Key) → Led kind w w' → IsCaller w' c key Running → IsCaller w c key Running ⊎ ((kind ≡ tries c) × (is_live w key ≡ true))
started kind w w' c key l runs = ⊎_elim
    (λ (stays : w' ≡ w). inl (subst (λ (x : BareWorld). IsCaller x c key Running) stays runs))
    (λ (more : IsEvent kind w w' ⊎ Alone kind w w'). ⊎_elim
    (λ (x : IsEvent kind w w'). ⊎_elim
    (λ (old : IsCaller w c key Running). inl old)
    (λ (new : (x.event ≡ Enter c) × (is_live w key ≡ true)). inr (x.only c new.0, new.1))
    (step_starts w x.event w' x.step c key runs))
    (λ (a : Alone kind w w'). inl (⊎_elim
    (λ (o : TakenOut kind w w'). subst (λ (x : BareWorld). slice_get x.callers c ≡ Some (record { key = key; phase = Running })) o.is runs)
    (λ (m : Came kind w w' ⊎ Passed kind w w'). ⊎_elim
    (λ (p : Came kind w w'). ⊎_elim
    (λ (new : ◌≡◌ {A = Caller} (record { key = p.key; phase = Still }) (record { key = key; phase = Running })). absurd (let x : Still ≡ Running = ap (λ (y : Caller). y.phase) new in cc))
    (λ (old : slice_get w.callers c ≡ Some (record { key = key; phase = Running })). old)
    (after_push w.callers c (record { key = p.key; phase = Still }) (record { key = key; phase = Running }) (subst (λ (x : BareWorld). slice_get x.callers c ≡ Some (record { key = key; phase = Running })) p.is runs)))
    (λ (p : Passed kind w w'). ⊎_elim
    (λ (new : ◌≡◌ {A = Caller} (record { key = p.key; phase = Spent }) (record { key = key; phase = Running })). absurd (let x : Spent ≡ Running = ap (λ (y : Caller). y.phase) new in cc))
    (λ (old : slice_get w.callers c ≡ Some (record { key = key; phase = Running })). old)
    (after_push w.callers c (record { key = p.key; phase = Spent }) (record { key = key; phase = Running }) (subst (λ (x : BareWorld). slice_get x.callers c ≡ Some (record { key = key; phase = Running })) p.is runs)))
    m)
    a))
    more)
    l

pub taken_live : TakenLive
taken_live slots limit t u [] h r c key runs = inl (subst (λ (x : Table). IsCaller (world x) c key Running) r runs)
taken_live slots limit t u (kind ∷ kinds) h r c key runs =
    let v : Table = r.0 in
    let s = word_step slots limit t kind v h r.1 in
    ⊎_elim
    (λ (early : IsCaller (world v) c key Running). ⊎_elim
    (λ (old : IsCaller (world t) c key Running). inl old)
    (λ (new : (kind ≡ tries c) × (is_live (world t) key ≡ true)). inr (record {
      before = [];
      later = kinds;
      found = t;
      left = v;
      run_before = refl;
      try = subst (λ (x : StepKind). WordStep t x v) new.0 r.1;
      live = new.1;
      runs = early;
      run_later = r.2;
      all = ap (λ (x : StepKind). x ∷ kinds) new.0;
    }))
    (started kind (world t) (world v) c key s.1 early))
    (λ (late : WasLetIn v kinds u c key). inr (record {
      before = kind ∷ late.before;
      later = late.later;
      found = late.found;
      left = late.left;
      run_before = (v, r.1, late.run_before);
      try = late.try;
      live = late.live;
      runs = late.runs;
      run_later = late.run_later;
      all = ap (λ (l : List StepKind). kind ∷ l) late.all;
    }))
    (taken_live slots limit v u kinds s.0 r.2 c key runs)
