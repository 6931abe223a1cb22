-- Each kind of step keeps the rule.
use Rattle.std.proofs.Common.{◌≡◌, ◌≢◌, ℕ, zero, suc, ◌+◌, ◌*◌, ◌/◌, ◌%◌, ◌<◌, ◌≤◌, Bool, true, false, List, [], ◌∷◌, ◌++◌, length, length-set, length-append, set, get_or, replicate, refl, sym, ap, ◌∙◌, subst, arith, eqb, eq-eqb, ne_eqb, ltb, ltb-true, get_or-set_same, get_or-set_other, ⊎_elim}
use Rattle.std.proofs.lemmas.List.{get_or-replicate, length-replicate}
use lib.Seq.{set-get_or}
use mathlib.Core.Logic.{dite}
use mathlib.Core.Option.{some, some-injective, some-ne-none}
use native.Mathlib.Decide.{ℕ_discrete}
use lib.ListN.{get_elem?}
use Rattle.atomic_table.specs.Table.{opening}
use Rattle.atomic_table.proofs.Lists.{at_set, at_snoc}
use Rattle.kf_gates.specs.declared.view.GatePlan.{GatePlan}
use Rattle.kf_gates.specs.declared.view.GateView.{GateView}
use Rattle.kf_gates.specs.declared.view.GateView.TheVariants.{Keeps, Outside, Looked, Full, Left, Counted, OneTooMany, Knocking, Inside, Turned, Broken, Restored}
use Rattle.kf_gates.specs.Rule.{Table, bit, gate_word, most_passes, IsPass, is_user, is_inside, counted_by, due_from, total, users, NoneInside, Knows, Kept, opened}
use Rattle.kf_gates.specs.Laws.{Has, IsOver}
use Rattle.kf_gates.specs.Runs.{CountsIn, MayUncount, one_more, one_less, moved, with_pass, new_words}
use Rattle.kf_gates.specs.Steps.{after_count, looked, next_plan, pass_made, scanned, shut_plan, stepped_off, uncounted}
use Rattle.kf_gates.proofs.Counting.{total_set, total_snoc, total_at, total_few, total_below, bit_none, users_few, counted_few, due_counted, pass_nowhere, pass_counts}

-- what the gate's word says
pub half : (b : Bool) (n x : ℕ) → x ≡ gate_word n b → x / 2 ≡ n
half true n x e = omega arith
half false n x e = omega arith

pub odd_of : (b : Bool) (n x : ℕ) → x ≡ gate_word n b → b ≡ true → x % 2 ≡ 1
odd_of true n x e shut = omega arith
odd_of false n x e shut = absurd (let one : bit false ≡ bit true = ap bit shut in omega arith)

pub even_of : (b : Bool) (n x : ℕ) → x ≡ gate_word n b → b ≡ false → x % 2 ≡ 0
even_of false n x e open' = omega arith
even_of true n x e open' = absurd (let one : bit true ≡ bit false = ap bit open' in omega arith)

none_stays : (lane : ℕ) (views : List GateView) (id : ℕ) (w : GateView) → is_inside lane w ≡ false → NoneInside lane views → NoneInside lane (set views id w)
none_stays lane views id w still clear j v e = ⊎_elim (λ (t : (j ≡ id) × (w ≡ v)). subst (λ (y : GateView). is_inside lane y ≡ false) t.1 still)
    (λ (t : (j ≢ id) × (get_elem? views j ≡ some v)). clear j v t.1) (at_set views id j w v e)

none_comes : (lane : ℕ) (views : List GateView) (w : GateView) → is_inside lane w ≡ false → NoneInside lane views → NoneInside lane (views ++ w ∷ [])
none_comes lane views w still clear j v e = ⊎_elim (clear j v) (λ (same : w ≡ v). subst (λ (y : GateView). is_inside lane y ≡ false) same still) (at_snoc views w v j e)

apart : (k lane : ℕ) → lane ≢ k → bit (eqb k lane) ≡ 0
apart k lane other = ap bit (ne_eqb k lane (λ e. other (sym e)))

pub here_one : (k : ℕ) → bit (eqb k k) ≡ 1
here_one k = ap bit (eq-eqb k k refl)

-- a step of a seat keeps the rule, under this plan
moves : (lanes : ℕ) (t : Table) (r : Kept lanes t) (id : ℕ) (v w : GateView) (p : GatePlan) (words : List ℕ) → Has t id v
    → length words ≡ 8 * lanes + 8 → get_or words 0 0 ≡ gate_word p.number p.shut
    → get_or words 2 0 + counted_by v ≡ get_or t.words 2 0 + counted_by w
    → length t.views + total due_from t.views + due_from w ≤ most_passes + due_from v
    → ((lane : ℕ) → lane < lanes → get_or words (8 * lane + 8) 0 + bit (is_user lane v) ≡ get_or t.words (8 * lane + 8) 0 + bit (is_user lane w))
    → (p.shut ≡ true → (lane : ℕ) → lane < p.seen → NoneInside lane (set t.views id w)) → Knows lanes p id w
    → ((j : ℕ) (x : GateView) → j ≢ id → Has t j x → Knows lanes p j x)
    → Kept lanes (record { words = words; homes = t.homes; views = set t.views id w })
moves lanes t r id v w p words at wide word passes few counts still mine others = let long = length-set t.views id w in record {
  plan = p;
  wide = wide;
  word = word;
  passes = let a = r.passes in let b = total_set counted_by t.views id v w at in omega arith;
  few = let b = total_set due_from t.views id v w at in omega arith;
  counts = λ lane inside. let a = counts lane inside in let b = r.counts lane inside in let c = total_set (λ x. bit (is_user lane x)) t.views id v w at in omega arith;
  still = still;
  seats = λ j x e. ⊎_elim
      (λ (s : (j ≡ id) × (w ≡ x)). subst (λ (y : ℕ × GateView). Knows lanes p y.0 y.1) (λ i. (sym s.0 i, s.1 i)) mine)
      (λ (s : (j ≢ id) × Has t j x). others j x s.0 s.1)
      (at_set t.views id j w x e);
}

-- a lane has one more user, or one fewer
recounted : (lanes : ℕ) (words : List ℕ) (k n : ℕ) (b c : ℕ → ℕ) → length words ≡ 8 * lanes + 8 → k < lanes → n + b k ≡ get_or words (8 * k + 8) 0 + c k
    → ((lane : ℕ) → lane ≢ k → b lane ≡ c lane) → (lane : ℕ) → lane < lanes → get_or (set words (8 * k + 8) n) (8 * lane + 8) 0 + b lane ≡ get_or words (8 * lane + 8) 0 + c lane
recounted lanes words k n b c wide inside here else lane within = dite (ℕ_discrete lane k)
    (λ e. subst (λ (z : ℕ). get_or (set words (8 * k + 8) n) (8 * z + 8) 0 + b z ≡ get_or words (8 * z + 8) 0 + c z) (sym e)
    (ap (λ (z : ℕ). z + b k) (get_or-set_same words (8 * k + 8) n 0 (omega arith)) ∙ here))
    (λ other. let a = get_or-set_other words (8 * k + 8) (8 * lane + 8) n 0 (λ e. other (omega arith)) in let d = else lane other in omega arith)

-- a load keeps the rule
loads : (lanes : ℕ) (t : Table) (r : Kept lanes t) (i id : ℕ) (v w : GateView) (p : GatePlan) → Has t id v
    → get_or t.words 0 0 ≡ gate_word p.number p.shut → counted_by v ≡ counted_by w → due_from v ≡ due_from w → ((lane : ℕ) → bit (is_user lane v) ≡ bit (is_user lane w))
    → (p.shut ≡ true → (lane : ℕ) → lane < p.seen → NoneInside lane (set t.views id w)) → Knows lanes p id w
    → ((j : ℕ) (x : GateView) → j ≢ id → Has t j x → Knows lanes p j x)
    → Kept lanes (moved t i (λ n. n) id w)
loads lanes t r i id v w p at word counted due same still mine others =
    subst (λ (ws : List ℕ). Kept lanes record { words = ws; homes = t.homes; views = set t.views id w }) (sym (set-get_or t.words i 0))
    (moves lanes t r id v w p t.words at r.wide word (omega arith) (let few = r.few in omega arith) (λ lane _. let e = same lane in omega arith) still mine others)

-- a caller counts itself in a lane
on_kept : (lanes : ℕ) (t : Table) (r : Kept lanes t) (id k : ℕ) (v w : GateView) → Has t id v → ((lane : ℕ) → bit (is_user lane v) ≡ 0) → ((lane : ℕ) → bit (is_user lane w) ≡ bit (eqb k lane))
    → counted_by v ≡ counted_by w → due_from v ≡ due_from w → ((lane : ℕ) → is_inside lane w ≡ false) → k < lanes → Knows lanes r.plan id w
    → Kept lanes (moved t (8 * k + 8) one_more id w)
on_kept lanes t r id k v w seated nowhere counted c d outside inside mine =
    let n : ℕ = get_or t.words (8 * k + 8) 0 in let count = r.counts k inside in let few = users_few k t.views in let most = r.few in
    let wide = r.wide in let one = here_one k in let here = counted k in let was = nowhere k in let m : ℕ = (n + 1) % 18446744073709551616 in
    moves lanes t r id v w r.plan (set t.words (8 * k + 8) m) seated (length-set t.words (8 * k + 8) m ∙ wide)
    (get_or-set_other t.words (8 * k + 8) 0 m 0 (λ e. omega arith) ∙ r.word)
    (let same = get_or-set_other t.words (8 * k + 8) 2 m 0 (λ e. omega arith) in omega arith) (omega arith)
    (recounted lanes t.words k m (λ lane. bit (is_user lane v)) (λ lane. bit (is_user lane w)) wide inside (omega arith)
    (λ lane other. nowhere lane ∙ sym (counted lane ∙ apart k lane other)))
    (λ shut lane less. none_stays lane t.views id w (outside lane) (r.still shut lane less)) mine (λ j x _ e. r.seats j x e)

-- a caller no longer counts itself in a lane
off_kept : (lanes : ℕ) (t : Table) (r : Kept lanes t) (id k : ℕ) (v w : GateView) → Has t id v → ((lane : ℕ) → bit (is_user lane v) ≡ bit (eqb k lane)) → ((lane : ℕ) → bit (is_user lane w) ≡ 0)
    → counted_by v ≡ counted_by w → due_from v ≡ due_from w → ((lane : ℕ) → is_inside lane w ≡ false) → k < lanes → Knows lanes r.plan id w
    → Kept lanes (moved t (8 * k + 8) one_less id w)
off_kept lanes t r id k v w seated counted nowhere c d outside inside mine =
    let n : ℕ = get_or t.words (8 * k + 8) 0 in let count = r.counts k inside in let few = users_few k t.views in let most = r.few in
    let there' : bit (is_user k v) ≤ users k t.views = total_at (λ x. bit (is_user k x)) t.views id v seated in
    let wide = r.wide in let one = here_one k in let here = counted k in let was = nowhere k in let m : ℕ = (n + 18446744073709551615) % 18446744073709551616 in
    moves lanes t r id v w r.plan (set t.words (8 * k + 8) m) seated (length-set t.words (8 * k + 8) m ∙ wide)
    (get_or-set_other t.words (8 * k + 8) 0 m 0 (λ e. omega arith) ∙ r.word)
    (let same = get_or-set_other t.words (8 * k + 8) 2 m 0 (λ e. omega arith) in omega arith) (omega arith)
    (recounted lanes t.words k m (λ lane. bit (is_user lane v)) (λ lane. bit (is_user lane w)) wide inside (omega arith)
    (λ lane other. counted lane ∙ apart k lane other ∙ sym (nowhere lane)))
    (λ shut lane less. none_stays lane t.views id w (outside lane) (r.still shut lane less)) mine (λ j x _ e. r.seats j x e)

pub knock_kept : (lanes : ℕ) (t : Table) (r : Kept lanes t) (id k : ℕ) (v : GateView) → Has t id v → IsPass v → k < lanes → Kept lanes (moved t (8 * k + 8) one_more id (Knocking k))
knock_kept lanes t r id k v seated pass inside =
    on_kept lanes t r id k v (Knocking k) seated (λ lane. ap bit (pass_nowhere v pass lane)) (λ lane. refl) (pass_counts v pass).0 (pass_counts v pass).1 (λ lane. refl) inside inside

pub restore_kept : (lanes : ℕ) (t : Table) (r : Kept lanes t) (id k n : ℕ) → Has t id (Broken k n) → k < lanes → Kept lanes (moved t (8 * k + 8) one_more id (Restored k n))
restore_kept lanes t r id k n seated inside = on_kept lanes t r id k (Broken k n) (Restored k n) seated (λ lane. refl) (λ lane. refl) refl refl (λ lane. refl) inside inside

pub break_kept : (lanes : ℕ) (t : Table) (r : Kept lanes t) (id k n : ℕ) → Has t id (Inside k n) → k < lanes → Kept lanes (moved t (8 * k + 8) one_less id (Broken k n))
break_kept lanes t r id k n seated inside = off_kept lanes t r id k (Inside k n) (Broken k n) seated (λ lane. refl) (λ lane. refl) refl refl (λ lane. refl) inside inside

pub leave_kept : (lanes : ℕ) (t : Table) (r : Kept lanes t) (id k : ℕ) (v : GateView) → Has t id v → CountsIn k v → k < lanes → Kept lanes (moved t (8 * k + 8) one_less id (stepped_off v))
leave_kept lanes t r id k (Keeps p n) seated counts inside = absurd counts
leave_kept lanes t r id k Outside seated counts inside = absurd counts
leave_kept lanes t r id k (Looked f) seated counts inside = absurd counts
leave_kept lanes t r id k (Full f) seated counts inside = absurd counts
leave_kept lanes t r id k (Left f) seated counts inside = absurd counts
leave_kept lanes t r id k Counted seated counts inside = absurd counts
leave_kept lanes t r id k (OneTooMany f) seated counts inside = absurd counts
leave_kept lanes t r id k (Knocking j) seated counts inside = absurd counts
leave_kept lanes t r id k (Inside j n) seated counts inside = off_kept lanes t r id k (Inside j n) (Looked (gate_word n false)) seated (λ lane. ap (λ (x : ℕ). bit (eqb x lane)) counts) (λ lane. refl) refl refl (λ lane. refl) inside tt
leave_kept lanes t r id k (Turned j f) seated counts inside = off_kept lanes t r id k (Turned j f) (Looked f) seated (λ lane. ap (λ (x : ℕ). bit (eqb x lane)) counts) (λ lane. refl) refl refl (λ lane. refl) inside tt
leave_kept lanes t r id k (Broken j n) seated counts inside = absurd counts
leave_kept lanes t r id k (Restored j n) seated counts inside = off_kept lanes t r id k (Restored j n) Outside seated (λ lane. ap (λ (x : ℕ). bit (eqb x lane)) counts) (λ lane. refl) refl refl (λ lane. refl) inside tt

pub look_kept : (lanes : ℕ) (t : Table) (r : Kept lanes t) (id k : ℕ) → Has t id (Knocking k) → Kept lanes (moved t 0 (λ n. n) id (looked (get_or t.words 0 0) k))
look_kept lanes t r id k seated =
    let x : ℕ = get_or t.words 0 0 in let mine : k < lanes = r.seats id (Knocking k) seated in
    dite (ℕ_discrete (x % 2) 0)
    (λ even. let told : looked x k ≡ Inside k (x / 2) = rw (eq-eqb (x % 2) 0 even) refl in
    let own : x / 2 ≡ r.plan.number = half r.plan.shut r.plan.number x r.word in
    subst (λ (w : GateView). Kept lanes (moved t 0 (λ n. n) id w)) (sym told)
    (loads lanes t r 0 id (Knocking k) (Inside k (x / 2)) r.plan seated r.word refl refl (λ lane. refl)
    (λ shut. let odd : x % 2 ≡ 1 = odd_of r.plan.shut r.plan.number x r.word shut in absurd (omega arith)) (mine, own) (λ j y _ e. r.seats j y e)))
    (λ odd. let told : looked x k ≡ Turned k x = rw (ne_eqb (x % 2) 0 odd) refl in
    subst (λ (w : GateView). Kept lanes (moved t 0 (λ n. n) id w)) (sym told)
    (loads lanes t r 0 id (Knocking k) (Turned k x) r.plan seated r.word refl refl (λ lane. refl)
    (λ shut lane less. none_stays lane t.views id (Turned k x) refl (r.still shut lane less)) mine (λ j y _ e. r.seats j y e)))

pub look_back_kept : (lanes : ℕ) (t : Table) (r : Kept lanes t) (id : ℕ) (v : GateView) → Has t id v → IsPass v → Kept lanes (moved t 0 (λ n. n) id (Left (get_or t.words 0 0)))
look_back_kept lanes t r id v seated pass =
    let w : GateView = Left (get_or t.words 0 0) in
    loads lanes t r 0 id v w r.plan seated r.word (pass_counts v pass).0 (pass_counts v pass).1 (λ lane. ap bit (pass_nowhere v pass lane)) (λ shut lane less. none_stays lane t.views id w refl (r.still shut lane less)) tt (λ j y _ e. r.seats j y e)

-- a step on the count of passes
counting : (lanes : ℕ) (t : Table) (r : Kept lanes t) (id m : ℕ) (v w : GateView) → Has t id v → ((lane : ℕ) → is_user lane v ≡ false) → ((lane : ℕ) → is_user lane w ≡ false) → ((lane : ℕ) → is_inside lane w ≡ false)
    → m + counted_by v ≡ get_or t.words 2 0 + counted_by w → length t.views + total due_from t.views + due_from w ≤ most_passes + due_from v → Knows lanes r.plan id w
    → Kept lanes (record { words = set t.words 2 m; homes = t.homes; views = set t.views id w })
counting lanes t r id m v w seated nowhere nowhere' outside passes few mine =
    let wide = r.wide in
    moves lanes t r id v w r.plan (set t.words 2 m) seated (length-set t.words 2 m ∙ wide) (get_or-set_other t.words 2 0 m 0 (λ e. omega arith) ∙ r.word)
    (let here = get_or-set_same t.words 2 m 0 (omega arith) in omega arith) few
    (λ lane inside. let same = get_or-set_other t.words 2 (8 * lane + 8) m 0 (λ e. omega arith) in let a = ap bit (nowhere lane) in let b = ap bit (nowhere' lane) in omega arith)
    (λ shut lane less. none_stays lane t.views id w (outside lane) (r.still shut lane less)) mine (λ j x _ e. r.seats j x e)

-- the count of passes is at most 2^33, so it fits in one word
passes_few : (lanes : ℕ) (t : Table) → Kept lanes t → get_or t.words 2 0 ≤ 8589934592
passes_few lanes t r = let passes = r.passes in let few = r.few in let more = total_few counted_by counted_few t.views in omega arith

pub count_kept : (lanes : ℕ) (t : Table) (r : Kept lanes t) (id : ℕ) (v : GateView) → Has t id v → IsPass v → Kept lanes (moved t 2 one_more id (after_count (get_or t.words 2 0)))
count_kept lanes t r id v seated pass =
    let n : ℕ = get_or t.words 2 0 in let m : ℕ = (n + 1) % 18446744073709551616 in let most = passes_few lanes t r in let few = r.few in let passes = r.passes in
    let below = total_below due_from counted_by due_counted t.views in
    let mine = pass_counts v pass in split (ltb n most_passes) refl below most few passes mine.0 mine.1
  where
    n' : ℕ
    n' = get_or t.words 2 0

    split : (b : Bool) → ltb n' most_passes ≡ b → total due_from t.views ≤ total counted_by t.views → n' ≤ 8589934592 → length t.views + total due_from t.views ≤ most_passes → n' ≡ length t.views + total counted_by t.views
        → counted_by v ≡ 0 → due_from v ≡ 0 → Kept lanes (moved t 2 one_more id (after_count n'))
    split true e below most few passes none due =
        let less : n' < most_passes = ltb-true n' most_passes e in let told : after_count n' ≡ Counted = rw e refl in
        subst (λ (w : GateView). Kept lanes (moved t 2 one_more id w)) (sym told)
        (counting lanes t r id ((n' + 1) % 18446744073709551616) v Counted seated (pass_nowhere v pass) (λ lane. refl) (λ lane. refl) (omega arith) (omega arith) tt)
    split false e below most few passes none due =
        let told : after_count n' ≡ OneTooMany n' = rw e refl in
        subst (λ (w : GateView). Kept lanes (moved t 2 one_more id w)) (sym told)
        (counting lanes t r id ((n' + 1) % 18446744073709551616) v (OneTooMany n') seated (pass_nowhere v pass) (λ lane. refl) (λ lane. refl) (omega arith) (omega arith) tt)

pub uncount_kept : (lanes : ℕ) (t : Table) (r : Kept lanes t) (id : ℕ) (v : GateView) → Has t id v → MayUncount v → Kept lanes (moved t 2 one_less id (uncounted v))
uncount_kept lanes t r id (Keeps p n) seated may = absurd may
uncount_kept lanes t r id Outside seated may = absurd may
uncount_kept lanes t r id (Looked f) seated may = absurd may
uncount_kept lanes t r id (Full f) seated may = absurd may
uncount_kept lanes t r id (Left f) seated may = absurd may
uncount_kept lanes t r id Counted seated may =
    let n : ℕ = get_or t.words 2 0 in let most = passes_few lanes t r in let few = r.few in let passes = r.passes in let some' : 1 ≤ total counted_by t.views = total_at counted_by t.views id Counted seated in
    counting lanes t r id ((n + 18446744073709551615) % 18446744073709551616) Counted Outside seated (λ lane. refl) (λ lane. refl) (λ lane. refl) (omega arith) (omega arith) tt
uncount_kept lanes t r id (OneTooMany f) seated may =
    let n : ℕ = get_or t.words 2 0 in let most = passes_few lanes t r in let few = r.few in let passes = r.passes in let some' : 1 ≤ total counted_by t.views = total_at counted_by t.views id (OneTooMany f) seated in
    counting lanes t r id ((n + 18446744073709551615) % 18446744073709551616) (OneTooMany f) (Full f) seated (λ lane. refl) (λ lane. refl) (λ lane. refl) (omega arith) (omega arith) tt
uncount_kept lanes t r id (Knocking k) seated may = absurd may
uncount_kept lanes t r id (Inside k n) seated may = absurd may
uncount_kept lanes t r id (Turned k f) seated may = absurd may
uncount_kept lanes t r id (Broken k n) seated may = absurd may
uncount_kept lanes t r id (Restored k n) seated may = absurd may

-- what seats other than the keeper's know is true under each plan with the same number
others_same : (lanes : ℕ) (t : Table) (r : Kept lanes t) (id : ℕ) (p : GatePlan) → id ≡ 0 → p.number ≡ r.plan.number
    → (j : ℕ) (x : GateView) → j ≢ id → Has t j x → Knows lanes p j x
others_same lanes t r id p first same j (Keeps q n) other e = absurd (other ((r.seats j (Keeps q n) e).1 ∙ sym first))
others_same lanes t r id p first same j Outside other e = tt
others_same lanes t r id p first same j (Looked f) other e = tt
others_same lanes t r id p first same j (Full f) other e = tt
others_same lanes t r id p first same j (Left f) other e = tt
others_same lanes t r id p first same j Counted other e = tt
others_same lanes t r id p first same j (OneTooMany f) other e = tt
others_same lanes t r id p first same j (Knocking k) other e = r.seats j (Knocking k) e
others_same lanes t r id p first same j (Inside k n) other e = let h = r.seats j (Inside k n) e in (h.0, h.1 ∙ sym same)
others_same lanes t r id p first same j (Turned k f) other e = r.seats j (Turned k f) e
others_same lanes t r id p first same j (Broken k n) other e = r.seats j (Broken k n) e
others_same lanes t r id p first same j (Restored k n) other e = r.seats j (Restored k n) e

-- if nobody is inside, what seats other than the keeper's know is true under every plan
others_next : (lanes : ℕ) (t : Table) (r : Kept lanes t) (id : ℕ) (p : GatePlan) → id ≡ 0 → ((lane : ℕ) → lane < lanes → NoneInside lane t.views)
    → (j : ℕ) (x : GateView) → j ≢ id → Has t j x → Knows lanes p j x
others_next lanes t r id p first clear j (Keeps q n) other e = absurd (other ((r.seats j (Keeps q n) e).1 ∙ sym first))
others_next lanes t r id p first clear j Outside other e = tt
others_next lanes t r id p first clear j (Looked f) other e = tt
others_next lanes t r id p first clear j (Full f) other e = tt
others_next lanes t r id p first clear j (Left f) other e = tt
others_next lanes t r id p first clear j Counted other e = tt
others_next lanes t r id p first clear j (OneTooMany f) other e = tt
others_next lanes t r id p first clear j (Knocking k) other e = r.seats j (Knocking k) e
others_next lanes t r id p first clear j (Inside k n) other e = let h = r.seats j (Inside k n) e in
    let none' : bit (eqb k k) ≡ 0 = ap bit (clear k h.0 j (Inside k n) e) in let one = here_one k in absurd (omega arith)
others_next lanes t r id p first clear j (Turned k f) other e = r.seats j (Turned k f) e
others_next lanes t r id p first clear j (Broken k n) other e = r.seats j (Broken k n) e
others_next lanes t r id p first clear j (Restored k n) other e = r.seats j (Restored k n) e

-- the keeper stores the gate's word
stores : (lanes : ℕ) (t : Table) (r : Kept lanes t) (id : ℕ) (p q : GatePlan) (n m : ℕ) → Has t id (Keeps p n) → q.spare ≡ p.spare → q.seen ≡ 0 → ((j : ℕ) (x : GateView) → j ≢ id → Has t j x → Knows lanes q j x)
    → Kept lanes (moved t 0 (λ _. gate_word q.number q.shut) id (Keeps q m))
stores lanes t r id p q n m seated spare unseen others =
    let wide = r.wide in let word : ℕ = gate_word q.number q.shut in let mine = r.seats id (Keeps p n) seated in let same : bit q.spare ≡ bit p.spare = ap bit spare in let few = r.few in
    moves lanes t r id (Keeps p n) (Keeps q m) q (set t.words 0 word) seated (length-set t.words 0 word ∙ wide)
    (get_or-set_same t.words 0 word 0 (omega arith))
    (let apart' = get_or-set_other t.words 0 2 word 0 (λ e. omega arith) in omega arith) (omega arith)
    (λ lane _. ap (λ (z : ℕ). z + 0) (get_or-set_other t.words 0 (8 * lane + 8) word 0 (λ e. omega arith)))
    (λ _ lane less. absurd (omega arith)) (refl, mine.1) others

pub shut_kept : (lanes : ℕ) (t : Table) (r : Kept lanes t) (id : ℕ) (p : GatePlan) (n : ℕ) → Has t id (Keeps p n) → Kept lanes (moved t 0 (λ _. gate_word p.number true) id (Keeps (shut_plan p) n))
shut_kept lanes t r id p n seated =
    let mine = r.seats id (Keeps p n) seated in
    stores lanes t r id p (shut_plan p) n n seated refl refl (others_same lanes t r id (shut_plan p) mine.1 (ap (λ (x : GatePlan). x.number) mine.0))

inside_counts : (lane : ℕ) (v : GateView) → bit (is_user lane v) ≡ 0 → is_inside lane v ≡ false
inside_counts lane (Keeps p n) e = refl
inside_counts lane Outside e = refl
inside_counts lane (Looked f) e = refl
inside_counts lane (Full f) e = refl
inside_counts lane (Left f) e = refl
inside_counts lane Counted e = refl
inside_counts lane (OneTooMany f) e = refl
inside_counts lane (Knocking k) e = refl
inside_counts lane (Inside k n) e = bit_none (eqb k lane) e
inside_counts lane (Turned k f) e = refl
inside_counts lane (Broken k n) e = refl
inside_counts lane (Restored k n) e = refl

-- nobody is in the lanes that the keeper has seen empty
pub seen_still : (lanes : ℕ) (t : Table) (r : Kept lanes t) (id : ℕ) (p : GatePlan) (n : ℕ) → Has t id (Keeps p n) → p.shut ≡ true
    → (lane : ℕ) → lane < p.seen → NoneInside lane t.views
seen_still lanes t r id p n seated shut lane less =
    let mine = (r.seats id (Keeps p n) seated).0 in
    r.still (sym (ap (λ (q : GatePlan). q.shut) mine) ∙ shut) lane (subst (λ (q : GatePlan). lane < q.seen) mine less)

-- the plan after a look at the next lane
scan_loads : (lanes : ℕ) (t : Table) (r : Kept lanes t) (i id : ℕ) (p q : GatePlan) (n m : ℕ) → Has t id (Keeps p n) → q.number ≡ p.number → q.shut ≡ p.shut → q.spare ≡ p.spare → ((lane : ℕ) → lane < q.seen → NoneInside lane t.views)
    → Kept lanes (moved t i (λ w. w) id (Keeps q m))
scan_loads lanes t r i id p q n m seated number shut spare still =
    let mine = r.seats id (Keeps p n) seated in
    let word : get_or t.words 0 0 ≡ gate_word q.number q.shut = r.word ∙ ap (λ (x : GatePlan). gate_word x.number x.shut) (sym mine.0) ∙ (λ i'. gate_word (sym number i') (sym shut i')) in
    loads lanes t r i id (Keeps p n) (Keeps q m) q seated word (ap bit (sym spare)) (ap bit (sym spare)) (λ lane. refl)
    (λ _ lane less. none_stays lane t.views id (Keeps q m) refl (still lane less)) (refl, mine.1)
    (others_same lanes t r id q mine.1 (number ∙ ap (λ (z : GatePlan). z.number) mine.0))

pub scan_kept : (lanes : ℕ) (t : Table) (r : Kept lanes t) (id : ℕ) (p : GatePlan) (n : ℕ) → Has t id (Keeps p n) → p.shut ≡ true → p.seen < lanes
    → Kept lanes (moved t (8 * p.seen + 8) (λ w. w) id (scanned (get_or t.words (8 * p.seen + 8) 0) p n))
scan_kept lanes t r id p n seated shut inside =
    let i : ℕ = 8 * p.seen + 8 in let x : ℕ = get_or t.words i 0 in
    let still : (lane : ℕ) → lane < p.seen → NoneInside lane t.views = seen_still lanes t r id p n seated shut in
    dite (ℕ_discrete x 0)
    (λ none'. let q : GatePlan = record p { seen = p.seen + 1; found = x } in let told : scanned x p n ≡ Keeps q (n + 1) = rw (eq-eqb x 0 none') refl in
    let empty : users p.seen t.views ≡ 0 = sym (r.counts p.seen inside) ∙ none' in
    let here : NoneInside p.seen t.views = λ j v e. inside_counts p.seen v (let few : bit (is_user p.seen v) ≤ users p.seen t.views = total_at (λ y. bit (is_user p.seen y)) t.views j v e in omega arith) in
    subst (λ (w : GateView). Kept lanes (moved t i (λ y. y) id w)) (sym told)
    (scan_loads lanes t r i id p q n (n + 1) seated refl refl refl (λ lane less. dite (ℕ_discrete lane p.seen)
    (λ e. subst (λ (z : ℕ). NoneInside z t.views) (sym e) here) (λ other. still lane (omega arith)))))
    (λ used. let q : GatePlan = record p { found = x } in let told : scanned x p n ≡ Keeps q (n + 1) = rw (ne_eqb x 0 used) refl in
    subst (λ (w : GateView). Kept lanes (moved t i (λ y. y) id w)) (sym told)
    (scan_loads lanes t r i id p q n (n + 1) seated refl refl refl still))

pub open_kept : (lanes : ℕ) (t : Table) (r : Kept lanes t) (id : ℕ) (p : GatePlan) (n : ℕ) → Has t id (Keeps p n) → IsOver lanes p
    → Kept lanes (moved t 0 (λ _. gate_word (p.number + 1) false) id (Keeps (next_plan p) n))
open_kept lanes t r id p n seated over =
    let mine = r.seats id (Keeps p n) seated in
    let clear : (lane : ℕ) → lane < lanes → NoneInside lane t.views = λ lane less. seen_still lanes t r id p n seated over.shut lane (subst (λ (z : ℕ). lane < z) (sym over.seen) less) in
    stores lanes t r id p (next_plan p) n n seated refl refl (others_next lanes t r id (next_plan p) mine.1 clear)

pub sleep_kept : (lanes : ℕ) (t : Table) (r : Kept lanes t) (id : ℕ) (p : GatePlan) (m : ℕ) (f : ℕ → ℕ) → Has t id (Keeps p m) → Kept lanes (moved t 1 f id (Keeps p m))
sleep_kept lanes t r id p m f seated =
    let mine = r.seats id (Keeps p m) seated in let n : ℕ = f (get_or t.words 1 0) in let few = r.few in
    moves lanes t r id (Keeps p m) (Keeps p m) r.plan (set t.words 1 n) seated (length-set t.words 1 n ∙ r.wide)
    (get_or-set_other t.words 1 0 n 0 (λ e. omega arith) ∙ r.word)
    (let same = get_or-set_other t.words 1 2 n 0 (λ e. omega arith) in omega arith) (omega arith)
    (λ lane _. ap (λ (z : ℕ). z + 0) (get_or-set_other t.words 1 (8 * lane + 8) n 0 (λ e. omega arith)))
    (λ shut lane less. none_stays lane t.views id (Keeps p m) refl (r.still shut lane less)) mine (λ j x _ e. r.seats j x e)

-- a seat makes the pass that it counted, under this plan
passes_kept : (lanes : ℕ) (t : Table) (r : Kept lanes t) (id : ℕ) (v : GateView) (p : GatePlan) → Has t id v → due_from v ≡ 1 → counted_by v ≡ 1 → ((lane : ℕ) → is_user lane v ≡ false)
    → due_from (pass_made v) ≡ 0 → counted_by (pass_made v) ≡ 0 → ((lane : ℕ) → is_user lane (pass_made v) ≡ false) → ((lane : ℕ) → is_inside lane (pass_made v) ≡ false)
    → p.number ≡ r.plan.number → p.shut ≡ r.plan.shut → p.seen ≡ r.plan.seen → Knows lanes p id (pass_made v) → ((j : ℕ) (x : GateView) → j ≢ id → Has t j x → Knows lanes p j x)
    → Kept lanes (with_pass t id v)
passes_kept lanes t r id v p seated due counted nowhere due' counted' nowhere' outside number shut seen mine others =
    let w : GateView = pass_made v in let views : List GateView = set t.views id w in let long = length-set t.views id w in let long' : length (views ++ Outside ∷ []) ≡ length views + 1 = length-append views (Outside ∷ []) in record {
      plan = p;
      wide = r.wide;
      word = r.word ∙ (λ i. gate_word (sym number i) (sym shut i));
      passes = let a = r.passes in let b = total_set counted_by t.views id v w seated in let c = total_snoc counted_by views Outside in omega arith;
      few = let a = r.few in let b = total_set due_from t.views id v w seated in let c = total_snoc due_from views Outside in omega arith;
      counts = λ lane inside. let a = r.counts lane inside in let b = total_set (λ x. bit (is_user lane x)) t.views id v w seated in let c = total_snoc (λ x. bit (is_user lane x)) views Outside in
          let d = ap bit (nowhere lane) in let e = ap bit (nowhere' lane) in omega arith;
      still = λ is lane less. none_comes lane views Outside refl (none_stays lane t.views id w (outside lane) (r.still (sym shut ∙ is) lane (subst (λ (z : ℕ). lane < z) seen less)));
      seats = λ j x e. ⊎_elim
          (λ (old : get_elem? views j ≡ some x). ⊎_elim
          (λ (s : (j ≡ id) × (w ≡ x)). subst (λ (y : ℕ × GateView). Knows lanes p y.0 y.1) (λ i. (sym s.0 i, s.1 i)) mine)
          (λ (s : (j ≢ id) × Has t j x). others j x s.0 s.1)
          (at_set t.views id j w x old))
          (λ (same : Outside ≡ x). subst (λ (y : GateView). Knows lanes p j y) same tt)
          (at_snoc views Outside x j e);
    }

pub pass_kept : (lanes : ℕ) (t : Table) (r : Kept lanes t) (id : ℕ) (v : GateView) → Has t id v → due_from v ≡ 1 → Kept lanes (with_pass t id v)
pass_kept lanes t r id (Keeps p n) seated due =
    let mine = r.seats id (Keeps p n) seated in let q : GatePlan = record p { spare = false } in
    passes_kept lanes t r id (Keeps p n) q seated due due (λ lane. refl) refl refl (λ lane. refl) (λ lane. refl) (ap (λ (z : GatePlan). z.number) mine.0) (ap (λ (z : GatePlan). z.shut) mine.0) (ap (λ (z : GatePlan). z.seen) mine.0) (refl, mine.1)
    (others_same lanes t r id q mine.1 (ap (λ (z : GatePlan). z.number) mine.0))
pass_kept lanes t r id Counted seated due = passes_kept lanes t r id Counted r.plan seated refl refl (λ lane. refl) refl refl (λ lane. refl) (λ lane. refl) refl refl refl tt (λ j x _ e. r.seats j x e)
pass_kept lanes t r id Outside seated due = absurd (omega arith)
pass_kept lanes t r id (Looked f) seated due = absurd (omega arith)
pass_kept lanes t r id (Full f) seated due = absurd (omega arith)
pass_kept lanes t r id (Left f) seated due = absurd (omega arith)
pass_kept lanes t r id (OneTooMany f) seated due = absurd (omega arith)
pass_kept lanes t r id (Knocking k) seated due = absurd (omega arith)
pass_kept lanes t r id (Inside k n) seated due = absurd (omega arith)
pass_kept lanes t r id (Turned k f) seated due = absurd (omega arith)
pass_kept lanes t r id (Broken k n) seated due = absurd (omega arith)
pass_kept lanes t r id (Restored k n) seated due = absurd (omega arith)

first_only : (v s : GateView) (j : ℕ) → get_elem? (v ∷ []) j ≡ some s → (j ≡ 0) × (v ≡ s)
first_only v s zero e = (refl, some-injective v s e)
first_only v s (suc j) e = absurd (some-ne-none s (sym e))

pub opening_kept : (lanes : ℕ) → Kept lanes (opening (new_words lanes) [] (opened lanes))
opening_kept lanes =
    let z : ℕ = 0 in let zeros : List ℕ = replicate (8 * lanes + 8) z in let long = length-replicate (8 * lanes + 8) z in let one : ℕ = 1 in let two : ℕ = 2 in
    let words : List ℕ = set zeros 0 one in let long' : length words ≡ 8 * lanes + 8 = length-set zeros 0 one ∙ long in
    let first : GatePlan = record { number = 0; shut = true; seen = lanes; found = 0; spare = true } in record {
      plan = first;
      wide = length-set words 2 two ∙ long';
      word = get_or-set_other words 2 0 two 0 (λ e. omega arith) ∙ get_or-set_same zeros 0 one 0 (omega arith);
      passes = get_or-set_same words 2 two 0 (omega arith);
      few = omega arith;
      counts = λ lane inside. get_or-set_other words 2 (8 * lane + 8) two 0 (λ e. omega arith) ∙ get_or-set_other zeros 0 (8 * lane + 8) one 0 (λ e. omega arith) ∙ get_or-replicate (8 * lanes + 8) (8 * lane + 8) z z (omega arith);
      still = λ _ lane less j v e. let f = first_only (opened lanes) v j e in subst (λ (x : GateView). is_inside lane x ≡ false) f.1 refl;
      seats = λ j v e. let f = first_only (opened lanes) v j e in subst (λ (y : ℕ × GateView). Knows lanes first y.0 y.1) (λ i. (sym f.0 i, f.1 i)) (refl, refl);
    }

-- nobody is inside if the keeper has seen all lanes empty
pub nobody_inside : (lanes : ℕ) (t : Table) (r : Kept lanes t) (id : ℕ) (p : GatePlan) (m : ℕ) → Has t id (Keeps p m) → IsOver lanes p
    → (seat lane n : ℕ) → Has t seat (Inside lane n) → ⊥
nobody_inside lanes t r id p m seated over seat lane n inside =
    let within : lane < lanes = (r.seats seat (Inside lane n) inside).0 in
    let none' = seen_still lanes t r id p m seated over.shut lane (subst (λ (z : ℕ). lane < z) (sym over.seen) within) seat (Inside lane n) inside in
    let one = here_one lane in let zero' : bit (eqb lane lane) ≡ 0 = ap bit none' in omega arith
