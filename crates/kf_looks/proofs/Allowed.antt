-- The table allows each step of each seat, and its opening meets the rule.
use Rattle.std.proofs.Common.{◌≡◌, ◌≢◌, ℕ, zero, suc, ◌+◌, ◌-◌, ◌*◌, ◌/◌, ◌%◌, ◌<◌, ◌≤◌, List, [], ◌∷◌, ◌++◌, length, length-set, set, get_or, replicate, Some, None, refl, sym, ap, ◌∙◌, subst, arith, get_or-set_same, get_or-set_other, ⊎_elim, append_assoc, append-nil}
use Rattle.std.proofs.lemmas.List.{get_or-replicate, length-replicate}
use lib.Seq.{set-get_or}
use mathlib.Core.Logic.{dite}
use mathlib.Core.Option.{some, none, some-injective, some-ne-none}
use native.Mathlib.Decide.{ℕ_discrete}
use lib.ListN.{get_elem?}
use Rattle.atomic_table.specs.Table.{step, stepped, Allows, Splits, Enters, keeps, opening}
use Rattle.atomic_table.proofs.Lists.{at_set, at_snoc, set_again}
use Rattle.kf_looks.specs.declared.found.Found.{Found}
use Rattle.kf_looks.specs.declared.view.Link.{Link}
use Rattle.kf_looks.specs.declared.view.Plan.{Plan}
use Rattle.kf_looks.specs.declared.view.Role.{Role}
use Rattle.kf_looks.specs.declared.view.Role.TheVariants.{Idle, Reading, Writing}
use Rattle.kf_looks.specs.declared.view.LookView.{LookView}
use Rattle.kf_looks.specs.Links.{IsLater}
use Rattle.kf_looks.specs.Lines.{lines_at, SaysTrue, words_for, link_at, word_at}
use Rattle.kf_looks.specs.Rule.{Table, Knows, IsPlan, Kept, opened, plan_of, AllIn}
use Rattle.kf_looks.specs.Steps.{Seated, view, grown, MakesSeat, MakesBegin, MakesPeek, MakesCheck, MakesRecall, MakesMove, MakesPut, MakesEntry, moved, put, entered, told, like}
use Rattle.kf_looks.specs.Writing.{IsWriter}

-- what the rule says about each seat
abbrev Fits : ℕ → ℕ → List ℕ → List Link → ℕ → LookView → Type 0
Fits slots version draft links seat v = (v.slots ≤ slots) × Knows version draft links seat v.role × IsLater links v.seen

-- what is true of a seat's new view and of all other views is true of all views after the seat's step
seats_after : (K : ℕ → LookView → Type 0) (views : List LookView) (me : ℕ) (w : LookView) → K me w
    → ((j : ℕ) (v : LookView) → j ≢ me → get_elem? views j ≡ some v → K j v)
    → (j : ℕ) (v : LookView) → get_elem? (set views me w) j ≡ some v → K j v
seats_after K views me w mine others j v e =
    ⊎_elim (λ (t : (j ≡ me) × (w ≡ v)). subst (λ (x : ℕ × LookView). K x.0 x.1) (λ i. (sym t.0 i, t.1 i)) mine)
    (λ (t : (j ≢ me) × (get_elem? views j ≡ some v)). others j v t.0 t.1) (at_set views me j w v e)

pub later_again : (a b c : List Link) → IsLater a b → IsLater b c → IsLater a c
later_again a b c ab bc = (ab.0 ++ bc.0, ab.1 ∙ (ap (λ (l : List Link). ab.0 ++ l) bc.1 ∙ sym (append_assoc ab.0 bc.0 c)))

-- what a seat other than the writer knows stays true if the version grows, or is odd
others_know : (v v' : ℕ) (d d' : List ℕ) (l l' : List Link) (j : ℕ) → v ≤ v' → (v ≡ v' → v % 2 ≡ 0 → d ≡ d') → j ≢ 0 → (role : Role)
    → Knows v d l j role → Knows v' d' l' j role
others_know v v' d d' l l' j more same other Idle k = tt
others_know v v' d d' l l' j more same other (Reading at reads) k = let a : at ≤ v = k.1 in (
  k.0,
  (omega arith),
  λ (now : at ≡ v'). let e : v ≡ v' = omega arith in let f : at ≡ v = omega arith in
      subst (λ (x : List ℕ). AllIn x reads) (same e (ap (λ (z : ℕ). z % 2) (sym f) ∙ k.0)) (k.2 f),
)
others_know v v' d d' l l' j more same other (Writing plan) k = absurd (other k.1)

-- a step that changes no word keeps the rule
unmoved : (slots : ℕ) (t : Table) (r : Kept slots t) (i me : ℕ) (carried : List (ℕ × Unit {0})) (w : LookView)
    → Fits slots r.version r.draft r.links me w
    → Kept slots (stepped t i (get_or t.words i 0) me carried w keeps)
unmoved slots t r i me carried w mine =
    subst (λ (ws : List ℕ). Kept slots record { words = ws; homes = t.homes; views = set t.views me w }) (sym (set-get_or t.words i 0))
    record {
      version = r.version;
      draft = r.draft;
      links = r.links;
      wide = r.wide;
      long = r.long;
      version_is = r.version_is;
      draft_is = r.draft_is;
      says = r.says;
      seats = seats_after (λ j v. Fits slots r.version r.draft r.links j v) t.views me w mine (λ j v _. r.seats j v);
    }

-- what is true for all slots is true for fewer
says_fewer : (few slots : ℕ) (draft : List ℕ) (links : List Link) → few ≤ slots → SaysTrue slots draft links → SaysTrue few draft links
says_fewer few slots draft links le says line inside = says line (omega arith)

-- a new seat keeps the rule
seated : (slots : ℕ) (t : Table) (r : Kept slots t) (w : LookView) → w.slots ≤ slots → w.role ≡ Idle → IsLater r.links w.seen
    → Kept slots (record { words = t.words; homes = t.homes; views = t.views ++ w ∷ [] })
seated slots t r w here idle later = record {
  version = r.version;
  draft = r.draft;
  links = r.links;
  wide = r.wide;
  long = r.long;
  version_is = r.version_is;
  draft_is = r.draft_is;
  says = r.says;
  seats = λ j v e. ⊎_elim (r.seats j v)
      (λ (same : w ≡ v). subst (λ (x : LookView). Fits slots r.version r.draft r.links j x) same
      (here, subst (λ (x : Role). Knows r.version r.draft r.links j x) (sym idle) tt, later))
      (at_snoc t.views w v j e);
}

-- ---- readers

pub sit_allowed : (slots count word : ℕ) (first : LookView) → first.slots ≡ slots → Enters (Kept slots) count word (λ n w. MakesSeat (step count word 0 0 none) (first, []) n (w, []))
sit_allowed slots count word first here t r _ _ = let w : LookView = view first.slots Idle [] in
    (w, seated slots t r w (omega (arith, here)) refl (r.links, sym (append-nil r.links)), refl)

pub begin_allowed : (slots count id : ℕ) (me : Seated) → Allows (Kept slots) count id me 0 (λ n. n) (MakesBegin (step count 0 0 0 none) me)
begin_allowed slots count id me t r _ at _ = let x : ℕ = get_or t.words 0 0 in let mine = r.seats id me.0 at in let now : x ≡ r.version = r.version_is in
    dite (ℕ_discrete (x % 2) 0)
    (λ even. let w : LookView = view me.0.slots (Reading x []) me.0.seen in
    (w, keeps, tt, unmoved slots t r 0 id me.1 w (mine.0, (even, (omega arith), λ _. tt), mine.2), ((refl, refl, λ _. refl), refl)))
    (λ odd. let w : LookView = view me.0.slots Idle me.0.seen in (w, keeps, tt, unmoved slots t r 0 id me.1 w (mine.0, tt, mine.2), ((refl, refl, λ even. absurd (odd even)), refl)))

-- what a seat knows after one more read
grown_knows : (slots : ℕ) (t : Table) (r : Kept slots t) (id i : ℕ) → i < words_for slots → (role : Role) → Knows r.version r.draft r.links id role
    → Knows r.version r.draft r.links id (grown i (get_or t.words (i + lines_at) 0) role)
grown_knows slots t r id i inside Idle k = tt
grown_knows slots t r id i inside (Reading at reads) k = (k.0, k.1, λ (now : at ≡ r.version). (sym (r.draft_is i inside), k.2 now))
grown_knows slots t r id i inside (Writing plan) k = k

pub peek_allowed : (slots count id : ℕ) (me : Seated) (i : ℕ) → i < words_for slots → Allows (Kept slots) count id me (i + lines_at) (λ n. n) (MakesPeek (step count (i + lines_at) 0 0 none) me)
peek_allowed slots count id me i inside t r _ at _ = let x : ℕ = get_or t.words (i + lines_at) 0 in let mine = r.seats id me.0 at in
    let w : LookView = view me.0.slots (grown i x me.0.role) me.0.seen in let back : i ≡ (i + lines_at) - lines_at = omega arith in (
      w,
      keeps,
      tt,
      unmoved slots t r (i + lines_at) id me.1 w (mine.0, grown_knows slots t r id i inside me.0.role mine.1, mine.2),
      ap (λ (z : ℕ). (view me.0.slots (grown z x me.0.role) me.0.seen, me.1)) back,
    )

pub check_allowed : (slots count id : ℕ) (me : Seated) → Allows (Kept slots) count id me 0 (λ n. n) (MakesCheck (step count 0 0 0 none) me)
check_allowed slots count id me t r _ at _ = let mine = r.seats id me.0 at in let w : LookView = view me.0.slots me.0.role r.links in (
  w,
  keeps,
  tt,
  unmoved slots t r 0 id me.1 w (mine.0, mine.1, ([], refl)),
  (
    record {
      slots_are = refl;
      role_is = refl;
      later = mine.2;
      at_once = λ reads is. let k = subst (Knows r.version r.draft r.links id) is mine.1 in
          (r.draft, k.2 r.version_is, says_fewer me.0.slots slots r.draft r.links mine.0 (r.says (ap (λ (z : ℕ). z % 2) (sym r.version_is) ∙ k.0)));
    },
    refl,
  ),
)

-- ---- the writer

-- a seat that writes is the first, and its plan is what the rule says
plan_kept : (v : ℕ) (d : List ℕ) (l : List Link) (id : ℕ) (role : Role) → role ≡ Writing (plan_of role) → Knows v d l id role → IsPlan v d l (plan_of role) × (id ≡ 0)
plan_kept v d l id role writes k = subst (Knows v d l id) writes k

-- the writer finds the words of its plan
pub recall_allowed : (slots count id : ℕ) (me : Seated) (i : ℕ) → i < words_for slots → IsWriter me.0 → Allows (Kept slots) count id me (i + lines_at) (λ n. n) (MakesRecall (step count (i + lines_at) 0 0 none) me)
recall_allowed slots count id me i inside writes t r _ at _ = let mine = r.seats id me.0 at in let k = plan_kept r.version r.draft r.links id me.0.role writes mine.1 in
    let back : i ≡ (i + lines_at) - lines_at = omega arith in (
      me.0,
      keeps,
      tt,
      unmoved slots t r (i + lines_at) id me.1 me.0 mine,
      (refl, r.draft_is i inside ∙ (ap (λ (d : List ℕ). get_or d i 0) (sym k.0.draft_is) ∙ ap (λ (z : ℕ). get_or (plan_of me.0.role).draft z 0) back)),
    )

-- the writer stores the next version
pub move_allowed : (slots count id : ℕ) (me : Seated) (v : ℕ) → IsWriter me.0 → v ≡ (plan_of me.0.role).version + 1
    → (v % 2 ≡ 0 → SaysTrue slots (plan_of me.0.role).draft (plan_of me.0.role).links)
    → Allows (Kept slots) count id me 0 (λ _. v) (λ _. MakesMove (step count 0 v 0 none) me v)
move_allowed slots count id me v writes next says t r _ at _ =
    let mine = r.seats id me.0 at in let k = plan_kept r.version r.draft r.links id me.0.role writes mine.1 in let p = k.0 in
    let plan : Plan = plan_of me.0.role in let now : plan.version ≡ r.version = p.version_is in
    let w : LookView = view me.0.slots (Writing (moved plan)) me.0.seen in let wide = r.wide in let first : id ≡ 0 = k.1 in (
      w,
      keeps,
      tt,
      record {
        version = v;
        draft = r.draft;
        links = r.links;
        wide = length-set t.words 0 v ∙ wide;
        long = r.long;
        version_is = get_or-set_same t.words 0 v 0 (omega arith);
        draft_is = λ i inside. get_or-set_other t.words 0 (i + lines_at) v 0 (λ e. omega arith) ∙ r.draft_is i inside;
        says = λ even. subst (λ (x : List ℕ × List Link). SaysTrue slots x.0 x.1) (λ i. (p.draft_is i, p.links_are i)) (says even);
        seats = seats_after (λ j x. Fits slots v r.draft r.links j x) t.views id w
            (mine.0, (record { version_is = sym next; draft_is = p.draft_is; links_are = p.links_are }, first), mine.2)
            (λ j x other there. let o = r.seats j x there in (
              o.0,
              others_know r.version v r.draft r.draft r.links r.links j (omega arith) (λ _ _. refl) (λ zero'. other (zero' ∙ sym first)) x.role o.1,
              o.2,
            ));
      },
      refl,
    )

-- the writer changes a word, and maybe adds later links
word_changed : (slots count id : ℕ) (me : Seated) (i x : ℕ) (newer : List Link) (next : Plan) → i < words_for slots → IsWriter me.0 → (plan_of me.0.role).version % 2 ≡ 1
    → next ≡ record (plan_of me.0.role) { draft = set (plan_of me.0.role).draft i x; links = newer ++ (plan_of me.0.role).links }
    → Allows (Kept slots) count id me (i + lines_at) (λ _. x) (λ _ me'. me' ≡ (view me.0.slots (Writing next) me.0.seen, me.1))
word_changed slots count id me i x newer next inside writes odd is t r _ at _ =
    let mine = r.seats id me.0 at in let k = plan_kept r.version r.draft r.links id me.0.role writes mine.1 in let p = k.0 in
    let plan : Plan = plan_of me.0.role in let now : plan.version ≡ r.version = p.version_is in let wide = r.wide in let long = r.long in
    let w : LookView = view me.0.slots (Writing next) me.0.seen in let first : id ≡ 0 = k.1 in
    let links : List Link = newer ++ r.links in (
      w,
      keeps,
      tt,
      record {
        version = r.version;
        draft = set r.draft i x;
        links = links;
        wide = length-set t.words (i + lines_at) x ∙ wide;
        long = length-set r.draft i x ∙ long;
        version_is = get_or-set_other t.words (i + lines_at) 0 x 0 (λ e. omega arith) ∙ r.version_is;
        draft_is = λ j within. dite (ℕ_discrete j i)
            (λ same. subst (λ (z : ℕ). get_or (set t.words (i + lines_at) x) (z + lines_at) 0 ≡ get_or (set r.draft i x) z 0) (sym same)
            (get_or-set_same t.words (i + lines_at) x 0 (omega arith) ∙ sym (get_or-set_same r.draft i x 0 (omega arith))))
            (λ other. get_or-set_other t.words (i + lines_at) (j + lines_at) x 0 (λ e. other (omega arith)) ∙ (r.draft_is j within ∙ sym (get_or-set_other r.draft i j x 0 other)));
        says = λ even. absurd (omega arith);
        seats = seats_after (λ j v. Fits slots r.version (set r.draft i x) links j v) t.views id w (
          mine.0,
          (
            record {
              version_is = ap (λ (q : Plan). q.version) is ∙ p.version_is;
              draft_is = ap (λ (q : Plan). q.draft) is ∙ ap (λ (l : List ℕ). set l i x) p.draft_is;
              links_are = ap (λ (q : Plan). q.links) is ∙ ap (λ (l : List Link). newer ++ l) p.links_are;
            },
            first,
          ),
          later_again links r.links me.0.seen (newer, refl) mine.2,
        )
            (λ j v other there. let o = r.seats j v there in (
              o.0,
              others_know r.version r.version r.draft (set r.draft i x) r.links links j (omega arith) (λ _ even. absurd (omega arith)) (λ zero'. other (zero' ∙ sym first)) v.role o.1,
              later_again links r.links v.seen (newer, refl) o.2,
            ));
      },
      refl,
    )

pub put_allowed : (slots count id : ℕ) (me : Seated) (i x : ℕ) → i < words_for slots → IsWriter me.0 → (plan_of me.0.role).version % 2 ≡ 1
    → Allows (Kept slots) count id me (i + lines_at) (λ _. x) (λ _. MakesPut (step count (i + lines_at) x 0 none) me x)
put_allowed slots count id me i x inside writes odd =
    let back : (i + lines_at) - lines_at ≡ i = omega arith in
    word_changed slots count id me i x [] (put ((i + lines_at) - lines_at) x (plan_of me.0.role)) inside writes odd (ap (λ (z : ℕ). put z x (plan_of me.0.role)) back)

pub enter_allowed : (slots count id : ℕ) (me : Seated) (i x : ℕ) → i < words_for slots → IsWriter me.0 → (plan_of me.0.role).version % 2 ≡ 1
    → Allows (Kept slots) count id me (i + lines_at) (λ _. x) (λ _. MakesEntry (step count (i + lines_at) x 0 none) me x)
enter_allowed slots count id me i x inside writes odd =
    let back : (i + lines_at) - lines_at ≡ i = omega arith in let plan : Plan = plan_of me.0.role in
    word_changed slots count id me i x (link_at (set plan.draft i x) (i / 8) ∷ []) (entered ((i + lines_at) - lines_at) x plan) inside writes odd (ap (λ (z : ℕ). entered z x plan) back)

-- a new reader that has seen what the writer knows keeps the rule
pub tell_allowed : (slots id : ℕ) (v : LookView) → IsWriter v → Splits (Kept slots) id v v (told v)
tell_allowed slots id v writes t r at = let mine = r.seats id v at in let k = plan_kept r.version r.draft r.links id v.role writes mine.1 in
    let all : r.links ≡ (plan_of v.role).links = sym k.0.links_are in
    subst (λ (l : List LookView). Kept slots (record { words = t.words; homes = t.homes; views = l ++ told v ∷ [] })) (sym (set_again t.views id v at))
    (seated slots t r (told v) mine.0 refl ([], all))

-- a new reader that has seen what another seat has seen keeps the rule, too
pub copy_allowed : (slots id : ℕ) (v : LookView) → Splits (Kept slots) id v v (like v)
copy_allowed slots id v t r at = let mine = r.seats id v at in
    subst (λ (l : List LookView). Kept slots (record { words = t.words; homes = t.homes; views = l ++ like v ∷ [] })) (sym (set_again t.views id v at))
    (seated slots t r (like v) mine.0 refl mine.2)

-- ---- the opening

first_only : (v s : LookView) (j : ℕ) → get_elem? (v ∷ []) j ≡ some s → (j ≡ 0) × (v ≡ s)
first_only v s zero e = (refl, some-injective v s e)
first_only v s (suc j) e = absurd (some-ne-none s (sym e))

zeros : (n i : ℕ) → let none : ℕ = 0 in get_or (replicate n none) i none ≡ none
zeros zero i = refl
zeros (suc n) zero = refl
zeros (suc n) (suc i) = zeros n i

-- in words that are all 0, no line has a child
pub none_told : (n line : ℕ) → (link_at (replicate n (let z : ℕ = 0 in z)) line).child ≡ None
none_told n line = let shape : word_at (replicate n (let z : ℕ = 0 in z)) line 7 ≡ 0 = zeros n (8 * line + 7) in rw shape refl

none_some : (x : Found) → None ≡ Some x → ⊥
none_some x e = cc

pub zeros_say : (slots n : ℕ) (links : List Link) → SaysTrue slots (replicate n (let z : ℕ = 0 in z)) links
zeros_say slots n links line inside child is = absurd (none_some child (sym (none_told n line) ∙ is))

-- the opening of the table meets the rule
pub opening_kept : (slots version : ℕ) → Kept slots (opening (set (replicate (words_for slots + lines_at) (let z : ℕ = 0 in z)) 0 version) [] (opened slots version))
opening_kept slots version = let n : ℕ = words_for slots in let z : ℕ = 0 in let none : List ℕ = replicate n z in let all : List ℕ = replicate (n + lines_at) z in
    let long : length all ≡ n + lines_at = length-replicate (n + lines_at) z in record {
      version = version;
      draft = none;
      links = [];
      wide = length-set all 0 version ∙ long;
      long = length-replicate n z;
      version_is = get_or-set_same all 0 version z (omega arith);
      draft_is = λ i inside. get_or-set_other all 0 (i + lines_at) version z (λ e. omega arith) ∙ (get_or-replicate (n + lines_at) (i + lines_at) z z (omega arith) ∙ sym (get_or-replicate n i z z inside));
      says = λ even. zeros_say slots n [];
      seats = λ j v e. let f = first_only (opened slots version) v j e in
          subst (λ (x : ℕ × LookView). Fits slots version none [] x.0 x.1) (λ i. (sym f.0 i, f.1 i))
          (omega arith, (record { version_is = refl; draft_is = refl; links_are = refl }, refl), ([], refl));
    }
