-- Which part of an index a name belongs in: lower names come before that part, and higher ones after it.
use Rattle.std.proofs.Common.{◌≡◌, ◌≢◌, ◌⊎◌, ℕ, zero, suc, ◌+◌, ◌-◌, ◌<◌, List, [], ◌∷◌, ◌++◌, Option, Some, None, length, get_or, take, drop, sym, ap, ◌∙◌, refl, subst, arith, inl, inr, append_assoc}
use Rattle.std.specs.List.{All}
use Rattle.std.specs.Prelude.{IfSome, IfNone}
use Rattle.std.specs.declared.cmp.Ordering.{Ordering}
use Rattle.std.specs.declared.cmp.Ordering.TheVariants.{Less, Equal, Greater}
use Rattle.std.specs.Ordering.{nat_cmp}
use Rattle.std.specs.Cmp.Lexicographic.{slice_cmp}
use Rattle.std.proofs.lemmas.List.{append-nil, length-append, get_or_append_left, get_or-drop, get_or_default, get_or_read, length-drop}
use Rattle.std.proofs.lemmas.List.Elements.{All-drop, All-head}
use Rattle.kf_core.specs.declared.key.Key.{Key}
use Rattle.kf_core.specs.Names.{IsBefore}
use Rattle.kf_index.specs.Pairs.{Pairs, IsRising, IsFirstAbove}
use Rattle.kf_index.specs.Places.{no_entry}
use Rattle.kf_index.specs.Chunks.{joined, HaveSome, first_name, ReachTo, IsPartFor, HasKey, LacksName}
use Rattle.kf_index.proofs.Searched.{turned, same_name, before_more, higher_from}
use Rattle.kf_index.proofs.Inside.{here, rising_part, key_inside, lacks_inside, first_inside, dropped_inside}
use Rattle.kf_index.proofs.Joined.{joined_at}

up_to : (name other : List ℕ) → ¬ IsBefore name other → (other ≡ name) ⊎ IsBefore other name
up_to name other unless = by_order (slice_cmp nat_cmp name other) refl
  where
    by_order : (r : Ordering) → slice_cmp nat_cmp name other ≡ r → (other ≡ name) ⊎ IsBefore other name
    by_order Less is = absurd (unless is)
    by_order Equal is = inl (sym (same_name name other is))
    by_order Greater is = inr (turned name other is)

-- the names before a part that begins at or below the name are lower
lower_before : (before part after : Pairs) (name : List ℕ) → IsRising (before ++ (part ++ after)) → 0 < length part
    → ¬ IsBefore name (first_name part) → All (λ entry. IsBefore entry.0 name) before
lower_before before part after name rising some up i d low =
    let mine = get_or_append_left before (part ++ after) d i low in
    let first = here before part after 0 d some ∙ get_or_default part 0 d no_entry some in
    let stand = rising i (length before + 0) d (omega (arith, low)) (omega (arith, some, length-append before (part ++ after), length-append part after)) in
    let under = subst (λ (e : List ℕ × Key). IsBefore e.0 (first_name part)) mine
    (subst (λ (e : List ℕ × Key). IsBefore (get_or (before ++ (part ++ after)) i d).0 e.0) first stand) in
    elim (up_to name (first_name part) up) [
      | inl same ↦ subst (λ (n : List ℕ). IsBefore (get_or before i d).0 n) same under
      | inr below ↦ before_more (get_or before i d).0 (first_name part) name under below
    ]

first_of_some : (part rest : Pairs) → part ≢ [] → first_name (part ++ rest) ≡ first_name part
first_of_some [] rest some = absurd (some refl)
first_of_some (e ∷ part) rest some = refl

-- if the first of some chunks begins above the name, all names in these chunks are higher
higher_in : (chunks : List Pairs) (name : List ℕ) → IsRising (joined chunks) → HaveSome chunks
    → (0 < length chunks → IsBefore name (first_name (get_or chunks 0 []))) → All (λ entry. IsBefore name entry.0) (joined chunks)
higher_in [] name rising some over i d low = absurd (omega (arith, low))
higher_in (c ∷ chunks) name rising some over i d low =
    let first : IsBefore name (first_name (c ++ joined chunks)) =
    rw (first_of_some c (joined chunks) (All-head (λ (l : Pairs). l ≢ []) c chunks some)) (over (omega arith)) in
    higher_from (c ++ joined chunks) rising name 0 no_entry (omega (arith, low)) first i d (omega arith) low

some_long : (part : Pairs) → part ≢ [] → 0 < length part
some_long [] some = absurd (some refl)
some_long (e ∷ part) some = omega arith

pub rising_after : (front rest : Pairs) → IsRising (front ++ rest) → IsRising rest
rising_after front rest rising = rising_part front rest [] (rw append-nil rising)

pub part_first : (first : Pairs) (chunks : List Pairs) (name : List ℕ) → IsRising (joined (first ∷ chunks)) → HaveSome chunks
    → ReachTo chunks name 0 → IsPartFor (joined (first ∷ chunks)) name first (joined chunks)
part_first first chunks name rising some reach = record {
  before = [];
  parts = refl;
  lower = λ i d low. absurd (omega (arith, low));
  higher = higher_in chunks name (rising_after first (joined chunks) rising) some reach.next;
}

-- the later chunk with this number, with some entries before all later chunks
module _ (front : Pairs) (chunks : List Pairs) (k : ℕ) (name : List ℕ) (rising : IsRising (front ++ joined chunks)) (some : HaveSome chunks)
    (reach : ReachTo chunks name (k + 1)) where
  within : k < length chunks
  within = omega (arith, reach.within)

  parts : front ++ joined chunks ≡ (front ++ joined (take k chunks)) ++ (get_or chunks k [] ++ joined (drop (suc k) chunks))
  parts = ap (λ l. front ++ l) (joined_at chunks k within) ∙ sym (append_assoc front (joined (take k chunks)) _)

  rising_parts : IsRising ((front ++ joined (take k chunks)) ++ (get_or chunks k [] ++ joined (drop (suc k) chunks)))
  rising_parts = subst IsRising parts rising

  pub lower_parts : All (λ entry. IsBefore entry.0 name) (front ++ joined (take k chunks))
  lower_parts = lower_before (front ++ joined (take k chunks)) (get_or chunks k []) (joined (drop (suc k) chunks)) name rising_parts (some_long _ (some k [] within))
      (subst (λ at. ¬ IsBefore name (first_name (get_or chunks at []))) {x = k + 1 - 1} {y = k} (omega arith) (reach.last (omega arith)))

  higher : All (λ entry. IsBefore name entry.0) (joined (drop (suc k) chunks))
  higher = higher_in (drop (suc k) chunks) name
      (rising_after (get_or chunks k []) _ (rising_after (front ++ joined (take k chunks)) _ rising_parts))
      (All-drop (λ (l : Pairs). l ≢ []) (suc k) chunks some)
      (λ more. rw (get_or-drop (suc k) chunks 0 []) (subst (λ at. IsBefore name (first_name (get_or chunks at []))) {x = k + 1} {y = suc k + 0} (omega arith) (reach.next (omega (arith, more, length-drop (suc k) chunks)))))

  pub part_later : IsPartFor (front ++ joined chunks) name (get_or chunks k []) (joined (drop (suc k) chunks))
  part_later = record { before = front ++ joined (take k chunks); parts = parts; lower = lower_parts; higher = higher }

  pub lower_front : All (λ entry. IsBefore entry.0 name) front
  lower_front i d low = rw (← get_or_append_left front (joined (take k chunks)) d i low) (lower_parts i d (omega (arith, low, length-append front (joined (take k chunks)))))

-- the same from the number of chunks up to the name, and the chunk that was read there
pub part_counted : (first : Pairs) (chunks : List Pairs) (count : ℕ) (name : List ℕ) (chunk : Pairs) → IsRising (joined (first ∷ chunks)) → HaveSome chunks
    → ¬ (count ≡ 0) → ReachTo chunks name count → chunk ≡ get_or chunks (count - 1) chunk → IsPartFor (joined (first ∷ chunks)) name chunk (joined (drop count chunks))
part_counted first chunks zero name chunk rising some more reach is = absurd (more refl)
part_counted first chunks (suc k) name chunk rising some more reach is =
    let here : ReachTo chunks name (k + 1) = subst (ReachTo chunks name) {x = suc k} {y = k + 1} (omega arith) reach in
    let within : k < length chunks = omega (arith, here.within) in
    let read : chunk ≡ get_or chunks k chunk = is ∙ ap (λ at. get_or chunks at chunk) {x = suc k - 1} {y = k} (omega arith) in
    subst (λ c. IsPartFor (joined (first ∷ chunks)) name c (joined (drop (suc k) chunks))) (sym (get_or_read chunks k chunk within read []))
    (part_later first chunks k name rising some here)

-- the lowest name of a chunk that was read
pub named : (chunks : List Pairs) (k : ℕ) (chunk part : Pairs) (bytes : List ℕ) → k < length chunks → chunk ≡ get_or chunks k chunk → part ≡ chunk
    → (get_or part 0 no_entry).0 ≡ bytes → first_name (get_or chunks k []) ≡ bytes
named chunks k chunk part bytes within is same read = ap first_name (sym (get_or_read chunks k chunk within is []) ∙ sym same) ∙ read

-- what carries over between the part and the whole
module _ (all : Pairs) (name : List ℕ) (part after : Pairs) (belongs : IsPartFor all name part after) where
  pub rising_of : IsRising all → IsRising part
  rising_of rising = rising_part belongs.before part after (subst IsRising belongs.parts rising)

  pub key_of : (result : Option Key) → IfSome result (λ key. HasKey part name key) → IfSome result (λ key. HasKey all name key)
  key_of None found = tt
  key_of (Some key) found = subst (λ pairs. HasKey pairs name key) (sym belongs.parts) (key_inside belongs.before part after name key found)

  pub lacks_of : (result : Option Key) → IfNone result (LacksName part name) → IfNone result (LacksName all name)
  lacks_of (Some key) lacks = tt
  lacks_of None lacks = subst (λ pairs. LacksName pairs name) (sym belongs.parts) (lacks_inside belongs.before part after name belongs.lower belongs.higher lacks)

  pub above_of : (at : ℕ) (listed : Pairs) → IsFirstAbove part (Some name) at → listed ≡ drop at part ++ after
      → (from : ℕ) × (IsFirstAbove all (Some name) from × (listed ≡ drop from all))
  above_of at listed first is = (
    length belongs.before + at,
    (
      subst (λ pairs. IsFirstAbove pairs (Some name) (length belongs.before + at)) (sym belongs.parts) (first_inside belongs.before part after name belongs.lower belongs.higher at first),
      is ∙ sym (dropped_inside belongs.before part after at first.within) ∙ ap (drop (length belongs.before + at)) (sym belongs.parts),
    ),
  )
