-- What was found, put or removed in a chunk was found, put or removed in the index.
use Rattle.std.proofs.Common.{◌≡◌, ◌≢◌, ℕ, suc, ◌+◌, ◌<◌, ◌≤◌, List, [], ◌∷◌, ◌++◌, Option, Some, None, length, get_or, take, drop, set, sym, ap, ◌∙◌, subst, arith}
use Rattle.std.specs.List.{All}
use Rattle.std.specs.Prelude.{IfSome, IfNone}
use Rattle.std.proofs.lemmas.List.{append-nil, length-append}
use Rattle.std.proofs.lemmas.List.Edits.{length-insert}
use Rattle.std.proofs.lemmas.List.Elements.{All-set}
use Rattle.kf_core.specs.declared.key.Key.{Key}
use Rattle.kf_core.specs.declared.refusal.Refusal.{Refusal}
use Rattle.kf_core.specs.Names.{IsBefore}
use Rattle.kf_index.specs.Pairs.{Pairs, IsRising}
use Rattle.kf_index.specs.Chunks.{joined, HaveSome, ReachTo, LacksName, IsPut, WasRefused, IsTakenOut}
use Rattle.kf_index.proofs.Inside.{rising_part, lacks_inside, put_inside, taken_inside, refused_inside}
use Rattle.kf_index.proofs.Joined.{joined_at, joined_set}
use Rattle.kf_index.proofs.Belongs.{part_first, part_later, lower_parts}

none_lower : (name : List ℕ) → All {X = List ℕ × Key} (λ entry. IsBefore entry.0 name) []
none_lower name i d low = absurd (omega (arith, low))

none_higher : (name : List ℕ) → All {X = List ℕ × Key} (λ entry. IsBefore name entry.0) []
none_higher name i d low = absurd (omega (arith, low))

-- after an entry is put, there is an entry
pub some_put : (old new : Pairs) (name : List ℕ) (key : Key) → IsPut old name key new → new ≢ []
some_put old new name key put none =
    absurd (omega (arith, length-insert old put.at (name, key) put.gap.within, ap (λ (l : Pairs). length l) (sym put.put ∙ none)))

-- the first chunk
module _ (first : Pairs) (chunks : List Pairs) (name : List ℕ) (rising : IsRising (joined (first ∷ chunks))) (some : HaveSome chunks) (reach : ReachTo chunks name 0) where
  pub rising_first : IsRising first
  rising_first = rising_part [] first (joined chunks) rising

  higher : All (λ entry. IsBefore name entry.0) (joined chunks)
  higher = let part = part_first first chunks name rising some reach in part.higher

  pub put_in_first : (key : Key) (more : Pairs) → IsPut first name key more → IsPut (joined (first ∷ chunks)) name key (joined (more ∷ chunks))
  put_in_first key more put = put_inside [] first (joined chunks) name (none_lower name) higher key more put

  pub refused_in_first : (refusal : Refusal) → WasRefused first name refusal → WasRefused (joined (first ∷ chunks)) name refusal
  refused_in_first refusal why = refused_inside [] first (joined chunks) name (none_lower name) higher refusal why

  pub lacks_in_first : LacksName first name → LacksName (joined (first ∷ chunks)) name
  lacks_in_first lacks = lacks_inside [] first (joined chunks) name (none_lower name) higher lacks

pub taken_in_first : (first left : Pairs) (chunks : List Pairs) (name : List ℕ) (key : Key) → IsTakenOut first name key left
    → IsTakenOut (joined (first ∷ chunks)) name key (joined (left ∷ chunks))
taken_in_first first left chunks name key out = taken_inside [] first (joined chunks) name key left out

-- the later chunk with this number
module _ (chunks : List Pairs) (k : ℕ) (name : List ℕ) (rising : IsRising (joined chunks)) (some : HaveSome chunks) (reach : ReachTo chunks name (k + 1)) where
  pub within_later : k < length chunks
  within_later = omega (arith, reach.within)

  parts : joined chunks ≡ joined (take k chunks) ++ (get_or chunks k [] ++ joined (drop (suc k) chunks))
  parts = joined_at chunks k within_later

  lower : All (λ entry. IsBefore entry.0 name) (joined (take k chunks))
  lower = lower_parts [] chunks k name rising some reach

  above : All (λ entry. IsBefore name entry.0) (joined (drop (suc k) chunks))
  above = let part = part_later [] chunks k name rising some reach in part.higher

  pub rising_later : IsRising (get_or chunks k [])
  rising_later = rising_part (joined (take k chunks)) (get_or chunks k []) (joined (drop (suc k) chunks)) (subst IsRising parts rising)

  pub few_later : length (get_or chunks k []) ≤ length (joined chunks)
  few_later = omega (arith, ap (λ (l : Pairs). length l) parts, length-append (joined (take k chunks)) (get_or chunks k [] ++ joined (drop (suc k) chunks)), length-append (get_or chunks k []) (joined (drop (suc k) chunks)))

  pub put_in_later : (key : Key) (more : Pairs) → IsPut (get_or chunks k []) name key more → IsPut (joined chunks) name key (joined (set chunks k more))
  put_in_later key more put =
      subst (λ old. IsPut old name key (joined (set chunks k more))) (sym parts)
      (subst (IsPut (joined (take k chunks) ++ (get_or chunks k [] ++ joined (drop (suc k) chunks))) name key) (sym (joined_set chunks k more within_later))
      (put_inside (joined (take k chunks)) (get_or chunks k []) (joined (drop (suc k) chunks)) name lower above key more put))

  pub refused_in_later : (refusal : Refusal) → WasRefused (get_or chunks k []) name refusal → WasRefused (joined chunks) name refusal
  refused_in_later refusal why =
      subst (λ old. WasRefused old name refusal) (sym parts)
      (refused_inside (joined (take k chunks)) (get_or chunks k []) (joined (drop (suc k) chunks)) name lower above refusal why)

  pub lacks_in_later : LacksName (get_or chunks k []) name → LacksName (joined chunks) name
  lacks_in_later lacks =
      subst (λ old. LacksName old name) (sym parts)
      (lacks_inside (joined (take k chunks)) (get_or chunks k []) (joined (drop (suc k) chunks)) name lower above lacks)

  pub taken_in_later : (key : Key) (left : Pairs) → IsTakenOut (get_or chunks k []) name key left → IsTakenOut (joined chunks) name key (joined (set chunks k left))
  taken_in_later key left out =
      subst (λ old. IsTakenOut old name key (joined (set chunks k left))) (sym parts)
      (subst (IsTakenOut (joined (take k chunks) ++ (get_or chunks k [] ++ joined (drop (suc k) chunks))) name key) (sym (joined_set chunks k left within_later))
      (taken_inside (joined (take k chunks)) (get_or chunks k []) (joined (drop (suc k) chunks)) name key left out))

  pub some_set : (key : Key) (more : Pairs) → IsPut (get_or chunks k []) name key more → HaveSome (set chunks k more)
  some_set key more put = All-set (λ (l : Pairs). l ≢ []) chunks k more (some_put _ more name key put) some

-- what holds for the later chunks also holds with some entries before them
module _ (front all : Pairs) (name : List ℕ) where
  pub taken_behind : (left : Pairs) (result : Option Key) → IfSome result (λ key. IsTakenOut all name key left)
      → IfSome result (λ key. IsTakenOut (front ++ all) name key (front ++ left))
  taken_behind left None out = tt
  taken_behind left (Some key) out = simp append-nil at (taken_inside front all [] name key left out)

  module _ (lower : All (λ entry. IsBefore entry.0 name) front) where
    lacks_too : LacksName all name → LacksName (front ++ all) name
    lacks_too lacks = simp append-nil at (lacks_inside front all [] name lower (none_higher name) lacks)

    pub lacks_behind : (result : Option Key) → IfNone result (LacksName all name) → IfNone result (LacksName (front ++ all) name)
    lacks_behind (Some key) lacks = tt
    lacks_behind None lacks = lacks_too lacks

    pub put_behind : (key : Key) (more : Pairs) → IsPut all name key more → IsPut (front ++ all) name key (front ++ more)
    put_behind key more new = simp append-nil at (put_inside front all [] name lower (none_higher name) key more new)

    pub refused_behind : (refusal : Refusal) → WasRefused all name refusal → WasRefused (front ++ all) name refusal
    refused_behind refusal why = simp append-nil at (refused_inside front all [] name lower (none_higher name) refusal why)
