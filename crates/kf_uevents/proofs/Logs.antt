-- A list of events after one more event, and after several more.
use Rattle.std.proofs.Common.{◌≡◌, refl, ap, sym, ◌∙◌, subst, arith, ℕ, ◌+◌, ◌-◌, ◌<◌, ◌≤◌, List, [], ◌∷◌, ◌++◌, drop, length}
use Rattle.std.proofs.lemmas.List.{append-nil, append_assoc, drop-append-le, drop-drop, drop_all, length-drop, length_push}
use Rattle.kf_uevents.specs.declared.uevent.Uevent.{Uevent}
use Rattle.kf_uevents.specs.Logs.{LogState, IsLogOf, Told, told_count}

-- the count of events is the number of all events that were ever reported
pub counted : (all : List Uevent) (s : LogState) → IsLogOf all s → told_count s ≡ length all
counted all s l =
    let kept : length s.kept ≡ length all - s.first = ap length l.ends ∙ length-drop s.first all in
    let begins = l.begins in
    omega arith

-- the events that are kept fit into the room
pub few : (all : List Uevent) (s : LogState) → IsLogOf all s → length s.kept ≤ s.room
few all s l =
    let kept : length s.kept ≡ length all - s.first = ap length l.ends ∙ length-drop s.first all in
    let begins = l.begins in
    omega arith

-- without room, a new event is counted but not kept
pub none_kept : (all : List Uevent) (event : Uevent) (s s' : LogState) → IsLogOf all s → s.room ≡ 0 → s'.room ≡ s.room → s'.first ≡ s.first + 1 → s'.kept ≡ s.kept
    → IsLogOf (all ++ event ∷ []) s'
none_kept all event s s' l none room first kept =
    let begins = l.begins in
    let long = length_push all event in
    record {
      begins = omega arith;
      ends = kept ∙ l.ends ∙ drop_all s.first all (omega arith) ∙ sym (drop_all s'.first (all ++ event ∷ []) (omega arith));
    }

-- with room, the new event is kept, and the oldest one is dropped if as many are kept as there is room for
pub one_more : (all : List Uevent) (event : Uevent) (gone : ℕ) (s s' : LogState) → IsLogOf all s → 0 < s.room → s'.room ≡ s.room → gone ≡ length s.kept + 1 - s.room → s'.first ≡ s.first + gone
    → s'.kept ≡ drop gone s.kept ++ event ∷ [] → IsLogOf (all ++ event ∷ []) s'
one_more all event gone s s' l some room going first kept =
    let begins = l.begins in
    let long = length_push all event in
    let rest : length s.kept ≡ length all - s.first = ap length l.ends ∙ length-drop s.first all in
    let within : s.first + gone ≤ length all = omega arith in
    record {
      begins = omega arith;
      ends = kept ∙ ap (λ xs. drop gone xs ++ event ∷ []) l.ends ∙ ap (λ xs. xs ++ event ∷ []) (drop-drop gone s.first all)
          ∙ sym (drop-append-le (s.first + gone) all (event ∷ []) within) ∙ ap (λ n. drop n (all ++ event ∷ [])) (sym first);
    }

-- no event was reported
pub none_told : (s : LogState) → Told s s []
none_told s = record { room = refl; told = λ all l. subst (λ xs. IsLogOf xs s) (sym (append-nil all)) l }

-- some events were reported, and then others
pub more_told : (a b c : LogState) (xs ys : List Uevent) → Told a b xs → Told b c ys → Told a c (xs ++ ys)
more_told a b c xs ys first then = record {
  room = then.room ∙ first.room;
  told = λ all l. subst (λ zs. IsLogOf zs c) (append_assoc all xs ys) (then.told (all ++ xs) (first.told all l));
}
