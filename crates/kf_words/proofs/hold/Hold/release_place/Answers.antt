use Rattle.std.proofs.Common.{ℕ, ap, ◌∙◌, subst}
use Rattle.kf_words.specs.Callers.{Handle, sight_of, seat_view}
use Rattle.kf_words.specs.Layout.{is_full}
use Rattle.kf_words.specs.Made.{GavePlaceBack}
use Rattle.kf_words.proofs.hold.Hold.release_place.Goals as goal

pub returns : goal.returns
returns c =
    let found : ℕ = c.release_seat-found.result in
    let most = c.release_seat-found.ensures.most ∙ c.release_seat-found.ensures.limit in
    subst (λ (h : Handle). GavePlaceBack (seat_view h) c.is_full-was_full.result) c.self.view_is
    (sight_of c.release_seat-found.new.seat, found, c.release_seat-found.ensures.made, c.is_full-was_full.ensures ∙ ap (λ (n : ℕ). is_full n found) most)
