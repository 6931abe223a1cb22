-- A holder of paths in which first the looker has changed, and then only what its own hold has seen.
use Rattle.std.proofs.Common.{◌≡◌, ◌∙◌, ap, sym, subst}
use Rattle.kf_words.specs.Callers.{IsSameSeat}
use Rattle.kf_words.specs.Another.{StaysAs}
use Rattle.kf_looks.specs.Links.{IsLater}
use Rattle.kf_live.specs.Lookers.{Onlooker, links_seen}
use Rattle.kf_shared.specs.Finding.{PathHolderState, IsSameHolder}

pub same_holder : (old mid new : PathHolderState) → IsSameHolder old mid → new.looker ≡ mid.looker → IsSameSeat mid.holds.by new.holds.by → StaysAs mid.holds.by new.holds.by → IsSameHolder old new
same_holder old mid new x looker seat stays =
    record {
      root = ap (λ (l : Onlooker). l.root) looker ∙ x.root;
      slots = ap (λ (l : Onlooker). l.slots) looker ∙ x.slots;
      later = subst (λ (l : Onlooker). IsLater (links_seen l) (links_seen old.looker)) (sym looker) x.later;
      seat = record { table = seat.table ∙ x.seat.table; seat = seat.seat ∙ x.seat.seat; key = seat.key ∙ x.seat.key; node = seat.node ∙ x.seat.node };
      stays = record { phase = stays.phase ∙ x.stays.phase; tries = stays.tries ∙ x.stays.tries; undo_due = stays.undo_due ∙ x.stays.undo_due };
    }
