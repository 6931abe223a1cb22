use Rattle.std.proofs.Common.{sym, subst}
use Rattle.kf_words.specs.Callers.{Handle}
use Rattle.std.specs.Prelude.{List}
use Rattle.kf_shared.specs.Locked.{history}
use Rattle.kf_shared.specs.Receipts.{AreOf}
use Rattle.kf_shared.specs.Sections.{HasMet, WasEnded}
use Rattle.kf_shared.proofs.Turns.{ended_turn, met_owners, same_owner_tables}
use Rattle.kf_shared.proofs.locked.Locked.close_removal.Goals as goal

pub unlink_unused-rest-requires-clause-table : goal.unlink_unused-rest-requires-clause-table
unlink_unused-rest-requires-clause-table g c =
    same_owner_tables g.N.Naming.table c.from_vec-holds.result.items c.meet_back.new.holds.items
    (met_owners (history c.args.self.now) c.meet_back.new.self.master.seen c.from_vec-holds.result.items c.meet_back.new.holds.items c.meet_back.ensures.met)
    (subst (AreOf g.N.Naming.table) (sym c.from_vec-holds.ensures.items) c.into_parts-holds.ensures.tables)

pub returns : goal.returns
returns g c =
    let gone = c.unlink_unused-rest.ensures.noted in record {
      ended = subst (λ before. WasEnded c.args.self.now before c.meet_last.result) c.into_parts-holds.ensures.holds
          (ended_turn c.args.self.now c.meet_back.new.self c.unlink_unused-rest.new.self c.end_section.new.self c.meet_back.new.self.master.seen c.meet_last.new.self.master.seen
          _ c.meet_back.new.holds.items c.unlink_unused-rest.result c.meet_last.result gone.0
          (subst (λ (items : List Handle). HasMet (history c.args.self.now) c.meet_back.new.self.master.seen items c.meet_back.new.holds.items) c.from_vec-holds.ensures.items c.meet_back.ensures.met)
          c.meet_back.ensures.words.history c.unlink_unused-rest.ensures.owners gone.1 gone.2 c.end_section.ensures.noted c.meet_last.ensures.met c.meet_last.ensures.words.history);
    }
