use Rattle.std.proofs.Common.{◌≡◌, ◌≤◌, ◌+◌, suc, ◌∙◌, ◌∷◌, refl, sym, subst, arith}
use Rattle.kf_words.specs.Callers.{seat_view}
use Rattle.kf_shared.specs.Locked.{history}
use Rattle.kf_shared.specs.Sections.{Each, Stays}
use Rattle.kf_shared.proofs.Each.{each_self}
use Rattle.kf_shared.proofs.NextTurns.{ended_before, ended_refused, ended_used, next_turning, none_turned, one_turned}
use Rattle.kf_shared.proofs.Receipts.{first_of, of_rest}
use Rattle.kf_shared.proofs.Stepped.{only_look, stays_self}
use Rattle.kf_shared.proofs.locked.Locked.unlink_next.Goals as goal

pub loop-init : goal.loop-init
loop-init g c = (none_turned (history c.args.self.now) c.args.receipts.now.items c.args.first c.args.holds.now.items, c.requires.table, c.requires.holds, c.requires.room)

pub returns-in-Err-clause-turned : goal.returns-in-Err-clause-turned
returns-in-Err-clause-turned g c =
    let few : suc c.loop.counter ≤ 64 = omega arith in
    ended_refused (history c.args.self.now) (history c.loop.self) (c.args.first ∷ c.args.holds.now.items) c.args.receipts.now.items c.loop.receipts.items c.loop.next c.loop.holds.items c.loop.counter c.loop.invariant.0
    (history c.part_drained.new.self) c.in-Err.back few c.in-Err.ensures.noted (c.in-Err.ensures.same, c.in-Err.ensures.looked)

pub returns-in_default-clause-turned : goal.returns-in_default-clause-turned
returns-in_default-clause-turned g c =
    let few : c.loop.counter + 1 ≤ 64 = omega arith in
    let same : c.loop.holds.items ≡ c.pop_front.new.self.items = c.in_default.ensures.items in
    ended_used (history c.args.self.now) (history c.part_drained.new.self) (c.args.first ∷ c.args.holds.now.items) c.args.receipts.now.items c.push_reserved.new.self.items c.loop.holds.items c.pop_front.new.self.items (c.loop.counter + 1) few
    (one_turned (history c.args.self.now) (history c.loop.self) (c.args.first ∷ c.args.holds.now.items) c.args.receipts.now.items c.loop.receipts.items c.loop.next c.loop.holds.items c.loop.counter c.loop.invariant.0
    (history c.part_drained.new.self) c.push_reserved.new.self.items c.in-Ok.parted c.in-Ok.ensures.came c.in-Ok.ensures.noted (c.in-Ok.ensures.same, c.in-Ok.ensures.looked) c.push_reserved.ensures.items)
    (subst (Each Stays c.loop.holds.items) same (each_self Stays stays_self c.loop.holds.items))

pub returns-in-Err-try_drained-clause-turned : goal.returns-in-Err-try_drained-clause-turned
returns-in-Err-try_drained-clause-turned g c =
    let few : c.loop.counter + 1 ≤ 64 = omega arith in
    let u = c.in-Err-try_drained in
    ended_used (history c.args.self.now) (history c.part_drained.new.self) (c.args.first ∷ c.args.holds.now.items) c.args.receipts.now.items c.push_reserved.new.self.items c.loop.holds.items c.push_front_reserved.new.self.items (c.loop.counter + 1) few
    (one_turned (history c.args.self.now) (history c.loop.self) (c.args.first ∷ c.args.holds.now.items) c.args.receipts.now.items c.loop.receipts.items c.loop.next c.loop.holds.items c.loop.counter c.loop.invariant.0
    (history c.part_drained.new.self) c.push_reserved.new.self.items c.in-Ok.parted c.in-Ok.ensures.came c.in-Ok.ensures.noted (c.in-Ok.ensures.same, c.in-Ok.ensures.looked) c.push_reserved.ensures.items)
    (subst (λ l. Each Stays l c.push_front_reserved.new.self.items) (sym c.in-Some.ensures.items)
    (subst (Each Stays (c.in-Some.hold ∷ c.pop_front.new.self.items)) (sym c.push_front_reserved.ensures.items)
    ((u.ensures.same, only_look (seat_view c.in-Some.hold) (seat_view u.used) u.ensures.made), each_self Stays stays_self c.pop_front.new.self.items)))

pub loop-preserved : goal.loop-preserved
loop-preserved g c =
    let table = g.N.Naming.table in
    let u = c.in-Ok-try_drained in (
      next_turning (history c.args.self.now) (history c.part_drained.new.self) (c.args.first ∷ c.args.holds.now.items) c.args.receipts.now.items c.push_reserved.new.self.items c.loop.holds.items c.pop_front.new.self.items c.in-Some.hold u.drained (c.loop.counter + 1)
          (one_turned (history c.args.self.now) (history c.loop.self) (c.args.first ∷ c.args.holds.now.items) c.args.receipts.now.items c.loop.receipts.items c.loop.next c.loop.holds.items c.loop.counter c.loop.invariant.0
          (history c.part_drained.new.self) c.push_reserved.new.self.items c.in-Ok.parted c.in-Ok.ensures.came c.in-Ok.ensures.noted (c.in-Ok.ensures.same, c.in-Ok.ensures.looked) c.push_reserved.ensures.items)
          c.in-Some.ensures.items (u.ensures.same, only_look (seat_view c.in-Some.hold) (seat_view u.drained) u.ensures.made),
      u.ensures.same.table ∙ first_of table c.loop.holds.items c.pop_front.new.self.items c.in-Some.hold c.in-Some.ensures.items c.loop.invariant.2,
      of_rest table c.loop.holds.items c.pop_front.new.self.items c.in-Some.hold c.in-Some.ensures.items c.loop.invariant.2,
      omega (arith, c.loop.invariant.3, c.in-Some.ensures.cases, c.push_reserved.ensures.len, c.push_reserved.ensures.capacity),
    )

pub returns-clause-turned : goal.returns-clause-turned
returns-clause-turned g c =
    let few : c.loop.counter ≤ 64 = omega arith in
    ended_before (history c.args.self.now) (history c.loop.self) (c.args.first ∷ c.args.holds.now.items) c.args.receipts.now.items c.loop.receipts.items c.loop.next c.loop.holds.items c.loop.counter c.loop.invariant.0
    (history c.loop.self) c.loop.next few refl (stays_self c.loop.next)
