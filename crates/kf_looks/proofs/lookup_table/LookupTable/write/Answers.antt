use Rattle.std.proofs.Common.{◌≡◌, ℕ, Option, Some, subst, arith, refl}
use Rattle.std.specs.Option.{IfSome}
use Rattle.kf_looks.specs.declared.found.Found.{Found}
use Rattle.kf_looks.specs.Lines.{bytes_in}
use Rattle.kf_looks.proofs.Changed.{IsLineOf, links_after, true_after}
use Rattle.kf_looks.proofs.lookup_table.LookupTable.write.Goals as goal
use Rattle.kf_looks.proofs.lookup_table.LookupTable.write.Goals.{then-slot-self, else-slot-self}

its_slot : (child : Option Found) (slot : ℕ) → IfSome child (λ found. found.key.slot ≡ slot) → (found : Found) → child ≡ Some found → found.key.slot ≡ slot
its_slot child slot if found is = subst (λ (o : Option Found). IfSome o (λ found. found.key.slot ≡ slot)) is if

pub returns-clause-knows : goal.returns-clause-knows
returns-clause-knows c =
    let here : c.args.seat.now.me.0.slots ≡ c.args.self.now.slots = c.requires.slots in
    let line : IsLineOf c.args.self.now.slots c.args.slot c.if-slot-self.line = elim c.if-slot-self.branch [
      | then-slot-self w ↦ record { inside = omega arith; its = λ h. omega arith; only = λ h. omega arith }
      | else-slot-self w ↦ record { inside = omega arith; its = λ h. absurd (omega arith); only = λ h. absurd (omega arith) }
    ] in
    let n = c.args.name.now in
    true_after c.args.self.now.slots c.args.slot c.if-slot-self.line c.args.version c.args.seat.now c.fill.new.seat c.enter.new.seat c.note.new.seat
    c.key_word-dir_word.result n.count n.first n.second n.third c.child_words-key.result.0 c.child_words-key.result.1 c.child_words-key.result.2
    c.args.dir (bytes_in n) c.args.child c.requires.knows
    (record { here = here; line_is = line; filling = c.fill.ensures.kept; filled = c.fill.ensures.filled; entering = c.enter.ensures.made; noting = c.note.ensures.kept; noted = c.note.ensures.lines })
    (record { dir_is = c.key_word-dir_word.ensures.same; name_is = refl; child_is = c.child_words-key.ensures.same })
    c.requires.of_slot (its_slot c.args.child c.args.slot c.requires.placed)

pub returns-clause-linked : goal.returns-clause-linked
returns-clause-linked c =
    let here : c.args.seat.now.me.0.slots ≡ c.args.self.now.slots = c.requires.slots in
    let line : IsLineOf c.args.self.now.slots c.args.slot c.if-slot-self.line = elim c.if-slot-self.branch [
      | then-slot-self w ↦ record { inside = omega arith; its = λ h. omega arith; only = λ h. omega arith }
      | else-slot-self w ↦ record { inside = omega arith; its = λ h. absurd (omega arith); only = λ h. absurd (omega arith) }
    ] in
    let n = c.args.name.now in
    links_after c.args.self.now.slots c.args.slot c.if-slot-self.line c.args.version c.args.seat.now c.fill.new.seat c.enter.new.seat c.note.new.seat
    c.key_word-dir_word.result n.count n.first n.second n.third c.child_words-key.result.0 c.child_words-key.result.1 c.child_words-key.result.2
    c.args.dir (bytes_in n) c.args.child c.requires.knows
    (record { here = here; line_is = line; filling = c.fill.ensures.kept; filled = c.fill.ensures.filled; entering = c.enter.ensures.made; noting = c.note.ensures.kept; noted = c.note.ensures.lines })
    (record { dir_is = c.key_word-dir_word.ensures.same; name_is = refl; child_is = c.child_words-key.ensures.same })
