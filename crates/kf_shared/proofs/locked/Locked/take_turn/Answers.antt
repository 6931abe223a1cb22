use Rattle.std.proofs.Common.{◌≡◌, List, ◌∷◌, ◌++◌, ap, sym, ◌∙◌, subst, length, arith}
use Rattle.std.specs.Option.{option_to_list}
use Rattle.std.proofs.lemmas.List.{length-append, take_at}
use Rattle.kf_words.specs.Callers.{Handle, TableId}
use Rattle.kf_words.specs.Notes.{history_of}
use Rattle.kf_words.specs.declared.note.Note.{Note}
use Rattle.kf_shared.specs.Locked.{history}
use Rattle.kf_shared.specs.Receipts.{AreOf}
use Rattle.kf_shared.specs.Sections.{Each, FirstLearned, Learned}
use Rattle.kf_shared.proofs.NextTurns.{cut, left_tables, long_alike, made_tables, of_first, of_option, turn_shut}
use Rattle.kf_shared.proofs.locked.Locked.take_turn.Goals as goal

pub meet_each-requires : goal.meet_each-requires
meet_each-requires g c =
    let u = c.unlink_next-left in
    let s = c.split_at_mut-made in
    let parts = cut c.args.receipts.now.items u.ensures.turned.made c.as_mut_slice.result.now s.result.0.now s.result.1.now c.len-from.result (c.as_mut_slice.ensures.value ∙ u.ensures.turned.added) s.ensures.front s.ensures.back
    (sym c.args.receipts.now.ok.0 ∙ sym c.len-from.ensures) in record {
      table = subst (AreOf c.self.inside.master.table) (sym parts.1)
          (subst (λ (table : TableId). AreOf table u.ensures.turned.made) (sym c.self.invariant.0.same_table)
          (made_tables g.N.Naming.table (history c.args.self.now) (history u.new.self) (c.args.first ∷ c.args.holds.now.items) c.args.receipts.now.items u.new.receipts.items (option_to_list u.result ++ u.new.holds.items) u.ensures.turned
          (of_first g.N.Naming.table c.args.first c.args.holds.now.items c.requires.table c.requires.holds)));
    }

pub meet_next-requires-clause-drained : goal.meet_next-requires-clause-drained
meet_next-requires-clause-drained g c =
    let u = c.unlink_next-left in
    subst (λ (table : TableId). AreOf table (option_to_list u.result)) (sym (c.meet_each.ensures.kept.table ∙ c.self.invariant.0.same_table))
    (of_option g.N.Naming.table u.result u.new.holds.items
    (left_tables g.N.Naming.table (history c.args.self.now) (history u.new.self) (c.args.first ∷ c.args.holds.now.items) c.args.receipts.now.items u.new.receipts.items (option_to_list u.result ++ u.new.holds.items) u.ensures.turned
    (of_first g.N.Naming.table c.args.first c.args.holds.now.items c.requires.table c.requires.holds))).0

pub meet_next-requires-clause-holds : goal.meet_next-requires-clause-holds
meet_next-requires-clause-holds g c =
    let u = c.unlink_next-left in
    subst (λ (table : TableId). AreOf table u.new.holds.items) (sym (c.meet_each.ensures.kept.table ∙ c.self.invariant.0.same_table))
    (of_option g.N.Naming.table u.result u.new.holds.items
    (left_tables g.N.Naming.table (history c.args.self.now) (history u.new.self) (c.args.first ∷ c.args.holds.now.items) c.args.receipts.now.items u.new.receipts.items (option_to_list u.result ++ u.new.holds.items) u.ensures.turned
    (of_first g.N.Naming.table c.args.first c.args.holds.now.items c.requires.table c.requires.holds))).1

pub returns-clause-turned : goal.returns-clause-turned
returns-clause-turned g c =
    let u = c.unlink_next-left in
    let s = c.split_at_mut-made in
    let made = c.meet_each.new.receipts in
    let notes = history_of c.self.inside.master.seen in
    let parts = cut c.args.receipts.now.items u.ensures.turned.made c.as_mut_slice.result.now s.result.0.now s.result.1.now c.len-from.result (c.as_mut_slice.ensures.value ∙ u.ensures.turned.added) s.ensures.front s.ensures.back
    (sym c.args.receipts.now.ok.0 ∙ sym c.len-from.ensures) in
    let long : length (s.result.0.now ++ made) ≡ u.new.receipts.len =
    (let a = length-append s.result.0.now made in let b = long_alike (Learned notes) s.result.1.now made c.meet_each.ensures.met in let d = length-append s.result.0.now s.result.1.now in
    let e = ap length s.ensures.value in let f = ap length c.as_mut_slice.ensures.value in let h = u.new.receipts.ok.0 in omega (arith, a, b, d, e, f, h)) in
    turn_shut (history c.args.self.now) (history u.new.self) (c.args.first ∷ c.args.holds.now.items) c.args.receipts.now.items u.new.receipts.items (option_to_list u.result ++ u.new.holds.items) made _ (option_to_list c.meet_next.result ++ c.meet_next.new.holds.items) notes
    u.ensures.turned (subst (λ (l : List Handle). Each (Learned notes) l made) parts.1 c.meet_each.ensures.met)
    (take_at (s.result.0.now ++ made) _ u.new.receipts.len long ∙ ap (λ (l : List Handle). l ++ made) parts.0)
    (subst (λ (n : List Note). FirstLearned n (option_to_list u.result ++ u.new.holds.items) (option_to_list c.meet_next.result ++ c.meet_next.new.holds.items)) c.meet_each.ensures.kept.history c.meet_next.ensures.met)
    (ap history c.self.view_is ∙ c.end_section.ensures.noted)
