use Rattle.std.proofs.Common.{◌≡◌, ◌≤◌, true, false, ℕ, sym, ap, ◌∙◌, subst}
use Rattle.kf_words.specs.declared.view.MasterView.{MasterView}
use Rattle.kf_words.specs.Layout.{HasRoom, holds_in}
use Rattle.kf_words.specs.Nodes.{MasterState, KeepsRooms, Found, master_view}
use Rattle.kf_words.proofs.MasterAllowed.{found_by}
use Rattle.kf_words.proofs.Keys.{not_below, rooms_kept}
use Rattle.kf_words.proofs.master.Master.room.Goals as goal

pub returns-clause-rooms : goal.returns-clause-rooms
returns-clause-rooms c =
    subst (λ (x : MasterState). KeepsRooms x.view (master_view c.load_hold-found.new.self)) c.self.view_is
    (rooms_kept (master_view c.self.inside.steps) (master_view c.load_hold-found.new.self) c.args.key.slot c.load_hold-found.result c.load_hold-found.ensures.view)

pub returns-clause-room : goal.returns-clause-room
returns-clause-room c has =
    let m : MasterView = master_view c.self.inside.steps in
    let limit = ap (λ (x : MasterView). x.limit) c.load_hold-found.ensures.view ∙ c.self.invariant.same_limit in
    subst (λ (n : ℕ). Found (HasRoom n) (master_view c.load_hold-found.new.self) c.args.key.slot) (sym limit)
    (found_by (HasRoom c.self.inside.holds) m _ c.args.key.slot c.load_hold-found.result c.load_hold-found.ensures.view (c.has_room.ensures.0 has))

pub returns-clause-full : goal.returns-clause-full
returns-clause-full c hasnt near =
    let m : MasterView = master_view c.self.inside.steps in
    let full : c.self.inside.holds ≤ holds_in c.load_hold-found.result = not_below (holds_in c.load_hold-found.result) c.self.inside.holds (λ room. let y : true ≡ false = sym (c.has_room.ensures.1 room) ∙ hasnt in cc) in
    let limit = ap (λ (x : MasterView). x.limit) c.load_hold-found.ensures.view ∙ c.self.invariant.same_limit in
    subst (λ (n : ℕ). Found (λ (word : ℕ). n ≤ holds_in word) (master_view c.load_hold-found.new.self) c.args.key.slot) (sym limit)
    (found_by (λ (word : ℕ). c.self.inside.holds ≤ holds_in word) m _ c.args.key.slot c.load_hold-found.result c.load_hold-found.ensures.view full)
