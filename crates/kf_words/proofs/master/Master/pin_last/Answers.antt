use Rattle.std.proofs.Common.{◌≡◌, ◌<◌, ◌≤◌, true, false, ℕ, List, length, arith, sym, ap, ◌∙◌, subst}
use Rattle.std.specs.Arc.{arc_value}
use Rattle.std.specs.Prelude.{slice_get, Some}
use Rattle.kf_core.specs.declared.key.Node.{Node}
use Rattle.kf_core.specs.declared.slot.SlotState.{SlotState}
use Rattle.kf_words.specs.declared.view.MasterView.{MasterView}
use Rattle.kf_words.specs.Layout.{HasRoom, holds_in}
use Rattle.kf_words.specs.Steps.{Seated, caller_of}
use Rattle.kf_words.specs.TableSteps.{loads_hold}
use Rattle.kf_words.specs.Made.{WasMadeByMaster}
use Rattle.kf_words.specs.Nodes.{MasterSight, master_sight, sight_in, MasterState, master_view, Found}
use Rattle.kf_words.proofs.MasterAllowed.{found_by}
use Rattle.kf_words.proofs.Keys.{not_below, last_within, last_is, get_there}
use Rattle.kf_words.proofs.master.Master.pin_last.Goals as goal

pub pin_hold-requires-clause-room : goal.pin_hold-requires-clause-room
pin_hold-requires-clause-room c =
    let m : MasterView = master_view c.self.inside.steps in
    let room : HasRoom m.limit c.load_hold-found.result = subst (λ (n : ℕ). HasRoom n c.load_hold-found.result) (sym c.self.invariant.same_limit) (c.has_room.ensures.0 c.if-not-has_room.false) in
    subst (λ (n : ℕ). Found (HasRoom n) (master_view c.load_hold-found.new.self) c.args.key.slot) (sym (ap (λ (x : MasterView). x.limit) c.load_hold-found.ensures.view))
    (found_by (HasRoom m.limit) m _ c.args.key.slot c.load_hold-found.result c.load_hold-found.ensures.view room)

pub unpin_hold-requires-clause-slot : goal.unpin_hold-requires-clause-slot
unpin_hold-requires-clause-slot c =
    let same = ap (λ (x : MasterView). x.slots) c.pin_hold.ensures.view ∙ ap (λ (x : MasterView). x.slots) c.load_hold-found.ensures.view ∙ ap (λ (s : MasterState). s.view.slots) c.self.view_is in
    last_within c.args.self.now.view (master_view c.pin_hold.new.self) c.args.key c.requires same

pub give_hold-token-requires-clause-slot : goal.give_hold-token-requires-clause-slot
give_hold-token-requires-clause-slot c =
    let same = ap (λ (x : MasterView). x.slots) c.pin_hold.ensures.view ∙ ap (λ (x : MasterView). x.slots) c.load_hold-found.ensures.view ∙ ap (λ (s : MasterState). s.view.slots) c.self.view_is in
    last_within c.args.self.now.view (master_view c.pin_hold.new.self) c.args.key c.requires same

pub at-node-requires : goal.at-node-requires
at-node-requires c =
    let near = last_within c.args.self.now.view (master_view c.self.inside.steps) c.args.key c.requires (ap (λ (s : MasterState). s.view.slots) c.self.view_is) in
    let long = ap (λ (l : List SlotState). length l) c.self.invariant.same_slots in
    let nodes = c.self.invariant.all_nodes in
    omega arith

pub new-requires-clause-key : goal.new-requires-clause-key
new-requires-clause-key c =
    let same = ap (λ (x : MasterView). x.slots) c.pin_hold.ensures.view ∙ ap (λ (x : MasterView). x.slots) c.load_hold-found.ensures.view ∙ ap (λ (s : MasterState). s.view.slots) c.self.view_is in
    ap (λ (y : Seated). (caller_of y.0).key) c.give_hold-token.ensures.hold ∙ last_is c.args.self.now.view (master_view c.pin_hold.new.self) c.args.key c.requires same

pub new-requires-clause-slot : goal.new-requires-clause-slot
new-requires-clause-slot c =
    let near = last_within c.args.self.now.view (master_view c.self.inside.steps) c.args.key c.requires (ap (λ (s : MasterState). s.view.slots) c.self.view_is) in
    let long : length (master_view c.pin_hold.new.self).slots ≡ length (master_view c.self.inside.steps).slots = ap (λ (x : MasterView). length x.slots) c.pin_hold.ensures.view ∙ ap (λ (x : MasterView). length x.slots) c.load_hold-found.ensures.view in
    let all = c.pin_hold.new.self.all_slots in
    let slots : (arc_value c.in-Ok.table).shared.key.slots ≡ (arc_value c.pin_hold.new.self.table).shared.key.slots = ap (λ t. t.shared.key.slots) c.in-Ok.ensures in
    omega arith

pub returns-clause-hold : goal.returns-clause-hold
returns-clause-hold c =
    let same = ap (λ (x : MasterView). x.slots) c.pin_hold.ensures.view ∙ ap (λ (x : MasterView). x.slots) c.load_hold-found.ensures.view ∙ ap (λ (s : MasterState). s.view.slots) c.self.view_is in
    let own = c.new.ensures.token in
    let near = last_within c.args.self.now.view (master_view c.self.inside.steps) c.args.key c.requires (ap (λ (s : MasterState). s.view.slots) c.self.view_is) in
    let long = ap (λ (l : List SlotState). length l) c.self.invariant.same_slots in
    let nodes = c.self.invariant.all_nodes in
    let within : c.args.key.slot < length c.self.inside.nodes = omega arith in
    record {
      table = ap (λ t. t.table_id) own ∙ c.give_hold-token.ensures.same_table ∙ c.pin_hold.ensures.table ∙ c.load_hold-found.ensures.table ∙ ap (λ (s : MasterState). s.table) c.self.view_is;
      key_is = ap (λ t. (caller_of t.me.0.view).key) own ∙ ap (λ (y : Seated). (caller_of y.0).key) c.give_hold-token.ensures.hold
          ∙ last_is c.args.self.now.view (master_view c.pin_hold.new.self) c.args.key c.requires same;
      node = ap (λ (l : List Node). slice_get l c.args.key.slot) (sym (ap (λ (s : MasterState). s.nodes) c.self.view_is))
          ∙ get_there c.self.inside.nodes c.args.key.slot c.at-node.result within ∙ ap Some (sym c.at-node.ensures.known ∙ sym c.new.ensures.node);
      still = ap (λ t. (caller_of t.me.0.view).phase) own ∙ ap (λ (y : Seated). (caller_of y.0).phase) c.give_hold-token.ensures.hold;
      steps = ap (λ t. (caller_of t.me.0.view).steps) own ∙ ap (λ (y : Seated). (caller_of y.0).steps) c.give_hold-token.ensures.hold;
    }

pub pin_hold-requires-clause-slot : goal.pin_hold-requires-clause-slot
pin_hold-requires-clause-slot c =
    let same = ap (λ (x : MasterView). x.slots) c.load_hold-found.ensures.view ∙ ap (λ (s : MasterState). s.view.slots) c.self.view_is in
    last_within c.args.self.now.view (master_view c.load_hold-found.new.self) c.args.key c.requires same

pub returns-then-not-has_room-clause-full : goal.returns-then-not-has_room-clause-full
returns-then-not-has_room-clause-full c _ =
    let m : MasterView = master_view c.self.inside.steps in
    let full : c.self.inside.holds ≤ holds_in c.load_hold-found.result = not_below (holds_in c.load_hold-found.result) c.self.inside.holds (λ room. let y : true ≡ false = sym (c.has_room.ensures.1 room) ∙ c.if-not-has_room.true in cc) in
    subst (λ (n : ℕ). Found (λ (word : ℕ). n ≤ holds_in word) (master_view c.load_hold-found.new.self) c.args.key.slot)
    (sym (ap (λ (x : MasterView). x.limit) c.load_hold-found.ensures.view ∙ c.self.invariant.same_limit))
    (found_by (λ (word : ℕ). c.self.inside.holds ≤ holds_in word) m _ c.args.key.slot c.load_hold-found.result c.load_hold-found.ensures.view full)

pub returns-clause-made : goal.returns-clause-made
returns-clause-made c =
    let loaded : MasterSight = master_sight c.load_hold-found.new.self.token.me.0 in
    record {
      loaded = loaded;
      counted = master_sight c.pin_hold.new.self.token.me.0;
      load = subst (λ (s : MasterState). WasMadeByMaster (loads_hold c.args.key.slot) (sight_in s) loaded) c.self.view_is c.load_hold-found.ensures.made;
      pin = c.pin_hold.ensures.made;
      told = ap (λ t. t.me.0.seen) c.new.ensures.token ∙ c.give_hold-token.ensures.told;
      same = c.give_hold-token.ensures.seen;
    }

pub new-requires-clause-limit : goal.new-requires-clause-limit
new-requires-clause-limit c = ap (λ t. t.shared.key.holds) c.in-Ok.ensures ∙ c.pin_hold.new.self.limit
