use Rattle.std.proofs.Common.{ap, ◌∙◌, subst}
use Rattle.kf_words.specs.Layout.{holds_in, users_in}
use Rattle.kf_words.specs.Nodes.{MasterState, MasterSight, master_sight, sight_in}
use Rattle.kf_words.specs.Made.{WereLoaded}
use Rattle.kf_words.proofs.Loaded.{load_is, look_is}
use Rattle.kf_words.proofs.master.Master.counts.Goals as goal

pub returns-clause-counted : goal.returns-clause-counted
returns-clause-counted c =
    let loaded : MasterSight = master_sight c.load_hold-held.new.self.token.me.0 in
    let after : MasterSight = master_sight c.look_over-used.new.self.token.me.0 in
    let load = c.load_hold-held.ensures in
    let look = c.look_over-used.ensures in
    subst (λ (s : MasterState). WereLoaded c.args.key.slot (record { holds = c.holds_in.result; users = c.users_in.result }) (sight_in s) after) c.self.view_is
    (record {
      loaded = loaded;
      load = load.made;
      look = look.made;
      holds_are = c.holds_in.ensures ∙ ap holds_in (load_is c.args.key.slot c.load_hold-held.result _ loaded load.made load.view);
      users_are = c.users_in.ensures ∙ ap users_in (look_is c.args.key.slot c.look_over-used.result loaded after look.made look.view);
    })
