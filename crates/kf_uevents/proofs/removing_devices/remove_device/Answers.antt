use Rattle.std.proofs.Common.{◌∙◌, ◌∷◌, ◌++◌, [], List, ap, subst, sym}
use Rattle.kf_core.specs.declared.key.Key.{Key}
use Rattle.kf_files.specs.Telling.{WereTold}
use Rattle.kf_shared.specs.Removal.{keys_of}
use Rattle.kf_tree.specs.TreeLogs.{TreeLog}
use Rattle.kf_uevents.proofs.Reported.{one_more}
use Rattle.kf_uevents.proofs.removing_devices.remove_device.Goals as goal

pub returns-clause-told : goal.returns-clause-told
returns-clause-told g c =
    let keys = keys_of c.finish.result.items in
    let root = c.root-root.ensures.known ∙ ap (λ (s : TreeLog). s.root) c.state.ensures.same in
    let removed = subst (λ (ks : List Key). WereTold c.args.posts.now ks c.tell_removed.new.posts) (sym c.finish.ensures.keys) c.tell_removed.ensures.told in
    subst (λ (r : Key). WereTold c.args.posts.now (keys ++ r ∷ []) c.notify_listeners.new.posts) root
    (one_more c.args.posts.now c.tell_removed.new.posts c.notify_listeners.new.posts keys c.root-root.result removed c.notify_listeners.ensures.told)
