use Rattle.std.proofs.Common.{◌≡◌, inl, inr, ap, ◌∙◌, subst}
use Rattle.kf_core.specs.declared.key.Key.{Key}
use Rattle.kf_tree.specs.TreeLogs.{TreeLog}
use Rattle.kf_device.specs.Plugs.{HasBase}
use Rattle.kf_device.proofs.Stops.{on_err}
use Rattle.kf_device.proofs.making.bases.Goals as goal

pub returns-clause-root : goal.returns-clause-root
returns-clause-root g c = c.state.ensures.whole.tied.root

pub returns-clause-there : goal.returns-clause-there
returns-clause-there g c =
    let root : c.root-root.result ≡ c.args.editor.now.state.root = c.root-root.ensures.known ∙ ap (λ (s : TreeLog). s.root) c.state.ensures.same in
    record {
      after_devices = c.base.new.editor;
      after_bus = c.base-2.new.editor;
      bus = c.in_ok-bus.bus;
      devices_there = subst (λ (k : Key). HasBase c.args.editor.now c.base.new.editor k _ c.in_ok-devices.devices) root c.in_ok-devices.ensures.there;
      bus_there = subst (λ (k : Key). HasBase c.base.new.editor c.base-2.new.editor k _ c.in_ok-bus.bus) root c.in_ok-bus.ensures.there;
      links_there = c.in_ok-links.ensures.there;
    }

pub returns-in_err-devices-clause-root : goal.returns-in_err-devices-clause-root
returns-in_err-devices-clause-root g c = c.state.ensures.whole.tied.root

pub returns-in_err-devices-clause-few : goal.returns-in_err-devices-clause-few
returns-in_err-devices-clause-few g c = on_err _ _ (inl c.in_err-devices.ensures.same)

pub returns-in_err-bus-clause-root : goal.returns-in_err-bus-clause-root
returns-in_err-bus-clause-root g c = c.state.ensures.whole.tied.root

pub returns-in_err-bus-clause-few : goal.returns-in_err-bus-clause-few
returns-in_err-bus-clause-few g c =
    let root : c.root-root.result ≡ c.args.editor.now.state.root = c.root-root.ensures.known ∙ ap (λ (s : TreeLog). s.root) c.state.ensures.same in
    on_err _ _ (inr (
      c.base.new.editor,
      c.in_ok-devices.devices,
      subst (λ (k : Key). HasBase c.args.editor.now c.base.new.editor k _ c.in_ok-devices.devices) root c.in_ok-devices.ensures.there,
      inl c.in_err-bus.ensures.same,
    ))

pub returns-in_err-links-clause-root : goal.returns-in_err-links-clause-root
returns-in_err-links-clause-root g c = c.state.ensures.whole.tied.root

pub returns-in_err-links-clause-few : goal.returns-in_err-links-clause-few
returns-in_err-links-clause-few g c =
    let root : c.root-root.result ≡ c.args.editor.now.state.root = c.root-root.ensures.known ∙ ap (λ (s : TreeLog). s.root) c.state.ensures.same in
    on_err _ _ (inr (
      c.base.new.editor,
      c.in_ok-devices.devices,
      subst (λ (k : Key). HasBase c.args.editor.now c.base.new.editor k _ c.in_ok-devices.devices) root c.in_ok-devices.ensures.there,
      inr (
        c.base-2.new.editor,
        c.in_ok-bus.bus,
        subst (λ (k : Key). HasBase c.base.new.editor c.base-2.new.editor k _ c.in_ok-bus.bus) root c.in_ok-bus.ensures.there,
        inl c.in_err-links.ensures.same,
      ),
    ))
