use Rattle.std.proofs.Common.{◌≡◌, inl, inr, refl, ap, ◌∙◌, rules}
use Rattle.kf_core.specs.declared.key.Key.{Key}
use Rattle.kf_device.proofs.Steps.{activate_refused, link_refused}
use Rattle.kf_device.proofs.Stops.{on_err, same_unchanged}
use Rattle.kf_device.proofs.making.fill.Goals as goal

pub returns-clause-filled : goal.returns-clause-filled
returns-clause-filled g c = record {
  after_value = c.file.new.editor;
  after_serial = c.file-2.new.editor;
  after_delete = c.file-3.new.editor;
  activated = c.activate.new.self;
  value = c.in_ok-value.value;
  shown = c.in_ok-file.field-0;
  delete = c.in_ok-delete.delete;
  link = c.in_ok-create.field-0;
  value_made = c.in_ok-value.ensures.made;
  serial_made = c.in_ok-file.ensures.made;
  delete_made = c.in_ok-delete.ensures.made;
  live = c.in_ok-activate.ensures.accepted;
  linked = c.in_ok-create.ensures.accepted;
  value_known = refl;
  delete_known = refl;
}

pub returns-in_err-value-clause-few : goal.returns-in_err-value-clause-few
returns-in_err-value-clause-few g c = on_err _ _ (inl c.in_err-value.ensures.same)

pub returns-in_err-file-clause-few : goal.returns-in_err-file-clause-few
returns-in_err-file-clause-few g c =
    on_err _ _ (inr (c.file.new.editor, c.in_ok-value.value, c.in_ok-value.ensures.made, inl c.in_err-file.ensures.same))

pub returns-in_err-delete-clause-few : goal.returns-in_err-delete-clause-few
returns-in_err-delete-clause-few g c =
    on_err _ _ (inr (
      c.file.new.editor,
      c.in_ok-value.value,
      c.in_ok-value.ensures.made,
      inr (c.file-2.new.editor, c.in_ok-file.field-0, c.in_ok-file.ensures.made, inl c.in_err-delete.ensures.same),
    ))

pub returns-in_err-activate-clause-few : goal.returns-in_err-activate-clause-few
returns-in_err-activate-clause-few g c =
    on_err _ _ (inr (
      c.file.new.editor,
      c.in_ok-value.value,
      c.in_ok-value.ensures.made,
      inr (
        c.file-2.new.editor,
        c.in_ok-file.field-0,
        c.in_ok-file.ensures.made,
        inr (
          c.file-3.new.editor,
          c.in_ok-delete.delete,
          c.in_ok-delete.ensures.made,
          inl (same_unchanged c.file-3.new.editor c.activate.new.self c.in_err-activate.ensures.same),
        ),
      ),
    ))

pub returns-in_err-activate-clause-refused : goal.returns-in_err-activate-clause-refused
returns-in_err-activate-clause-refused g c =
    let why = activate_refused c.file-3.new.editor.state.tree c.args.dir c.in_err-activate.field-0.0 c.in_err-activate.ensures.refused.named in
    search rules

pub returns-in_err-create-clause-few : goal.returns-in_err-create-clause-few
returns-in_err-create-clause-few g c =
    on_err _ _ (inr (
      c.file.new.editor,
      c.in_ok-value.value,
      c.in_ok-value.ensures.made,
      inr (
        c.file-2.new.editor,
        c.in_ok-file.field-0,
        c.in_ok-file.ensures.made,
        inr (
          c.file-3.new.editor,
          c.in_ok-delete.delete,
          c.in_ok-delete.ensures.made,
          inr (c.activate.new.self, c.in_ok-activate.ensures.accepted, c.in_err-create.ensures.same),
        ),
      ),
    ))

pub returns-in_err-create-clause-refused : goal.returns-in_err-create-clause-refused
returns-in_err-create-clause-refused g c =
    let root : c.activate.new.self.state.root ≡ c.args.editor.now.state.root =
    c.in_ok-activate.ensures.accepted.same_root ∙ c.in_ok-delete.ensures.made.2.same_root ∙ c.in_ok-file.ensures.made.2.same_root ∙ c.in_ok-value.ensures.made.2.same_root in
    let why = link_refused c.activate.new.self c.create.new.self c.args.links c.args.dir c.args.name.now c.in_err-create.field-0.0 c.requires.lawful
    (ap (λ (k : Key). k.slot) root ∙ c.requires.root) c.requires.below c.in_err-create.ensures.refused in
    search rules
