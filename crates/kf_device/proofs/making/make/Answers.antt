use Rattle.std.proofs.Common.{inl, inr, refl, rules}
use Rattle.kf_core.specs.declared.key.Node.TheVariants.{Dir}
use Rattle.kf_device.proofs.Steps.{made_refused}
use Rattle.kf_device.proofs.Stops.{few_of_all, takes_back}
use Rattle.kf_device.proofs.making.make.Goals as goal

pub returns-in-Err-create-clause-refused : goal.returns-in-Err-create-clause-refused
returns-in-Err-create-clause-refused g c =
    let why = made_refused c.bases.new.editor c.create.new.self c.in-Ok.found.0 c.args.name.now Dir c.in-Err-create.refusal
    c.requires.lawful refl c.in-Err-create.ensures.refused in
    search rules

pub returns-in-Err-create-clause-stopped : goal.returns-in-Err-create-clause-stopped
returns-in-Err-create-clause-stopped g c = inl (
  c.requires.none,
  c.before-in-Err-create.ensures.none,
  few_of_all c.args.editor.now c.bases.new.editor c.create.new.self _ _ c.in-Ok.ensures.there c.in-Err-create.ensures.same,
)

pub returns-in-Err-fill-clause-stopped : goal.returns-in-Err-fill-clause-stopped
returns-in-Err-fill-clause-stopped g c = inr (
  c.in-Ok-create.dir,
  c.fill.ensures.dir,
  record {
    based = c.bases.new.editor;
    made = c.create.new.self;
    stopped = c.fill.new.editor;
    devices = _;
    links = _;
    bases = c.in-Ok.ensures.there;
    dir_made = c.in-Ok-create.ensures.accepted;
    filled = c.in-Err-fill.ensures.few;
    taken_back = rw c.ok.ensures.value (takes_back c.fill.new.editor c.begin_removal_of.new.self c.in-Ok-create.dir c.begin_removal_of.result
        c.begin_removal_of.ensures.ordered c.begin_removal_of.ensures.done c.begin_removal_of.ensures.same);
  },
)
