use Rattle.std.proofs.Common.{◌∙◌, ap, sym}
use Rattle.std.specs.Prelude.{Ok}
use Rattle.kf_core.specs.declared.key.Key.{Key}
use Rattle.kf_tree.specs.Shown.{shown_record}
use Rattle.kf_tree.proofs.LiveOnly.{found_shown, none_shown, no_child_shown, in_shown, shown_same}
use Rattle.kf_tree.proofs.find.step.Goals as goal

pub returns-in_default-clause-found : goal.returns-in_default-clause-found
returns-in_default-clause-found c = no_child_shown c.args.live_only c.args.table.now c.requires.lawful.0 c.args.name.now c.requires.lawful.1 c.args.entry.now c.requires.inside c.args.dir c.requires.keyed
    (sym c.if-not-is_directory.ensures.known) c.in_default.ensures.found

pub returns-in-Some-only_shown-clause-found : goal.returns-in-Some-only_shown-clause-found
returns-in-Some-only_shown-clause-found c =
    let same = shown_same c.args.live_only c.in-Some.child.now c.in-Some-only_shown.next.now c.in-Some-only_shown.ensures.shown in
    found_shown c.args.live_only c.args.table.now c.requires.lawful.0 c.args.name.now c.requires.lawful.1 c.args.entry.now c.requires.inside c.args.dir c.requires.keyed c.in-Some-only_shown.next.now
    (sym c.if-not-is_directory.ensures.known) (c.in-Some-only_shown.ensures.shown ∙ ap (λ o. shown_record c.args.live_only o) c.in-Some.ensures.found)
    ∙ ap (λ (k : Key). Ok k) (ap (λ r. r.key) same ∙ c.in-Some.ensures.keyed)

pub returns-in-Some-only_shown-clause-inside : goal.returns-in-Some-only_shown-clause-inside
returns-in-Some-only_shown-clause-inside c = in_shown c.args.live_only c.args.table.now c.in-Some.child.now c.in-Some-only_shown.next.now c.in-Some.ensures.inside c.in-Some-only_shown.ensures.shown

pub returns-in-None-clause-found : goal.returns-in-None-clause-found
returns-in-None-clause-found c = none_shown c.args.live_only c.args.table.now c.requires.lawful.0 c.args.name.now c.requires.lawful.1 c.args.entry.now c.requires.inside c.args.dir c.requires.keyed
    (sym c.if-not-is_directory.ensures.known) (c.in-None.ensures.shown ∙ ap (λ o. shown_record c.args.live_only o) c.in-Some.ensures.found)
