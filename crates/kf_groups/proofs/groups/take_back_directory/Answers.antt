use Rattle.kf_groups.specs.Attributes.{shown}
use Rattle.kf_groups.proofs.Counts.{directory_gone}
use Rattle.kf_groups.proofs.Several.{none_in}
use Rattle.kf_groups.proofs.groups.take_back_directory.Goals as goal

pub returns-clause-took : goal.returns-clause-took
returns-clause-took g c =
    (c.take_back_files-files.new.editor, c.take_back_files-files.ensures.took, c.take_back-one.ensures.took)

pub returns-clause-older : goal.returns-clause-older
returns-clause-older g c base root lawful fresh keeps =
    c.take_back-one.ensures.older base root lawful fresh
    (c.take_back_files-files.ensures.older base root lawful (none_in base root c.args.key (shown c.args.attributes.now) lawful fresh) keeps)

pub returns-clause-counted : goal.returns-clause-counted
returns-clause-counted g c =
    directory_gone _ _ _ _ c.take_back_files-files.result c.take_back-one.result
    c.take_back_files-files.ensures.counted c.take_back-one.ensures.counted
