use Rattle.kf_handles.proofs.hiding.begin.Goals as goal

-- the new hold that hides the file
pub returns-in-Ok-clause-hid : goal.returns-in-Ok-clause-hid
returns-in-Ok-clause-hid g c =
    (c.in_ok-hold.hold, c.in_ok-hold.ensures.hold, c.in-Ok.ensures.hiding.0, c.in-Ok.ensures.hiding.1, c.in-Ok.ensures.made)
