use Rattle.std.proofs.Common.{◌≡◌, take}
use Rattle.kf_text.specs.Texts.{emitted, text_of}
use Rattle.kf_text.proofs.page.emit.Given as goal

abbrev pub invariant-loop-part : goal.invariant-loop-part
invariant-loop-part l = l.page.items ≡ emitted l.initial.page.items (text_of (take l.part-index l.parts))
