use Rattle.std.proofs.Common.{◌∙◌, ap, [], ◌∷◌}
use Rattle.kf_text.specs.Texts.{emitted, text_of}
use Rattle.kf_text.specs.declared.part.Part.TheVariants.{Newline}
use Rattle.kf_driver.proofs.ready.emit_line.Goals as goal

pub returns : goal.returns
returns c = record { line = c.emit.ensures.text ∙ ap (λ page. emitted page (text_of (c.args.part ∷ Newline ∷ []))) c.requires.empty }
