use Rattle.kf_plain.proofs.Reading.{slice_fits}
use Rattle.kf_plain.proofs.board.files.tell_text.Goals as goal

pub set_bytes-requires : goal.set_bytes-requires
set_bytes-requires c = slice_fits c.args.opened.now.file.state c.args.offset c.args.most c.text_from.result.now c.requires.short c.text_from.ensures.bytes
