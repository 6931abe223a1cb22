use Rattle.kf_plain.proofs.Reading.{page_cut, page_room, page_whole}
use Rattle.kf_plain.proofs.text_table.fill.Goals as goal

pub slice_bounds-append-end : goal.slice_bounds-append-end
slice_bounds-append-end c = page_cut c.args.text.now c.if-text-le4096.false

pub append-requires-else-text-le4096 : goal.append-requires-else-text-le4096
append-requires-else-text-le4096 c = record { room = page_room c.args.page.now.items c.args.text.now c.requires.empty }

pub returns-then-text-le4096 : goal.returns-then-text-le4096
returns-then-text-le4096 c = record { filled = page_whole c.args.page.now.items c.args.text.now c.append.new.page.items c.requires.empty c.append.ensures.items c.if-text-le4096.true }
