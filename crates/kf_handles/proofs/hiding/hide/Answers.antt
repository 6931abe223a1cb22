use Rattle.std.proofs.Common.{◌≡◌, ◌∙◌, rules}
use Rattle.kf_handles.specs.Hiding.{SawNobody, SawSomebody}
use Rattle.kf_handles.proofs.BySlot.{put_of_table, taken_of_table, table_of}
use Rattle.kf_handles.proofs.Looks.{began, looked_again}
use Rattle.kf_handles.proofs.hiding.hide.Goals as goal

-- the token that was at the slot looked, saw nobody inside, and is put back
pub returns-then-look_at-clause-told : goal.returns-then-look_at-clause-told
returns-then-look_at-clause-told g c =
    looked_again SawNobody g.N.Naming.table c.args.locked.now c.args.tokens.now.items c.take.new.tokens.items c.look_at.new.tokens.items
    c.args.key c.in-Some.token c.in-Some.ensures.found.0 c.in-Some.ensures.found.2 (c.look_at.ensures.nobody c.if-look_at.true)

-- the token that was at the slot looked, and saw somebody inside
pub returns-else-look_at-clause-told : goal.returns-else-look_at-clause-told
returns-else-look_at-clause-told g c =
    looked_again SawSomebody g.N.Naming.table c.args.locked.now c.args.tokens.now.items c.take.new.tokens.items c.look_at.new.tokens.items
    c.args.key c.in-Some.token c.in-Some.ensures.found.0 c.in-Some.ensures.found.2 (c.look_at.ensures.somebody c.if-look_at.false)

pub returns-else-look_at-clause-tokens : goal.returns-else-look_at-clause-tokens
returns-else-look_at-clause-tokens g c =
    let found = c.in-Some.ensures.found in
    let seen = c.look_at.ensures.somebody c.if-look_at.false in
    let own : c.in-Some.token.table ≡ g.N.Naming.table = table_of g.N.Naming.table c.args.tokens.now.items c.args.key.slot c.in-Some.token c.requires found.0.1 in
    put_of_table g.N.Naming.table c.take.new.tokens.items c.look_at.new.tokens.items c.in-Some.token.key.slot seen.0
    (taken_of_table g.N.Naming.table c.args.tokens.now.items c.take.new.tokens.items c.args.key.slot c.requires found.2)
    (seen.1.table ∙ own) seen.4

-- the file was hidden just now, and its new token saw nobody inside
pub returns-then-look_at-2-clause-told : goal.returns-then-look_at-2-clause-told
returns-then-look_at-2-clause-told g c =
    let none : c.take.new.tokens.items ≡ c.args.tokens.now.items = c.take.ensures.none (search rules) in
    began SawNobody g.N.Naming.table c.args.locked.now c.begin.new.locked c.args.tokens.now.items c.take.new.tokens.items
    c.look_at-in-Ok.new.tokens.items c.args.key c.in-Ok.hiding c.new.result c.new.ensures c.in-Ok.ensures.token.1 c.in-Ok.ensures.token.2
    c.in-Ok.ensures.hid c.in-Ok.ensures.accepted c.begin.ensures.claims none (c.look_at-in-Ok.ensures.nobody c.if-look_at-2.true)

-- the file was hidden just now, and its new token saw somebody inside
pub returns-else-look_at-2-clause-told : goal.returns-else-look_at-2-clause-told
returns-else-look_at-2-clause-told g c =
    let none : c.take.new.tokens.items ≡ c.args.tokens.now.items = c.take.ensures.none (search rules) in
    began SawSomebody g.N.Naming.table c.args.locked.now c.begin.new.locked c.args.tokens.now.items c.take.new.tokens.items
    c.look_at-in-Ok.new.tokens.items c.args.key c.in-Ok.hiding c.new.result c.new.ensures c.in-Ok.ensures.token.1 c.in-Ok.ensures.token.2
    c.in-Ok.ensures.hid c.in-Ok.ensures.accepted c.begin.ensures.claims none (c.look_at-in-Ok.ensures.somebody c.if-look_at-2.false)
